-- The walk over the members: at its end one was found, since some member may move.
use Rattle.std.proofs.Common.{◌≡◌, ℕ, ◌+◌, Bool, length, is_some, Some, None, sym, ap, ◌∙◌, subst, arith, add-one}
use Rattle.std.proofs.lemmas.Bool.{true≢false, false≢true}
use Rattle.members.specs.Answers.{before, may_by, ring_of, Tells}
use Rattle.members.specs.Ring.{State, at, may}
use Rattle.members.specs.declared.holders.Holders.TheVariants.{Several}
use Rattle.members.proofs.Answered.{may_by_lem}
use Rattle.members.proofs.Seen.{Seen, seen_skip, seen_first, seen_second, seen_one, seen_some}
use Rattle.members.proofs.token.find_holders.Goals as goal
use Rattle.members.proofs.token.find_holders.Goals.{then-guard_holds+else-is_some, else-guard_holds, else-members-test, then-members-test+then-guard_holds+then-is_some}

-- the guard, by the number of the member before that was passed last
guarded : (k : ℕ) (s : State) (i b : ℕ) (t : Bool) → t ≡ may_by i b (at s i) → b ≡ at s (before s i) → may (ring_of k s) s i ≡ t
guarded k s i b t e p = sym (e ∙ (ap (λ z. may_by i z (at s i)) p ∙ may_by_lem k s i))

pub members-preserved : goal.members-preserved
members-preserved c =
    let s = c.args.numbers.now in
    let i = c.members.i in
    let p = c.members.invariant.passed in
    elim c.if-guard_holds.branch [
      | then-guard_holds+else-is_some w ↦ record {
        none_yet = c.members.invariant.none_yet;
        seen = λ k.
            subst (Seen (ring_of k s) s (i + 1)) (sym w.first-is)
            (seen_first (ring_of k s) s i c.members.first (c.members.invariant.seen k) (sym w.is_some.ensures ∙ w.if-is_some.false) (guarded k s i _ _ w.if-guard_holds.ensures p));
        passed = w.before-is ∙ ap (λ n. at s (before s n)) (sym (add-one i));
      }
      | else-guard_holds w ↦ record {
        none_yet = c.members.invariant.none_yet;
        seen = λ k.
            subst (Seen (ring_of k s) s (i + 1)) (sym w.first-is)
            (seen_skip (ring_of k s) s i c.members.first (c.members.invariant.seen k) (guarded k s i _ _ w.if-guard_holds.ensures p));
        passed = w.before-is ∙ ap (λ n. at s (before s n)) (sym (add-one i));
      }
    ]

pub unreachable-requires : goal.unreachable-requires
unreachable-requires c =
    let s = c.args.numbers.now in
    let h = subst (Seen (ring_of 0 s) s c.members.i) c.in-None-default.is-0 (c.members.invariant.seen 0) in
    elim c.members-test.branch [
      | else-members-test w ↦
          let e : c.members.i ≡ length s = omega arith in
          seen_some 0 s c.requires (subst (λ n. Seen (ring_of 0 s) s n None) e h)
      | then-members-test+then-guard_holds+then-is_some w ↦ true≢false (w.if-is_some.ensures ∙ ap is_some c.in-None-default.is-0)
    ]

pub returns-in-Some-Some : goal.returns-in-Some-Some
returns-in-Some-Some c = λ k.
    let s = c.args.numbers.now in
    let r = ring_of k s in
    let h = subst (Seen r s c.members.i) c.in-Some-Some.is-0 (c.members.invariant.seen k) in
    elim c.members-test.branch [
      | else-members-test w ↦
          let e : None ≡ Some c.in-Some-Some.j = sym c.members.invariant.none_yet ∙ (sym w.second-is ∙ c.in-Some-Some.is-1) in
          absurd (false≢true (ap is_some e))
      | then-members-test+then-guard_holds+then-is_some w ↦
          let e : Some c.members.i ≡ Some c.in-Some-Some.j = sym w.second-is ∙ c.in-Some-Some.is-1 in
          let j : c.members.i ≡ c.in-Some-Some.j = cc in
          subst (λ n. Tells r s (Several c.in-Some-Some.i n)) j
          (seen_second r s c.members.i c.in-Some-Some.i h (guarded k s c.members.i _ _ w.if-guard_holds.ensures c.members.invariant.passed) (omega arith))
    ]

pub returns-in-Some-None : goal.returns-in-Some-None
returns-in-Some-None c = λ k.
    let s = c.args.numbers.now in
    let r = ring_of k s in
    let h = subst (Seen r s c.members.i) c.in-Some-None.is-0 (c.members.invariant.seen k) in
    elim c.members-test.branch [
      | else-members-test w ↦
          let e : c.members.i ≡ length s = omega arith in
          seen_one r s c.in-Some-None.i (subst (λ n. Seen r s n (Some c.in-Some-None.i)) e h)
      | then-members-test+then-guard_holds+then-is_some w ↦
          let e : None ≡ Some c.members.i = sym c.in-Some-None.is-1 ∙ w.second-is in
          absurd (false≢true (ap is_some e))
    ]
