-- A move that is made is the ring's, and brings what every move brings.
use Rattle.std.proofs.Common.{◌≡◌, true, false, T, set, sym, ap, ◌∙◌, subst, arith, rules}
use Rattle.members.specs.Answers.{ring_of}
use Rattle.members.specs.Promise.{Better}
use Rattle.members.specs.Ring.{may, moved}
use Rattle.members.proofs.Answered.{gives, looked}
use Rattle.members.proofs.OneMove.{betters}
use Rattle.members.proofs.guard.make_move.Goals as goal

pub returns-then-not-guard_holds : goal.returns-then-not-guard_holds
returns-then-not-guard_holds c =
    let h = looked c.args.k c.args.numbers.now c.args.i _ _ c.in_ok-before.ensures in
    let f : false ≡ may (ring_of c.args.k c.args.numbers.now) c.args.numbers.now c.args.i =
    sym c.if-not-guard_holds.true ∙ (c.guard_holds.ensures ∙ h.may_is) in
    record { value = gives _ _ _ h.taken f; after = search rules; better = λ e. search rules }

pub returns : goal.returns
returns c =
    let s = c.args.numbers.now in
    let r = ring_of c.args.k s in
    let h = looked c.args.k s c.args.i _ _ c.in_ok-before.ensures in
    let f : true ≡ may r s c.args.i = sym c.if-not-guard_holds.false ∙ (c.guard_holds.ensures ∙ h.may_is) in
    let m : set s c.args.i c.number_taken.result ≡ moved r s c.args.i = ap (set s c.args.i) (c.number_taken.ensures ∙ h.next_is) in
    record {
      value = gives _ _ _ h.taken f;
      after = m;
      better = λ e w.
          subst (λ t. Better r s t c.args.i) (sym m)
          (betters r (h.big, omega (arith, h.wide)) s w c.args.i h.there (subst T f tt));
    }
