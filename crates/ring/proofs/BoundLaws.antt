-- A note of one move or none, and a new beginning, hold the count to the bound. Assumes nothing.
use Rattle.std.proofs.Common.{◌≡◌, ℕ, ◌+◌, ◌*◌, ◌<◌, ◌≤◌, eqb, length, set, Some, None, Option, sym, refl, subst, inl, inr, arith, MatchOption}
use Rattle.std.proofs.lemmas.Bool.{cases_eq, cond-true, cond-false, eq-eqb, ne_eqb}
use Rattle.std.proofs.lemmas.Bool.Decides.{nat_tests}
use Rattle.members.specs.Ring.{Ring, State, IsState, Enough, Healed, Moves, none, then, how_many}
use Rattle.members.proofs.OneMove.{potential_least, potential_most}
use Rattle.members.proofs.Runs.{main, run_state, run_healed, run_potential}
use Rattle.ring.specs.declared.tally.Tally.{Tally}
use Rattle.ring.specs.Bound.{twice_bound, HeldTo}
use Rattle.ring.specs.Numbers.{changed}
use Rattle.ring.specs.Tallies.{noted, one_more, first_count, anew}
use Rattle.ring.proofs.Changes.{changed_none, changed_one, joined}

-- from s to t one member moves, or none
pub record Single (r : Ring) (s t : State) : Type 0 where
  pub moves : Moves r s (changed s t) t
  pub few : changed s t ≤ 1

pub few_set : (s : State) (j v : ℕ) → j < length s → changed s (set s j v) ≤ 1
few_set s j v l = let e = changed_one s j v l in grind (arith, nat_tests)

pub single_none : (r : Ring) (s : State) → Single r s s
single_none r s = record { moves = subst (λ n. Moves r s n s) (sym (changed_none s)) none; few = omega (arith, changed_none s) }

pub no_moves : (r : Ring) {s t : State} {n : ℕ} → Moves r s n t → n ≡ 0 → s ≡ t
no_moves r none e = refl
no_moves r (then i m l c) e = absurd (omega arith)

-- the healing of a count of one move more
healing_more : (r : Ring) → Enough r → (s t : State) (y : Tally) (h : HeldTo r s y) → Moves r s 1 t → (o : Option ℕ) → MatchOption o (Healed r s → ⊥) (λ c. Healed r s × (2 * c ≤ twice_bound r)) →
    MatchOption (first_count o (eqb (how_many r t r.members) 1) (y.moves + 1)) (Healed r t → ⊥) (λ c. Healed r t × (2 * c ≤ twice_bound r))
healing_more r g s t y h q (Some c) a = (run_healed r g (run_state r g h.start h.since) a.0 q, a.1)
healing_more r g s t y h q None a =
    let w = run_state r g h.start h.since in
    elim (cases_eq (how_many r t r.members) 1) [
      | inl e ↦
          rw (eq-eqb (how_many r t r.members) 1 e) (
            e,
            elim (run_potential r g h.start h.since) [
              | inl b ↦ absurd (a b)
              | inr p ↦ omega (arith, potential_least r g s w a, potential_most r g h.from h.start)
            ],
          )
      | inr d ↦ rw (ne_eqb (how_many r t r.members) 1 d) d
    ]

held_move : (r : Ring) → Enough r → (s t : State) (y : Tally) → HeldTo r s y → Moves r s 1 t → HeldTo r t (one_more (how_many r t r.members) y)
held_move r g s t y h q =
    let m = joined r h.since q in
    record {
      from = h.from;
      start = h.start;
      since = m;
      healing = healing_more r g s t y h q y.healed h.healing;
      in_time = λ b. (main r g h.from h.start).heals (y.moves + 1) t m b;
    }

pub held_note : (r : Ring) → Enough r → (s t : State) (y : Tally) → HeldTo r s y → Single r s t → HeldTo r t (noted r s t y)
unfolding noted
held_note r g s t y h q =
    elim (cases_eq (changed s t) 0) [
      | inl e ↦
          subst (HeldTo r t) (sym (cond-true _ y _ (eq-eqb (changed s t) 0 e))) (subst (λ u. HeldTo r u y) (no_moves r q.moves e) h)
      | inr d ↦
          let e : changed s t ≡ 1 = omega (arith, q.few) in
          subst (HeldTo r t) (sym (cond-false _ y _ (ne_eqb (changed s t) 0 d))) (held_move r g s t y h (subst (λ n. Moves r s n t) e q.moves))
    ]

pub held_anew : (r : Ring) → Enough r → (t : State) → IsState r t → HeldTo r t (anew r t)
unfolding anew
held_anew r g t w = record {
  from = t;
  start = w;
  since = none;
  healing = elim (cases_eq (how_many r t r.members) 1) [
    | inl e ↦ rw (eq-eqb (how_many r t r.members) 1 e) (e, omega arith)
    | inr d ↦ rw (ne_eqb (how_many r t r.members) 1 d) d
  ];
  in_time = λ b. (main r g t w).heals 0 t none b;
}
