-- Runs of moves: they heal, stay healed, go in turn, and keep in step.
-- Assumes nothing.
use Rattle.std.proofs.Common.{◌≡◌, ℕ, zero, suc, ◌+◌, ◌<◌, ◌≤◌, cond, T, eqb, ltb, ◌⊎◌, List, [], ◌∷◌, ◌++◌, sym, refl, ap, ◌∙◌, subst, inl, inr, arith}
use Rattle.std.proofs.lemmas.List.{get_or-set_other}
use Rattle.std.proofs.lemmas.Bool.{cases_eq, cases_lt}
use Rattle.std.proofs.lemmas.Bool.Decides.{nat_tests}
use Rattle.members.specs.Ring.{Ring, State, IsState, Enough, at, may, next, moved, how_many, Healed, Moves, none, then, movers, after, in_turn, count}
use Rattle.members.specs.Potential.{ahead, chained, potential}
use Rattle.members.specs.Promise.{FirstHeals, InStep, Main, EachOnce, Promises, MovesBefore}
use Rattle.members.specs.Turns.{wait, Alone, TurnAfter}
use Rattle.members.proofs.OneMove.{first_shortens, other_keeps, potential_falls, potential_least, potential_most, chain_fits, never_still, no_more, settled, stays}
use Rattle.members.proofs.States.{may_other, only, moved_state}
use Rattle.members.proofs.Steps.{ahead_below, ahead_is}

pub run_state : (r : Ring) → Enough r → {s t : State} {n : ℕ} → IsState r s → Moves r s n t → IsState r t
run_state r g w none = w
run_state r g w (then {t = u} i m l c) = moved_state r g u (run_state r g w m) i l

pub run_healed : (r : Ring) → Enough r → {s t : State} {n : ℕ} → IsState r s → Healed r s → Moves r s n t → Healed r t
run_healed r g w h none = h
run_healed r g w h (then {t = u} i m l c) = (stays r g u (run_state r g w m) (run_healed r g w h m) i l c).0

-- until it is healed, each move takes one from the potential at least
pub run_potential : (r : Ring) → Enough r → {s t : State} {n : ℕ} → IsState r s → Moves r s n t →
    Healed r t ⊎ (potential r.k t + n ≤ potential r.k s)
run_potential r g w none = inr (omega arith)
run_potential r g w (then {t = u} i m l c) =
    let v = run_state r g w m in
    elim (cases_eq (how_many r u r.members) 1) [
      | inl h ↦ inl (stays r g u v h i l c).0
      | inr d ↦ elim (run_potential r g w m) [
        | inl h ↦ absurd (d h)
        | inr p ↦ let f = potential_falls r g u v d i l c in inr (omega arith)
      ]
    ]

-- counts in a list that grows at its end
pub count_push : (i : ℕ) (js : List ℕ) (j : ℕ) → count i (js ++ (j ∷ [])) ≡ count i js + cond (eqb i j) 1 0
unfolding count
count_push i [] j = omega arith
count_push i (a ∷ js) j = let h = count_push i js j in omega arith

-- until it is healed, each move of member 0 takes one from the chain at least
shorter : (r : Ring) → Enough r → (s : State) → IsState r s → (Healed r s → ⊥) → (i : ℕ) → T (may r s i) →
    chained r.k (moved r s i) + cond (eqb 0 i) 1 0 ≤ chained r.k s
shorter r g [] w d i c = omega (arith, w.0, g.0)
shorter r g (x ∷ ys) w d zero c = omega (arith, first_shortens r g x ys w d c)
shorter r g (x ∷ ys) w d (suc i) c = let h = other_keeps r g x ys w i in grind (arith, nat_tests)

pub run_chain : (r : Ring) → Enough r → {s t : State} {n : ℕ} → IsState r s → (m : Moves r s n t) →
    Healed r t ⊎ (chained r.k t + count 0 (movers m) ≤ chained r.k s)
unfolding movers count
run_chain r g w none = inr (omega arith)
run_chain r g w (then {t = u} i m l c) =
    let v = run_state r g w m in
    elim (cases_eq (how_many r u r.members) 1) [
      | inl h ↦ inl (stays r g u v h i l c).0
      | inr d ↦ elim (run_chain r g w m) [
        | inl h ↦ absurd (d h)
        | inr p ↦ let f = shorter r g u v d i c in inr (omega (arith, count_push 0 (movers m) i))
      ]
    ]

pub first_heals : FirstHeals
first_heals r g s t n w m h =
    elim (run_chain r g w m) [ inl p ↦ p | inr p ↦ absurd (omega (arith, chain_fits r g s w)) ]

-- keeping step: a member's moves, and one more where it differs from the one before, are at most one more than the moves of the one before
step_behind : (r : Ring) → Enough r → {s t : State} {n : ℕ} → IsState r s → (m : Moves r s n t) → (i : ℕ) → suc i < r.members →
    count (suc i) (movers m) + cond (eqb (at t (suc i)) (at t i)) 0 1 ≤ suc (count i (movers m))
unfolding movers count
step_behind r g w none i h = grind (arith, nat_tests)
step_behind r g w (then {t = u} j m l c) i h =
    let a = step_behind r g w m i h in
    let p = count_push (suc i) (movers m) j in
    let q = count_push i (movers m) j in
    elim (cases_eq j (suc i)) [
      | inl e ↦
          let d : at u (suc i) ≡ at u i → ⊥ = may_other r u i (rw e at c) in
          let f : at (moved r u j) (suc i) ≡ at (moved r u j) i = rw e (settled r u (run_state r g w m) i h) in
          grind (arith, nat_tests)
      | inr d ↦ elim (cases_eq j i) [
        | inl e ↦ grind (arith, nat_tests)
        | inr f ↦
            let x : at (moved r u j) (suc i) ≡ at u (suc i) = get_or-set_other u j (suc i) (next r u j) 0 (λ e. d (sym e)) in
            let y : at (moved r u j) i ≡ at u i = get_or-set_other u j i (next r u j) 0 (λ e. f (sym e)) in
            grind (arith, nat_tests)
      ]
    ]

pub in_step : InStep
in_step r g s t n w m zero h = omega arith
in_step r g s t n w m (suc i) h = let a = in_step r g s t n w m i (omega arith) in let b = step_behind r g w m i h in omega arith

-- turns: from a healed state each moves after the one before it

-- n members in turn, from h on
unfoldable turns : ℕ → ℕ → ℕ → List ℕ
turns m h zero = []
turns m h (suc n) = turns m h n ++ (ahead m h n ∷ [])

module _ (r : Ring) (g : Enough r) where
  -- after n moves it is the turn of the one n after the holder
  pub run_turn : {s t : State} {n : ℕ} → IsState r s → Healed r s → (h : ℕ) → h < r.members → T (may r s h) → Moves r s n t → T (may r t (ahead r.members h n))
  unfolding ahead
  run_turn w e h l c none = c
  run_turn {n = suc n} w e h l c (then {t = u} i m j d) =
      let o : i ≡ ahead r.members h n =
      only r u (run_healed r g w e m) i (ahead r.members h n) j (ahead_below r.members h l n) d (run_turn w e h l c m) in
      let z : T (may r (moved r u i) (after r i)) = (stays r g u (run_state r g w m) (run_healed r g w e m) i j d).1 in
      subst (λ x. T (may r (moved r u i) (after r x))) o z

  run_movers : {s t : State} {n : ℕ} → IsState r s → Healed r s → (h : ℕ) → h < r.members → T (may r s h) → (m : Moves r s n t) → movers m ≡ turns r.members h n
  unfolding movers turns
  run_movers w e h l c none = refl
  run_movers {n = suc n} w e h l c (then {t = u} i m j d) =
      let o : i ≡ ahead r.members h n =
      only r u (run_healed r g w e m) i (ahead r.members h n) j (ahead_below r.members h l n) d (run_turn w e h l c m) in
      let q = run_movers w e h l c m in
      cc

in_turn_push : (r : Ring) (is : List ℕ) (i : ℕ) → T (in_turn r (is ++ (i ∷ []))) → T (in_turn r ((is ++ (i ∷ [])) ++ (after r i ∷ [])))
unfolding in_turn
in_turn_push r [] i h = grind (arith, nat_tests)
in_turn_push r (a ∷ []) i h = grind (arith, nat_tests)
in_turn_push r (a ∷ b ∷ is) i h =
    let q : T (in_turn r ((b ∷ is) ++ (i ∷ []))) = grind (arith, nat_tests) in
    let p = in_turn_push r (b ∷ is) i q in
    grind (arith, nat_tests)

turns_in_turn : (r : Ring) (h n : ℕ) → T (in_turn r (turns r.members h n))
unfolding turns in_turn ahead
turns_in_turn r h zero = tt
turns_in_turn r h (suc zero) = tt
turns_in_turn r h (suc (suc n)) = in_turn_push r (turns r.members h n) (ahead r.members h n) (turns_in_turn r h (suc n))

pub wait_below : (m h i : ℕ) → h < m → i < m → wait m h i < m
wait_below m h i l j = grind (arith, nat_tests)

-- i is reached at its step, and in less than a round at no other
pub wait_ahead : (m h i : ℕ) → h < m → i < m → ahead m h (wait m h i) ≡ i
wait_ahead m h i l j =
    let b = ahead_below m h l (wait m h i) in
    let w = wait_below m h i l j in
    elim (ahead_is m h (wait m h i) l (omega arith)) [ inl e ↦ grind (arith, nat_tests) | inr e ↦ grind (arith, nat_tests) ]

pub ahead_wait : (m h n : ℕ) → h < m → n < m → wait m h (ahead m h n) ≡ n
ahead_wait m h n l j =
    let b = ahead_below m h l n in
    elim (ahead_is m h n l (omega arith)) [ inl e ↦ grind (arith, nat_tests) | inr e ↦ grind (arith, nat_tests) ]

count_turns : (m h i n : ℕ) → h < m → i < m → n ≤ m → count i (turns m h n) ≡ cond (ltb (wait m h i) n) 1 0
unfolding count turns
count_turns m h i zero l j e = grind (arith, nat_tests)
count_turns m h i (suc n) l j e =
    let a = count_turns m h i n l j (omega arith) in
    let p = count_push i (turns m h n) (ahead m h n) in
    elim (cases_eq i (ahead m h n)) [
      | inl q ↦ let b : wait m h i ≡ n = ap (wait m h) q ∙ ahead_wait m h n l (omega arith) in grind (arith, nat_tests)
      | inr q ↦ let b : wait m h i ≡ n → ⊥ = λ z. q (sym (wait_ahead m h i l j) ∙ ap (ahead m h) z) in grind (arith, nat_tests)
    ]

pub each_once : EachOnce
each_once r g s t w e m i l =
    let o = never_still r g s w in
    let a : count i (movers m) ≡ count i (turns r.members o.0 r.members) = ap (count i) (run_movers r g w e o.0 o.1 o.2 m) in
    let b = count_turns r.members o.0 i r.members o.1 l (omega arith) in
    let c = wait_below r.members o.0 i o.1 l in
    grind (arith, nat_tests)

pub main : Main
main r g s w = record {
  some = never_still r g s w;
  heals = λ n t m b. elim (cases_eq (how_many r t r.members) 1) [
    | inl h ↦ h
    | inr d ↦ elim (run_potential r g w m) [
      | inl h ↦ h
      | inr p ↦ absurd (omega (arith, potential_least r g t (run_state r g w m) d, potential_most r g s w))
    ]
  ];
  stays = λ n k t u m h q.
      let v = run_state r g w m in
      let o = never_still r g t v in
      (run_healed r g v h q, subst (λ is. T (in_turn r is)) (sym (run_movers r g v h o.0 o.1 o.2 q)) (turns_in_turn r o.0 k));
}

-- as many moves as wanted can be made
pub run_on : (r : Ring) → Enough r → (s : State) → IsState r s → (n : ℕ) → (t : State) × Moves r s n t
run_on r g s w zero = (s, none)
run_on r g s w (suc n) =
    let p = run_on r g s w n in
    let o = never_still r g p.0 (run_state r g w p.1) in
    (moved r p.0 o.0, then o.0 p.1 o.1 o.2)

-- healed: one only may
pub alone : (r : Ring) → (s : State) → Healed r s → (i : ℕ) → i < r.members → T (may r s i) → Alone r s i
alone r s h i l c = record { there = l; may_move_now = c; others = λ j m d. only r s h j i m l d c }

pub turn_after : (r : Ring) → Enough r → (s : State) → IsState r s → Healed r s → (h : ℕ) → h < r.members → T (may r s h) → (i : ℕ) → i < r.members →
    TurnAfter r s (wait r.members h i) i
turn_after r g s w e h l c i j = record {
  reached = run_on r g s w (wait r.members h i);
  turn = λ t m.
      let d : T (may r t i) = rw (wait_ahead r.members h i l j) at (run_turn r g w e h l c m) in
      alone r t (run_healed r g w e m) i j d;
  first = λ n t f m d.
      let b = wait_below r.members h i l j in
      let o : i ≡ ahead r.members h n =
      only r t (run_healed r g w e m) i (ahead r.members h n) j (ahead_below r.members h l n) d (run_turn r g w e h l c m) in
      let z : wait r.members h i ≡ n = ap (wait r.members h) o ∙ ahead_wait r.members h n l (omega arith) in
      omega arith;
}

-- all promises
pub promises : Promises
promises = record {
  never_still = never_still;
  no_more = no_more;
  stays = stays;
  first_heals = first_heals;
  in_step = in_step;
  main = main;
  each_once = each_once;
  potential_falls = potential_falls;
  potential_least = potential_least;
  potential_most = potential_most;
}

-- before healing member 0 moves less often than there are members, and member i at most i times more
pub moves_before : (m i n : ℕ) → i < m → suc n ≡ m + i → MovesBefore m i n
moves_before m i n l e r g p s t o w q d =
    let a = in_step r g s t o w q i (omega arith) in
    elim (cases_lt (count 0 (movers q)) r.members) [
      | inl b ↦ omega arith
      | inr b ↦ absurd (d (first_heals r g s t o w q b))
    ]
