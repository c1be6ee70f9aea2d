-- A step of one member, as moves of the ring: as many as numbers that it changes. Assumes nothing.
use Rattle.std.proofs.Common.{◌≡◌, ℕ, zero, suc, ◌+◌, ◌<◌, true, false, cond, T, eqb, [], ◌∷◌, length, set, sym, refl, ap, ◌∙◌, subst, inl, inr, add-zero, add-suc, arith}
use Rattle.std.proofs.lemmas.Bool.{cases_Bool}
use Rattle.std.proofs.lemmas.Bool.Decides.{nat_tests}
use Rattle.members.specs.Ring.{Ring, State, IsState, Enough, at, up, may, next, moved, Moves, none, then}
use Rattle.members.proofs.Steps.{up_moves}
use Rattle.ring.specs.Numbers.{changed}
use Rattle.ring.proofs.PostMoves.{rests}

pub changed_none : (s : State) → changed s s ≡ 0
unfolding changed
changed_none [] = refl
changed_none (x ∷ xs) = let h = changed_none xs in grind (arith, nat_tests)

-- one number more, where it was as before
pub changed_more : (s t : State) (j w : ℕ) → j < length s → length t ≡ length s → at t j ≡ at s j → changed s (set t j w) ≡ changed s t + cond (eqb (at s j) w) 0 1
unfolding changed
changed_more [] t j w l e h = omega arith
changed_more (x ∷ xs) [] j w l e h = omega arith
changed_more (x ∷ xs) (y ∷ ys) zero w l e h = grind (arith, nat_tests)
changed_more (x ∷ xs) (y ∷ ys) (suc j) w l e h = let i = changed_more xs ys j w (omega arith) (omega arith) h in omega arith

pub changed_one : (s : State) (j w : ℕ) → j < length s → changed s (set s j w) ≡ cond (eqb (at s j) w) 0 1
changed_one s j w l = let h = changed_more s s j w l refl refl in omega (arith, changed_none s)

-- moves one after the other
pub joined : (r : Ring) {s t u : State} {a b : ℕ} → Moves r s a t → Moves r t b u → Moves r s (a + b) u
joined r {s} {t} {u} {a} m none = subst (λ n. Moves r s n t) (sym (add-zero a)) m
joined r {s} {a = a} {b = suc b} m (then {t = v} i q l c) = subst (λ n. Moves r s n (moved r v i)) (sym (add-suc a b)) (then i (joined r m q) l c)

-- a member that may move changes its number
pub differs : (r : Ring) → Enough r → (s : State) (j : ℕ) → may r s j ≡ true → eqb (at s j) (next r s j) ≡ false
unfolding may next
differs r g s zero h = let u : up r.k (at s 0) ≡ at s 0 → ⊥ = up_moves r.k (at s 0) (omega (arith, g.0, g.1)) in grind (arith, nat_tests)
differs r g s (suc j) h = grind (arith, nat_tests)

-- a step of a member that may move is one move
pub moving : (r : Ring) → Enough r → (s : State) → IsState r s → (j : ℕ) → j < r.members → may r s j ≡ true →
    Moves r s (changed s (moved r s j)) (moved r s j)
moving r g s w j l e =
    let c : changed s (moved r s j) ≡ 1 = changed_one s j (next r s j) (omega (arith, w.0)) ∙ ap (λ b. cond b 0 1) (differs r g s j e) in
    subst (λ n. Moves r s n (moved r s j)) (sym c) (then j none l (subst T (sym e) tt))

-- a step of any other member than 0, whether it may move or not, is as many moves as it changes numbers
pub stepping : (r : Ring) → Enough r → (s : State) → IsState r s → (j : ℕ) → suc j < r.members →
    Moves r s (changed s (moved r s (suc j))) (moved r s (suc j))
stepping r g s w j l =
    elim (cases_Bool (may r s (suc j))) [
      | inl e ↦ moving r g s w (suc j) l e
      | inr e ↦
          let q : moved r s (suc j) ≡ s = rests r s j e in
          subst (λ t. Moves r s (changed s t) t) (sym q) (subst (λ n. Moves r s n s) (sym (changed_none s)) none)
    ]
