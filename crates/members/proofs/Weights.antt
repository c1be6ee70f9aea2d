-- The weights of those that differ from the one before: their bounds, and what a move does to them.
-- Assumes nothing.
use Rattle.std.proofs.Common.{◌≡◌, ℕ, zero, suc, ◌+◌, ◌*◌, ◌<◌, ◌≤◌, cond, eqb, List, [], ◌∷◌, length, get_or, set, inl, inr, suc-mul, mul-suc, arith, length-set}
use Rattle.std.proofs.lemmas.Bool.{cases_lt}
use Rattle.std.proofs.lemmas.Bool.Decides.{nat_tests}
use Rattle.members.specs.Potential.{weights}
use Rattle.members.proofs.Diffs.{diffs}

-- at most 1 + 2 + .. + length
pub weights_most : (x : ℕ) (ys : List ℕ) → 2 * weights x ys ≤ length ys * suc (length ys)
unfolding weights
weights_most x [] = omega arith
weights_most x (y ∷ ys) =
    let h : 2 * weights y ys ≤ length ys * suc (length ys) = weights_most y ys in
    let a : suc (length ys) * suc (suc (length ys)) ≡ suc (length ys) * suc (length ys) + suc (length ys) = mul-suc (suc (length ys)) (suc (length ys)) in
    let b : suc (length ys) * suc (length ys) ≡ length ys * suc (length ys) + suc (length ys) = suc-mul (length ys) (suc (length ys)) in
    let c : cond (eqb y x) 0 (suc (length ys)) ≤ suc (length ys) = grind (arith, nat_tests) in
    omega arith

-- another number in front changes at most the first weight
pub weights_front : (x z : ℕ) (ys : List ℕ) → weights x ys ≤ length ys + weights z ys
unfolding weights
weights_front x z [] = omega arith
weights_front x z (y ∷ ys) = grind (arith, nat_tests)

-- a number that differs takes that of the one before: its weight goes, and at most the next smaller one comes
pub weights_copy : (x : ℕ) (ys : List ℕ) (i : ℕ) → i < length ys → (get_or (x ∷ ys) (suc i) 0 ≡ get_or (x ∷ ys) i 0 → ⊥) →
    weights x (set ys i (get_or (x ∷ ys) i 0)) < weights x ys
unfolding weights
weights_copy x [] i l d = omega arith
weights_copy x (y ∷ ys) zero l d = let h : weights x ys ≤ length ys + weights y ys = weights_front x y ys in grind (arith, nat_tests)
weights_copy x (y ∷ ys) (suc i) l d =
    let h : weights y (set ys i (get_or (y ∷ ys) i 0)) < weights y ys = weights_copy y ys i (omega arith) d in
    let e : length (set ys i (get_or (y ∷ ys) i 0)) ≡ length ys = length-set ys i (get_or (y ∷ ys) i 0) in
    rw e (omega arith)

-- two that differ weigh three at least
pub weights_one : (x : ℕ) (ys : List ℕ) → 0 < diffs x ys → (0 < weights x ys) × (0 < length ys)
unfolding weights diffs
weights_one x [] h = (omega arith, omega arith)
weights_one x (y ∷ ys) h = (elim (cases_lt 0 (diffs y ys)) [ inl p ↦ omega (arith, (weights_one y ys p).0) | inr p ↦ grind (arith, nat_tests) ], omega arith)

pub weights_two : (x : ℕ) (ys : List ℕ) → 1 < diffs x ys → 2 < weights x ys
unfolding weights diffs
weights_two x [] h = omega arith
weights_two x (y ∷ ys) h =
    elim (cases_lt 1 (diffs y ys)) [
      | inl p ↦ omega (arith, weights_two y ys p)
      | inr p ↦
          let q : 0 < diffs y ys = grind (arith, nat_tests) in
          let a = (weights_one y ys q).0 in
          let b = (weights_one y ys q).1 in
          grind (arith, nat_tests)
    ]
