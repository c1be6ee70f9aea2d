-- The others of a ring: where their tail begins, what the weights of what is left are one number further, and the potential by its parts.
-- Assumes nothing.
use Rattle.std.proofs.Common.{◌≡◌, ℕ, suc, ◌+◌, ◌-◌, ◌*◌, ◌<◌, ◌≤◌, cond, eqb, inl, inr, List, [], ◌∷◌, length, drop, refl, mul-le-mul, arith, length-drop}
use Rattle.std.proofs.lemmas.List.{at_drop_more, at_drop_all}
use Rattle.std.proofs.lemmas.Bool.{cases_eq, eq-eqb, ne_eqb}
use Rattle.std.proofs.lemmas.Bool.Decides.{nat_tests}
use Rattle.std.specs.List.{prefix_len}
use Rattle.members.specs.Potential.{chain, tail, weights, chained, potential}
use Rattle.members.specs.Ring.{at}
use Rattle.members.proofs.Weights.{weights_most}

-- the tail begins behind the run
pub tail_at : (x : ℕ) (ys : List ℕ) → drop (prefix_len (λ y. eqb y x) ys) ys ≡ tail x ys
unfolding tail
tail_at x [] = refl
tail_at x (y ∷ ys) =
    let q : 1 + prefix_len (λ y. eqb y x) ys ≡ suc (prefix_len (λ y. eqb y x) ys) = omega arith in
    elim (cases_eq y x) [
      | inl e ↦ rw (eq-eqb y x e, q) (tail_at x ys)
      | inr d ↦ rw (ne_eqb y x d) refl
    ]

-- up to i, with the sum a so far and p before number i
pub weights_walk : (s : List ℕ) (i p a b t : ℕ) → i < length s → a + weights p (drop i s) ≡ t → b ≡ a + cond (eqb (at s i) p) 0 (length s - i) →
    b + weights (at s i) (drop (i + 1) s) ≡ t
unfolding weights
weights_walk s i p a b t l h q =
    let e : weights p (drop i s) ≡ weights p (at s i ∷ drop (i + 1) s) = at_drop_more (weights p) s i 0 l in
    let n : suc (length (drop (i + 1) s)) ≡ length s - i = simp length-drop (omega arith) in
    grind (arith, nat_tests)

pub weights_end : (p : ℕ) (s : List ℕ) (i : ℕ) → length s ≤ i → weights p (drop i s) ≡ 0
unfolding weights
weights_end p s i l = at_drop_all (weights p) s i l

-- weights of fewer than 65,536 numbers
pub weights_fit : (p : ℕ) (s : List ℕ) → length s < 65536 → weights p s < 2147483648
weights_fit p s l =
    let a = weights_most p s in
    let b : length s * suc (length s) ≤ 65535 * 65536 = mul-le-mul {n₁ = length s} {m₁ = suc (length s)} {n₂ = 65535} {m₂ = 65536} (omega arith) (omega arith) in
    omega arith

-- the potential by its parts
pub potential_parts : (k : ℕ) (s : List ℕ) → 0 < length s →
    length s * chain k (at s 0) (tail (at s 0) (drop 1 s)) + weights (at s 0) (drop 1 s) ≡ potential k s
unfolding potential chained
potential_parts k [] l = omega arith
potential_parts k (x ∷ ys) l = refl
