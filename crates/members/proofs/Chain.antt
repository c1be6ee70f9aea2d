-- Chains: how long they are at most, and what a move of one number does to them.
-- Assumes nothing.
use Rattle.std.proofs.Common.{◌≡◌, ℕ, zero, suc, ◌<◌, ◌≤◌, eqb, List, [], ◌∷◌, length, get_or, set, sym, refl, ap, ◌∙◌, subst, inl, inr, arith}
use Rattle.std.proofs.lemmas.Bool.{cases_eq, eq-eqb, ne_eqb, cond-true, cond-false}
use Rattle.std.proofs.lemmas.Bool.Decides.{nat_tests}
use Rattle.members.specs.Ring.{up}
use Rattle.members.specs.Potential.{ahead, chain, tail}
use Rattle.members.proofs.Steps.{up_moves, ahead_up, ahead_away}
use Rattle.members.proofs.Diffs.{last_of, diffs}

pub chain_length : (k x : ℕ) (ys : List ℕ) → chain k x ys ≤ length ys
unfolding chain
chain_length k x [] = omega arith
chain_length k x (y ∷ ys) = let h : chain k x ys ≤ length ys = chain_length k x ys in grind (arith, nat_tests)

pub tail_length : (x : ℕ) (ys : List ℕ) → length (tail x ys) ≤ length ys
unfolding tail
tail_length x [] = omega arith
tail_length x (y ∷ ys) =
    let h : length (tail x ys) ≤ length ys = tail_length x ys in
    elim (cases_eq y x) [
      | inl e ↦ rw (cond-true (eqb y x) (tail x ys) (y ∷ ys) (eq-eqb y x e)) (omega arith)
      | inr d ↦ rw (cond-false (eqb y x) (tail x ys) (y ∷ ys) (ne_eqb y x d)) (omega arith)
    ]

-- the two ways that a tail can begin
pub tail_same : (x y : ℕ) (ys : List ℕ) → y ≡ x → tail x (y ∷ ys) ≡ tail x ys
unfolding tail
tail_same x y ys e = cond-true (eqb y x) (tail x ys) (y ∷ ys) (eq-eqb y x e)

pub tail_other : (x y : ℕ) (ys : List ℕ) → (y ≡ x → ⊥) → tail x (y ∷ ys) ≡ y ∷ ys
unfolding tail
tail_other x y ys d = cond-false (eqb y x) (tail x ys) (y ∷ ys) (ne_eqb y x d)

-- a number in front that is found, and one that isn't
pub chain_hit : (k x y : ℕ) (ys : List ℕ) → y ≡ ahead k x (chain k x ys) → chain k x (y ∷ ys) ≡ suc (chain k x ys)
unfolding chain
chain_hit k x y ys e = grind (arith, nat_tests)

pub chain_miss : (k x y : ℕ) (ys : List ℕ) → (y ≡ ahead k x (chain k x ys) → ⊥) → chain k x (y ∷ ys) ≡ chain k x ys
unfolding chain
chain_miss k x y ys d = grind (arith, nat_tests)

-- a number more in front finds no less, and one more at most
pub chain_more : (k x y : ℕ) (ys : List ℕ) → (chain k x ys ≤ chain k x (y ∷ ys)) × (chain k x (y ∷ ys) ≤ suc (chain k x ys))
unfolding chain
chain_more k x y ys = (grind (arith, nat_tests), grind (arith, nat_tests))

pub chain_tail : (k x z : ℕ) (ys : List ℕ) → chain k x (tail z ys) ≤ chain k x ys
unfolding tail
chain_tail k x z [] = omega arith
chain_tail k x z (y ∷ ys) =
    let h : chain k x (tail z ys) ≤ chain k x ys = chain_tail k x z ys in
    let m : chain k x ys ≤ chain k x (y ∷ ys) = (chain_more k x y ys).0 in
    elim (cases_eq y z) [
      | inl e ↦ rw (cond-true (eqb y z) (tail z ys) (y ∷ ys) (eq-eqb y z e)) (omega arith)
      | inr d ↦ rw (cond-false (eqb y z) (tail z ys) (y ∷ ys) (ne_eqb y z d)) (omega arith)
    ]

-- a number in front keeps the order of two chains
pub chain_cons : (k x y : ℕ) (ys zs : List ℕ) → chain k x ys ≤ chain k x zs → chain k x (y ∷ ys) ≤ chain k x (y ∷ zs)
unfolding chain
chain_cons k x y ys zs h =
    elim (cases_eq (chain k x ys) (chain k x zs)) [
      | inl e ↦ rw e (omega arith)
      | inr d ↦ let a = (chain_more k x y ys).1 in let b = (chain_more k x y zs).0 in omega arith
    ]

-- of two equal neighbours only one is found
pub chain_twin : (k x a b : ℕ) (ws : List ℕ) → 1 < k → x < k → chain k x (a ∷ a ∷ ws) ≤ chain k x (a ∷ b ∷ ws)
unfolding ahead
chain_twin k x a b ws h l =
    let u : up k (ahead k x (chain k x ws)) ≡ ahead k x (chain k x ws) → ⊥ = up_moves k (ahead k x (chain k x ws)) h in
    let p = (chain_more k x b ws).0 in
    let q = (chain_more k x a (b ∷ ws)).0 in
    elim (cases_eq a (ahead k x (chain k x ws))) [
      | inl e ↦
          let c : chain k x (a ∷ ws) ≡ suc (chain k x ws) = chain_hit k x a ws e in
          let d : chain k x (a ∷ a ∷ ws) ≡ chain k x (a ∷ ws) = chain_miss k x a (a ∷ ws) (λ f. u (sym (ap (ahead k x) c) ∙ (sym f ∙ e))) in
          elim (cases_eq b (ahead k x (chain k x ws))) [
            | inl g ↦ omega (arith, chain_hit k x b ws g)
            | inr g ↦
                let m : chain k x (b ∷ ws) ≡ chain k x ws = chain_miss k x b ws g in
                omega (arith, chain_hit k x a (b ∷ ws) (e ∙ sym (ap (ahead k x) m)))
          ]
      | inr e ↦
          let c : chain k x (a ∷ ws) ≡ chain k x ws = chain_miss k x a ws e in
          omega (arith, chain_miss k x a (a ∷ ws) (λ f. e (f ∙ ap (ahead k x) c)))
    ]

-- a number that takes that of the one before finds no more
pub chain_copy : (k x a : ℕ) (ys : List ℕ) (i : ℕ) → 1 < k → x < k → chain k x (a ∷ set ys i (get_or (a ∷ ys) i 0)) ≤ chain k x (a ∷ ys)
chain_copy k x a [] i h l = omega arith
chain_copy k x a (b ∷ ws) zero h l = chain_twin k x a b ws h l
chain_copy k x a (b ∷ ws) (suc i) h l = chain_cons k x a (b ∷ set ws i (get_or (b ∷ ws) i 0)) (b ∷ ws) (chain_copy k x b ws i h l)

-- the same of the chain in the tail
pub tail_copy : (k x : ℕ) (ys : List ℕ) (i : ℕ) → 1 < k → x < k → chain k x (tail x (set ys i (get_or (x ∷ ys) i 0))) ≤ chain k x (tail x ys)
tail_copy k x [] i h l = omega arith
tail_copy k x (y ∷ ys) zero h l =
    let a = chain_tail k x x ys in
    let b = (chain_more k x y ys).0 in
    elim (cases_eq y x) [
      | inl e ↦ rw (tail_same x x ys refl, tail_same x y ys e) (omega arith)
      | inr d ↦ rw (tail_same x x ys refl, tail_other x y ys d) (omega arith)
    ]
tail_copy k x (y ∷ ys) (suc i) h l =
    elim (cases_eq y x) [
      | inl e ↦ rw (tail_same x y (set ys i (get_or (y ∷ ys) i 0)) e, tail_same x y ys e, e) (tail_copy k x ys i h l)
      | inr d ↦ rw (tail_other x y (set ys i (get_or (y ∷ ys) i 0)) d, tail_other x y ys d) (chain_copy k x y ys i h l)
    ]

pub chain_of_one : (k x a : ℕ) → 1 < k → a ≡ x → chain k x (a ∷ []) ≡ suc (chain k (up k x) (a ∷ []))
unfolding chain ahead
chain_of_one k x a h e =
    let u : up k x ≡ x → ⊥ = up_moves k x h in
    let m : a ≡ up k x → ⊥ = λ f. u (sym f ∙ e) in
    grind (arith, nat_tests)

-- where the last number is x, the chain from x is one longer than that from the next number
pub chain_last : (k x a : ℕ) (ys : List ℕ) → 1 < k → last_of a ys ≡ x → chain k x (a ∷ ys) ≡ suc (chain k (up k x) (a ∷ ys))
unfolding last_of
chain_last k x a [] h e = chain_of_one k x a h e
chain_last k x a (b ∷ ys) h e =
    let i : chain k x (b ∷ ys) ≡ suc (chain k (up k x) (b ∷ ys)) = chain_last k x b ys h e in
    let s : ahead k (up k x) (chain k (up k x) (b ∷ ys)) ≡ ahead k x (chain k x (b ∷ ys)) =
    ahead_up k x (chain k (up k x) (b ∷ ys)) ∙ sym (ap (ahead k x) i) in
    elim (cases_eq a (ahead k x (chain k x (b ∷ ys)))) [
      | inl f ↦ omega (arith, chain_hit k x a (b ∷ ys) f, chain_hit k (up k x) a (b ∷ ys) (f ∙ sym s))
      | inr f ↦ omega (arith, chain_miss k x a (b ∷ ys) f, chain_miss k (up k x) a (b ∷ ys) (λ g. f (g ∙ s)))
    ]

-- member 0 goes up where the last number is its own and some number differs: the chain in the tail falls by one, if at most k numbers stand behind it
pub tail_up : (k x : ℕ) (ys : List ℕ) → 1 < k → x < k → length ys ≤ k → last_of x ys ≡ x → 0 < diffs x ys → suc (chain k (up k x) ys) ≡ chain k x (tail x ys)
unfolding last_of diffs
tail_up k x [] h l n e d = omega arith
tail_up k x (y ∷ ys) h l n e d =
    elim (cases_eq y x) [
      | inl q ↦
          let i : suc (chain k (up k x) ys) ≡ chain k x (tail x ys) = tail_up k x ys h l (omega arith) (subst (λ z. last_of z ys ≡ x) q e) (subst (λ z. 0 < diffs z ys) q (grind (arith, nat_tests))) in
          let a = chain_length k x (tail x ys) in
          let b = tail_length x ys in
          let m : chain k (up k x) (y ∷ ys) ≡ chain k (up k x) ys =
          chain_miss k (up k x) y ys (λ f. ahead_away k x (chain k (up k x) ys) l (omega arith) (sym (ahead_up k x (chain k (up k x) ys)) ∙ (sym f ∙ q))) in
          ap suc m ∙ (i ∙ sym (ap (chain k x) (tail_same x y ys q)))
      | inr q ↦ sym (chain_last k x y ys h e) ∙ sym (ap (chain k x) (tail_other x y ys q))
    ]
