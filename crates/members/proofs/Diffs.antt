-- The numbers of a list that differ from the one before them, and the last number.
-- Assumes nothing.
use Rattle.std.proofs.Common.{◌≡◌, ℕ, zero, suc, ◌+◌, ◌<◌, ◌≤◌, cond, eqb, List, [], ◌∷◌, length, get_or, set, sym, refl, ◌∙◌, inl, inr, arith}
use Rattle.std.proofs.lemmas.Bool.{cases_eq}
use Rattle.std.proofs.lemmas.Bool.Decides.{nat_tests}

-- the last number of x and then ys
unfoldable pub last_of : ℕ → List ℕ → ℕ
last_of x [] = x
last_of x (y ∷ ys) = last_of y ys

-- how many of ys differ from the one before, x standing before the first
unfoldable pub diffs : ℕ → List ℕ → ℕ
diffs x [] = 0
diffs x (y ∷ ys) = cond (eqb y x) 0 1 + diffs y ys

pub last_at : (x : ℕ) (ys : List ℕ) → get_or (x ∷ ys) (length ys) 0 ≡ last_of x ys
unfolding last_of
last_at x [] = refl
last_at x (y ∷ ys) = last_at y ys

-- where none differs the last is the first
pub level : (x : ℕ) (ys : List ℕ) → diffs x ys ≡ 0 → last_of x ys ≡ x
unfolding last_of diffs
level x [] h = refl
level x (y ∷ ys) h =
    let a : diffs y ys ≡ 0 = omega arith in
    let e : y ≡ x = grind (arith, nat_tests) in
    level y ys a ∙ e

-- where one differs the last isn't the first
pub one_step : (x : ℕ) (ys : List ℕ) → diffs x ys ≡ 1 → last_of x ys ≡ x → ⊥
unfolding last_of diffs
one_step x [] h p = omega arith
one_step x (y ∷ ys) h p =
    elim (cases_eq y x) [
      | inl e ↦ one_step y ys (grind (arith, nat_tests)) (p ∙ sym e)
      | inr d ↦ d (sym (level y ys (grind (arith, nat_tests))) ∙ p)
    ]

-- another number in front changes at most the first comparison
pub diffs_front : (x z : ℕ) (ys : List ℕ) → diffs x ys ≤ suc (diffs z ys)
unfolding diffs
diffs_front x z [] = omega arith
diffs_front x z (y ∷ ys) = grind (arith, nat_tests)

-- a number that differs and takes that of the one before: no more differ, counting a number w behind the last that is equal to it
pub diffs_copy : (w x : ℕ) (ys : List ℕ) (i : ℕ) → i < length ys → (get_or (x ∷ ys) (suc i) 0 ≡ get_or (x ∷ ys) i 0 → ⊥) →
    diffs x (set ys i (get_or (x ∷ ys) i 0)) + cond (eqb w (last_of x (set ys i (get_or (x ∷ ys) i 0)))) 1 0 ≤ diffs x ys + cond (eqb w (last_of x ys)) 1 0
unfolding last_of diffs
diffs_copy w x [] i l d = omega arith
diffs_copy w x (y ∷ []) zero l d = grind (arith, nat_tests)
diffs_copy w x (y ∷ z ∷ zs) zero l d = grind (arith, nat_tests)
diffs_copy w x (y ∷ ys) (suc i) l d = let h = diffs_copy w y ys i (omega arith) d in omega arith
