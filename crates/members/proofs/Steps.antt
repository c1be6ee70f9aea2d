-- Steps up from a number, 0 after k - 1: they stay below k, no step stands still, and fewer than k of them never come back.
-- Assumes nothing.
use Rattle.std.proofs.Common.{◌≡◌, ℕ, zero, suc, ◌+◌, ◌<◌, ◌≤◌, ◌⊎◌, refl, ap, inl, inr, arith}
use Rattle.std.proofs.lemmas.Bool.{cases_lt}
use Rattle.std.proofs.lemmas.Bool.Decides.{nat_tests}
use Rattle.members.specs.Ring.{up}
use Rattle.members.specs.Potential.{ahead}

pub up_below : (k a : ℕ) → 0 < k → up k a < k
up_below k a h = grind (arith, nat_tests)

pub up_moves : (k a : ℕ) → 1 < k → up k a ≡ a → ⊥
up_moves k a h = grind (arith, nat_tests)

pub ahead_below : (k x : ℕ) → x < k → (c : ℕ) → ahead k x c < k
unfolding ahead
ahead_below k x h zero = h
ahead_below k x h (suc c) = up_below k (ahead k x c) (omega arith)

-- steps from the next number are one step more from this one
pub ahead_up : (k x c : ℕ) → ahead k (up k x) c ≡ ahead k x (suc c)
unfolding ahead
ahead_up k x zero = refl
ahead_up k x (suc c) = ap (up k) (ahead_up k x c)

-- up to k steps are a sum, less k where it passes k
pub ahead_is : (k x c : ℕ) → x < k → c ≤ k → (ahead k x c ≡ x + c) ⊎ (ahead k x c + k ≡ x + c)
unfolding ahead
ahead_is k x zero h l = inl (omega arith)
ahead_is k x (suc c) h l =
    let b : ahead k x c < k = ahead_below k x h c in
    elim (ahead_is k x c h (omega arith)) [
      | inl e ↦ elim (cases_lt (ahead k x c + 1) k) [ inl p ↦ inl (grind (arith, nat_tests)) | inr p ↦ inr (grind (arith, nat_tests)) ]
      | inr e ↦ inr (grind (arith, nat_tests))
    ]

-- fewer than k steps, but some, do not come back
pub ahead_away : (k x c : ℕ) → x < k → suc c < k → ahead k x (suc c) ≡ x → ⊥
ahead_away k x c h l e = elim (ahead_is k x (suc c) h (omega arith)) [ inl p ↦ omega arith | inr p ↦ omega arith ]
