-- The steps of a post as those of ring members: post p is member 3 p, and what it heard is the number of the member before.
-- Assumes nothing.
use Rattle.std.proofs.Common.{◌≡◌, ℕ, zero, suc, ◌+◌, ◌*◌, ◌<◌, cond, not, eqb, sym, refl, ap, ◌∙◌, arith}
use Rattle.std.proofs.lemmas.Bool.Decides.{nat_tests}
use Rattle.members.specs.Answers.{may_by, next_by}
use Rattle.members.specs.Ring.{State, at, may, next}
use Rattle.posts.specs.declared.deeds.Deeds.{Deeds}
use Rattle.posts.specs.declared.memory.Memory.{Memory}
use Rattle.posts.specs.Code.{ring_of, heard_of}
use Rattle.posts.specs.Rule.{number_in, heard_in, tick_doing}
use Rattle.posts.proofs.Norms.{norm_below}

-- the guard and the next number of member 3 p are post p's
triple : (p : ℕ) → 3 * suc p ≡ suc (3 * p + 2)
triple p = omega arith

pub guard_of : (n k p : ℕ) (s : State) → may (ring_of n k) s (3 * p) ≡ may_by p (at s (heard_of n p)) (at s (3 * p))
unfolding may
guard_of n k zero s = refl
guard_of n k (suc p) s = ap (may (ring_of n k) s) (triple p) ∙ ap (λ i. not (eqb (at s i) (at s (3 * p + 2)))) (sym (triple p))

pub next_of : (n k p : ℕ) (s : State) → next (ring_of n k) s (3 * p) ≡ next_by k p (at s (heard_of n p)) (at s (3 * p))
unfolding next
next_of n k zero s = refl
next_of n k (suc p) s = ap (next (ring_of n k) s) (triple p)

next_below : (k p heard number : ℕ) → heard < k → next_by k p heard number < k
next_below k p heard number h = grind (arith, nat_tests)

-- the number after a tick, whatever is done in it
pub tick_number : (k p : ℕ) (d : Deeds) (m : Memory) → 0 < k →
    number_in k (tick_doing k p d m) ≡ cond d.moves (next_by k p (heard_in k m) (number_in k m)) (number_in k m)
tick_number k p d m h =
    let number = norm_below k m.number h in
    let taken = next_below k p (heard_in k m) (number_in k m) (norm_below k m.heard h) in
    grind (arith, nat_tests)
