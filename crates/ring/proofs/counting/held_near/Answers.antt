-- Each counts for one at most.
use Rattle.std.proofs.Common.{◌≡◌, ℕ, ◌≤◌, Bool, true, false, cond, arith}
use Rattle.ring.proofs.counting.held_near.Goals as goal

one_at_most : (x : ℕ) (b : Bool) → x ≡ cond b 1 0 → x ≤ 1
one_at_most x true e = omega arith
one_at_most x false e = omega arith

pub overflow_add-result : goal.overflow_add-result
overflow_add-result c =
    let a : c.held.result ≤ 1 = one_at_most c.held.result _ (c.held.ensures 0) in
    let b : c.held-2.result ≤ 1 = one_at_most c.held-2.result _ (c.held-2.ensures 0) in
    omega arith
