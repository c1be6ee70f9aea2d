-- A number of K or more counts as 0. Assumes nothing.
use Rattle.std.proofs.Common.{◌≡◌, ℕ, ◌<◌, arith}
use Rattle.std.proofs.lemmas.Bool.Decides.{nat_tests}
use Rattle.posts.specs.Rule.{norm}

pub norm_below : (k x : ℕ) → 0 < k → norm k x < k
norm_below k x h = grind (arith, nat_tests)

pub norm_is : (k x : ℕ) → x < k → norm k x ≡ x
norm_is k x h = grind (arith, nat_tests)

pub norm_norm : (k x : ℕ) → norm k (norm k x) ≡ norm k x
norm_norm k x = grind (arith, nat_tests)
