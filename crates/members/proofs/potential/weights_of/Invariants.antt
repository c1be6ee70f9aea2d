-- The sum so far and the weights that are left.
use Rattle.std.proofs.Common.{◌≡◌, ◌+◌, drop}
use Rattle.members.specs.Potential.{weights}
use Rattle.members.proofs.potential.weights_of.Given as goal

abbrev pub invariant-loop-i : goal.invariant-loop-i
invariant-loop-i l = l.sum + weights l.before (drop l.i l.others) ≡ weights l.first l.others
