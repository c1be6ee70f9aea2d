-- The chain of what was passed, which stands behind what is left.
use Rattle.std.proofs.Common.{◌≡◌, map, reverse}
use Rattle.members.specs.Potential.{ahead, chain}
use Rattle.members.proofs.potential.chain_of.Given as goal

abbrev pub invariant-loop-number : goal.invariant-loop-number
invariant-loop-number l = record {
  can : (goal.iterator-loop-number).can_next l.number-iterator;
  finite : (goal.iterator-loop-number).is_finite l.number-iterator;
  counted : l.found ≡ chain l.k l.first (reverse (map (λ y. y.now) l.yielded));
  next : l.wanted ≡ ahead l.k l.first l.found;
}
