-- With each turn a line more is counted, until the count stays.
use Rattle.std.proofs.Common.{◌+◌}
use Rattle.inputs.specs.Taken.{GoesUp}
use Rattle.inputs.proofs.units.Units.next_unit.Given as goal

abbrev pub invariant-loop-turn : goal.invariant-loop-turn
invariant-loop-turn g l = GoesUp (l.initial.self.lines + l._turn) l.self.lines
