-- What `shift` owes: a rotation, and the terms in the middle where a bit came round. Assumes nothing.
use Rattle.std.proofs.Common.{arith}
use Rattle.sums.proofs.BitStep.{turned_even, turned_odd}
use Rattle.sums.proofs.sum.shift.Goals as goal

pub returns-then-turned-eq0 : goal.returns-then-turned-eq0
returns-then-turned-eq0 c = turned_even c.args.register _ (omega arith) c.rotate_left-turned.ensures c.if-turned-eq0.true

pub returns-else-turned-eq0 : goal.returns-else-turned-eq0
returns-else-turned-eq0 c = turned_odd c.args.register _ (omega arith) c.rotate_left-turned.ensures c.if-turned-eq0.false
