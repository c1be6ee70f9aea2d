-- The ring isn't refused, and what is asked about is a member of it.
use Rattle.std.proofs.Common.{arith}
use Rattle.order.proofs.Rings.{never_refused}
use Rattle.order.proofs.telling.wait_of.Goals as goal

pub unreachable-requires-in-Err : goal.unreachable-requires-in-Err
unreachable-requires-in-Err c =
    never_refused c.args.settings.now c.args.numbers.now _ _ c.requires.numbered c.in-Err.ensures (omega (arith, c.requires.there, c.from.ensures))
