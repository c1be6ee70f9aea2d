-- The loop of `read_line`: the bytes held and what is left to read make the line. Assumes nothing.
use Rattle.std.proofs.Common.{length, None, vec_items}
use Rattle.lines.specs.Hex.{reading, line_of}
use Rattle.lines.proofs.LineLaws.{Remains}
use Rattle.lines.proofs.line.read_line.Given as goal

abbrev pub invariant-loop-rest : goal.invariant-loop-rest
invariant-loop-rest l = Remains (line_of l.text) (vec_items l.bytes) (reading l.rest None)

abbrev pub decreases-loop-rest : goal.decreases-loop-rest
decreases-loop-rest l = length l.rest
