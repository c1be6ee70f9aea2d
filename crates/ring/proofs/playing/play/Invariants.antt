-- The lines that were played, and that fewer are left with each.
use Rattle.std.proofs.Common.{length}
use Rattle.ring.proofs.PlayRuns.{Midplay}
use Rattle.ring.proofs.playing.play.Given as goal

abbrev pub invariant-loop-rest : goal.invariant-loop-rest
invariant-loop-rest l = Midplay l.settings l.script l.rest l.initial.stage l.stage l.line l.report

abbrev pub decreases-loop-rest : goal.decreases-loop-rest
decreases-loop-rest l = length l.rest
