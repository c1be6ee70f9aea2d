-- What `write_frame` owes: the bytes of the number and of the checksum. Assumes nothing.
use Rattle.std.proofs.Common.{arith}
use Rattle.std.proofs.lemmas.Grind.{common_steps}
use Rattle.frames.specs.FrameUnit.{frame_bytes}
use Rattle.frames.proofs.frame.write_frame.Goals as goal

pub returns : goal.returns
unfolding frame_bytes
returns c = grind (arith, common_steps)
