-- The frame is written for the number that the memory stands for.
use Rattle.std.proofs.Common.{ap, ◌∙◌}
use Rattle.frames.specs.FrameUnit.{frame_bytes}
use Rattle.posts.proofs.Hearing.{frame_reaches}
use Rattle.posts.proofs.post.Post.frame.Goals as goal

pub returns-clause-reaches : goal.returns-clause-reaches
returns-clause-reaches c =
    frame_reaches c.args.settings.now c.args.self _ (c.write_frame.ensures ∙ ap (frame_bytes c.args.self.place) c.in_range.ensures)
