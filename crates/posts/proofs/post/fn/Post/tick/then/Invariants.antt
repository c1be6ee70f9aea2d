-- The closure gives the frame of the post after the tick.
use Rattle.std.proofs.Common.{◌≡◌}
use Rattle.posts.specs.Steps.{frame_of}
use Rattle.posts.proofs.post.fn.Post.tick.then.Given as goal

abbrev pub ensures : goal.ensures
ensures l r = r ≡ frame_of l.settings.entry.now l.post
