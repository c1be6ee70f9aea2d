-- A ring to which nothing has happened. Assumes nothing.
use Rattle.std.specs.Prelude.{ℕ, false}
use Rattle.frames.specs.FrameUnit.{frame_bytes}
use Rattle.posts.specs.declared.post.Post.{Post}
use Rattle.turns.specs.Speaking.{lasting}
use Rattle.ring.specs.declared.line.Line.{Line}

-- post i: its memory is zero, its button up
abbrev pub post_at_first : ℕ → Post
post_at_first i = record { place = i; memory = record { number = 0; heard = 0; turn = lasting 0; wait = 0; moves = 0; since = 0 }; button = false }

-- the line from post i: the frame that the post sends with number 0, which isn't lost
abbrev pub line_at_first : ℕ → Line
line_at_first i = record { frame = frame_bytes i 0; lost = false }
