-- Disturbances: the memory of a post, or the frame on a line, becomes anything. Assumes nothing.
use Rattle.std.specs.Prelude.{ℕ, false, List, slice_set}
use Rattle.posts.specs.declared.memory.Memory.{Memory}
use Rattle.posts.specs.Steps.{with_memory}
use Rattle.ring.specs.Machine.{Machine, post_at}

-- post i has another memory; its place and its button stay
abbrev pub memory_becomes : ℕ → Memory → Machine → Machine
memory_becomes i x m = record { posts = slice_set m.posts i (with_memory x (post_at m i)); lines = m.lines }

-- the line from post i has another frame, which isn't lost
abbrev pub frame_becomes : ℕ → List ℕ → Machine → Machine
frame_becomes i bytes m = record { posts = m.posts; lines = slice_set m.lines i (record { frame = bytes; lost = false }) }
