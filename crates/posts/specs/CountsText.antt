-- A post's counts, and how they are shown. Assumes nothing.
use Rattle.std.specs.Prelude.{ℕ, List, ◌++◌, codes, decimal}
use Rattle.posts.specs.declared.counts.Counts.{Counts}
use Rattle.posts.specs.declared.post.Post.{Post}

abbrev pub counts_of : Post → Counts
counts_of p = record { post = p.place; moves = p.memory.moves; since = p.memory.since }

abbrev pub counts_text : Counts → List ℕ
counts_text c =
    codes "post " ++ (decimal c.post ++ (codes ": " ++ (decimal c.moves ++ (codes " goings on, " ++ (decimal c.since ++ codes " ticks since")))))
