-- A post's memory as sixteen bytes, the high byte of each number first. Assumes nothing.
use Rattle.std.specs.Prelude.{ℕ, ◌/◌, ◌%◌, List, ◌++◌}
use Rattle.lines.specs.Words.{word_bytes}
use Rattle.posts.specs.declared.memory.Memory.{Memory}

abbrev pub count_bytes : ℕ → List ℕ
count_bytes v = word_bytes (v / 65536) ++ word_bytes (v % 65536)

abbrev pub memory_bytes : Memory → List ℕ
memory_bytes m =
    word_bytes m.number ++ (word_bytes m.heard ++ (word_bytes m.turn.left ++ (word_bytes m.wait ++ (count_bytes m.moves ++ count_bytes m.since))))
