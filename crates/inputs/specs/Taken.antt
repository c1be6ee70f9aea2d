-- Units from the lines of an input: which text was taken for a line, and how lines are counted. Assumes nothing.
use Rattle.std.specs.Prelude.{◌≡◌, ℕ, ◌+◌, ◌-◌, ◌^◌, ◌≤◌, min, true, false, ◌⊎◌, List, Some, None, Option}
use Rattle.lines.specs.declared.line.Ending.{Ending}
use Rattle.lines.specs.Hex.{line_of, is_blank}
use Rattle.lines.specs.Text.{first_line}

-- a count of lines stays at its largest value
abbrev pub most_lines : ℕ
most_lines = 2 ^ 64 - 1

abbrev pub one_more : ℕ → ℕ
one_more lines = min (lines + 1) most_lines

-- a count of lines doesn't go down
abbrev pub GoesUp : (before lines : ℕ) → Type 0
GoesUp before lines = min before most_lines ≤ lines

-- what was taken of a text that was read: the bytes of its first line, and how that ended, where it isn't passed over
abbrev pub Takes : (text bytes : List ℕ) → Option Ending → Type 0
Takes text bytes None = (bytes ≡ (line_of (first_line text)).bytes) × (is_blank (line_of (first_line text)) ≡ true)
Takes text bytes (Some e) = (record { bytes = bytes; ending = e } ≡ line_of (first_line text)) × (is_blank (line_of (first_line text)) ≡ false)

-- what an input gave, where `text`, of so many bytes, was read last and the count of lines went up from `before` to `lines`: the
-- unit in that text, or none where that text is empty or the count at its largest value
abbrev pub Gives : (size : ℕ) (text bytes : List ℕ) (before lines : ℕ) → Option Ending → Type 0
Gives size text bytes before lines None = (size ≡ 0) ⊎ (most_lines ≤ lines)
Gives size text bytes before lines (Some e) = Takes text bytes (Some e) × GoesUp (before + 1) lines
