-- The numbers of all members as a unit of bytes: three for each post, from 0 to K - 1. Assumes nothing.
use Rattle.std.specs.Prelude.{ℕ, ◌-◌, ◌*◌, List, replicate}
use Rattle.lines.specs.declared.fault.Fault.TheVariants.{NumberTooLarge}
use Rattle.lines.specs.Checks.{Check}
use Rattle.lines.specs.Units.{Field, unit_checks}
use Rattle.lines.specs.Words.{word_up_to}
use Rattle.frames.specs.declared.settings.Settings.{Settings}

-- a member's number where there are k of them
abbrev pub member_number : ℕ → Field
member_number k = word_up_to NumberTooLarge (k - 1)

abbrev pub numbers_fields : Settings → List Field
numbers_fields s = replicate (3 * s.posts) (member_number s.k)

abbrev pub numbers_checks : Settings → List ℕ → List Check
numbers_checks s bs = unit_checks bs (numbers_fields s)
