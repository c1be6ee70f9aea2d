-- Numbers of two bytes, the high byte first. Assumes nothing.
use Rattle.std.specs.Prelude.{ℕ, ◌/◌, ◌%◌, List, [], ◌∷◌, nat_le}
use Rattle.std.specs.List.{flat_map}
use Rattle.lines.specs.declared.fault.Fault.{Fault}
use Rattle.lines.specs.Units.{Field, word_that}

-- a field of two bytes whose number is at most `largest`
abbrev pub word_up_to : Fault → ℕ → Field
word_up_to f largest = word_that f (λ v. nat_le v largest)

abbrev pub word_bytes : ℕ → List ℕ
word_bytes v = (v / 256) ∷ (v % 256) ∷ []

abbrev pub words_bytes : List ℕ → List ℕ
words_bytes vs = flat_map word_bytes vs
