-- Bytes written as text: a line of them, two hexadecimal digits to a byte. Assumes nothing.
use Rattle.std.specs.Prelude.{◌≡◌, ℕ, ◌+◌, ◌-◌, ◌*◌, ◌/◌, ◌%◌, Bool, true, false, cond, ◌&&◌, ◌||◌, List, [], ◌∷◌, ◌++◌, length, take, Some, None, Ok, Err, Option, Result, ◌==◌, nat_le, nat_lt, slice_index}
use Rattle.std.specs.List.{flat_map}
use Rattle.std.specs.Char.{digit_value, digit_char}
use Rattle.lines.specs.declared.line.Ending.{Ending}
use Rattle.lines.specs.declared.line.Ending.TheVariants.{Whole, Damaged}
use Rattle.lines.specs.declared.line.Symbol.{Symbol}
use Rattle.lines.specs.declared.line.Symbol.TheVariants.{Digit, Blank, Comment, Stray}
use Rattle.lines.specs.Checks.{Check}
use Rattle.lines.specs.Text.{first_line, after_line}
use Rattle.lines.specs.Units.{Field, unit_checks, stray}

-- what a line holds: its bytes up to its end or to a stray character, and which of the two it was
pub record Line : Type 0 where
  pub bytes : List ℕ
  pub ending : Ending

-- a digit of either case; a blank or a tab; '#'; and any other character
abbrev pub symbol_of : ℕ → Symbol
symbol_of c =
    cond (nat_lt (digit_value c) 16) (Digit (digit_value c)) (cond (c == 32 || c == 9) Blank (cond (c == 35) Comment Stray))

abbrev pub nothing : Ending → Line
nothing e = record { bytes = []; ending = e }

abbrev pub prepended : ℕ → Line → Line
prepended b l = record { bytes = b ∷ l.bytes; ending = l.ending }

-- one character, after the high digit of a byte or between bytes; `rest` is the line after it
abbrev pub on_symbol : Symbol → Option ℕ → (Option ℕ → Line) → Line
on_symbol (Digit d) None rest = rest (Some d)
on_symbol (Digit d) (Some high) rest = prepended (16 * high + d) (rest None)
on_symbol Blank None rest = rest None
on_symbol Blank (Some high) rest = nothing Damaged
on_symbol Comment None rest = nothing Whole
on_symbol Comment (Some high) rest = nothing Damaged
on_symbol Stray None rest = nothing Damaged
on_symbol Stray (Some high) rest = nothing Damaged

abbrev pub reading : List ℕ → Option ℕ → Line
reading [] None = nothing Whole
reading [] (Some high) = nothing Damaged
reading (c ∷ cs) pending = on_symbol (symbol_of c) pending (reading cs)

-- a carriage return as the very last character is a blank
abbrev pub without_return : List ℕ → List ℕ
without_return text = cond (slice_index text (length text - 1) == 13) (take (length text - 1) text) text

abbrev pub line_of : List ℕ → Line
line_of text = reading (without_return text) None

-- a text that writes bytes: two digits to a byte, blanks between bytes, and perhaps a comment after them
pub data Spells : List ℕ → List ℕ → Type 0 where
  end : Spells [] []
  blank : {c : ℕ} {cs bs : List ℕ} → symbol_of c ≡ Blank → Spells cs bs → Spells (c ∷ cs) bs
  comment : {c : ℕ} {cs : List ℕ} → symbol_of c ≡ Comment → Spells (c ∷ cs) []
  byte : {c d high low : ℕ} {cs bs : List ℕ} → symbol_of c ≡ Digit high → symbol_of d ≡ Digit low → Spells cs bs →
      Spells (c ∷ d ∷ cs) ((16 * high + low) ∷ bs)

-- a line is whole where its text writes bytes, and those are the line's
abbrev pub WholeBySpelling : List ℕ → Ending → List ℕ → Type 0
WholeBySpelling text ending bytes =
    (ending ≡ Whole → Spells text bytes) × ((bs : List ℕ) → Spells text bs → (ending ≡ Whole) × (bytes ≡ bs))

-- what was read of the first line of a text: its bytes, how it ended, and the text after it
pub record IsFirstLine (text bytes : List ℕ) (ending : Ending) (rest : List ℕ) : Type 0 where
  pub line_bytes : bytes ≡ (line_of (first_line text)).bytes
  pub line_ending : ending ≡ (line_of (first_line text)).ending
  pub after : rest ≡ after_line text
  pub whole : WholeBySpelling (without_return (first_line text)) ending bytes

-- two characters that are digits
abbrev pub are_digits : ℕ → ℕ → Bool
are_digits c d = nat_lt (digit_value c) 16 && nat_lt (digit_value d) 16

-- two digits at a place, and then this character
abbrev pub digits_at : List ℕ → ℕ → ℕ → Bool
digits_at s i c = are_digits (slice_index s i) (slice_index s (i + 1)) && slice_index s (i + 2) == c

-- a text that begins with three bytes, a blank after each of the first two, and a newline
unfoldable pub is_three : List ℕ → Bool
is_three s = nat_le 9 (length s) && (digits_at s 0 32 && (digits_at s 3 32 && digits_at s 6 10))

abbrev pub is_whole : Ending → Bool
is_whole Whole = true
is_whole Damaged = false

-- a line that is passed over
abbrev pub is_blank : Line → Bool
is_blank l = is_whole l.ending && length l.bytes == 0

abbrev pub damage : Line → List Check
damage l = cond (is_whole l.ending) [] (stray l.bytes ∷ [])

-- the checks of a unit that stands on a line
abbrev pub line_checks : Line → List Field → List Check
line_checks l fs = unit_checks l.bytes fs ++ damage l

-- what was read of a line's bytes, where a damaged line holds nothing but the damage
abbrev pub settled : {X E : Type 0} → E → Ending → Result X E → Result X E
settled fault Whole answer = answer
settled fault Damaged (Ok x) = Err fault
settled fault Damaged (Err e) = Err e

-- bytes as text: two digits in lower case to a byte, and a blank between bytes
abbrev pub byte_text : ℕ → List ℕ
byte_text b = digit_char (b / 16) ∷ digit_char (b % 16) ∷ []

abbrev pub hex_text : List ℕ → List ℕ
hex_text [] = []
hex_text (b ∷ bs) = byte_text b ++ flat_map (λ c. 32 ∷ byte_text c) bs
