-- A unit of bytes as a row of fields, and the checks that it must meet. A field is a number of some bytes, the high
-- byte first, that stands where the fields before it end. Assumes nothing.
use Rattle.std.specs.Prelude.{ℕ, ◌+◌, ◌<◌, ◌≤◌, Bool, true, cond, not, ◌&&◌, List, [], ◌∷◌, ◌++◌, length, take, drop, Some, None, Option, nat_eq, nat_le, nat_lt}
use Rattle.std.specs.List.{AllByRecursion}
use Rattle.sums.specs.Value.{value_of}
use Rattle.lines.specs.declared.fault.Fault.{Fault}
use Rattle.lines.specs.declared.fault.Fault.TheVariants.{Malformed}
use Rattle.lines.specs.Faults.{number_of}
use Rattle.lines.specs.Checks.{Check}

-- a test that a field's number must pass, and the fault where it does not
pub record Rule : Type 0 where
  pub fault : Fault
  pub passes : ℕ → Bool

pub record Field : Type 0 where
  pub width : ℕ
  pub rules : List Rule

-- a field of one byte and one of two, with one rule
abbrev pub byte_that : Fault → (ℕ → Bool) → Field
byte_that f passes = record { width = 1; rules = record { fault = f; passes = passes } ∷ [] }

abbrev pub word_that : Fault → (ℕ → Bool) → Field
word_that f passes = record { width = 2; rules = record { fault = f; passes = passes } ∷ [] }

-- the first byte of a unit, which says what kind of unit it is
abbrev pub kind_byte : ℕ → Field
kind_byte k = byte_that Malformed (λ v. nat_eq v k)

-- w bytes from a place on are not all there
abbrev pub missing : List ℕ → ℕ → ℕ → Check
missing bs p w = record { place = p; fault = Malformed; broken = nat_lt (length bs) (p + w) }

-- the number of w bytes at a place, if they are there, fails a rule
abbrev pub failing : List ℕ → ℕ → ℕ → Rule → Check
failing bs p w r =
    record { place = p; fault = r.fault; broken = nat_le (p + w) (length bs) && not (r.passes (value_of (take w (drop p bs)))) }

-- there is a byte at a place where the unit should have ended
abbrev pub too_many : List ℕ → ℕ → Check
too_many bs p = record { place = p; fault = Malformed; broken = nat_lt p (length bs) }

-- a stray character stands where the byte after the last should be
abbrev pub stray : List ℕ → Check
stray bs = record { place = length bs; fault = Malformed; broken = true }

abbrev pub rule_checks : List ℕ → ℕ → ℕ → List Rule → List Check
rule_checks bs p w [] = []
rule_checks bs p w (r ∷ rs) = failing bs p w r ∷ rule_checks bs p w rs

-- the checks of the fields from a place on, and that the unit ends with them
abbrev pub field_checks : List ℕ → ℕ → List Field → List Check
field_checks bs p [] = too_many bs p ∷ []
field_checks bs p (f ∷ fs) =
    missing bs p f.width ∷ (rule_checks bs p f.width f.rules ++ field_checks bs (p + f.width) fs)

unfoldable pub unit_checks : List ℕ → List Field → List Check
unit_checks bs fs = field_checks bs 0 fs

-- the first rule that a number fails, in the order of the rules
abbrev pub rule_fault : ℕ → List Rule → Option Fault → Option Fault
rule_fault v [] otherwise = otherwise
rule_fault v (r ∷ rs) otherwise = cond (r.passes v) (rule_fault v rs otherwise) (Some r.fault)

-- the fault that is met first where bytes are read field by field
abbrev pub reading_fault : List Field → List ℕ → Option Fault
reading_fault [] [] = None
reading_fault [] (b ∷ bs) = Some Malformed
reading_fault (f ∷ fs) bs =
    cond (nat_lt (length bs) f.width) (Some Malformed)
    (rule_fault (value_of (take f.width bs)) f.rules (reading_fault fs (drop f.width bs)))

-- the rules of one field have rising numbers
abbrev pub Rising : List Rule → Type 0
Rising [] = Unit {0}
Rising (r ∷ rs) = AllByRecursion (λ s. number_of r.fault ≤ number_of s.fault) rs × Rising rs

-- each field has a place of its own, since it has a byte at least, and rules in the order in which they count
abbrev pub Laid : List Field → Type 0
Laid fs = AllByRecursion (λ f. (0 < f.width) × Rising f.rules) fs
