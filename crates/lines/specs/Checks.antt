-- The one rule for the fault of a unit: of all its broken checks the one at the smallest place counts, and of those
-- at one place the one with the smallest number. Assumes nothing.
use Rattle.std.specs.Prelude.{◌≡◌, ℕ, Bool, true, false, cond, ◌&&◌, ◌||◌, List, [], ◌∷◌, Some, None, Option, ◌==◌, nat_lt}
use Rattle.std.specs.Option.{option_map}
use Rattle.std.specs.List.{ContainsAt, AllByRecursion}
use Rattle.lines.specs.declared.fault.Fault.{Fault}
use Rattle.lines.specs.Faults.{number_of}

-- something that a unit must meet, where in the unit it stands, and the fault where it is broken
pub record Check : Type 0 where
  pub place : ℕ
  pub fault : Fault
  pub broken : Bool

-- a counts before b
abbrev pub before : Check → Check → Bool
before a b = nat_lt a.place b.place || (a.place == b.place && nat_lt (number_of a.fault) (number_of b.fault))

abbrev pub earlier : Check → Option Check → Check
earlier c None = c
earlier c (Some d) = cond (before d c) d c

-- of the broken checks, in whatever order they are listed, the one that counts first
abbrev pub first_broken : List Check → Option Check
first_broken [] = None
first_broken (c ∷ cs) = cond c.broken (Some (earlier c (first_broken cs))) (first_broken cs)

unfoldable pub first_fault : List Check → Option Fault
first_fault cs = option_map (λ c. c.fault) (first_broken cs)

abbrev pub Unbroken : List Check → Type 0
Unbroken cs = AllByRecursion (λ c. c.broken ≡ false) cs

-- f is the fault of a broken check before which no other broken one counts
abbrev pub Earliest : List Check → Fault → Type 0
Earliest cs f =
    (c : Check) × ContainsAt cs c × (c.broken ≡ true) × (c.fault ≡ f) × AllByRecursion (λ d. d.broken ≡ true → before d c ≡ false) cs

-- the fault of a unit with such checks, if it has one
abbrev pub IsFirstFault : List Check → Option Fault → Type 0
IsFirstFault cs None = Unbroken cs
IsFirstFault cs (Some f) = Earliest cs f
