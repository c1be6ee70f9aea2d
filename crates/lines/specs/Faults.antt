-- How each fault is reported. Assumes nothing.
use Rattle.std.specs.Prelude.{ℕ, List, ◌++◌, codes, decimal}
use Rattle.lines.specs.declared.fault.Fault.{Fault}
use Rattle.lines.specs.declared.fault.Fault.TheVariants.{Malformed, OutOfRange, WrongSum, WrongSender, NumberTooLarge}

abbrev pub number_of : Fault → ℕ
number_of Malformed = 1
number_of OutOfRange = 2
number_of WrongSum = 3
number_of WrongSender = 4
number_of NumberTooLarge = 5

-- the text `fault` with the number after a blank
abbrev pub fault_text : Fault → List ℕ
fault_text f = codes "fault " ++ decimal (number_of f)
