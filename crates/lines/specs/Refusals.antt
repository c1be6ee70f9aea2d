-- The fault in the answer of a reader that needs memory. Assumes nothing.
use Rattle.std.specs.Prelude.{Some, None, Ok, Err, Option, Result}
use Rattle.lines.specs.declared.fault.Fault.{Fault}
use Rattle.lines.specs.declared.read_error.ReadError.{ReadError}
use Rattle.lines.specs.declared.read_error.ReadError.TheVariants.{Refused, Memory}

-- the fault for which a unit was refused
abbrev pub refusal : {X : Type 0} → Result X ReadError → Option Fault
refusal (Ok x) = None
refusal (Err (Refused f)) = Some f
refusal (Err Memory) = None
