-- Why a program stops: by the error of a reader, and as text. Assumes nothing.
use Rattle.std.specs.Prelude.{◌≡◌, ℕ, ◌<◌, ◌≤◌, ◌⊎◌, List, Some, None, codes, Option}
use Prim.{Unit}
use Rattle.lines.specs.declared.fault.Fault.TheVariants.{Malformed}
use Rattle.lines.specs.declared.read_error.ReadError.{ReadError}
use Rattle.lines.specs.declared.read_error.ReadError.TheVariants.{Refused as ReadRefused, Memory as ReadMemory}
use Rattle.lines.specs.Faults.{fault_text}
use Rattle.inputs.specs.declared.stop.Stop.{Stop}
use Rattle.inputs.specs.declared.stop.Stop.TheVariants.{Refused, Memory, Io}
use Rattle.inputs.specs.Taken.{most_lines}

abbrev pub stop_for : ReadError → Stop
stop_for (ReadRefused f) = Refused f
stop_for ReadMemory = Memory

-- what is shown of a stop; nothing is said of the system's words
abbrev pub stop_text : Stop → Option (List ℕ)
stop_text (Refused f) = Some (fault_text f)
stop_text Memory = Some (codes "out of memory")
stop_text (Io e) = None

-- why reading stops, where so many bytes were read last: never for a fault, and for want of memory only with a line to take
abbrev pub StopsAt : ℕ → Stop → Type 0
StopsAt size (Refused f) = ⊥
StopsAt size Memory = 0 < size
StopsAt size (Io e) = Unit {0}

-- why it stops where a unit has to come: for no other fault than that none came
abbrev pub StopsOrEnds : (size lines : ℕ) → Stop → Type 0
StopsOrEnds size lines (Refused f) = (f ≡ Malformed) × ((size ≡ 0) ⊎ (most_lines ≤ lines))
StopsOrEnds size lines Memory = 0 < size
StopsOrEnds size lines (Io e) = Unit {0}
