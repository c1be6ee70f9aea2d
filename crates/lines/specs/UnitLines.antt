-- The line on which a unit stands. Assumes nothing.
use Rattle.lines.specs.declared.unit.Unit.{Unit}
use Rattle.lines.specs.Hex.{Line}

abbrev pub line_in : Unit → Line
line_in u = record { bytes = u.bytes.now; ending = u.ending }
