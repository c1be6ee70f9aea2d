-- The loop of `write_line`. Assumes nothing.
use Rattle.std.proofs.Common.{◌≡◌, ◌++◌, get_or, take, string_bytes}
use Rattle.lines.specs.Hex.{byte_text}
use Rattle.lines.proofs.HexText.{more_text}
use Rattle.lines.proofs.text.write_line.Given as goal

abbrev pub invariant-loop-byte : goal.invariant-loop-byte
invariant-loop-byte l = string_bytes l.text ≡ byte_text (get_or l.bytes 0 0) ++ more_text (take l.byte-index l.rest)
