-- What `byte_of` owes, by what digits are. Assumes nothing.
use Rattle.std.proofs.Common.{arith}
use Rattle.std.proofs.lemmas.Bool.{and_from}
use Rattle.lines.proofs.LineLaws.{digit_is}
use Rattle.lines.proofs.line.byte_of.Goals as goal

pub returns : goal.returns
returns c =
    let h = digit_is c.args.high c.in-Digit.high c.in-Digit.ensures in
    let l = digit_is c.args.low c.in-Digit-from.low c.in-Digit-from.ensures in
    (and_from _ _ h.0 l.0, omega (arith, h.1, l.1))
