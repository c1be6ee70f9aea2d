-- What `read_three` owes, by what its test says. Assumes nothing.
use Rattle.std.proofs.Common.{arith}
use Rattle.std.proofs.lemmas.Bool.{both_ways, ltb-true, ltb-false}
use Rattle.lines.proofs.ThreeLaws.{Three, not_three, three_is, three_line}
use Rattle.lines.proofs.line.read_three.Goals as goal

pub returns-in_default : goal.returns-in_default
returns-in_default c = not_three c.args.text.now (λ t. omega (arith, ltb-true))

pub returns-in_default-2 : goal.returns-in_default-2
returns-in_default-2 c = not_three c.args.text.now (λ t. omega arith)

pub returns-in_default-3 : goal.returns-in_default-3
returns-in_default-3 c = not_three c.args.text.now (λ t. omega arith)

pub returns-in_default-4 : goal.returns-in_default-4
returns-in_default-4 c = not_three c.args.text.now (λ t. omega arith)

pub returns-in_err-byte_of : goal.returns-in_err-byte_of
returns-in_err-byte_of c =
    rw c.from_residual.ensures (not_three c.args.text.now (λ t. both_ways _ c.in_err-byte_of.ensures t.first.digits))

pub returns-in_err-byte_of-2 : goal.returns-in_err-byte_of-2
returns-in_err-byte_of-2 c =
    rw c.from_residual-in_err-byte_of-2.ensures (not_three c.args.text.now (λ t. both_ways _ c.in_err-byte_of-2.ensures t.second.digits))

pub returns-in_err-byte_of-3 : goal.returns-in_err-byte_of-3
returns-in_err-byte_of-3 c =
    rw c.from_residual-in_err-byte_of-3.ensures (not_three c.args.text.now (λ t. both_ways _ c.in_err-byte_of-3.ensures t.third.digits))

pub returns : goal.returns
returns c =
    let s = c.args.text.now in
    let x = c.in_ok-byte_of.ensures in
    let y = c.in_ok-byte_of-2.ensures in
    let z = c.in_ok-byte_of-3.ensures in
    let t : Three s = record {
      long = omega (arith, ltb-false);
      first = record { digits = x.0; next = omega arith };
      second = record { digits = y.0; next = omega arith };
      third = record { digits = z.0; next = omega arith };
    } in
    (three_is s t, rw (x.1, y.1, z.1) (three_line s t))
