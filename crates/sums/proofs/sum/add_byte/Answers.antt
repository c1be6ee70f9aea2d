-- What `add_byte` owes, from the law of a byte at once. Assumes nothing.
use Rattle.std.proofs.Common.{◌/◌, refl, ap, ◌∙◌, arith}
use lib.Bits.{bit_and, bit_xor}
use Rattle.sums.proofs.ByteStep.{by8, byte_turned}
use Rattle.sums.proofs.sum.add_byte.Goals as goal

pub returns : goal.returns
returns c =
    let turned = bit_xor c.rotate_left.result c.from.result in
    let carried = bit_xor (bit_and turned 255) (bit_and turned 255 / 16) in
    let is = ap (λ x. bit_xor x c.from.result) c.rotate_left.ensures ∙ ap (bit_xor (by8 c.args.register)) c.from.ensures in
    ap (λ x. bit_xor (bit_xor turned x) c.rotate_left-3.result) c.rotate_left-2.ensures
    ∙ ap (bit_xor (bit_xor turned _)) c.rotate_left-3.ensures
    ∙ byte_turned c.args.register c.args.byte (omega arith) (omega arith) turned carried is refl
