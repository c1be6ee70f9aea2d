-- What `push_byte` owes, from what `push` ensures of a digit. Assumes nothing.
use Rattle.std.proofs.Common.{◌≡◌, ◌++◌, string_bytes, ap}
use Rattle.std.proofs.lemmas.Result.{err_from_is_err_and}
use Rattle.lines.specs.Hex.{byte_text}
use Rattle.lines.proofs.text.push_byte.Goals as goal

pub returns-in_err-push : goal.returns-in_err-push
returns-in_err-push c =
    let p = err_from_is_err_and c.from_residual.result c.from_residual.ensures.1 in
    let same : string_bytes c.push.new.self ≡ string_bytes c.args.text.now = c.in_err-push.ensures.bytes in
    rw p.1 record { value = tt; first = (byte_text c.args.byte, ap (λ t. t ++ byte_text c.args.byte) same) }
