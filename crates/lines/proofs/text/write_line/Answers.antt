-- What `write_line` owes: what of the text is written, and what is left of it where memory fails. Assumes nothing.
use Rattle.std.proofs.Common.{◌≡◌, [], ◌∷◌, ◌++◌, get_or, take, drop, string_bytes, sym, ap, ◌∙◌, arith}
use lib.Utf8.{encode}
use Rattle.std.proofs.ByRecursion.{All-from_get_or}
use Rattle.std.proofs.lemmas.List.{append_assoc, take_all}
use Rattle.std.proofs.lemmas.Result.{err_from_is_err_and}
use Rattle.std.proofs.lemmas.Bool.{ltb-false}
use Rattle.lines.specs.Hex.{line_of, byte_text, hex_text}
use Rattle.lines.proofs.HexText.{more_text, reads_back, hex_parts, left_of, left_after}
use Rattle.lines.proofs.UnitSteps.{rest_after}
use Rattle.lines.proofs.text.write_line.Goals as goal

pub returns-in_err-push_byte : goal.returns-in_err-push_byte
returns-in_err-push_byte c =
    let p = err_from_is_err_and c.from_residual.result c.from_residual.ensures.1 in
    let bs = c.args.bytes.now in
    let first = byte_text (get_or bs 0 0) in
    let told = c.in_err-push_byte.ensures.first in
    let text = string_bytes c.push_byte.new.text in
    let more = more_text (rest_after 1 bs) in
    let is : text ++ (told.0 ++ more) ≡ hex_text bs =
    sym (append_assoc text told.0 more) ∙ ap (λ t. t ++ more) (told.1 ∙ ap (λ t. t ++ first) c.clear.ensures.bytes) ∙ hex_parts bs (omega (arith, ltb-false)) in
    rw p.1 record { value = tt; back = tt; first = (told.0 ++ more, is) }

pub returns-in_err-push : goal.returns-in_err-push
returns-in_err-push c =
    let p = err_from_is_err_and c.from_residual-in_err-push.result c.from_residual-in_err-push.ensures.1 in
    let bs = c.args.bytes.now in
    let i = c.loop-byte.byte-index in
    let first = byte_text (get_or bs 0 0) in
    let tail = rest_after 1 bs in
    let same : string_bytes c.push.new.self ≡ first ++ more_text (take i tail) = c.in_err-push.ensures.bytes ∙ c.loop-byte.invariant in
    let left = left_of first tail (hex_text bs) (hex_parts bs (omega (arith, ltb-false))) i in
    rw p.1 record { value = tt; back = tt; first = (more_text (drop i tail), ap (λ t. t ++ more_text (drop i tail)) same ∙ left) }

pub returns-in_err-push_byte-2 : goal.returns-in_err-push_byte-2
unfolding encode
returns-in_err-push_byte-2 c =
    let p = err_from_is_err_and c.from_residual-in_err-push_byte-2.result c.from_residual-in_err-push_byte-2.ensures.1 in
    let bs = c.args.bytes.now in
    let i = c.loop-byte.byte-index in
    let first = byte_text (get_or bs 0 0) in
    let tail = rest_after 1 bs in
    let blank : string_bytes c.push.new.self ≡ (first ++ more_text (take i tail)) ++ 32 ∷ [] =
    c.in_ok-push.ensures.bytes ∙ ap (λ t. t ++ 32 ∷ []) c.loop-byte.invariant in
    let told = c.in_err-push_byte-2.ensures.first in
    let left = left_after first tail (hex_text bs) (hex_parts bs (omega (arith, ltb-false))) i c.loop-byte-test.true
    (string_bytes c.push_byte-in-loop-byte.new.text) told.0 (told.1 ∙ ap (λ t. t ++ byte_text (get_or tail i 0)) blank) in
    rw p.1 record { value = tt; back = tt; first = (told.0 ++ _, left) }

pub returns : goal.returns
returns c =
    let bs = c.args.bytes.now in
    let first = byte_text (get_or bs 0 0) in
    let tail = rest_after 1 bs in
    let is : string_bytes c.loop-byte.text ≡ hex_text bs =
    c.loop-byte.invariant ∙ ap (λ t. first ++ more_text t) (take_all c.loop-byte.byte-index tail c.loop-byte-test.false)
    ∙ hex_parts bs (omega (arith, ltb-false)) in
    record { value = is; back = ap line_of is ∙ reads_back bs (All-from_get_or _ bs 0 (λ i _. omega (arith, c.type_inv.bytes i))); first = tt }
