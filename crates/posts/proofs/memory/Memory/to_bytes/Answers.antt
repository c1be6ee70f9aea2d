-- Each number is written as the layout writes it.
use Rattle.std.proofs.Common.{◌≡◌, ◌∙◌, arith}
use Rattle.lines.specs.Words.{word_bytes}
use Rattle.posts.specs.Layout.{count_bytes}
use Rattle.posts.proofs.Bytes.{word_written, count_written}
use Rattle.posts.proofs.memory.Memory.to_bytes.Goals as goal

pub returns : goal.returns
returns c =
    let m = c.args.self in
    let number : c.to_be_bytes.result ≡ word_bytes m.number = c.to_be_bytes.ensures ∙ word_written m.number (omega arith) in
    let heard : c.to_be_bytes-2.result ≡ word_bytes m.heard = c.to_be_bytes-2.ensures ∙ word_written m.heard (omega arith) in
    let left : c.to_be_bytes-3.result ≡ word_bytes m.turn.left = c.to_be_bytes-3.ensures ∙ word_written m.turn.left (omega arith) in
    let wait : c.to_be_bytes-4.result ≡ word_bytes m.wait = c.to_be_bytes-4.ensures ∙ word_written m.wait (omega arith) in
    let moves : c.to_be_bytes-5.result ≡ count_bytes m.moves = c.to_be_bytes-5.ensures ∙ count_written m.moves (omega arith) in
    let since : c.to_be_bytes-6.result ≡ count_bytes m.since = c.to_be_bytes-6.ensures ∙ count_written m.since (omega arith) in
    rw (number, heard, left, wait, moves, since)
