-- What `read_words` owes, from the steps of a reader of numbers. Assumes nothing.
use Rattle.std.proofs.Common.{arith}
use Rattle.std.proofs.lemmas.List.{set-get_or}
use Rattle.std.proofs.lemmas.Result.{err_from_is_err_and}
use Rattle.lines.proofs.WordSteps.{short_fault, large_fault, next}
use Rattle.lines.proofs.words.read_words.Goals as goal

pub returns-in_err-value : goal.returns-in_err-value
returns-in_err-value c =
    let p = err_from_is_err_and c.from_residual.result c.from_residual.ensures.1 in
    let at = c.loop-word.invariant in
    let n = c.loop-word.auto.words in
    let read = c.in_err-value.ensures.cases in
    rw (p.1, p.2, read.1)
    record {
      fault = rw n at (short_fault at (omega arith) read.0);
      value = tt;
      bound = tt;
      first = (c.loop-word.word-index, c.loop-word.rest.now, simp set-get_or at.so_far, simp set-get_or at.untouched);
    }

pub returns-then-value-largest : goal.returns-then-value-largest
returns-then-value-largest c =
    let at = c.loop-word.invariant in
    let n = c.loop-word.auto.words in
    let read = c.in_ok-value.ensures in
    record {
      fault = rw n at (large_fault at (omega arith) _ read.cases read.number c.if-value-largest.true);
      value = tt;
      bound = tt;
      first = (c.loop-word.word-index, c.loop-word.rest.now, simp set-get_or at.so_far, simp set-get_or at.untouched);
    }

pub loop-word-preserved : goal.loop-word-preserved
loop-word-preserved c =
    let read = c.in_ok-value.ensures in
    rw read.rest (next c.loop-word.invariant (omega arith) _ read.cases read.number c.if-value-largest.false)
