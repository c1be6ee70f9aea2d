-- The loop of `read_words`. Assumes nothing.
use Rattle.lines.proofs.WordSteps.{Progress}
use Rattle.lines.proofs.words.read_words.Given as goal

abbrev pub invariant-loop-word : goal.invariant-loop-word
invariant-loop-word l = Progress l.bytes l.initial.words l.words l.rest l.word-index l.fault l.largest
