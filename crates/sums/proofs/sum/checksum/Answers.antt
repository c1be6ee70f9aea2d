-- What `checksum` owes, from the law of a byte more. Assumes nothing.
use Rattle.std.proofs.Common.{rules, ◌∙◌}
use Rattle.std.proofs.lemmas.Iterator.{YieldsList-from_slice}
use Rattle.std.proofs.lemmas.Iterator.Consumers.{fold_from_yields_List}
use borrow.Author.Tests.{tests}
use Rattle.sums.specs.Sum.{bits_down, remainder, sum_of}
use Rattle.sums.proofs.SumLaws.{by_bytes}
use Rattle.sums.proofs.sum.checksum.Goals as goal

pub returns : goal.returns
unfolding sum_of
returns c =
    let bs = c.args.bytes.now in
    fold_from_yields_List _ (λ r b. remainder r (bits_down 8 b)) 65535 c.fold.result c.fold.ensures.ran (YieldsList-from_slice bs cc) (λ a x b q k. search (rules, tests)) ∙ by_bytes 65535 bs
