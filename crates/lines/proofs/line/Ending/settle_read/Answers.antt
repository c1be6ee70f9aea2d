-- What `settle_read` owes, from the law of damaged lines. Assumes nothing.
use Rattle.std.proofs.Common.{ap, ◌∙◌}
use Rattle.lines.specs.Refusals.{refusal}
use Rattle.lines.proofs.LineLaws.{settled_refusal}
use Rattle.lines.proofs.line.Ending.settle_read.Goals as goal

pub returns : goal.returns
returns g c =
    let is = c.or_damage.ensures in
    record { value = is; fault = λ bs fs h m e. ap refusal is ∙ settled_refusal c.args.self c.args.answer bs fs h m e }
