-- What `settle` owes, from the law of damaged lines. Assumes nothing.
use Rattle.std.proofs.Common.{ap, ◌∙◌}
use Rattle.std.specs.Result.{result_err}
use Rattle.lines.proofs.LineLaws.{settled_fault}
use Rattle.lines.proofs.line.Ending.settle.Goals as goal

pub returns : goal.returns
returns g c =
    let is = c.or_damage.ensures in
    record { value = is; fault = λ bs fs h e. ap result_err is ∙ settled_fault c.args.self c.args.answer bs fs h e }
