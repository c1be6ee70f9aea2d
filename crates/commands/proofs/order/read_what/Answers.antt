-- What `read_what` owes, from the laws of orders. Assumes nothing.
use Rattle.std.proofs.Common.{◌≡◌, ◌≤◌, eqb, cond, length, get_or, Some, None, sym, refl, ◌∙◌, arith}
use Rattle.std.specs.Result.{result_err}
use Rattle.std.proofs.lemmas.Grind.{common_steps}
use Rattle.std.proofs.lemmas.Bool.Decides.{nat_tests}
use Rattle.lines.specs.declared.fault.Fault.TheVariants.{Malformed}
use Rattle.lines.proofs.UnitSteps.{rest_after}
use Rattle.commands.proofs.OrderLaws.{what_left}
use Rattle.commands.proofs.order.read_what.Goals as goal

pub returns-in-4-clause-fault : goal.returns-in-4-clause-fault
returns-in-4-clause-fault c =
    let bs = c.args.bytes.now in
    let there : 1 ≤ length bs = grind arith in
    let is : get_or bs 0 0 ≡ 4 = grind arith in
    let e : result_err c.map_err-in-4.result ≡ cond (eqb (length (rest_after 1 bs)) 16) None (Some Malformed) = grind (arith, common_steps, nat_tests) in
    e ∙ sym (what_left bs 4 there is refl)

pub returns-in-5-clause-fault : goal.returns-in-5-clause-fault
returns-in-5-clause-fault c =
    let bs = c.args.bytes.now in
    let there : 1 ≤ length bs = grind arith in
    let is : get_or bs 0 0 ≡ 5 = grind arith in
    let e : result_err c.map_err.result ≡ cond (eqb (length (rest_after 1 bs)) 6) None (Some Malformed) = grind (arith, common_steps, nat_tests) in
    e ∙ sym (what_left bs 5 there is refl)
