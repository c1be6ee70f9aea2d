-- An order is refused for its first fault, or obeyed.
use Rattle.std.proofs.Common.{◌≡◌, get_or, IfOk, Ok, ap, ◌∙◌, subst}
use Rattle.std.proofs.lemmas.Result.{err_from_is_err_and}
use Rattle.lines.specs.Checks.{first_fault}
use Rattle.commands.specs.PostUnit.{post_order_checks, post_order_bytes}
use Rattle.lines.proofs.LineLaws.{was_read}
use Rattle.post.specs.Replies.{obeyed}
use Rattle.post.proofs.ReplyLaws.{refuses, obeys, order_fault}
use Rattle.post.proofs.answering.obey.Goals as goal

pub returns : goal.returns
returns c =
    let o = c.args.settings.now in
    let p = c.args.post in
    let bs = c.args.unit.bytes.now in
    let f = c.read_post_order.ensures.fault ∙ ap (λ i. first_fault (post_order_checks i bs)) c.place.ensures in
    let q = was_read _ _ _ _ c.in_ok-order.ensures.value in
    let w = subst (λ r. IfOk r (λ x. post_order_bytes c.place.result x ≡ bs)) q c.read_post_order.ensures.value in
    ap Ok c.obey_order.ensures ∙
    (ap (λ z. Ok (obeyed o p (get_or z 2 0))) w ∙ obeys o p _ (order_fault o p bs c.args.unit.ending _ _ c.requires f c.in_ok-order.ensures.fault) c.requires)

pub returns-in_err-order : goal.returns-in_err-order
returns-in_err-order c =
    let o = c.args.settings.now in
    let p = c.args.post in
    let bs = c.args.unit.bytes.now in
    let f = c.read_post_order.ensures.fault ∙ ap (λ i. first_fault (post_order_checks i bs)) c.place.ensures in
    let e = err_from_is_err_and c.from_residual.result c.from_residual.ensures.1 in
    rw (e.1, e.2) (refuses o p _ _ (order_fault o p bs c.args.unit.ending _ _ c.requires f (c.in_err-order.ensures.fault)))
