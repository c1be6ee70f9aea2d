-- A frame is refused for its first fault, or heard.
use Rattle.std.proofs.Common.{sym, ap, Ok, ◌∙◌}
use Rattle.std.proofs.lemmas.Result.{err_from_is_err_and}
use Rattle.std.specs.Result.{result_err}
use Rattle.lines.specs.Checks.{first_fault}
use Rattle.frames.specs.FrameUnit.{frame_checks}
use Rattle.lines.proofs.LineLaws.{was_read}
use Rattle.posts.specs.Steps.{hear_by}
use Rattle.post.specs.declared.reply.Reply.TheVariants.{Acted}
use Rattle.post.proofs.ReplyLaws.{refuses, hears, frame_fault}
use Rattle.post.proofs.answering.hear.Goals as goal

pub returns-in_err-settle : goal.returns-in_err-settle
returns-in_err-settle c =
    let o = c.args.settings.now in
    let p = c.args.post in
    let bs = c.args.unit.bytes.now in
    let f = c.read_frame.ensures.fault ∙ ap (λ i. first_fault (frame_checks o.posts o.k i bs)) c.place.ensures in
    let e = err_from_is_err_and c.from_residual.result c.from_residual.ensures.1 in
    rw (e.1, e.2) (refuses o p _ _ (frame_fault o p bs c.args.unit.ending _ _ c.requires f (c.in_err-settle.ensures.fault)))

pub returns : goal.returns
returns c =
    let o = c.args.settings.now in
    let p = c.args.post in
    let bs = c.args.unit.bytes.now in
    let f = c.read_frame.ensures.fault ∙ ap (λ i. first_fault (frame_checks o.posts o.k i bs)) c.place.ensures in
    let q = was_read _ _ _ _ c.in_ok-settle.ensures.value in
    let n = sym f ∙ ap result_err q in
    let s = c.step.ensures.value ∙ ap (λ g. hear_by g o bs p) n in
    ap (λ z. Ok (z.0, Acted z.1)) s ∙
    hears o p _ (frame_fault o p bs c.args.unit.ending _ _ c.requires f c.in_ok-settle.ensures.fault) c.requires
