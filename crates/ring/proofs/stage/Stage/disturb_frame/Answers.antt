-- The frame's number is one of the ring.
use Rattle.std.proofs.Common.{◌+◌, ◌*◌, set, sym, refl, ap, ◌∙◌}
use Rattle.ring.specs.Disturbances.{frame_becomes}
use Rattle.ring.specs.Lent.{stage_in}
use Rattle.ring.proofs.DisturbLaws.{anew_ap, frame_numbers, frame_state}
use Rattle.ring.proofs.KeptLaws.{frame_whole}
use Rattle.ring.proofs.StageLaws.{restarts, step_length}
use Rattle.ring.proofs.TickLaws.{ring_same}
use Rattle.ring.proofs.stage.Stage.disturb_frame.Goals as goal

pub returns : goal.returns
returns c =
    let x = c.args.self.now in
    let o = x.settings.now in
    let m = (stage_in x).machine in
    let s = x.numbers.now in
    let i = c.args.i in
    let h = c.requires.in_step in
    let e = c.disturb.ensures.after in
    restarts x _ (frame_becomes i c.args.frame m) (frame_whole o i c.args.frame m h.sound.whole c.requires.there) (record { settings = refl; posts = refl; lines = refl; numbers = refl }) refl refl
    (c.disturb.ensures.value o.k ∙ anew_ap (ring_same o s (step_length x h)) (sym e))
    (e ∙ (ap (set s (3 * i + 1)) c.number.ensures ∙ (ap (frame_numbers o.k i c.args.frame) h.same ∙ sym (frame_state o m h.sound.whole i c.requires.there c.args.frame))))
