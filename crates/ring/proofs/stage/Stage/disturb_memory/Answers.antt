-- The numbers after the first disturbance can be disturbed again.
use Rattle.std.proofs.Common.{◌≡◌, ◌*◌, length, sym, refl, ap, ◌∙◌, length-set}
use Rattle.ring.specs.Disturbances.{memory_becomes}
use Rattle.ring.specs.Lent.{stage_in}
use Rattle.ring.proofs.DisturbLaws.{anew_ap, memory_numbers, memory_state}
use Rattle.ring.proofs.KeptLaws.{memory_whole}
use Rattle.ring.proofs.StageLaws.{restarts, step_length}
use Rattle.ring.proofs.TickLaws.{ring_same}
use Rattle.ring.proofs.stage.Stage.disturb_memory.Goals as goal

pub returns : goal.returns
returns c =
    let x = c.args.self.now in
    let o = x.settings.now in
    let m = (stage_in x).machine in
    let s = x.numbers.now in
    let i = c.args.i in
    let z = c.args.memory in
    let h = c.requires.in_step in
    let a = c.disturb.ensures.after in
    let e = c.disturb-2.ensures.after in
    let n : length c.disturb.new.numbers ≡ 3 * o.posts = ap length a ∙ (length-set s (3 * i) c.in_range-number.result ∙ step_length x h) in
    let t : c.disturb-2.new.numbers ≡ memory_numbers o.posts o.k i z s = e ∙ cc (a, c.in_range-number.ensures, c.in_range-heard.ensures, c.sender-before.ensures.value) in
    restarts x _ (memory_becomes i z m) (memory_whole o i z m h.sound.whole c.requires.there) (record { settings = refl; posts = refl; lines = refl; numbers = refl }) refl refl
    (c.disturb-2.ensures.value o.k ∙ anew_ap (ring_same o c.disturb.new.numbers n) (sym e))
    (t ∙ (ap (memory_numbers o.posts o.k i z) h.same ∙ sym (memory_state o m h.sound.whole i c.requires.there z)))
