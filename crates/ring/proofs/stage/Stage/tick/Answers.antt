-- The post's number is noted first, then the frame's where it sends.
use Rattle.std.proofs.Common.{◌≡◌, ℕ, ◌+◌, ◌*◌, Bool, true, false, cond, List, set, Some, None, sym, refl, ap, ◌∙◌}
use Rattle.std.proofs.lemmas.List.{set-get_or}
use Rattle.std.proofs.lemmas.Option.{cond_some}
use Rattle.ring.specs.Machine.{line_at, sent_on, step, tick, unused}
use Rattle.ring.specs.Lent.{stage_in}
use Rattle.ring.proofs.Holders.{noted_ap}
use Rattle.ring.proofs.StageLaws.{comes}
use Rattle.ring.proofs.TickLaws.{ring_set, state_silent, state_sent, tally_silent, tally_sent}
use Rattle.ring.proofs.stage.Stage.tick.Goals as goal

-- nothing is sent
none_sent : (b : Bool) (f : List ℕ) → cond b (Some f) None ≡ None → b ≡ false
none_sent true f e = cc
none_sent false f e = refl

pub returns-in-Some : goal.returns-in-Some
unfolding step
returns-in-Some c =
    let x = c.args.self.now in
    let o = x.settings.now in
    let m = (stage_in x).machine in
    let s = x.numbers.now in
    let h = c.requires.in_step in
    let i = c.args.i in
    let v = c.tick.result.0.memory.number in
    let e = sym (ap (λ z. z.0.memory.number) c.tick.ensures.value) in
    let q = sym (ap (λ z. z.1.sends) c.tick.ensures.value) ∙ c.in-Some.is in
    let b = (cond_some _ _ _ q).0 in
    let a = c.note.ensures.after in
    comes x _ (tick i) h c.requires.there (record { settings = refl; posts = refl; lines = refl; numbers = refl })
    (ap (λ z. set m.posts i z.0) c.tick.ensures.value)
    (sym (ap (λ z. set m.lines i (sent_on z (line_at m i))) q))
    (c.note-in-Some.ensures.value o.k ∙
    (noted_ap (ring_set o.k s (3 * i) v c.note.new.numbers a) a (ap (λ t. set t (3 * i + 1) v) a) (c.note.ensures.value o.k) ∙
    tally_sent o m h.sound.whole i c.requires.there s h.same v e x.tally b))
    (c.note-in-Some.ensures.after ∙ (ap (λ t. set t (3 * i + 1) v) a ∙ state_sent o m h.sound.whole i c.requires.there s h.same v e x.tally b))

pub returns-in_default : goal.returns-in_default
unfolding step
returns-in_default c =
    let x = c.args.self.now in
    let o = x.settings.now in
    let m = (stage_in x).machine in
    let s = x.numbers.now in
    let h = c.requires.in_step in
    let i = c.args.i in
    let v = c.tick.result.0.memory.number in
    let e = sym (ap (λ z. z.0.memory.number) c.tick.ensures.value) in
    let q = sym (ap (λ z. z.1.sends) c.tick.ensures.value) ∙ c.in_default.is in
    let b = none_sent _ _ q in
    comes x _ (tick i) h c.requires.there (record { settings = refl; posts = refl; lines = refl; numbers = refl })
    (ap (λ z. set m.posts i z.0) c.tick.ensures.value)
    (sym (ap (λ z. set m.lines i (sent_on z (line_at m i))) q ∙ set-get_or m.lines i unused))
    (c.note.ensures.value o.k ∙ tally_silent o m h.sound.whole i c.requires.there s h.same v e x.tally b)
    (c.note.ensures.after ∙ state_silent o m h.sound.whole i c.requires.there s h.same v e x.tally b)
