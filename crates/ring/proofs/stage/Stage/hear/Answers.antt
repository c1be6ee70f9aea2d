-- A frame that is lost or refused changes nothing; of any other the number is noted as the end's.
use Rattle.std.proofs.Common.{◌≡◌, ◌+◌, ◌*◌, ◌<◌, true, false, not, is_some, Some, None, Option, set, sym, refl, ap, ◌∙◌, subst, MatchOption}
use Rattle.posts.specs.Promise.{Refreshed}
use Rattle.posts.specs.Steps.{hear_step}
use Rattle.lines.specs.Checks.{first_fault}
use Rattle.frames.specs.FrameUnit.{frame_checks}
use Rattle.members.specs.Answers.{ring_of}
use Rattle.ring.specs.Lent.{stage_in}
use Rattle.ring.specs.Machine.{Machine, post_at, line_at, hear, hear_of, state_in, step}
use Rattle.ring.specs.Numbers.{preceding, end_before}
use Rattle.ring.specs.Tallies.{noted}
use Rattle.ring.proofs.HearLaws.{accepted_heard, hear_lines, same_after_lost, same_after_refused, machine_heard, quiet_tally, heard_state, heard_tally}
use Rattle.ring.proofs.StageLaws.{comes}
use Rattle.ring.proofs.stage.Stage.hear.Goals as goal

-- an option, by whether it has a value
none_there : {X : Type 0} (o : Option X) → is_some o ≡ false → o ≡ None
none_there None e = refl
none_there (Some x) e = cc

some_there : {X : Type 0} (o : Option X) → is_some o ≡ true → (x : X) × (o ≡ Some x)
some_there None e = cc
some_there (Some x) e = (x, refl)

pub returns-then-line : goal.returns-then-line
unfolding step
returns-then-line c =
    let x = c.args.self.now in
    let o = x.settings.now in
    let m = (stage_in x).machine in
    let h = c.requires.in_step in
    let i = c.args.i in
    let b = subst (λ p. (line_at m p).lost ≡ true) c.sender-before.ensures.value c.if-line.true in
    let e : hear_of o i m ≡ m = same_after_lost o m h.sound.whole i c.requires.there b in
    comes x _ (hear i) h c.requires.there (record { settings = refl; posts = refl; lines = refl; numbers = refl })
    (sym (ap (λ (z : Machine). z.posts) e)) (hear_lines o m i) (quiet_tally o m h.sound.whole i c.requires.there x.tally e) (h.same ∙ sym (ap (state_in o) e))

pub returns-else-is_none : goal.returns-else-is_none
unfolding step
returns-else-is_none c =
    let x = c.args.self.now in
    let o = x.settings.now in
    let m = (stage_in x).machine in
    let h = c.requires.in_step in
    let i = c.args.i in
    let q = c.sender-before.ensures.value in
    let b = subst (λ p. (line_at m p).lost ≡ false) q c.if-line.false in
    let v = c.hear.ensures.value ∙ ap (λ p. hear_step o (line_at m p).frame (post_at m i)) q in
    let r = some_there c.hear.result.1.refuses (c.is_none.ensures ∙ ap not c.if-is_none.false) in
    let e : hear_of o i m ≡ m = same_after_refused o m h.sound.whole i c.requires.there r.0 (sym (ap (λ z. z.1.refuses) v) ∙ r.1) in
    comes x _ (hear i) h c.requires.there (record { settings = refl; posts = refl; lines = refl; numbers = refl })
    (ap (λ z. set m.posts i z.0) v ∙ sym (ap (λ (z : Machine). z.posts) (machine_heard o m h.sound.whole i c.requires.there b)))
    (hear_lines o m i) (quiet_tally o m h.sound.whole i c.requires.there x.tally e) (h.same ∙ sym (ap (state_in o) e))

pub returns-then-is_none : goal.returns-then-is_none
unfolding step
returns-then-is_none c =
    let x = c.args.self.now in
    let o = x.settings.now in
    let m = (stage_in x).machine in
    let s = x.numbers.now in
    let h = c.requires.in_step in
    let w = h.sound.whole in
    let i = c.args.i in
    let n = c.hear.result.0.memory.heard in
    let q = c.sender-before.ensures.value in
    let b = subst (λ p. (line_at m p).lost ≡ false) q c.if-line.false in
    let v = c.hear.ensures.value ∙ ap (λ p. hear_step o (line_at m p).frame (post_at m i)) q in
    let r = none_there c.hear.result.1.refuses (c.is_none.ensures ∙ ap not c.if-is_none.true) in
    let a = sym (ap (λ z. z.1.refuses) v) ∙ r in
    let f = first_fault (frame_checks o.posts o.k (post_at m i).place (line_at m (preceding o.posts i)).frame) in
    let e = accepted_heard f o _ (post_at m i) a ∙ sym (ap (λ z. z.0.memory.heard) v) in
    let z : n < o.k = (subst (λ z. MatchOption z (Refreshed o.k (post_at m i).place (post_at m i).memory c.hear.result.0.memory) (λ _. c.hear.result.0 ≡ post_at m i)) r c.hear.ensures.refreshed).heard_below in
    comes x _ (hear i) h c.requires.there (record { settings = refl; posts = refl; lines = refl; numbers = refl })
    (ap (λ z. set m.posts i z.0) v ∙ sym (ap (λ (z : Machine). z.posts) (machine_heard o m w i c.requires.there b)))
    (hear_lines o m i)
    (c.note.ensures.value o.k ∙ (ap (λ j. noted (ring_of o.k s) s (set s (3 * j + 2) n) x.tally) q ∙ heard_tally o m w i c.requires.there n b a e z s x.tally h.same))
    (c.note.ensures.after ∙ (ap (λ j. set s (3 * j + 2) n) q ∙ (ap (λ t. set t (end_before o.posts i) n) h.same ∙ sym (heard_state o m w i c.requires.there n b a e z))))
