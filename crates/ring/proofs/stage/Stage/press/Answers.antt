-- No number changes.
use Rattle.std.proofs.Common.{◌≡◌, ℕ, ◌<◌, Bool, true, false, cond, sym, refl, ap, ◌∙◌}
use Rattle.ring.specs.declared.stage.Stage.{Stage as LentStage}
use Rattle.ring.specs.Events.{tallied}
use Rattle.ring.specs.Lent.{Becomes, KeptInStep, SameSlices, stage_in}
use Rattle.ring.specs.Machine.{button_of, press, release, step}
use Rattle.ring.specs.Numbers.{state_of}
use Rattle.ring.specs.Plays.{happened}
use Rattle.ring.proofs.Machines.{button_numbers}
use Rattle.ring.proofs.StageLaws.{comes}
use Rattle.ring.proofs.stage.Stage.press.Goals as goal

pressed : (x y : LentStage) (i : ℕ) (b : Bool) → KeptInStep x → i < x.settings.now.posts → SameSlices x y →
    y.posts.now ≡ (button_of b i (stage_in x).machine).posts → y.lines.now ≡ x.lines.now → y.tally ≡ x.tally → y.numbers.now ≡ x.numbers.now →
    Becomes x y (happened x.settings.now (cond b (press i) (release i)) (stage_in x))
unfolding step tallied
pressed x y i true h l s a b c n =
    comes x y (press i) h l s a b c (n ∙ (h.same ∙ sym (ap (state_of x.settings.now.posts) (button_numbers x.settings.now (stage_in x).machine h.sound.whole i l true))))
pressed x y i false h l s a b c n =
    comes x y (release i) h l s a b c (n ∙ (h.same ∙ sym (ap (state_of x.settings.now.posts) (button_numbers x.settings.now (stage_in x).machine h.sound.whole i l false))))

pub returns : goal.returns
returns c = pressed c.args.self.now _ c.args.i c.args.down c.requires.in_step c.requires.there (record { settings = refl; posts = refl; lines = refl; numbers = refl }) refl refl refl refl
