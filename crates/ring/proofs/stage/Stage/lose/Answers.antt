-- No number changes.
use Rattle.std.proofs.Common.{sym, refl, ap, ◌∙◌}
use Rattle.ring.specs.Events.{tallied}
use Rattle.ring.specs.Lent.{stage_in}
use Rattle.ring.specs.Machine.{lose, step}
use Rattle.ring.specs.Numbers.{state_of}
use Rattle.ring.proofs.Machines.{lose_numbers}
use Rattle.ring.proofs.StageLaws.{comes}
use Rattle.ring.proofs.stage.Stage.lose.Goals as goal

pub returns : goal.returns
unfolding step tallied
returns c =
    let x = c.args.self.now in
    let o = x.settings.now in
    let h = c.requires.in_step in
    let n = ap (state_of o.posts) (lose_numbers o (stage_in x).machine h.sound.whole c.args.i c.requires.there) in
    comes x _ (lose c.args.i) h c.requires.there (record { settings = refl; posts = refl; lines = refl; numbers = refl }) refl refl refl (h.same ∙ sym n)
