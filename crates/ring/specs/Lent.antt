-- A stage in lent slices: what each step needs and keeps, and what it leaves. Assumes nothing.
use Rattle.std.specs.Prelude.{◌≡◌}
use Rattle.ring.specs.declared.stage.Stage.{Stage as LentStage}
use Rattle.ring.specs.Bound.{Sound}
use Rattle.ring.specs.Machine.{state_in}
use Rattle.ring.specs.Plays.{Stage}

-- the machine in its slices, and the tally
abbrev pub stage_in : LentStage → Stage
stage_in x = record { machine = record { posts = x.posts.now; lines = x.lines.now }; tally = x.tally }

-- the tally is held to the bound, and the numbers are the machine's
pub record KeptInStep (x : LentStage) : Type 0 where
  pub sound : Sound x.settings.now (stage_in x).machine x.tally
  pub same : x.numbers.now ≡ state_in x.settings.now (stage_in x).machine

-- the same settings and the same slices, whatever stands in them
pub record SameSlices (x y : LentStage) : Type 0 where
  pub settings : y.settings.now ≡ x.settings.now
  pub posts : y.posts.ghost_name ≡ x.posts.ghost_name
  pub lines : y.lines.ghost_name ≡ x.lines.ghost_name
  pub numbers : y.numbers.ghost_name ≡ x.numbers.ghost_name

-- from x to y, over the same slices, a stage comes to be z, and is in step again
pub record Becomes (x y : LentStage) (z : Stage) : Type 0 where
  pub slices : SameSlices x y
  pub stage : stage_in y ≡ z
  pub in_step : KeptInStep y
