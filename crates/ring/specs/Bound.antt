-- Moves counted since the last disturbance, held against the bound. Assumes nothing.
use Rattle.std.specs.Prelude.{◌≡◌, ℕ, pred, ◌*◌, ◌≤◌, MatchOption}
use Rattle.frames.specs.declared.settings.Settings.{Settings}
use Rattle.members.specs.Ring.{Ring, State, IsState, Healed, Moves, how_many}
use Rattle.ring.specs.declared.tally.Tally.{Tally}
use Rattle.ring.specs.Machine.{Machine, Whole, state_in}
use Rattle.ring.specs.Promise.{ring_of_settings}

-- twice the most moves that a ring can make until it is healed: three times members times (members - 1)
abbrev pub twice_bound : Ring → ℕ
twice_bound r = 3 * (r.members * pred r.members)

-- The moves that were counted lead from some state to s. It is healed, and was so first after no more moves than the bound, or it isn't yet; with as many moves as the bound it is.
pub record HeldTo (r : Ring) (s : State) (y : Tally) : Type 0 where
  pub from : State
  pub start : IsState r from
  pub since : Moves r from y.moves s
  pub healing : MatchOption y.healed (Healed r s → ⊥) (λ c. Healed r s × (2 * c ≤ twice_bound r))
  pub in_time : twice_bound r ≤ 2 * y.moves → Healed r s

-- a whole machine whose tally has the count of those that may move, and is held to the bound
pub record Sound (o : Settings) (m : Machine) (y : Tally) : Type 0 where
  pub whole : Whole o.posts m
  pub counted : y.holders ≡ how_many (ring_of_settings o) (state_in o m) (3 * o.posts)
  pub held : HeldTo (ring_of_settings o) (state_in o m) y
