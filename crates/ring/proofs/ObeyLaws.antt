-- Laws of orders that are obeyed: what holds afterwards. Assumes nothing.
use Rattle.std.proofs.Common.{◌≡◌, ℕ, ◌+◌, ◌≤◌, [], refl, arith}
use Rattle.commands.specs.declared.order.Order.{Order}
use Rattle.commands.specs.declared.order.Order.TheVariants.{Tick, Hear, Lose, Memory, Frame, ButtonDown, ButtonUp, Show}
use Rattle.frames.specs.declared.settings.Settings.{Settings}
use Rattle.ring.specs.Events.{tallied, midway}
use Rattle.ring.specs.Machine.{Machine, tick, hear, step, state_in}
use Rattle.ring.specs.Plays.{Stage, obeyed, answered}
use Rattle.ring.specs.Promise.{ring_of_settings}
use Rattle.ring.specs.Tallies.{noted, anew}
use Rattle.ring.proofs.Holders.{noted_moves}

-- an order is two moves at most
pub obeyed_moves : (o : Settings) (p : ℕ) (e : Order) (x : Stage) → (obeyed o p e x).tally.moves ≤ x.tally.moves + 2
unfolding obeyed tallied anew
obeyed_moves o p Tick x =
    let r = ring_of_settings o in
    let m = x.machine in
    let y = noted r (state_in o m) (midway o p m) x.tally in
    omega (arith, noted_moves r (midway o p m) (state_in o (step o (tick p) m)) y, noted_moves r (state_in o m) (midway o p m) x.tally)
obeyed_moves o p Hear x = omega (arith, noted_moves (ring_of_settings o) (state_in o x.machine) (state_in o (step o (hear p) x.machine)) x.tally)
obeyed_moves o p Lose x = omega arith
obeyed_moves o p (Memory bs) x = omega arith
obeyed_moves o p (Frame bs) x = omega arith
obeyed_moves o p ButtonDown x = omega arith
obeyed_moves o p ButtonUp x = omega arith
obeyed_moves o p Show x = omega arith

-- any order but a show says nothing
pub quiet_order : (o : Settings) (p : ℕ) (e : Order) (m : Machine) → (e ≡ Show → ⊥) → answered o p e m ≡ []
unfolding answered
quiet_order o p Tick m d = refl
quiet_order o p Hear m d = refl
quiet_order o p Lose m d = refl
quiet_order o p (Memory bs) m d = refl
quiet_order o p (Frame bs) m d = refl
quiet_order o p ButtonDown m d = refl
quiet_order o p ButtonUp m d = refl
quiet_order o p Show m d = absurd (d refl)
