-- The tally of the moves that events bring. Assumes nothing.
use Rattle.std.specs.Prelude.{ℕ, ◌*◌, slice_set}
use Rattle.frames.specs.declared.settings.Settings.{Settings}
use Rattle.members.specs.Ring.{State}
use Rattle.posts.specs.Rule.{number_in}
use Rattle.ring.specs.declared.tally.Tally.{Tally}
use Rattle.ring.specs.Machine.{Machine, Event, tick, hear, lose, press, release, post_at, tick_of, step, state_in}
use Rattle.ring.specs.Promise.{ring_of_settings}
use Rattle.ring.specs.Tallies.{noted}

-- the state within a tick of post i, when it has moved or not and hasn't sent yet
abbrev pub midway : Settings → ℕ → Machine → State
midway o i m = slice_set (state_in o m) (3 * i) (number_in o.k (post_at (tick_of o i m) i).memory)

-- the tally after an event: in a tick first the post may move, then its frame
unfoldable pub tallied : Settings → Event → Machine → Tally → Tally
tallied o (tick i) m y = noted (ring_of_settings o) (midway o i m) (state_in o (step o (tick i) m)) (noted (ring_of_settings o) (state_in o m) (midway o i m) y)
tallied o (hear i) m y = noted (ring_of_settings o) (state_in o m) (state_in o (step o (hear i) m)) y
tallied o (lose i) m y = y
tallied o (press i) m y = y
tallied o (release i) m y = y
