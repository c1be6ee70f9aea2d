-- Worked examples: rings of members move by move, and rings of two posts and two lines event by event. The table has the values; `Shows` says what a row
-- claims, by the definitions that the promises are made of. Assumes nothing.
use Rattle.std.specs.Prelude.{◌≡◌, ℕ, zero, suc, pred, ◌+◌, ◌*◌, ◌<◌, ◌≤◌, Bool, true, false, cond, not, ◌&&◌, List, [], ◌∷◌, ◌++◌, length}
use Rattle.std.proofs.Common.{lit≤}
use Rattle.std.specs.List.{AllByRecursion}
use Rattle.frames.specs.declared.settings.Settings.{Settings}
use Rattle.members.specs.Ring.{Ring, State, may, Moves, movers}
use Rattle.posts.specs.declared.memory.Memory.{Memory}
use Rattle.posts.specs.Rule.{number_in, moves_now, ticked}
use Rattle.posts.specs.Steps.{deeds_in}
use Rattle.turns.specs.Speaking.{lasting}
use Rattle.ring.specs.Bound.{twice_bound}
use Rattle.ring.specs.Machine.{Machine, Whole, Event, tick, hear, lose, press, release, Among, step, run, state_in, moves_in, post_at, post_of}
use Rattle.ring.specs.Numbers.{ring_of_posts}
use Rattle.ring.specs.Promise.{ring_of_settings, HealedIn}
use Rattle.ring.specs.TwoPosts.{two_posts, zero_machine}

-- those of the first n members that may move, in rising order
unfoldable pub holders_below : Ring → State → ℕ → List ℕ
holders_below r s zero = []
holders_below r s (suc n) = holders_below r s n ++ cond (may r s n) (n ∷ []) []

abbrev pub holders : Ring → State → List ℕ
holders r s = holders_below r s r.members

-- the same events again and again
unfoldable pub repeated : ℕ → List Event → List Event
repeated zero es = []
repeated (suc n) es = es ++ repeated n es

-- whether a frame is sent at an event
abbrev pub sends_at : Settings → Event → Machine → Bool
sends_at o (tick i) m = (deeds_in o (post_at m i)).sends
sends_at o (hear i) m = false
sends_at o (lose i) m = false
sends_at o (press i) m = false
sends_at o (release i) m = false

-- the loss of the frame of the post that an event is about, if it is chosen
abbrev pub loss_after : Bool → Event → List Event
loss_after true e = lose (post_of e) ∷ []
loss_after false e = []

abbrev pub differ : Bool → Bool → Bool
differ true b = not b
differ false b = b

-- events from a machine on, of whose frames, whoever sends them, every second one is lost as soon as it is sent; `one` says that one was sent since the last loss
unfoldable pub seconds_lost : Settings → (one : Bool) → List Event → Machine → List Event
seconds_lost o one [] m = []
seconds_lost o one (e ∷ es) m =
    e ∷ (loss_after (one && sends_at o e m) e ++ seconds_lost o (differ one (sends_at o e m)) es (run o (loss_after (one && sends_at o e m) e) (step o e m)))

abbrev pub is_loss : Event → Bool
is_loss (tick i) = false
is_loss (hear i) = false
is_loss (lose i) = true
is_loss (press i) = false
is_loss (release i) = false

unfoldable pub losses : List Event → ℕ
losses [] = 0
losses (e ∷ es) = cond (is_loss e) 1 0 + losses es

-- events about posts that are there bring a whole machine to these numbers, by so many moves
pub record Leads (o : Settings) (m : Machine) (es : List Event) (moves : ℕ) (to : State) : Type 0 where
  pub whole : Whole o.posts m
  pub among : Among o.posts es
  pub counted : moves_in o es m ≡ moves
  pub reached : state_in o (run o es m) ≡ to

-- Some beats without a loss, and more of them with every second frame lost, so many in all, lead to the same numbers by as many moves; one beat fewer doesn't yet.
pub record ComesLater (o : Settings) (m : Machine) (beat : List Event) (beats later lost moves : ℕ) (to : State) : Type 0 where
  pub more : beats < later
  pub without : Leads o m (repeated beats beat) moves to
  pub with_losses : Leads o m (seconds_lost o false (repeated later beat) m) moves to
  pub lost_are : losses (seconds_lost o false (repeated later beat) m) ≡ lost
  pub not_before : moves_in o (seconds_lost o false (repeated (pred later) beat) m) m < moves

-- A machine in which several members may move makes as many moves as the bound or more, and then one only may.
pub record ComesToOne (o : Settings) (m : Machine) (es : List Event) (from : State) (several : List ℕ) (moves : ℕ) (to : State) (alone : ℕ) : Type 0 where
  pub begins : state_in o m ≡ from
  pub several_may : holders (ring_of_settings o) (state_in o m) ≡ several
  pub unhealed : HealedIn o m → ⊥
  pub leads : Leads o m es moves to
  pub as_many : twice_bound (ring_of_settings o) ≤ 2 * moves_in o es m
  pub healed : HealedIn o (run o es m)
  pub one_may : holders (ring_of_settings o) (state_in o (run o es m)) ≡ alone ∷ []

-- A machine comes to be healed, and whole as before, with a post that speaks in its next tick.
pub record ComesToSpeak (o : Settings) (m : Machine) (es : List Event) (moves : ℕ) (to : State) (speaker : ℕ) : Type 0 where
  pub leads : Leads o m es moves to
  pub whole : Whole o.posts (run o es m)
  pub healed : HealedIn o (run o es m)
  pub there : speaker < o.posts
  pub speaks : (deeds_in o (post_at (run o es m) speaker)).speaks ≡ true
  pub token : holders (ring_of_settings o) (state_in o (run o es m)) ≡ 3 * speaker ∷ []

pub data Example : Type 0 where
  -- members that move in this order lead from the first numbers to the last, and then exactly these may move
  moving : (r : Ring) (from : State) (who : List ℕ) (to : State) (those : List ℕ) → Example
  -- the most moves until a ring is healed
  bounded : (r : Ring) (most : ℕ) → Example
  -- what a number counts as in any memory, where any tick in which the post doesn't move writes it
  counting : (k number counted : ℕ) → Example
  -- the beats that a machine needs for so many moves, and those that it needs where so many frames are lost
  delayed : (o : Settings) (m : Machine) (beat : List Event) (beats later lost moves : ℕ) (to : State) → Example
  -- events that heal a machine in which several may move
  healing : (o : Settings) (m : Machine) (es : List Event) (from : State) (several : List ℕ) (moves : ℕ) (to : State) (alone : ℕ) → Example
  -- events after which a post speaks
  speaking : (o : Settings) (m : Machine) (es : List Event) (moves : ℕ) (to : State) (speaker : ℕ) → Example

-- the claim of a row
unfoldable pub Shows : Example → Type 0
Shows (moving r from who to those) = (q : Moves r from (length who) to) × (movers q ≡ who) × (holders r to ≡ those)
Shows (bounded r most) = twice_bound r ≡ 2 * most
Shows (counting k number counted) =
    (m : Memory) → m.number ≡ number →
    (number_in k m ≡ counted) × ((p : ℕ) (button : Bool) → moves_now k p button m ≡ false → (ticked k p button m).number ≡ counted)
Shows (delayed o m beat beats later lost moves to) = ComesLater o m beat beats later lost moves to
Shows (healing o m es from several moves to alone) = ComesToOne o m es from several moves to alone
Shows (speaking o m es moves to speaker) = ComesToSpeak o m es moves to speaker

abbrev pub four : Ring
four = record { members = 4; k = 4 }

-- two posts with K = 6 that don't speak, and two that may for three ticks
abbrev pub silent : Settings
silent = two_posts 6 0 (lit≤ tt) (lit≤ tt)

abbrev pub talking : Settings
talking = two_posts 6 3 (lit≤ tt) (lit≤ tt)

-- nonsense in both memories and on both lines: numbers of K or more, waits and turns out of range, a wrong checksum, and bytes that are no frame
abbrev pub nonsense : Machine
nonsense =
    record {
      posts =
          record { place = 0; memory = record { number = 70; heard = 3; turn = lasting 2000; wait = 9; moves = 7; since = 8 }; button = false } ∷
          record { place = 1; memory = record { number = 4; heard = 65535; turn = lasting 1001; wait = 65535; moves = 0; since = 4294967295 }; button = true } ∷ [];
      lines =
          record { frame = 1 ∷ 0 ∷ 0 ∷ 2 ∷ 12 ∷ 34 ∷ []; lost = false } ∷ record { frame = 9 ∷ 200 ∷ 0 ∷ 5 ∷ 0 ∷ 0 ∷ []; lost = true } ∷ [];
    }

-- each post ticks and is then heard; and the same with one more tick of post 1 (in even beats every second frame that is sent would be one of post 1)
abbrev pub even_beat : List Event
even_beat = tick 0 ∷ hear 1 ∷ tick 1 ∷ hear 0 ∷ []

abbrev pub uneven_beat : List Event
uneven_beat = tick 0 ∷ hear 1 ∷ tick 1 ∷ tick 1 ∷ hear 0 ∷ []

unfoldable pub table : List Example
table =
    moving four (0 ∷ 0 ∷ 0 ∷ 0 ∷ []) [] (0 ∷ 0 ∷ 0 ∷ 0 ∷ []) (0 ∷ []) ∷
    moving four (0 ∷ 0 ∷ 0 ∷ 0 ∷ []) (0 ∷ []) (1 ∷ 0 ∷ 0 ∷ 0 ∷ []) (1 ∷ []) ∷
    moving four (2 ∷ 2 ∷ 2 ∷ 3 ∷ []) [] (2 ∷ 2 ∷ 2 ∷ 3 ∷ []) (3 ∷ []) ∷
    moving four (2 ∷ 2 ∷ 2 ∷ 3 ∷ []) (3 ∷ []) (2 ∷ 2 ∷ 2 ∷ 2 ∷ []) (0 ∷ []) ∷
    moving four (0 ∷ 1 ∷ 2 ∷ 3 ∷ []) [] (0 ∷ 1 ∷ 2 ∷ 3 ∷ []) (1 ∷ 2 ∷ 3 ∷ []) ∷
    moving four (0 ∷ 1 ∷ 2 ∷ 3 ∷ []) (3 ∷ 2 ∷ 1 ∷ []) (0 ∷ 0 ∷ 1 ∷ 2 ∷ []) (2 ∷ 3 ∷ []) ∷
    moving four (0 ∷ 0 ∷ 1 ∷ 2 ∷ []) (3 ∷ 2 ∷ []) (0 ∷ 0 ∷ 0 ∷ 1 ∷ []) (3 ∷ []) ∷
    moving four (0 ∷ 1 ∷ 0 ∷ 0 ∷ []) [] (0 ∷ 1 ∷ 0 ∷ 0 ∷ []) (0 ∷ 1 ∷ 2 ∷ []) ∷
    bounded (ring_of_posts 2 6) 45 ∷
    bounded (ring_of_posts 20 60) 5310 ∷
    counting 64 65535 0 ∷
    counting 64 64 0 ∷
    counting 64 63 63 ∷
    delayed silent zero_machine uneven_beat 3 17 7 18 (3 ∷ 3 ∷ 3 ∷ 3 ∷ 3 ∷ 3 ∷ []) ∷
    healing silent nonsense (release 1 ∷ repeated 8 even_beat) (0 ∷ 2 ∷ 0 ∷ 4 ∷ 5 ∷ 3 ∷ []) (1 ∷ 2 ∷ 3 ∷ 4 ∷ 5 ∷ []) 45
    (1 ∷ 1 ∷ 1 ∷ 1 ∷ 1 ∷ 1 ∷ []) 0 ∷
    speaking talking zero_machine (press 1 ∷ tick 0 ∷ hear 1 ∷ []) 3 (1 ∷ 1 ∷ 1 ∷ 0 ∷ 0 ∷ 0 ∷ []) 1 ∷
    []

-- every row of the table is true
abbrev pub Examples : Type 0
Examples = AllByRecursion Shows table
