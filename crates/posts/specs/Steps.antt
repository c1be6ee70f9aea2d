-- What a post does at each thing that it is told, and in a run of them. Assumes nothing.
use Rattle.std.specs.Prelude.{ℕ, ◌+◌, ◌*◌, Bool, true, false, cond, List, [], ◌∷◌, Some, None, Ok, Err, Option, Result, nat_lt, slice_index}
use Rattle.std.specs.Option.{unwrap_or}
use Rattle.lines.specs.declared.fault.Fault.{Fault}
use Rattle.lines.specs.declared.fault.Fault.TheVariants.{OutOfRange}
use Rattle.frames.specs.declared.settings.Settings.{Settings}
use Rattle.lines.specs.Checks.{first_fault}
use Rattle.frames.specs.FrameUnit.{frame_bytes, frame_checks}
use Rattle.frames.specs.SettingsUnit.{turn_of}
use Rattle.posts.specs.declared.act.Act.{Act}
use Rattle.posts.specs.declared.deeds.Deeds.{Deeds}
use Rattle.posts.specs.declared.memory.Memory.{Memory}
use Rattle.posts.specs.declared.post.Post.{Post}
use Rattle.posts.specs.declared.told.Told.{Told}
use Rattle.posts.specs.declared.told.Told.TheVariants.{Tick, Frame, ButtonDown, ButtonUp}
use Rattle.posts.specs.Rule.{number_in, may_move, deeds_of, ticked, heard_from}

-- a post of the ring has a place below the count of posts; its button is up at first
abbrev pub seated : Settings → ℕ → Memory → Result Post Fault
seated s p m = cond (nat_lt p s.posts) (Ok (record { place = p; memory = m; button = false })) (Err OutOfRange)

abbrev pub with_memory : Memory → Post → Post
with_memory m p = record { place = p.place; memory = m; button = p.button }

abbrev pub with_button : Bool → Post → Post
with_button b p = record { place = p.place; memory = p.memory; button = b }

-- whether a post has the token, and what it would do in a tick
abbrev pub has_token : Settings → Post → Bool
has_token s p = may_move s.k p.place p.memory

abbrev pub deeds_in : Settings → Post → Deeds
deeds_in s p = deeds_of s.k p.place p.button p.memory

-- the frame that a post sends
abbrev pub frame_of : Settings → Post → List ℕ
frame_of s p = frame_bytes p.place (number_in s.k p.memory)

-- the ticks that a post's turn is set to
abbrev pub turn_set : Settings → ℕ → ℕ
turn_set s p = unwrap_or (turn_of s p) 0

-- the number in a frame
abbrev pub number_carried : List ℕ → ℕ
number_carried bytes = slice_index bytes 2 * 256 + slice_index bytes 3

-- acts: nothing that shows; a refusal; what is done in a tick, the frame with the number after it
abbrev pub quiet : Act
quiet = record { speaks = false; moves = false; sends = None; refuses = None }

abbrev pub refusal : Fault → Act
refusal f = record { speaks = false; moves = false; sends = None; refuses = Some f }

abbrev pub doing : Deeds → List ℕ → Act
doing d sent = record { speaks = d.speaks; moves = d.moves; sends = cond d.sends (Some sent) None; refuses = None }

-- a tick
abbrev pub after_tick : Settings → Post → Post
after_tick s p = with_memory (ticked s.k p.place p.button p.memory) p

abbrev pub tick_step : Settings → Post → Post × Act
tick_step s p = (after_tick s p, doing (deeds_in s p) (frame_of s (after_tick s p)))

-- bytes that come to it: a frame from the post before is heard, anything else is refused and changes nothing
abbrev pub after_frame : Settings → List ℕ → Post → Post
after_frame s bytes p = with_memory (heard_from s.k p.place (turn_set s p.place) (number_carried bytes) p.memory) p

abbrev pub hear_by : Option Fault → Settings → List ℕ → Post → Post × Act
hear_by None s bytes p = (after_frame s bytes p, quiet)
hear_by (Some f) s bytes p = (p, refusal f)

abbrev pub hear_step : Settings → List ℕ → Post → Post × Act
hear_step s bytes p = hear_by (first_fault (frame_checks s.posts s.k p.place bytes)) s bytes p

-- what can happen to a post
pub data Event : Type 0 where
  tick : Event
  frame : List ℕ → Event
  down : Event
  up : Event

abbrev pub event_of : Told → Event
event_of Tick = tick
event_of (Frame bytes) = frame bytes.now
event_of ButtonDown = down
event_of ButtonUp = up

abbrev pub step_at : Settings → Event → Post → Post × Act
step_at s tick p = tick_step s p
step_at s (frame bytes) p = hear_step s bytes p
step_at s down p = (with_button true p, quiet)
step_at s up p = (with_button false p, quiet)

-- a run of events: the post after it, and its acts
abbrev pub after_run : Settings → List Event → Post → Post
after_run s [] p = p
after_run s (e ∷ es) p = after_run s es (step_at s e p).0

abbrev pub acts_in : Settings → List Event → Post → List Act
acts_in s [] p = []
acts_in s (e ∷ es) p = (step_at s e p).1 ∷ acts_in s es (step_at s e p).0

abbrev pub ticks_in : List Event → ℕ
ticks_in [] = 0
ticks_in (tick ∷ es) = ticks_in es + 1
ticks_in (frame bytes ∷ es) = ticks_in es
ticks_in (down ∷ es) = ticks_in es
ticks_in (up ∷ es) = ticks_in es
