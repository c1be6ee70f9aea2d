-- All posts and lines of a ring, with any content, and what happens to them. Assumes nothing.
use Rattle.std.specs.Prelude.{◌≡◌, ℕ, ◌+◌, ◌<◌, Bool, true, false, cond, List, [], ◌∷◌, map, length, get_or, Some, None, Option, ◌==◌, slice_index_or, slice_set}
use Rattle.frames.specs.declared.settings.Settings.{Settings}
use Rattle.posts.specs.declared.deeds.Deeds.{Deeds}
use Rattle.posts.specs.declared.post.Post.{Post}
use Rattle.posts.specs.Rule.{norm, number_in, heard_in, tick_doing}
use Rattle.posts.specs.Steps.{with_button, with_memory, number_carried, deeds_in, doing, frame_of, hear_step}
use Rattle.turns.specs.Speaking.{lasting}
use Rattle.members.specs.Ring.{State}
use Rattle.ring.specs.declared.line.Line.{Line}
use Rattle.ring.specs.Numbers.{Numbers, preceding, state_of, changed}

-- post i with its button, and the line that leads from it, at place i of each list
pub record Machine : Type 0 where
  pub posts : List Post
  pub lines : List Line

-- one post and one line for each place, and each post in its place
pub record Whole (n : ℕ) (m : Machine) : Type 0 where
  pub count_of_posts : length m.posts ≡ n
  pub line_count : length m.lines ≡ n
  pub placed : (i : ℕ) (d : Post) → i < n → (get_or m.posts i d).place ≡ i

-- what a list has past its end
abbrev pub nobody : Post
nobody = record { place = 0; memory = record { number = 0; heard = 0; turn = lasting 0; wait = 0; moves = 0; since = 0 }; button = false }

abbrev pub unused : Line
unused = record { frame = []; lost = false }

abbrev pub post_at : Machine → ℕ → Post
post_at m i = slice_index_or m.posts i nobody

abbrev pub line_at : Machine → ℕ → Line
line_at m i = slice_index_or m.lines i unused

-- a frame that is sent takes the place of the one before it, and isn't lost
abbrev pub sent_on : Option (List ℕ) → Line → Line
sent_on None l = l
sent_on (Some bytes) l = record { frame = bytes; lost = false }

-- what can happen: to post i a tick, the line to it is heard, the frame on its line is lost, its button goes down or up
pub data Event : Type 0 where
  tick : ℕ → Event
  hear : ℕ → Event
  lose : ℕ → Event
  press : ℕ → Event
  release : ℕ → Event

-- a tick in which post i does what is chosen
abbrev pub post_doing : Settings → Deeds → Post → Post
post_doing o d p = with_memory (tick_doing o.k p.place d p.memory) p

abbrev pub tick_doing_of : Settings → Deeds → ℕ → Machine → Machine
tick_doing_of o d i m =
    record {
      posts = slice_set m.posts i (post_doing o d (post_at m i));
      lines = slice_set m.lines i (sent_on (doing d (frame_of o (post_doing o d (post_at m i)))).sends (line_at m i));
    }

-- a tick: post i does what its rule says
abbrev pub tick_of : Settings → ℕ → Machine → Machine
tick_of o i m = tick_doing_of o (deeds_in o (post_at m i)) i m

-- a frame that was lost isn't heard
abbrev pub hear_of : Settings → ℕ → Machine → Machine
hear_of o i m =
    cond (line_at m (preceding o.posts i)).lost m
    (record { posts = slice_set m.posts i (hear_step o (line_at m (preceding o.posts i)).frame (post_at m i)).0; lines = m.lines })

abbrev pub losing : Line → Line
losing l = record { frame = l.frame; lost = true }

abbrev pub lose_of : ℕ → Machine → Machine
lose_of i m = record { posts = m.posts; lines = slice_set m.lines i (losing (line_at m i)) }

abbrev pub button_of : Bool → ℕ → Machine → Machine
button_of b i m = record { posts = slice_set m.posts i (with_button b (post_at m i)); lines = m.lines }

unfoldable pub step : Settings → Event → Machine → Machine
step o (tick i) m = tick_of o i m
step o (hear i) m = hear_of o i m
step o (lose i) m = lose_of i m
step o (press i) m = button_of true i m
step o (release i) m = button_of false i m

unfoldable pub run : Settings → List Event → Machine → Machine
run o [] m = m
run o (e ∷ es) m = run o es (step o e m)

-- the post that an event is about
abbrev pub post_of : Event → ℕ
post_of (tick i) = i
post_of (hear i) = i
post_of (lose i) = i
post_of (press i) = i
post_of (release i) = i

-- events about posts that are there
unfoldable pub Among : ℕ → List Event → Type 0
Among n [] = Unit {0}
Among n (e ∷ es) = (post_of e < n) × Among n es

-- the numbers of a machine: a number of K or more counts as 0
unfoldable pub numbers_of : Settings → Machine → Numbers
numbers_of o m =
    record {
      own = map (λ p. number_in o.k p.memory) m.posts;
      sent = map (λ l. norm o.k (number_carried l.frame)) m.lines;
      heard = map (λ p. heard_in o.k p.memory) m.posts;
    }

-- the numbers of all members
abbrev pub state_in : Settings → Machine → State
state_in o m = state_of o.posts (numbers_of o m)

-- moves: how many members' numbers change, event by event
unfoldable pub moves_in : Settings → List Event → Machine → ℕ
moves_in o [] m = 0
moves_in o (e ∷ es) m = changed (state_in o m) (state_in o (step o e m)) + moves_in o es (step o e m)

-- whether a post speaks at an event
abbrev pub speaks_at : Settings → Event → Machine → Bool
speaks_at o (tick i) m = (deeds_in o (post_at m i)).speaks
speaks_at o (hear i) m = false
speaks_at o (lose i) m = false
speaks_at o (press i) m = false
speaks_at o (release i) m = false

-- at how many events of a run a post speaks
unfoldable pub speakings : Settings → List Event → Machine → ℕ
speakings o [] m = 0
speakings o (e ∷ es) m = cond (speaks_at o e m) 1 0 + speakings o es (step o e m)

-- how often post i ticks in a run
abbrev pub ticks_one : ℕ → Event → ℕ
ticks_one i (tick j) = cond (i == j) 1 0
ticks_one i (hear j) = 0
ticks_one i (lose j) = 0
ticks_one i (press j) = 0
ticks_one i (release j) = 0

unfoldable pub ticks_of : ℕ → List Event → ℕ
ticks_of i [] = 0
ticks_of i (e ∷ es) = ticks_one i e + ticks_of i es
