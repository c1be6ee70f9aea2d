-- What a script of orders does to a ring of posts and lines, and what is said of it. Assumes nothing.
use Rattle.std.specs.Prelude.{◌≡◌, ℕ, suc, ◌+◌, ◌*◌, ◌<◌, Bool, cond, List, [], ◌∷◌, ◌++◌, map, length, drop, Some, None, Option, ◌==◌, slice_index, slice_index_or}
use Rattle.lines.specs.declared.fault.Fault.{Fault}
use Rattle.commands.specs.declared.order.Order.{Order}
use Rattle.commands.specs.declared.order.Order.TheVariants.{Tick, Hear, Lose, Memory, Frame, ButtonDown, ButtonUp, Show}
use Rattle.frames.specs.declared.settings.Settings.{Settings}
use Rattle.lines.specs.Checks.{first_fault}
use Rattle.lines.specs.Hex.{Line, line_of, is_blank, line_checks}
use Rattle.commands.specs.OrderUnit.{order_fields}
use Rattle.members.specs.Ring.{State}
use Rattle.posts.specs.declared.memory.Memory.{Memory as PostMemory}
use Rattle.posts.specs.declared.post.Post.{Post}
use Rattle.posts.specs.Steps.{deeds_in}
use Rattle.turns.specs.Speaking.{lasting}
use Rattle.ring.specs.declared.tally.Tally.{Tally}
use Rattle.ring.specs.declared.line.Line.{Line as RingLine}
use Rattle.ring.specs.Disturbances.{memory_becomes, frame_becomes}
use Rattle.ring.specs.Events.{tallied}
use Rattle.ring.specs.Machine.{Machine, Event, tick, hear, lose, press, release, post_at, step, state_in}
use Rattle.ring.specs.Promise.{ring_of_settings}
use Rattle.ring.specs.Tallies.{anew}

-- each post stands in its place
abbrev pub Seated : List Post → Type 0
Seated ps = (i : ℕ) (d : Post) → i < length ps → (slice_index_or ps i d).place ≡ i

-- slices in which a ring with these settings can be played
pub record Fitting (o : Settings) (ps : List Post) (ls : List RingLine) (s : State) : Type 0 where
  pub count_of_posts : length ps ≡ o.posts
  pub line_count : length ls ≡ o.posts
  pub count_of_numbers : length s ≡ 3 * o.posts
  pub seated : Seated ps

-- the machine and the tally of its moves since the last disturbance
pub record Stage : Type 0 where
  pub machine : Machine
  pub tally : Tally

-- something happens
abbrev pub happened : Settings → Event → Stage → Stage
happened o e x = record { machine = step o e x.machine; tally = tallied o e x.machine x.tally }

-- counting begins with this machine
abbrev pub begins : Settings → Machine → Stage
begins o m = record { machine = m; tally = anew (ring_of_settings o) (state_in o m) }

-- two bytes and four as a number, the high byte first
abbrev pub word_at : List ℕ → ℕ → ℕ
word_at bs i = slice_index bs i * 256 + slice_index bs (i + 1)

abbrev pub count_at : List ℕ → ℕ → ℕ
count_at bs i = word_at bs i * 65536 + word_at bs (i + 2)

-- the memory that sixteen bytes stand for
abbrev pub memory_in : List ℕ → PostMemory
memory_in bs =
    record {
      number = word_at bs 0;
      heard = word_at bs 2;
      turn = lasting (word_at bs 4);
      wait = word_at bs 6;
      moves = count_at bs 8;
      since = count_at bs 12;
    }

-- an order to post p is obeyed
unfoldable pub obeyed : Settings → ℕ → Order → Stage → Stage
obeyed o p Tick x = happened o (tick p) x
obeyed o p Hear x = happened o (hear p) x
obeyed o p Lose x = happened o (lose p) x
obeyed o p (Memory bs) x = begins o (memory_becomes p (memory_in bs) x.machine)
obeyed o p (Frame bs) x = begins o (frame_becomes p bs x.machine)
obeyed o p ButtonDown x = happened o (press p) x
obeyed o p ButtonUp x = happened o (release p) x
obeyed o p Show x = x

-- what is said: at a show of post p the numbers of all members, for each post whether it would speak in a tick now, and p's counts; of a refused line its number and its fault
pub data Saying : Type 0 where
  shown : (p : ℕ) (numbers : State) (speakers : List Bool) (moves since : ℕ) → Saying
  refused : (line : ℕ) (fault : Fault) → Saying

abbrev pub speakers_in : Settings → Machine → List Bool
speakers_in o m = map (λ p. (deeds_in o p).speaks) m.posts

abbrev pub show : Settings → ℕ → Machine → Saying
show o p m = shown p (state_in o m) (speakers_in o m) (post_at m p).memory.moves (post_at m p).memory.since

unfoldable pub answered : Settings → ℕ → Order → Machine → List Saying
answered o p Tick m = []
answered o p Hear m = []
answered o p Lose m = []
answered o p (Memory bs) m = []
answered o p (Frame bs) m = []
answered o p ButtonDown m = []
answered o p ButtonUp m = []
answered o p Show m = show o p m ∷ []

-- the order with a number from 1 to 8 and these bytes after it
abbrev pub order_of : ℕ → List ℕ → Order
order_of what bs =
    cond (what == 1) Tick (cond (what == 2) Hear (cond (what == 3) Lose (cond (what == 4) (Memory bs)
    (cond (what == 5) (Frame bs) (cond (what == 6) ButtonDown (cond (what == 7) ButtonUp Show))))))

-- the first fault of a line that should hold an order
unfoldable pub line_fault : Settings → Line → Option Fault
line_fault o l = first_fault (line_checks l (order_fields o.posts l.bytes))

-- a line with bytes on it, by its fault: byte 1 is the post, byte 2 says what is to be done
abbrev pub stage_by : Option Fault → Settings → List ℕ → Stage → Stage
stage_by None o bs x = obeyed o (slice_index bs 1) (order_of (slice_index bs 2) (drop 3 bs)) x
stage_by (Some f) o bs x = x

abbrev pub says_by : Option Fault → Settings → ℕ → List ℕ → Machine → List Saying
says_by None o n bs m = answered o (slice_index bs 1) (order_of (slice_index bs 2) (drop 3 bs)) m
says_by (Some f) o n bs m = refused n f ∷ []

-- a line, by what it holds: one with nothing on it is passed over, a refused one changes nothing and is said
unfoldable pub stage_of_line : Settings → Line → Stage → Stage
stage_of_line o l x = cond (is_blank l) x (stage_by (line_fault o l) o l.bytes x)

unfoldable pub says_of_line : Settings → ℕ → Line → Machine → List Saying
says_of_line o n l m = cond (is_blank l) [] (says_by (line_fault o l) o n l.bytes m)

-- line n of a script, by its text
unfoldable pub line_stage : Settings → List ℕ → Stage → Stage
line_stage o text x = stage_of_line o (line_of text) x

unfoldable pub line_says : Settings → ℕ → List ℕ → Machine → List Saying
line_says o n text m = says_of_line o n (line_of text) m

-- the lines of a script, one after the other, those before it being n
unfoldable pub played : Settings → List (List ℕ) → Stage → Stage
played o [] x = x
played o (l ∷ ls) x = played o ls (line_stage o l x)

unfoldable pub sayings : Settings → ℕ → List (List ℕ) → Stage → List Saying
sayings o n [] x = []
sayings o n (l ∷ ls) x = line_says o (suc n) l x.machine ++ sayings o (suc n) ls (line_stage o l x)
