-- What is promised of a whole ring of posts and lines. Each is a type; a term of the type is its proof. Assumes nothing.
use Rattle.std.specs.Prelude.{◌≡◌, ℕ, pred, ◌+◌, ◌*◌, ◌<◌, ◌≤◌, true, T, List, [], ◌∷◌, ◌++◌, replicate}
use Rattle.frames.specs.declared.settings.Settings.{Settings}
use Rattle.members.specs.Ring.{Ring, Healed, Moves, up, may, movers, in_turn, count}
use Rattle.members.specs.Turns.{Alone}
use Rattle.ring.specs.Machine.{Machine, Whole, Event, tick, hear, Among, run, state_in, moves_in, post_at, speakings, ticks_of}
use Rattle.posts.specs.Steps.{deeds_in}
use Rattle.ring.specs.Numbers.{ring_of_posts}

-- the ring of the members of a machine with these settings
abbrev pub ring_of_settings : Settings → Ring
ring_of_settings o = ring_of_posts o.posts o.k

-- exactly one member may move
abbrev pub HealedIn : Settings → Machine → Type 0
HealedIn o m = Healed (ring_of_settings o) (state_in o m)

-- Whatever stands in all memories and on all lines, whatever happens: the members' numbers go from the first to the last by moves of the ring, as many as were counted.
abbrev pub Refines : Type 0
Refines =
    (o : Settings) (m : Machine) → Whole o.posts m → (es : List Event) → Among o.posts es →
    Moves (ring_of_settings o) (state_in o m) (moves_in o es m) (state_in o (run o es m))

-- A healed machine: whatever happens, it stays healed; its members move in turn; and in as many moves as there are members each moves once.
pub record Orderly (o : Settings) (m : Machine) : Type 0 where
  pub stays : (es : List Event) → Among o.posts es → HealedIn o (run o es m)
  pub moves_in_turn : (es : List Event) → Among o.posts es → (q : Moves (ring_of_settings o) (state_in o m) (moves_in o es m) (state_in o (run o es m))) → T (in_turn (ring_of_settings o) (movers q))
  pub each_once : (es : List Event) → Among o.posts es → (q : Moves (ring_of_settings o) (state_in o m) (3 * o.posts) (state_in o (run o es m))) → (i : ℕ) → i < 3 * o.posts → count i (movers q) ≡ 1

-- From any machine, in any events: after three halves of members times (members - 1) moves it is healed, and all is in order from then on.
abbrev pub Heals : Type 0
Heals =
    (o : Settings) (m : Machine) → Whole o.posts m → (es : List Event) → Among o.posts es →
    3 * (3 * o.posts * pred (3 * o.posts)) ≤ 2 * moves_in o es m → HealedIn o (run o es m) × Orderly o (run o es m)

-- In a healed machine a post that speaks in a tick has the token, alone; and in a stretch of events in which no post ticks twice at most one tick speaks.
pub record Quiet (o : Settings) (m : Machine) : Type 0 where
  pub token : (i : ℕ) → i < o.posts → (deeds_in o (post_at m i)).speaks ≡ true → Alone (ring_of_settings o) (state_in o m) (3 * i)
  pub at_most_one : (es : List Event) → Among o.posts es → ((i : ℕ) → ticks_of i es ≤ 1) → speakings o es m ≤ 1

abbrev pub SpeaksAlone : Type 0
SpeaksAlone = (o : Settings) (m : Machine) → Whole o.posts m → HealedIn o m → Quiet o m

-- No content stops it: some member may move. Where that is a post, somebody moves within 1,001 ticks of it; where it is the frame on its line, within 4 ticks of the post;
-- and where it is the line's end, within 4 ticks of the post and a hear of the next one.
pub record GoesOn (o : Settings) (m : Machine) : Type 0 where
  pub some_may : (j : ℕ) × (j < 3 * o.posts) × T (may (ring_of_settings o) (state_in o m) j)
  pub by_post : (i : ℕ) → i < o.posts → T (may (ring_of_settings o) (state_in o m) (3 * i)) → 1 ≤ moves_in o (replicate 1001 (tick i)) m
  pub by_frame : (i : ℕ) → i < o.posts → T (may (ring_of_settings o) (state_in o m) (3 * i + 1)) → 1 ≤ moves_in o (replicate 4 (tick i)) m
  pub by_end : (i : ℕ) → i < o.posts → T (may (ring_of_settings o) (state_in o m) (3 * i + 2)) → 1 ≤ moves_in o (replicate 4 (tick i) ++ hear (up o.posts i) ∷ []) m

abbrev pub Progress : Type 0
Progress = (o : Settings) (m : Machine) → Whole o.posts m → GoesOn o m
