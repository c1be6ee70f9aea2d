-- What is promised of a post, whatever stands in its memory. Assumes nothing.
use Rattle.std.specs.Prelude.{◌≡◌, ℕ, zero, suc, ◌<◌, ◌≤◌, Bool, true, false, ◌||◌, List, [], ◌∷◌, is_some}
use Rattle.frames.specs.declared.settings.Settings.{Settings}
use Rattle.frames.specs.FrameUnit.{sender_of}
use Rattle.posts.specs.declared.act.Act.{Act}
use Rattle.posts.specs.declared.memory.Memory.{Memory}
use Rattle.posts.specs.declared.post.Post.{Post}
use Rattle.posts.specs.Rule.{largest_count, number_in, may_move, heard_from}
use Rattle.posts.specs.Steps.{Event, deeds_in, with_memory, turn_set, quiet, hear_step, after_tick, after_run, acts_in, ticks_in}

-- After a tick the numbers are below K and at most 3 ticks to sending are left. The turn is in range where the post might move, and once in range it stays so.
pub record Tidied (k p : ℕ) (m after : Memory) : Type 0 where
  pub number_below : after.number < k
  pub heard_below : after.heard < k
  pub wait_short : after.wait ≤ 3
  pub turn_cut : may_move k p m ≡ true → after.turn.left ≤ 1000
  pub turn_stays : m.turn.left ≤ 1000 → after.turn.left ≤ 1000

-- After a frame was heard the numbers are below K. The turn is in range where the frame brought the token, and once in range it stays so.
pub record Refreshed (k p : ℕ) (m after : Memory) : Type 0 where
  pub number_below : after.number < k
  pub heard_below : after.heard < k
  pub turn_cut : may_move k p m ≡ false → may_move k p after ≡ true → after.turn.left ≤ 1000
  pub turn_stays : m.turn.left ≤ 1000 → after.turn.left ≤ 1000

-- Counts stay at their largest value, but that a move begins the ticks since it anew.
pub record CountsStay (m after : Memory) (moved : Bool) : Type 0 where
  pub moves_stay : m.moves ≡ largest_count → after.moves ≡ largest_count
  pub since_stays : moved ≡ false → m.since ≡ largest_count → after.since ≡ largest_count

-- The post after it hears these bytes, and the number that this post stands for is what it has then heard.
abbrev pub Reaches : Settings → Post → List ℕ → Type 0
Reaches s p bytes =
    (q : Post) → q.place < s.posts → sender_of s.posts q.place ≡ p.place →
    hear_step s bytes q ≡ (with_memory (heard_from s.k q.place (turn_set s q.place) (number_in s.k p.memory) q.memory) q, quiet)

-- In every run with n ticks of the post it sends, whatever else happens in it.
abbrev pub any_sends : List Act → Bool
any_sends [] = false
any_sends (a ∷ acts) = is_some a.sends || any_sends acts

abbrev pub SendsWithin : ℕ → Post → Type 0
SendsWithin n p = (s : Settings) (es : List Event) → n ≤ ticks_in es → any_sends (acts_in s es p) ≡ true

-- the post after n ticks with nothing heard and no change of the button
abbrev pub after_ticks : Settings → ℕ → Post → Post
after_ticks s zero p = p
after_ticks s (suc n) p = after_ticks s n (after_tick s p)

-- A post that has the token speaks in n ticks and moves in the next, if it hears nothing in between and its button stays.
pub record MovesAfter (s : Settings) (p : Post) (n : ℕ) : Type 0 where
  pub speaks_first : (i : ℕ) → i < n → (deeds_in s (after_ticks s i p)).speaks ≡ true
  pub moves_not_yet : (i : ℕ) → i < n → (deeds_in s (after_ticks s i p)).moves ≡ false
  pub moves_then : (deeds_in s (after_ticks s n p)).moves ≡ true

-- A post that doesn't have the token neither speaks nor moves, however long it hears nothing.
pub record Waits (s : Settings) (p : Post) : Type 0 where
  pub silent : (i : ℕ) → (deeds_in s (after_ticks s i p)).speaks ≡ false
  pub still : (i : ℕ) → (deeds_in s (after_ticks s i p)).moves ≡ false

-- Posts that differ in their counts only: whatever happens to both, they do the same and differ in their counts only.
abbrev pub without_counts : Post → Post
without_counts p =
    record {
      place = p.place;
      memory = record {
        number = p.memory.number;
        heard = p.memory.heard;
        turn = p.memory.turn;
        wait = p.memory.wait;
        moves = 0;
        since = 0;
      };
      button = p.button;
    }

abbrev pub Alike : Post → Post → Type 0
Alike p q = without_counts p ≡ without_counts q

abbrev pub SameForEver : Settings → Post → Type 0
SameForEver s p = (q : Post) → Alike p q → (es : List Event) → (acts_in s es p ≡ acts_in s es q) × Alike (after_run s es p) (after_run s es q)
