-- What the code of one post must be for the ring's promises to hold of it: its states, what hearing, moving and sending do, by the rule of the ring's members.
-- Assumes nothing.
use Rattle.std.specs.Prelude.{◌≡◌, ℕ, zero, suc, ◌+◌, ◌*◌, ◌<◌, false, cond}
use Rattle.members.specs.Ring.{Ring, State, IsState, at, may, moved, last}
use Rattle.frames.specs.declared.settings.Settings.{Settings}
use Rattle.posts.specs.declared.memory.Memory.{Memory}
use Rattle.posts.specs.Rule.{number_in, heard_in, ticked, heard_from}
use Rattle.posts.specs.Steps.{turn_set}

-- the ring of n posts: post p is member 3 p, the frame on its line member 3 p + 1, the end of that line member 3 p + 2
abbrev pub ring_of : ℕ → ℕ → Ring
ring_of n k = record { members = 3 * n; k = k }

-- the member before post p, whose number post p heard last
abbrev pub heard_of : ℕ → ℕ → ℕ
heard_of n zero = last (ring_of n 1)
heard_of n (suc p) = 3 * p + 2

-- the state after member i moved if it might
abbrev pub goes_if : Ring → State → ℕ → State
goes_if r s i = cond (may r s i) (moved r s i) s

-- Memory: whatever stands in it is some number and some number heard, below k
pub record Code (n k p : ℕ) : Type 1 where
  pub Memory : Type 0
  pub number : Memory → ℕ
  pub heard : Memory → ℕ
  pub below : (x : Memory) → (number x < k) × (heard x < k)
  pub hears : (frame : ℕ) → Memory → Memory
  pub goes_on : Memory → Memory
  pub sends : Memory → ℕ
  -- any numbers may stand in a memory
  pub any : (x y : ℕ) → x < k → y < k → (m : Memory) × (number m ≡ x) × (heard m ≡ y)
  pub hears_so : (f : ℕ) (x : Memory) → f < k → (number (hears f x) ≡ number x) × (heard (hears f x) ≡ f)
  pub sends_so : (x : Memory) → sends x ≡ number x
  -- it moves just as the member does, in whatever ring it stands
  pub goes_so : (s : State) (x : Memory) → IsState (ring_of n k) s → p < n → at s (3 * p) ≡ number x → at s (heard_of n p) ≡ heard x →
      (at (goes_if (ring_of n k) s (3 * p)) (3 * p) ≡ number (goes_on x)) × (heard (goes_on x) ≡ heard x)

-- The laws of such a code, for given definitions.
pub record Laws (n k p : ℕ) (M : Type 0) (number heard : M → ℕ) (hears : ℕ → M → M) (goes_on : M → M) (sends : M → ℕ) : Type 0 where
  pub below : (x : M) → (number x < k) × (heard x < k)
  pub any : (x y : ℕ) → x < k → y < k → (m : M) × (number m ≡ x) × (heard m ≡ y)
  pub hears_so : (f : ℕ) (x : M) → f < k → (number (hears f x) ≡ number x) × (heard (hears f x) ≡ f)
  pub sends_so : (x : M) → sends x ≡ number x
  pub goes_so : (s : State) (x : M) → IsState (ring_of n k) s → p < n → at s (3 * p) ≡ number x → at s (heard_of n p) ≡ heard x →
      (at (goes_if (ring_of n k) s (3 * p)) (3 * p) ≡ number (goes_on x)) × (heard (goes_on x) ≡ heard x)

-- The laws of a post at place p: its code is a tick with the button up, a number heard, and the number in the frame that it sends.
abbrev pub PostLaws : Settings → ℕ → Type 0
PostLaws s p =
    Laws s.posts s.k p Memory (number_in s.k) (heard_in s.k) (heard_from s.k p (turn_set s p)) (ticked s.k p false) (number_in s.k)

-- the post's code, by its laws
abbrev pub post_code : (s : Settings) (p : ℕ) → PostLaws s p → Code s.posts s.k p
post_code s p laws =
    record {
      Memory = Memory;
      number = number_in s.k;
      heard = heard_in s.k;
      below = laws.below;
      hears = heard_from s.k p (turn_set s p);
      goes_on = ticked s.k p false;
      sends = number_in s.k;
      any = laws.any;
      hears_so = laws.hears_so;
      sends_so = laws.sends_so;
      goes_so = laws.goes_so;
    }
