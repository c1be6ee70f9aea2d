-- Rings of two posts: their settings, and the machine in which all numbers are 0. Assumes nothing.
use Rattle.std.specs.Prelude.{◌≡◌, ℕ, zero, suc, ◌≤◌, false, List, [], ◌∷◌, replicate, slice_index, slice_index_or, refl}
use Rattle.std.proofs.Common.{sym, subst, zero-le, not-suc-le-zero, le_of_suc-le-suc, lit≤}
use Rattle.frames.specs.declared.settings.Settings.{Settings}
use Rattle.frames.specs.FrameUnit.{frame_bytes}
use Rattle.posts.specs.declared.post.Post.{Post}
use Rattle.turns.specs.Speaking.{lasting}
use Rattle.ring.specs.declared.line.Line.{Line}
use Rattle.ring.specs.Machine.{Machine}

-- zeros have 0 at every place
pub zeros : (n i : ℕ) → slice_index_or {A = ℕ} (replicate n 0) i 0 ≡ 0
zeros zero i = refl
zeros (suc n) zero = refl
zeros (suc n) (suc i) = zeros n i

-- a turn for each of two posts, and 0 past them
abbrev pub two_turns : ℕ → List ℕ
two_turns t = t ∷ t ∷ replicate 19 0

pub turns_short : (t : ℕ) → t ≤ 1000 → (i : ℕ) → slice_index (two_turns t) i ≤ 1000
turns_short t h zero = h
turns_short t h (suc zero) = h
turns_short t h (suc (suc i)) = subst (λ x. x ≤ 1000) (sym (zeros 19 i)) zero-le

pub turns_rest : (t : ℕ) (i : ℕ) → 2 ≤ i → slice_index (two_turns t) i ≡ 0
turns_rest t zero h = absurd (not-suc-le-zero h)
turns_rest t (suc zero) h = absurd (not-suc-le-zero (le_of_suc-le-suc h))
turns_rest t (suc (suc i)) h = zeros 19 i

-- two posts with numbers below k, each of which may speak for t ticks
abbrev pub two_posts : (k t : ℕ) → 6 ≤ k → t ≤ 1000 → Settings
two_posts k t wide short =
    record {
      posts = 2;
      k = k;
      turns = two_turns t;
      some = lit≤ tt;
      few = lit≤ tt;
      enough = wide;
      short = turns_short t short;
      rest = turns_rest t;
    }

-- a post with zeros in its memory, its button up
abbrev pub zero_post : ℕ → Post
zero_post i = record { place = i; memory = record { number = 0; heard = 0; turn = lasting 0; wait = 0; moves = 0; since = 0 }; button = false }

-- the line that has the frame of post i with number 0
abbrev pub zero_line : ℕ → Line
zero_line i = record { frame = frame_bytes i 0; lost = false }

abbrev pub zero_machine : Machine
zero_machine = record { posts = zero_post 0 ∷ zero_post 1 ∷ []; lines = zero_line 0 ∷ zero_line 1 ∷ [] }
