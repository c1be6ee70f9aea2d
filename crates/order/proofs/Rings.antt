-- A ring of posts with its numbers is never refused.
-- Assumes nothing.
use Rattle.std.proofs.Common.{◌≡◌, ℕ, ◌*◌, ◌<◌, true, List, [], ◌∷◌, length, Some, None, refl, arith}
use Rattle.std.proofs.lemmas.Bool.{lt-ltb, le-ltb}
use Rattle.std.specs.List.{AllByRecursion}
use Rattle.members.specs.declared.refusal.Refusal.{Refusal}
use Rattle.members.specs.Answers.{refused_ring, refused_whole}
use Rattle.members.specs.Ring.{State, all_below}
use Rattle.members.proofs.Answered.{ring_taken, whole_taken}
use Rattle.frames.specs.declared.settings.Settings.{Settings}
use Rattle.order.specs.Tidings.{Numbered}

all_below_lem : (k : ℕ) (s : List ℕ) → AllByRecursion (λ x. x < k) s → all_below k s ≡ true
unfolding all_below
all_below_lem k [] h = refl
all_below_lem k (x ∷ xs) h = rw (lt-ltb x k h.0, all_below_lem k xs h.1)

pub numbered_ring : (o : Settings) (s : State) → Numbered o s → refused_ring o.k s ≡ None
numbered_ring o s h = ring_taken o.k s (rw (le-ltb (length s) 3 (omega (arith, h.0, o.some)), le-ltb o.k (length s) (omega (arith, h.0, o.enough)))) (all_below_lem o.k s h.1)

-- nor is a question about a member, whichever it is
pub numbered_post : (o : Settings) (s : State) (i : ℕ) → Numbered o s → i < 3 * o.posts → refused_whole o.k s i ≡ None
numbered_post o s i h l = whole_taken o.k s i (numbered_ring o s h) (omega (arith, h.0))

pub never_refused : (o : Settings) (s : State) (i : ℕ) (f : Refusal) → Numbered o s → refused_whole o.k s i ≡ Some f → i < 3 * o.posts → ⊥
never_refused o s i f h e l =
    let n = numbered_post o s i h l in
    let z : ◌≡◌ {A = ℕ} 0 1 = cc in
    omega arith
