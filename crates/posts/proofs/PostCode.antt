-- The code of a post is that of a member of the ring. Assumes nothing.
use Rattle.std.proofs.Common.{◌≡◌, ℕ, ◌*◌, ◌<◌, Bool, true, false, cond, ◌&&◌, length, set, sym, refl, ◌∙◌, arith, get_or-set_same}
use Rattle.std.proofs.Math.Bool.{and-true}
use Rattle.members.specs.Answers.{next_by}
use Rattle.members.specs.Ring.{State, IsState, at, may, next}
use Rattle.frames.specs.declared.settings.Settings.{Settings}
use Rattle.turns.specs.Speaking.{lasting}
use Rattle.posts.specs.declared.memory.Memory.{Memory}
use Rattle.posts.specs.Code.{Code, PostLaws, post_code, ring_of, heard_of, goes_if}
use Rattle.posts.specs.Rule.{number_in, heard_in, may_move, deeds_of, ticked}
use Rattle.posts.proofs.MemberSteps.{guard_of, next_of, tick_number}
use Rattle.posts.proofs.Norms.{norm_below, norm_is, norm_norm}

-- the number of a member that moved if it might
number_after : (b : Bool) (s : State) (i v : ℕ) → i < length s → at (cond b (set s i v) s) i ≡ cond b v (at s i)
number_after b s i v l = grind (arith, get_or-set_same)

with_button_up : (b : Bool) (x y : ℕ) → cond b x y ≡ cond (b && true) x y
with_button_up b x y = rw and-true

goes_as_member : (n k p : ℕ) (s : State) (x : Memory) → 0 < k → IsState (ring_of n k) s → p < n → at s (3 * p) ≡ number_in k x → at s (heard_of n p) ≡ heard_in k x →
    at (goes_if (ring_of n k) s (3 * p)) (3 * p) ≡ number_in k (ticked k p false x)
goes_as_member n k p s x h w l en eh =
    let guard : may (ring_of n k) s (3 * p) ≡ may_move k p x = guard_of n k p s ∙ rw (en, eh) in
    let taken : next (ring_of n k) s (3 * p) ≡ next_by k p (heard_in k x) (number_in k x) = next_of n k p s ∙ rw (en, eh) in
    let after : at (goes_if (ring_of n k) s (3 * p)) (3 * p) ≡ cond (may (ring_of n k) s (3 * p)) (next (ring_of n k) s (3 * p)) (at s (3 * p)) =
    number_after (may (ring_of n k) s (3 * p)) s (3 * p) (next (ring_of n k) s (3 * p)) (omega (arith, w.0)) in
    let same : cond (may (ring_of n k) s (3 * p)) (next (ring_of n k) s (3 * p)) (at s (3 * p)) ≡ cond (may_move k p x) (next_by k p (heard_in k x) (number_in k x)) (number_in k x) =
    rw (guard, taken, en) in
    after ∙ (same ∙ (with_button_up (may_move k p x) _ _ ∙ sym (tick_number k p (deeds_of k p false x) x h)))

pub post_laws : (s : Settings) (p : ℕ) → PostLaws s p
post_laws s p =
    let h : 0 < s.k = omega (arith, s.some, s.enough) in
    record {
      below = λ x. (norm_below s.k x.number h, norm_below s.k x.heard h);
      any = λ x y lx ly. (record { number = x; heard = y; turn = lasting 0; wait = 0; moves = 0; since = 0 }, norm_is s.k x lx, norm_is s.k y ly);
      hears_so = λ f x l. (norm_norm s.k x.number, norm_is s.k f l);
      sends_so = λ x. refl;
      goes_so = λ t x w l en eh. (goes_as_member s.posts s.k p t x h w l en eh, norm_norm s.k x.heard);
    }

-- the term, for all settings and every place
pub post_code_lem : (s : Settings) (p : ℕ) → Code s.posts s.k p
post_code_lem s p = post_code s p (post_laws s p)
