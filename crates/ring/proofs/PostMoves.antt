-- What a post and its lines do are moves of the ring of members: a post's move is the post's, sending the frame's, hearing the end's. Assumes nothing.
use Rattle.std.proofs.Common.{◌≡◌, ℕ, zero, suc, pred, ◌+◌, ◌*◌, ◌/◌, ◌%◌, ◌<◌, false, T, List, [], ◌∷◌, length, get_or, set, sym, ap, ◌∙◌, add-one, arith}
use native.Mathlib.Nat.{suc-pred-eq_of_pos}
use Rattle.std.proofs.lemmas.List.{set-get_or}
use Rattle.std.proofs.lemmas.Bool.Decides.{nat_tests}
use Rattle.members.specs.Answers.{next_by}
use Rattle.members.specs.Ring.{Ring, State, IsState, all_below, at, up, last, may, next, moved}
use Rattle.members.proofs.States.{below_cons}
use Rattle.members.proofs.Steps.{up_below}
use Rattle.ring.specs.Numbers.{Numbers, Fit, preceding, by_part, member_of, state_of, ring_of_posts, end_before, moves, sends, hears, may_move}
use Rattle.ring.proofs.Places.{state_length, state_at, post_at_lem, frame_at, end_at, own_set, sent_set, heard_set, preceding_below, up_preceding}

-- the number before post p among the members is what the post heard
before_post : (n k : ℕ) (x : Numbers) (p : ℕ) → p < n → at (state_of n x) (end_before n p) ≡ get_or x.heard p 0
before_post n k x p l =
    let b = preceding_below n p l in
    state_at n x (end_before n p) (omega arith) ∙ (end_at n x (preceding n p) ∙ ap (λ q. get_or x.heard q 0) (up_preceding n p l))

pub own_at : (n : ℕ) (x : Numbers) (p : ℕ) → p < n → at (state_of n x) (3 * p) ≡ get_or x.own p 0
own_at n x p l = state_at n x (3 * p) (omega arith) ∙ post_at_lem n x p

pub sent_at : (n : ℕ) (x : Numbers) (p : ℕ) → p < n → at (state_of n x) (3 * p + 1) ≡ get_or x.sent p 0
sent_at n x p l = state_at n x (3 * p + 1) (omega arith) ∙ frame_at n x p

-- the last member is the end of the line to post 0
last_end : (n k : ℕ) → 0 < n → last (ring_of_posts n k) ≡ end_before n 0
last_end n k l =
    let a : suc (pred n) ≡ n = suc-pred-eq_of_pos l in
    let b : suc (pred (3 * n)) ≡ 3 * n = suc-pred-eq_of_pos {n = 3 * n} (omega arith) in
    omega arith

three_more : (p : ℕ) → 3 * suc p ≡ suc (3 * p + 2)
three_more p = omega arith

pub may_post : (n k : ℕ) (x : Numbers) (p : ℕ) → p < n → may (ring_of_posts n k) (state_of n x) (3 * p) ≡ may_move p x
unfolding may
may_post n k x zero l = rw (last_end n k l, own_at n x 0 l, before_post n k x 0 l)
may_post n k x (suc p) l =
    let a : at (state_of n x) (suc (3 * p + 2)) ≡ get_or x.own (suc p) 0 = rw (three_more p) at (own_at n x (suc p) l) in
    rw (three_more p, a, before_post n k x (suc p) l)

pub next_post : (n k : ℕ) (x : Numbers) (p : ℕ) → p < n → next (ring_of_posts n k) (state_of n x) (3 * p) ≡ next_by k p (get_or x.heard p 0) (get_or x.own p 0)
unfolding next
next_post n k x zero l = ap (up k) (own_at n x 0 l)
next_post n k x (suc p) l = rw (three_more p) (before_post n k x (suc p) l)

pub next_frame : (n k : ℕ) (x : Numbers) (p : ℕ) → p < n → next (ring_of_posts n k) (state_of n x) (3 * p + 1) ≡ get_or x.own p 0
unfolding next
next_frame n k x p l = rw add-one (own_at n x p l)

pub next_end : (n k : ℕ) (x : Numbers) (p : ℕ) → p < n → next (ring_of_posts n k) (state_of n x) (3 * p + 2) ≡ get_or x.sent p 0
unfolding next
next_end n k x p l =
    let e : 3 * p + 2 ≡ suc (3 * p + 1) = omega arith in
    rw e (sent_at n x p l)

-- each of the three is one member's move
pub moves_is : (n k : ℕ) (x : Numbers) → Fit n k x → (p : ℕ) → p < n → state_of n (moves k p x) ≡ moved (ring_of_posts n k) (state_of n x) (3 * p)
moves_is n k x f p l = own_set n x p _ l f.owns ∙ ap (set (state_of n x) (3 * p)) (sym (next_post n k x p l))

pub sends_is : (n k : ℕ) (x : Numbers) → Fit n k x → (p : ℕ) → p < n → state_of n (sends p x) ≡ moved (ring_of_posts n k) (state_of n x) (3 * p + 1)
sends_is n k x f p l = sent_set n x p _ l f.sents ∙ ap (set (state_of n x) (3 * p + 1)) (sym (next_frame n k x p l))

pub hears_is : (n k : ℕ) (x : Numbers) → Fit n k x → (p : ℕ) → p < n → state_of n (hears n p x) ≡ moved (ring_of_posts n k) (state_of n x) (end_before n p)
hears_is n k x f p l =
    heard_set n x p _ l f.hearings ∙ ap (set (state_of n x) (end_before n p)) (sym (next_end n k x (preceding n p) (preceding_below n p l)))

-- a member other than 0 that may not move and takes the number before it changes nothing
pub rests : (r : Ring) (s : State) (j : ℕ) → may r s (suc j) ≡ false → moved r s (suc j) ≡ s
unfolding may next
rests r s j h = let e : at s j ≡ at s (suc j) = grind (arith, nat_tests) in rw e (set-get_or s (suc j) 0)

-- the numbers are a state of the ring
all_below_lem : (k : ℕ) (s : List ℕ) → ((j : ℕ) → j < length s → at s j < k) → T (all_below k s)
unfolding all_below
all_below_lem k [] h = tt
all_below_lem k (x ∷ xs) h = below_cons k x xs (h 0 (omega arith)) (all_below_lem k xs (λ j l. h (suc j) (omega arith)))

part_below : (k c x y z : ℕ) → x < k → y < k → z < k → by_part c x y z < k
part_below k zero x y z a b d = a
part_below k (suc zero) x y z a b d = b
part_below k (suc (suc c)) x y z a b d = d

pub fit_state : (n k : ℕ) (x : Numbers) → Fit n k x → IsState (ring_of_posts n k) (state_of n x)
unfolding member_of
fit_state n k x f = (
  state_length n x,
  all_below_lem k (state_of n x) (λ j l.
      let m : j < 3 * n = omega (arith, state_length n x) in
      let q : j / 3 < n = omega arith in
      rw (state_at n x j m) (part_below k (j % 3) _ _ _ (f.own_below (j / 3) q) (f.sent_below (j / 3) q) (f.heard_below (up n (j / 3)) (up_below n (j / 3) (omega arith))))),
)
