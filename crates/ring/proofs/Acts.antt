-- What a post does in one event, with any choice of moving where it may and of sending, is as many moves of the ring as numbers that it changes. Assumes nothing.
use Rattle.std.proofs.Common.{◌≡◌, ℕ, zero, suc, ◌+◌, ◌*◌, ◌<◌, Bool, true, false, cond, eqb, List, length, get_or, set, sym, refl, ap, ◌∙◌, subst, inl, inr, add-one, arith, length-set}
use Rattle.std.proofs.lemmas.List.{get_or-set_same, get_or-set_other}
use Rattle.std.proofs.lemmas.Bool.{cases_eq}
use Rattle.members.specs.Answers.{next_by}
use Rattle.members.specs.Ring.{Enough, at, next, moved, Moves, none}
use Rattle.members.proofs.Steps.{up_below}
use Rattle.ring.specs.Numbers.{Numbers, Fit, preceding, state_of, ring_of_posts, end_before, moves, sends, hears, acts, may_move, changed}
use Rattle.ring.proofs.Changes.{changed_none, changed_one, changed_more, joined, moving, stepping}
use Rattle.ring.proofs.Places.{state_length, preceding_below}
use Rattle.ring.proofs.PostMoves.{may_post, moves_is, sends_is, hears_is, fit_state}

-- a list of numbers below k, one of them set to another such
set_below : (n k : ℕ) (xs : List ℕ) (p v : ℕ) → length xs ≡ n → p < n → v < k → ((q : ℕ) → q < n → get_or xs q 0 < k) → (q : ℕ) → q < n → get_or (set xs p v) q 0 < k
set_below n k xs p v e l b h q m =
    elim (cases_eq q p) [
      | inl z ↦ subst (λ w. w < k) (sym (ap (λ i. get_or (set xs p v) i 0) z ∙ get_or-set_same xs p v 0 (omega arith))) b
      | inr d ↦ subst (λ w. w < k) (sym (get_or-set_other xs p q v 0 d)) (h q m)
    ]

next_below : (k p b x : ℕ) → b < k → x < k → next_by k p b x < k
next_below k zero b x l m = up_below k x (omega arith)
next_below k (suc p) b x l m = l

pub fit_moves : (n k : ℕ) (x : Numbers) → Fit n k x → (p : ℕ) → p < n → Fit n k (moves k p x)
fit_moves n k x f p l = record {
  owns = length-set x.own p _ ∙ f.owns;
  sents = f.sents;
  hearings = f.hearings;
  own_below = set_below n k x.own p _ f.owns l (next_below k p _ _ (f.heard_below p l) (f.own_below p l)) f.own_below;
  sent_below = f.sent_below;
  heard_below = f.heard_below;
}

pub fit_sends : (n k : ℕ) (x : Numbers) → Fit n k x → (p : ℕ) → p < n → Fit n k (sends p x)
fit_sends n k x f p l = record {
  owns = f.owns;
  sents = length-set x.sent p _ ∙ f.sents;
  hearings = f.hearings;
  own_below = f.own_below;
  sent_below = set_below n k x.sent p _ f.sents l (f.own_below p l) f.sent_below;
  heard_below = f.heard_below;
}

pub fit_hears : (n k : ℕ) (x : Numbers) → Fit n k x → (p : ℕ) → p < n → Fit n k (hears n p x)
fit_hears n k x f p l = record {
  owns = f.owns;
  sents = f.sents;
  hearings = length-set x.heard p _ ∙ f.hearings;
  own_below = f.own_below;
  sent_below = f.sent_below;
  heard_below = set_below n k x.heard p _ f.hearings l (f.sent_below (preceding n p) (preceding_below n p l)) f.heard_below;
}

-- from the numbers x to the numbers y the ring makes as many moves as numbers change
abbrev pub Steps : ℕ → ℕ → Numbers → Numbers → Type 0
Steps n k x y = Moves (ring_of_posts n k) (state_of n x) (changed (state_of n x) (state_of n y)) (state_of n y)

module _ (n k : ℕ) (g : Enough (ring_of_posts n k)) (x : Numbers) (f : Fit n k x) (p : ℕ) (l : p < n) where
  pub moves_steps : may_move p x ≡ true → Steps n k x (moves k p x)
  moves_steps e =
      subst (λ t. Moves (ring_of_posts n k) (state_of n x) (changed (state_of n x) t) t) (sym (moves_is n k x f p l))
      (moving (ring_of_posts n k) g (state_of n x) (fit_state n k x f) (3 * p) (omega arith) (may_post n k x p l ∙ e))

  pub sends_steps : Steps n k x (sends p x)
  sends_steps =
      subst (λ t. Moves (ring_of_posts n k) (state_of n x) (changed (state_of n x) t) t) (sym (sends_is n k x f p l))
      (rw add-one (stepping (ring_of_posts n k) g (state_of n x) (fit_state n k x f) (3 * p) (omega arith)))

  pub hears_steps : Steps n k x (hears n p x)
  hears_steps =
      let b = preceding_below n p l in
      let e : end_before n p ≡ suc (3 * preceding n p + 1) = omega arith in
      subst (λ t. Moves (ring_of_posts n k) (state_of n x) (changed (state_of n x) t) t) (sym (hears_is n k x f p l))
      (rw e (stepping (ring_of_posts n k) g (state_of n x) (fit_state n k x f) (3 * preceding n p + 1) (omega arith)))

pub none_steps : (n k : ℕ) (x : Numbers) → Steps n k x x
none_steps n k x = subst (λ c. Moves (ring_of_posts n k) (state_of n x) c (state_of n x)) (sym (changed_none (state_of n x))) none

-- moving changes the post's number only, and sending the frame's only, so that the changes add up
add_up : (n k : ℕ) → (x : Numbers) → Fit n k x → (p : ℕ) → p < n →
    changed (state_of n x) (state_of n (moves k p x)) + changed (state_of n (moves k p x)) (state_of n (sends p (moves k p x))) ≡
    changed (state_of n x) (state_of n (sends p (moves k p x)))
add_up n k x f p l =
    let r = ring_of_posts n k in
    let s = state_of n x in
    let y = moves k p x in
    let u = state_of n y in
    let w = next r u (3 * p + 1) in
    let e : u ≡ moved r s (3 * p) = moves_is n k x f p l in
    let t : state_of n (sends p y) ≡ set u (3 * p + 1) w = sends_is n k y (fit_moves n k x f p l) p l in
    let a : at u (3 * p + 1) ≡ at s (3 * p + 1) = ap (λ z. at z (3 * p + 1)) e ∙ get_or-set_other s (3 * p) (3 * p + 1) (next r s (3 * p)) 0 (omega arith) in
    let b : changed u (set u (3 * p + 1) w) ≡ cond (eqb (at u (3 * p + 1)) w) 0 1 = changed_one u (3 * p + 1) w (omega (arith, state_length n y)) in
    let c : changed s (set u (3 * p + 1) w) ≡ changed s u + cond (eqb (at s (3 * p + 1)) w) 0 1 =
    changed_more s u (3 * p + 1) w (omega (arith, state_length n x)) (state_length n y ∙ sym (state_length n x)) a in
    let d : ◌≡◌ {A = ℕ} (cond (eqb (at u (3 * p + 1)) w) 0 1) (cond (eqb (at s (3 * p + 1)) w) 0 1) = ap (λ z. cond (eqb z w) 0 1) a in
    rw t (omega arith)

pub acts_steps : (n k : ℕ) → Enough (ring_of_posts n k) → (x : Numbers) → Fit n k x → (p : ℕ) → p < n → (m s : Bool) → (m ≡ true → may_move p x ≡ true) → Steps n k x (acts k p m s x)
acts_steps n k g x f p l true true h =
    let r = ring_of_posts n k in
    let y = moves k p x in
    subst (λ c. Moves r (state_of n x) c (state_of n (sends p y))) (add_up n k x f p l)
    (joined r (moves_steps n k g x f p l (h refl)) (sends_steps n k g y (fit_moves n k x f p l) p l))
acts_steps n k g x f p l true false h = moves_steps n k g x f p l (h refl)
acts_steps n k g x f p l false true h = sends_steps n k g x f p l
acts_steps n k g x f p l false false h = none_steps n k x
