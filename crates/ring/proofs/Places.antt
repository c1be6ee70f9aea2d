-- Where each number of a ring of posts stands among its members. Assumes nothing.
use Rattle.std.proofs.Common.{◌≡◌, ℕ, zero, suc, pred, ◌+◌, ◌*◌, ◌/◌, ◌%◌, ◌<◌, ◌≢◌, length, get_or, set, sym, refl, ap, ◌∙◌, inl, inr, arith, length-set}
use native.Mathlib.Nat.{suc-pred-eq_of_pos}
use Rattle.std.proofs.lemmas.List.FromFn.{length-map-range_with_len, get_or-map-range_with_len}
use Rattle.std.proofs.lemmas.List.{ext_get_or, get_or-set_same, get_or-set_other}
use Rattle.std.proofs.lemmas.Bool.{cases_eq, cases_lt}
use Rattle.std.proofs.lemmas.Bool.Decides.{nat_tests}
use Rattle.members.specs.Ring.{at, up}
use Rattle.ring.specs.Numbers.{Numbers, preceding, by_part, member_of, state_of, end_before}

pub state_length : (n : ℕ) (x : Numbers) → length (state_of n x) ≡ 3 * n
unfolding state_of
state_length n x = length-map-range_with_len (member_of n x) 0 (3 * n)

pub state_at : (n : ℕ) (x : Numbers) (j : ℕ) → j < 3 * n → at (state_of n x) j ≡ member_of n x j
unfolding state_of
state_at n x j l = get_or-map-range_with_len (member_of n x) 0 (3 * n) j j 0 l (omega arith)

-- the number of a member by what it is: a post, a frame or an end
pub post_number : (n : ℕ) (x : Numbers) (i j : ℕ) → 3 * i ≡ j → member_of n x j ≡ get_or x.own i 0
unfolding member_of
post_number n x i j e = let part : j % 3 ≡ 0 = omega (arith, e) in let post : j / 3 ≡ i = omega (arith, e) in rw (part, post) refl

pub frame_number : (n : ℕ) (x : Numbers) (i j : ℕ) → 3 * i + 1 ≡ j → member_of n x j ≡ get_or x.sent i 0
unfolding member_of
frame_number n x i j e = let part : j % 3 ≡ 1 = omega (arith, e) in let post : j / 3 ≡ i = omega (arith, e) in rw (part, post) refl

pub end_number : (n : ℕ) (x : Numbers) (i j : ℕ) → 3 * i + 2 ≡ j → member_of n x j ≡ get_or x.heard (up n i) 0
unfolding member_of
end_number n x i j e = let part : j % 3 ≡ 2 = omega (arith, e) in let post : j / 3 ≡ i = omega (arith, e) in rw (part, post) refl

-- one member's number changed, and no other
pub state_set : (n : ℕ) (x y : Numbers) (a v : ℕ) → a < 3 * n → member_of n y a ≡ v → ((j : ℕ) → j < 3 * n → j ≢ a → member_of n y j ≡ member_of n x j) →
    state_of n y ≡ set (state_of n x) a v
state_set n x y a v l e h =
    ext_get_or 0 (state_of n y) (set (state_of n x) a v) (state_length n y ∙ (sym (state_length n x) ∙ sym (length-set (state_of n x) a v)))
    (λ j m.
    let b : j < 3 * n = omega (arith, state_length n y) in
    elim (cases_eq j a) [
      | inl q ↦
          let c : get_or (set (state_of n x) a v) j 0 ≡ v = ap (λ i. get_or (set (state_of n x) a v) i 0) q ∙ get_or-set_same (state_of n x) a v 0 (omega (arith, state_length n x)) in
          state_at n y j b ∙ (ap (member_of n y) q ∙ (e ∙ sym c))
      | inr d ↦ state_at n y j b ∙ (h j b d ∙ (sym (state_at n x j b) ∙ sym (get_or-set_other (state_of n x) a j v 0 d)))
    ])

-- the three members of a post
pub post_at_lem : (n : ℕ) (x : Numbers) (p : ℕ) → member_of n x (3 * p) ≡ get_or x.own p 0
unfolding member_of
post_at_lem n x p =
    let q : 3 * p / 3 ≡ p = omega arith in
    let r : 3 * p % 3 ≡ 0 = omega arith in
    rw (r, q)

pub frame_at : (n : ℕ) (x : Numbers) (p : ℕ) → member_of n x (3 * p + 1) ≡ get_or x.sent p 0
unfolding member_of
frame_at n x p =
    let q : (3 * p + 1) / 3 ≡ p = omega arith in
    let r : (3 * p + 1) % 3 ≡ 1 = omega arith in
    rw (r, q)

pub end_at : (n : ℕ) (x : Numbers) (p : ℕ) → member_of n x (3 * p + 2) ≡ get_or x.heard (up n p) 0
unfolding member_of
end_at n x p =
    let q : (3 * p + 2) / 3 ≡ p = omega arith in
    let r : (3 * p + 2) % 3 ≡ 2 = omega arith in
    rw (r, q)

-- a change of one list, at one post, changes one member

part_own : (c a b y z : ℕ) → (c ≡ 0 → a ≡ b) → by_part c a y z ≡ by_part c b y z
part_own zero a b y z h = h refl
part_own (suc zero) a b y z h = refl
part_own (suc (suc c)) a b y z h = refl

part_sent : (c x a b z : ℕ) → (c ≡ 1 → a ≡ b) → by_part c x a z ≡ by_part c x b z
part_sent zero x a b z h = refl
part_sent (suc zero) x a b z h = h refl
part_sent (suc (suc c)) x a b z h = refl

part_heard : (c x y a b : ℕ) → (1 < c → a ≡ b) → by_part c x y a ≡ by_part c x y b
part_heard zero x y a b h = refl
part_heard (suc zero) x y a b h = refl
part_heard (suc (suc c)) x y a b h = h (omega arith)

pub own_set : (n : ℕ) (x : Numbers) (p v : ℕ) → p < n → length x.own ≡ n →
    state_of n (record { own = set x.own p v; sent = x.sent; heard = x.heard }) ≡ set (state_of n x) (3 * p) v
unfolding member_of
own_set n x p v l e =
    state_set n x (record { own = set x.own p v; sent = x.sent; heard = x.heard }) (3 * p) v (omega arith)
    (post_at_lem n (record { own = set x.own p v; sent = x.sent; heard = x.heard }) p ∙ get_or-set_same x.own p v 0 (omega arith))
    (λ j m d. part_own (j % 3) _ _ _ _ (λ z. get_or-set_other x.own p (j / 3) v 0 (omega arith)))

pub sent_set : (n : ℕ) (x : Numbers) (p v : ℕ) → p < n → length x.sent ≡ n →
    state_of n (record { own = x.own; sent = set x.sent p v; heard = x.heard }) ≡ set (state_of n x) (3 * p + 1) v
unfolding member_of
sent_set n x p v l e =
    state_set n x (record { own = x.own; sent = set x.sent p v; heard = x.heard }) (3 * p + 1) v (omega arith)
    (frame_at n (record { own = x.own; sent = set x.sent p v; heard = x.heard }) p ∙ get_or-set_same x.sent p v 0 (omega arith))
    (λ j m d. part_sent (j % 3) _ _ _ _ (λ z. get_or-set_other x.sent p (j / 3) v 0 (omega arith)))

-- the post before, and after it again
pub preceding_below : (n p : ℕ) → p < n → preceding n p < n
preceding_below n zero l = omega (arith, suc-pred-eq_of_pos l)
preceding_below n (suc p) l = omega arith

pub up_preceding : (n p : ℕ) → p < n → up n (preceding n p) ≡ p
up_preceding n zero l = let e : suc (pred n) ≡ n = suc-pred-eq_of_pos l in grind (arith, nat_tests)
up_preceding n (suc p) l = grind (arith, nat_tests)

pub preceding_up : (n q : ℕ) → q < n → preceding n (up n q) ≡ q
preceding_up n q l = elim (cases_lt (q + 1) n) [
  | inl m ↦ let e : up n q ≡ suc q = grind (arith, nat_tests) in rw e
  | inr m ↦ let e : up n q ≡ 0 = grind (arith, nat_tests) in rw e (omega (arith, suc-pred-eq_of_pos {n = n} (omega arith)))
]

pub heard_set : (n : ℕ) (x : Numbers) (p v : ℕ) → p < n → length x.heard ≡ n →
    state_of n (record { own = x.own; sent = x.sent; heard = set x.heard p v }) ≡ set (state_of n x) (end_before n p) v
unfolding member_of
heard_set n x p v l e =
    let y : Numbers = record { own = x.own; sent = x.sent; heard = set x.heard p v } in
    let b = preceding_below n p l in
    state_set n x y (end_before n p) v (omega arith)
    (end_at n y (preceding n p) ∙ (ap (λ q. get_or (set x.heard p v) q 0) (up_preceding n p l) ∙ get_or-set_same x.heard p v 0 (omega arith)))
    (λ j m d. part_heard (j % 3) _ _ _ _ (λ z.
    get_or-set_other x.heard p (up n (j / 3)) v 0
    (λ q. let f : j / 3 ≡ preceding n p = sym (preceding_up n (j / 3) (omega arith)) ∙ ap (preceding n) q in d (omega arith))))
