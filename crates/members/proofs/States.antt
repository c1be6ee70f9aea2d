-- States of a ring, as member 0's number and the list of the others: who may move, by the numbers that differ from the one before.
-- Assumes nothing.
use Rattle.std.proofs.Common.{◌≡◌, ℕ, zero, suc, pred, ◌+◌, ◌<◌, ◌≤◌, Bool, true, false, cond, not, ◌&&◌, T, eqb, ltb, List, [], ◌∷◌, length, set, sym, refl, ap, ◌∙◌, subst, inl, inr, arith, length-set}
use Rattle.std.specs.List.{list_all}
use Rattle.std.proofs.lemmas.Bool.{cases_eq, cases_lt, cases_Bool, cases_order}
use Rattle.std.proofs.lemmas.Bool.Decides.{nat_tests}
use Rattle.members.specs.Ring.{Ring, State, IsState, Enough, all_below, at, last, may, next, moved, how_many, Healed}
use Rattle.members.specs.Turns.{Alone}
use Rattle.members.proofs.Diffs.{last_of, diffs, last_at, level, one_step}
use Rattle.members.proofs.Steps.{up_below}

-- numbers below k

pub below_first : (k x : ℕ) (xs : List ℕ) → T (all_below k (x ∷ xs)) → x < k
unfolding all_below
below_first k x xs h = grind (arith, nat_tests)

pub below_rest : (k x : ℕ) (xs : List ℕ) → T (all_below k (x ∷ xs)) → T (all_below k xs)
unfolding all_below
below_rest k x xs h = grind (arith, nat_tests)

pub below_cons : (k x : ℕ) (xs : List ℕ) → x < k → T (all_below k xs) → T (all_below k (x ∷ xs))
unfolding all_below
below_cons k x xs l h = grind (arith, nat_tests)

pub below_at : (k : ℕ) (s : List ℕ) (i : ℕ) → T (all_below k s) → i < length s → at s i < k
below_at k [] i h l = omega arith
below_at k (x ∷ xs) zero h l = below_first k x xs h
below_at k (x ∷ xs) (suc i) h l = below_at k xs i (below_rest k x xs h) (omega arith)

pub below_set : (k : ℕ) (s : List ℕ) (i v : ℕ) → T (all_below k s) → v < k → T (all_below k (set s i v))
below_set k [] i v h l = h
below_set k (x ∷ xs) zero v h l = below_cons k v xs l (below_rest k x xs h)
below_set k (x ∷ xs) (suc i) v h l = below_cons k x (set xs i v) (below_first k x xs h) (below_set k xs i v (below_rest k x xs h) l)

-- the same test of each number, in the library's words
pub all_below_is : (k : ℕ) (s : List ℕ) → list_all (λ x. ltb x k) s ≡ all_below k s
unfolding all_below
all_below_is k [] = refl
all_below_is k (x ∷ xs) = ap (λ b. ltb x k && b) (all_below_is k xs)

pub next_below : (r : Ring) → 0 < r.k → (s : State) → IsState r s → (i : ℕ) → i < r.members → next r s i < r.k
unfolding next
next_below r h s w zero l = up_below r.k (at s 0) h
next_below r h s w (suc i) l = below_at r.k s i w.1 (omega (arith, w.0))

-- a move leaves a state
pub moved_state : (r : Ring) → Enough r → (s : State) → IsState r s → (i : ℕ) → i < r.members → IsState r (moved r s i)
moved_state r g s w i l =
    (length-set s i (next r s i) ∙ w.0, below_set r.k s i (next r s i) w.1 (next_below r (omega (arith, g.0, g.1)) s w i l))

-- who may move

pub last_is : (r : Ring) (x : ℕ) (ys : List ℕ) → suc (length ys) ≡ r.members → at (x ∷ ys) (last r) ≡ last_of x ys
last_is r x ys e = ap (λ n. at (x ∷ ys) (pred n)) (sym e) ∙ last_at x ys

pub may_first : (r : Ring) (x : ℕ) (ys : List ℕ) → suc (length ys) ≡ r.members → T (may r (x ∷ ys) 0) → last_of x ys ≡ x
unfolding may
may_first r x ys e c = let f = last_is r x ys e in grind (arith, nat_tests)

pub may_other : (r : Ring) (s : State) (i : ℕ) → T (may r s (suc i)) → at s (suc i) ≡ at s i → ⊥
unfolding may
may_other r s i c e = grind (arith, nat_tests)

-- how many of members 1 to n differ from the one before
unfoldable rises : State → ℕ → ℕ
rises s zero = 0
rises s (suc n) = cond (eqb (at s (suc n)) (at s n)) 0 1 + rises s n

rises_front : (x y : ℕ) (ys : List ℕ) (n : ℕ) → rises (x ∷ y ∷ ys) (suc n) ≡ cond (eqb y x) 0 1 + rises (y ∷ ys) n
unfolding rises
rises_front x y ys zero = refl
rises_front x y ys (suc n) = let h = rises_front x y ys n in omega arith

rises_all : (x : ℕ) (ys : List ℕ) → rises (x ∷ ys) (length ys) ≡ diffs x ys
unfolding rises diffs
rises_all x [] = refl
rises_all x (y ∷ ys) = rises_front x y ys (length ys) ∙ ap (λ n. cond (eqb y x) 0 1 + n) (rises_all y ys)

flip : (b : Bool) → ◌≡◌ {A = ℕ} (cond (not b) 1 0) (cond b 0 1)
flip true = refl
flip false = refl

may_differs : (r : Ring) (s : State) (n : ℕ) → ◌≡◌ {A = ℕ} (cond (may r s (suc n)) 1 0) (cond (eqb (at s (suc n)) (at s n)) 0 1)
unfolding may
may_differs r s n = flip (eqb (at s (suc n)) (at s n))

how_many_rises : (r : Ring) (s : State) (n : ℕ) → how_many r s (suc n) ≡ cond (may r s 0) 1 0 + rises s n
unfolding how_many rises
how_many_rises r s zero = refl
how_many_rises r s (suc n) = let h = how_many_rises r s n in omega (arith, may_differs r s n)

may_closes : (r : Ring) (x : ℕ) (ys : List ℕ) → suc (length ys) ≡ r.members → ◌≡◌ {A = ℕ} (cond (may r (x ∷ ys) 0) 1 0) (cond (eqb x (last_of x ys)) 1 0)
unfolding may
may_closes r x ys e = ap (λ z. cond (eqb x z) 1 0) (last_is r x ys e)

-- how many may move: those that differ from the one before, and member 0 where its number is the last one's
pub how_many_is : (r : Ring) (x : ℕ) (ys : List ℕ) → suc (length ys) ≡ r.members →
    how_many r (x ∷ ys) r.members ≡ cond (eqb x (last_of x ys)) 1 0 + diffs x ys
how_many_is r x ys e =
    let a : how_many r (x ∷ ys) r.members ≡ how_many r (x ∷ ys) (suc (length ys)) = ap (how_many r (x ∷ ys)) (sym e) in
    omega (arith, how_many_rises r (x ∷ ys) (length ys), may_closes r x ys e, rises_all x ys)

-- healed: at most one differs from the one before it
pub healed_few : (r : Ring) (x : ℕ) (ys : List ℕ) → suc (length ys) ≡ r.members → Healed r (x ∷ ys) → diffs x ys ≤ 1
healed_few r x ys e h = omega (arith, how_many_is r x ys e)

pub few_healed : (r : Ring) (x : ℕ) (ys : List ℕ) → suc (length ys) ≡ r.members → diffs x ys ≤ 1 → Healed r (x ∷ ys)
few_healed r x ys e h =
    elim (cases_lt 0 (diffs x ys)) [
      | inl p ↦ let o : last_of x ys ≡ x → ⊥ = one_step x ys (omega arith) in let c = how_many_is r x ys e in grind (arith, nat_tests)
      | inr p ↦ let o : last_of x ys ≡ x = level x ys (omega arith) in let c = how_many_is r x ys e in grind (arith, nat_tests)
    ]

-- some member may move

pub some_may : (r : Ring) (s : State) (n : ℕ) → 0 < how_many r s n → (i : ℕ) × (i < n) × T (may r s i)
unfolding how_many
some_may r s zero h = absurd (omega arith)
some_may r s (suc n) h = elim (cases_Bool (may r s n)) [
  | inl e ↦ (n, omega arith, grind arith)
  | inr e ↦ let d = some_may r s n (grind (arith, e)) in (d.0, omega (arith, d.1), d.2)
]

pub someone : (r : Ring) (x : ℕ) (ys : List ℕ) → suc (length ys) ≡ r.members → 0 < how_many r (x ∷ ys) r.members
someone r x ys e =
    elim (cases_lt 0 (diffs x ys)) [
      | inl p ↦ omega (arith, how_many_is r x ys e)
      | inr p ↦ let o : last_of x ys ≡ x = level x ys (omega arith) in let c = how_many_is r x ys e in grind (arith, nat_tests)
    ]

-- a member that may is counted, and two of them count two
pub counted : (r : Ring) (s : State) (n i : ℕ) → i < n → T (may r s i) → 0 < how_many r s n
unfolding how_many
counted r s zero i l c = omega arith
counted r s (suc n) i l c =
    elim (cases_eq i n) [
      | inl e ↦ let d : T (may r s n) = rw e at c in grind arith
      | inr d ↦ let h = counted r s n i (omega arith) c in omega arith
    ]

pub counted_two : (r : Ring) (s : State) (n i j : ℕ) → i < j → j < n → T (may r s i) → T (may r s j) → 1 < how_many r s n
unfolding how_many
counted_two r s zero i j l m c d = omega arith
counted_two r s (suc n) i j l m c d =
    elim (cases_eq j n) [
      | inl e ↦ let f : T (may r s n) = rw e at d in let h = counted r s n i (omega arith) c in grind arith
      | inr f ↦ let h = counted_two r s n i j l (omega arith) c d in omega arith
    ]

-- in a healed state one only may
pub only : (r : Ring) (s : State) → Healed r s → (i j : ℕ) → i < r.members → j < r.members → T (may r s i) → T (may r s j) → i ≡ j
only r s h i j l m c d =
    elim (cases_order i j) [
      | inl e ↦ e
      | inr q ↦ elim q [
        | inl p ↦ let b = counted_two r s r.members i j p m c d in omega arith
        | inr p ↦ let b = counted_two r s r.members j i p l d c in omega arith
      ]
    ]

-- a state in which one only may is healed
pub alone_healed : (r : Ring) (s : State) (i : ℕ) → Alone r s i → Healed r s
unfolding how_many
alone_healed r s i a = let h = counts r.members (omega arith) in let l = a.there in grind (arith, nat_tests)
  where
    counts : (n : ℕ) → n ≤ r.members → how_many r s n ≡ cond (ltb i n) 1 0
    counts zero l = grind (arith, nat_tests)
    counts (suc n) l =
        let h = counts n (omega arith) in
        elim (cases_Bool (may r s n)) [
          | inl e ↦ let q : n ≡ i = a.others n (omega arith) (subst T (sym e) tt) in grind (arith, nat_tests)
          | inr e ↦ let q : i ≡ n → ⊥ = λ z. subst T e (subst (λ x. T (may r s x)) z a.may_move_now) in grind (arith, nat_tests)
        ]
