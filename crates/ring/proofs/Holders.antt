-- How many may move after one number has changed: the guards of two members only can change. Assumes nothing.
use Rattle.std.proofs.Common.{◌≡◌, ℕ, zero, suc, ◌+◌, ◌<◌, ◌≤◌, cond, eqb, ltb, ◌≢◌, length, set, sym, refl, ap, ◌∙◌, inl, inr, arith}
use Rattle.std.proofs.lemmas.Bool.{cases_eq, cond-true, cond-false, eq-eqb, ne_eqb}
use Rattle.std.proofs.lemmas.Bool.Decides.{nat_tests}
use Rattle.members.specs.Ring.{Ring, State, at, may, how_many, after}
use Rattle.ring.specs.Tallies.{Countable, Counted, held_near, noted, one_more}
use Rattle.ring.specs.declared.tally.Tally.{Tally}
use Rattle.ring.specs.Numbers.{changed}
use Rattle.ring.proofs.Changes.{changed_none, changed_one}
use Rattle.members.proofs.OneMove.{others_keep}
use Rattle.members.proofs.Steps.{up_below, up_moves}

-- K plays no part in who may move
may_any : (n k l : ℕ) (s : State) (i : ℕ) → may (record { members = n; k = k }) s i ≡ may (record { members = n; k = l }) s i
unfolding may
may_any n k l s zero = refl
may_any n k l s (suc i) = refl

pub count_any : (n k l : ℕ) (s : State) (i : ℕ) → how_many (record { members = n; k = k }) s i ≡ how_many (record { members = n; k = l }) s i
unfolding how_many
count_any n k l s zero = refl
count_any n k l s (suc i) = ap (λ b. cond b 1 0 + how_many (record { members = n; k = k }) s i) (may_any n k l s i) ∙ ap (λ c. cond (may (record { members = n; k = l }) s i) 1 0 + c) (count_any n k l s i)

-- so a count for one K is a count for every K
pub countable_counted : (k : ℕ) (s : State) (holders : ℕ) → Countable k s holders → Counted s holders
countable_counted k s holders c = record { big = c.big; counted = λ l. c.counted ∙ count_any (length s) k l s (length s) }

-- what two members count for, among members 0 to n - 1
abbrev part : Ring → State → ℕ → ℕ → ℕ
part r s n a = cond (ltb a n) (cond (may r s a) 1 0) 0

-- two states whose guards agree but at a and b
two_differ : (r : Ring) (s t : State) (a b n : ℕ) → a ≢ b → ((i : ℕ) → i < n → i ≢ a → i ≢ b → may r t i ≡ may r s i) →
    how_many r t n + (part r s n a + part r s n b) ≡ how_many r s n + (part r t n a + part r t n b)
unfolding how_many
two_differ r s t a b zero d h = grind (arith, nat_tests)
two_differ r s t a b (suc n) d h =
    let i = two_differ r s t a b n d (λ j l p q. h j (omega arith) p q) in
    elim (cases_eq n a) [
      | inl e ↦ let f : ◌≡◌ {A = ℕ} (cond (may r s n) 1 0) (cond (may r s a) 1 0) = ap (λ z. cond (may r s z) 1 0) e in
          let g : ◌≡◌ {A = ℕ} (cond (may r t n) 1 0) (cond (may r t a) 1 0) = ap (λ z. cond (may r t z) 1 0) e in
          grind (arith, nat_tests)
      | inr p ↦ elim (cases_eq n b) [
        | inl e ↦ let f : ◌≡◌ {A = ℕ} (cond (may r s n) 1 0) (cond (may r s b) 1 0) = ap (λ z. cond (may r s z) 1 0) e in
            let g : ◌≡◌ {A = ℕ} (cond (may r t n) 1 0) (cond (may r t b) 1 0) = ap (λ z. cond (may r t z) 1 0) e in
            grind (arith, nat_tests)
        | inr q ↦ let f : ◌≡◌ {A = ℕ} (cond (may r t n) 1 0) (cond (may r s n) 1 0) = ap (λ z. cond z 1 0) (h n (omega arith) p q) in grind (arith, nat_tests)
      ]
    ]

pub shifted : (r : Ring) (s : State) (j v : ℕ) → 2 < r.members → j < r.members →
    how_many r (set s j v) r.members + held_near r s j ≡ how_many r s r.members + held_near r (set s j v) j
shifted r s j v g l =
    let b : after r j < r.members = up_below r.members j (omega arith) in
    let d : j ≢ after r j = λ e. up_moves r.members j (omega arith) (sym e) in
    let h = two_differ r s (set s j v) j (after r j) r.members d (λ i m p q. others_keep r s j v i l m p q) in
    grind (arith, nat_tests)

pub few : (r : Ring) (s : State) (n : ℕ) → how_many r s n ≤ n
unfolding how_many
few r s zero = omega arith
few r s (suc n) = let h = few r s n in grind (arith, nat_tests)

pub near_few : (r : Ring) (s : State) (j : ℕ) → held_near r s j ≤ 2
near_few r s j = grind (arith, nat_tests)

-- a number that stays is no move, another one is
pub noted_same : (r : Ring) (s : State) (j v : ℕ) (y : Tally) → j < length s → at s j ≡ v → noted r s (set s j v) y ≡ y
unfolding noted
noted_same r s j v y l e =
    let c : changed s (set s j v) ≡ 0 = changed_one s j v l ∙ grind (arith, nat_tests) in
    cond-true (eqb (changed s (set s j v)) 0) _ _ (eq-eqb (changed s (set s j v)) 0 c)

pub noted_other : (r : Ring) (s : State) (j v : ℕ) (y : Tally) → j < length s → (at s j ≡ v → ⊥) → noted r s (set s j v) y ≡ one_more (how_many r (set s j v) r.members) y
unfolding noted
noted_other r s j v y l d =
    let c : changed s (set s j v) ≡ 1 = changed_one s j v l ∙ grind (arith, nat_tests) in
    cond-false (eqb (changed s (set s j v)) 0) _ _ (ne_eqb (changed s (set s j v)) 0 (omega arith))

pub noted_none : (r : Ring) (s : State) (y : Tally) → noted r s s y ≡ y
unfolding noted
noted_none r s y = cond-true (eqb (changed s s) 0) _ _ (eq-eqb (changed s s) 0 (changed_none s))

-- a note counts one move at most
pub noted_moves : (r : Ring) (s t : State) (y : Tally) → (noted r s t y).moves ≤ y.moves + 1
unfolding noted
noted_moves r s t y = elim (cases_eq (changed s t) 0) [
  | inl q ↦ rw (eq-eqb (changed s t) 0 q) (omega arith)
  | inr d ↦ rw (ne_eqb (changed s t) 0 d) (omega arith)
]

pub noted_ap : {r q : Ring} {s t u v : State} {y z : Tally} → r ≡ q → s ≡ t → u ≡ v → y ≡ z → noted r s u y ≡ noted q t v z
noted_ap {r} {q} {s} {t} {u} {v} {y} {z} a b c d = cc
