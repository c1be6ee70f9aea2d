-- A walk over the members, looking for those that may move: what is known after the first n.
-- Assumes nothing.
use Rattle.std.proofs.Common.{◌≡◌, ℕ, ◌+◌, ◌<◌, true, false, T, [], ◌∷◌, length, is_some, Some, None, Option, sym, refl, subst, inl, inr, arith}
use Rattle.std.proofs.lemmas.Bool.{cases_eq, true≢false}
use Rattle.members.specs.declared.holders.Holders.TheVariants.{One, Several}
use Rattle.members.specs.Answers.{ring_of, Tells}
use Rattle.members.specs.Ring.{Ring, State, may}
use Rattle.members.proofs.States.{some_may, someone}

-- none of the first n may, or one only
abbrev pub Seen : Ring → State → ℕ → Option ℕ → Type 0
Seen r s n None = (j : ℕ) → j < n → T (may r s j) → ⊥
Seen r s n (Some i) = (i < n) × T (may r s i) × ((j : ℕ) → j < n → T (may r s j) → j ≡ i)

pub seen_skip : (r : Ring) (s : State) (n : ℕ) (o : Option ℕ) → Seen r s n o → may r s n ≡ false → Seen r s (n + 1) o
seen_skip r s n None h e = λ j l c.
    elim (cases_eq j n) [ inl p ↦ subst T (subst (λ x. may r s x ≡ false) (sym p) e) c | inr d ↦ h j (omega arith) c ]
seen_skip r s n (Some i) h e = (
  omega (arith, h.0),
  h.1,
  λ j l c.
      elim (cases_eq j n) [ inl p ↦ absurd (subst T (subst (λ x. may r s x ≡ false) (sym p) e) c) | inr d ↦ h.2 j (omega arith) c ],
)

pub seen_first : (r : Ring) (s : State) (n : ℕ) (o : Option ℕ) → Seen r s n o → is_some o ≡ false → may r s n ≡ true → Seen r s (n + 1) (Some n)
seen_first r s n (Some i) h f e = absurd (true≢false f)
seen_first r s n None h f e = (omega arith, subst T (sym e) tt, λ j l c. elim (cases_eq j n) [ inl p ↦ p | inr d ↦ absurd (h j (omega arith) c) ])

pub seen_second : (r : Ring) (s : State) (n i : ℕ) → Seen r s n (Some i) → may r s n ≡ true → n < r.members → Tells r s (Several i n)
seen_second r s n i h e l = (h.0, l, h.1, subst T (sym e) tt, h.2)

pub seen_one : (r : Ring) (s : State) (i : ℕ) → Seen r s r.members (Some i) → Tells r s (One i)
seen_one r s i h = record { there = h.0; may_move_now = h.1; others = h.2 }

-- some member may move, so that a walk over all of them finds one
pub seen_some : (k : ℕ) (s : State) → 0 < length s → Seen (ring_of k s) s (length s) None → ⊥
seen_some k [] l h = omega arith
seen_some k (x ∷ ys) l h =
    let o = some_may (ring_of k (x ∷ ys)) (x ∷ ys) (length (x ∷ ys)) (someone (ring_of k (x ∷ ys)) x ys refl) in
    h o.0 o.1 o.2
