-- One move of a ring: the chain and the potential fall, no more may move than before, and once one only may, the one after it is next.
-- Assumes nothing.
use Rattle.std.proofs.Common.{◌≡◌, ℕ, zero, suc, pred, ◌*◌, ◌^◌, ◌<◌, ◌≤◌, T, ◌≢◌, List, [], ◌∷◌, length, set, sym, ap, ◌∙◌, inl, inr, mul_comm, mul-le-mul, mul-le-mul_left, mul-suc, arith, length-set}
use native.Mathlib.Nat.{suc-pred-eq_of_pos}
use Rattle.std.proofs.lemmas.List.{get_or-set_same, get_or-set_other}
use Rattle.std.proofs.lemmas.Bool.{cases_eq, cases_lt}
use Rattle.std.proofs.lemmas.Bool.Decides.{nat_tests}
use Rattle.members.specs.Ring.{Ring, State, IsState, Enough, at, last, up, may, next, moved, Healed, after}
use Rattle.members.specs.Potential.{chain, tail, weights, chained, potential}
use Rattle.members.specs.Promise.{NeverStill, NoMore, Stays, PotentialFalls, PotentialLeast, PotentialMost, Better}
use Rattle.members.proofs.Chain.{chain_length, tail_length, chain_tail, tail_copy, tail_up}
use Rattle.members.proofs.Diffs.{last_of, diffs, diffs_front, diffs_copy}
use Rattle.members.proofs.States.{below_first, may_first, may_other, how_many_is, few_healed, some_may, someone, counted, only, moved_state}
use Rattle.members.proofs.Steps.{up_moves}
use Rattle.members.proofs.Weights.{weights_most, weights_front, weights_copy, weights_two}

pub suc_last : (r : Ring) → 0 < r.members → suc (last r) ≡ r.members
suc_last r l = suc-pred-eq_of_pos l

-- a state that isn't healed has two that differ
not_few : (r : Ring) (x : ℕ) (ys : List ℕ) → suc (length ys) ≡ r.members → (Healed r (x ∷ ys) → ⊥) → 1 < diffs x ys
not_few r x ys e n = elim (cases_lt 1 (diffs x ys)) [ inl p ↦ p | inr p ↦ absurd (n (few_healed r x ys e p)) ]

-- the chain falls by one with a move of member 0 in a state that isn't healed, and no other move lengthens it
pub first_shortens : (r : Ring) → Enough r → (x : ℕ) (ys : List ℕ) → IsState r (x ∷ ys) → (Healed r (x ∷ ys) → ⊥) → T (may r (x ∷ ys) 0) →
    suc (chained r.k (moved r (x ∷ ys) 0)) ≤ chained r.k (x ∷ ys)
unfolding next chained
first_shortens r g x ys w n c =
    let d : 1 < diffs x ys = not_few r x ys w.0 n in
    let k : suc (chain r.k (up r.k x) ys) ≡ chain r.k x (tail x ys) =
    tail_up r.k x ys (omega (arith, g.0, g.1)) (below_first r.k x ys w.1) (omega (arith, w.0, g.1)) (may_first r x ys w.0 c) (omega arith) in
    omega (arith, chain_tail r.k (up r.k x) (up r.k x) ys)

pub other_keeps : (r : Ring) → Enough r → (x : ℕ) (ys : List ℕ) → IsState r (x ∷ ys) → (i : ℕ) →
    chained r.k (moved r (x ∷ ys) (suc i)) ≤ chained r.k (x ∷ ys)
unfolding next chained
other_keeps r g x ys w i = tail_copy r.k x ys i (omega (arith, g.0, g.1)) (below_first r.k x ys w.1)

-- the chain is shorter than the ring
pub chain_fits : (r : Ring) → Enough r → (s : State) → IsState r s → chained r.k s < r.members
unfolding chained
chain_fits r g [] w = omega (arith, g.0)
chain_fits r g (x ∷ ys) w = omega (arith, chain_length r.k x (tail x ys), tail_length x ys, w.0)

-- the potential

pub potential_falls : PotentialFalls
unfolding potential next
potential_falls r g [] w n i l c = omega (arith, w.0, g.0)
potential_falls r g (x ∷ ys) w n zero l c =
    let h = first_shortens r g x ys w n c in
    let m = mul-le-mul_left (suc (length ys)) h in
    let f = weights_front (up r.k x) x ys in
    let p = mul-suc (suc (length ys)) (chained r.k (moved r (x ∷ ys) 0)) in
    omega arith
potential_falls r g (x ∷ ys) w n (suc i) l c =
    let h = other_keeps r g x ys w i in
    let m = mul-le-mul_left (suc (length ys)) h in
    let f : weights x (set ys i (at (x ∷ ys) i)) < weights x ys = weights_copy x ys i (omega (arith, w.0)) (may_other r (x ∷ ys) i c) in
    let e : length (set ys i (at (x ∷ ys) i)) ≡ length ys = length-set ys i (at (x ∷ ys) i) in
    rw e (omega arith)

pub potential_least : PotentialLeast
unfolding potential
potential_least r g [] w n = omega (arith, w.0, g.0)
potential_least r g (x ∷ ys) w n = let h = weights_two x ys (not_few r x ys w.0 n) in omega arith

pub potential_most : PotentialMost
unfolding potential
potential_most r g [] w = omega arith
potential_most r g (x ∷ ys) w =
    let c : chained r.k (x ∷ ys) ≤ length ys = omega (arith, chain_fits r g (x ∷ ys) w, w.0) in
    let m = mul-le-mul_left (suc (length ys)) c in
    let v = weights_most x ys in
    let q : length ys * suc (length ys) ≡ suc (length ys) * length ys = mul_comm (length ys) (suc (length ys)) in
    let e : r.members * pred r.members ≡ suc (length ys) * length ys = ap (λ n. n * pred n) (sym w.0) in
    omega arith

-- a ring of fewer than 65,536 members has a potential that fits 64 bits
pub potential_fits : (r : Ring) → Enough r → (s : State) → IsState r s → r.members < 65536 → potential r.k s < 2 ^ 64
potential_fits r g s w l =
    let p : pred r.members ≤ 65535 = omega (arith, suc_last r (omega (arith, g.0))) in
    let q : r.members * pred r.members ≤ 65536 * 65535 = mul-le-mul {n₁ = r.members} {m₁ = pred r.members} {n₂ = 65536} {m₂ = 65535} (omega arith) p in
    omega (arith, potential_most r g s w)

-- how many may

pub never_still : NeverStill
never_still r g [] w = absurd (omega (arith, w.0, g.0))
never_still r g (x ∷ ys) w = some_may r (x ∷ ys) r.members (someone r x ys w.0)

pub no_more : NoMore
unfolding next last_of
no_more r g [] w i l c = omega (arith, w.0, g.0)
no_more r g (x ∷ []) w i l c = omega (arith, w.0, g.0)
no_more r g (x ∷ y ∷ ys) w zero l c =
    let u : up r.k x ≡ x → ⊥ = up_moves r.k x (omega (arith, g.0, g.1)) in
    let e : last_of y ys ≡ x = may_first r x (y ∷ ys) w.0 c in
    let d = diffs_front (up r.k x) x (y ∷ ys) in
    let a = how_many_is r x (y ∷ ys) w.0 in
    let b = how_many_is r (up r.k x) (y ∷ ys) w.0 in
    grind (arith, nat_tests)
no_more r g (x ∷ y ∷ ys) w (suc i) l c =
    let a = how_many_is r x (y ∷ ys) w.0 in
    let b = how_many_is r x (set (y ∷ ys) i (at (x ∷ y ∷ ys) i)) (ap suc (length-set (y ∷ ys) i (at (x ∷ y ∷ ys) i)) ∙ w.0) in
    let d = diffs_copy x x (y ∷ ys) i (omega (arith, w.0)) (may_other r (x ∷ y ∷ ys) i c) in
    omega arith

-- a member other than 0 that has moved has the number of the one before
pub settled : (r : Ring) (s : State) → IsState r s → (i : ℕ) → suc i < r.members → at (moved r s (suc i)) (suc i) ≡ at (moved r s (suc i)) i
unfolding next
settled r s w i l =
    let a : at (moved r s (suc i)) (suc i) ≡ at s i = get_or-set_same s (suc i) (at s i) 0 (omega (arith, w.0)) in
    let b : at (moved r s (suc i)) i ≡ at s i = get_or-set_other s (suc i) i (at s i) 0 (omega arith) in
    a ∙ sym b

-- a member that has moved may not move again at once
pub mover_rests : (r : Ring) → Enough r → (s : State) → IsState r s → (i : ℕ) → i < r.members → T (may r s i) → T (may r (moved r s i) i) → ⊥
unfolding may next
mover_rests r g s w zero l c d =
    let u : up r.k (at s 0) ≡ at s 0 → ⊥ = up_moves r.k (at s 0) (omega (arith, g.0, g.1)) in
    let e : last r ≢ 0 = omega (arith, suc_last r l, g.0) in
    let a : at (moved r s 0) 0 ≡ up r.k (at s 0) = get_or-set_same s 0 (up r.k (at s 0)) 0 (omega (arith, w.0)) in
    let b : at (moved r s 0) (last r) ≡ at s (last r) = get_or-set_other s 0 (last r) (up r.k (at s 0)) 0 e in
    let f : at s 0 ≡ at s (last r) = grind (arith, nat_tests) in
    let h : at (moved r s 0) 0 ≡ at (moved r s 0) (last r) = grind (arith, nat_tests) in
    u (sym a ∙ (h ∙ (b ∙ sym f)))
mover_rests r g s w (suc i) l c d = may_other r (moved r s (suc i)) i d (settled r s w i l)

-- another number of member i changes who may at i and at the one after i, and nowhere else
pub others_keep : (r : Ring) (s : State) (i v j : ℕ) → i < r.members → j < r.members → j ≢ i → j ≢ after r i → may r (set s i v) j ≡ may r s j
unfolding may
others_keep r s i v zero l m d f =
    let e : suc (last r) ≡ r.members = suc_last r m in
    let n : last r ≢ i = grind (arith, nat_tests) in
    rw (get_or-set_other s i 0 v 0 d, get_or-set_other s i (last r) v 0 n)
others_keep r s i v (suc j) l m d f =
    let n : j ≢ i = grind (arith, nat_tests) in
    rw (get_or-set_other s i (suc j) v 0 d, get_or-set_other s i j v 0 n)

pub stays : Stays
stays r g s w h i l c =
    let v : IsState r (moved r s i) = moved_state r g s w i l in
    let a = no_more r g s w i l c in
    let o = never_still r g (moved r s i) v in
    let n = counted r (moved r s i) r.members o.0 o.1 o.2 in
    let t : o.0 ≡ after r i = elim (cases_eq o.0 (after r i)) [
      | inl e ↦ e
      | inr d ↦
          let m : o.0 ≢ i = λ e. mover_rests r g s w i l c (rw e at o.2) in
          let k : may r (moved r s i) o.0 ≡ may r s o.0 = others_keep r s i (next r s i) o.0 l o.1 m d in
          absurd (m (only r s h o.0 i o.1 l (rw k at o.2) c))
    ] in
    (omega arith, rw t at o.2)

pub betters : (r : Ring) → Enough r → (s : State) → IsState r s → (i : ℕ) → i < r.members → T (may r s i) → Better r s (moved r s i) i
betters r g s w i l c = record {
  no_more = no_more r g s w i l c;
  stays = λ h. stays r g s w h i l c;
  falls = λ d. potential_falls r g s w d i l c;
}
