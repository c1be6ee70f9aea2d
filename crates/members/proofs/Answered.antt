-- What follows from an answer: a value means that nothing was refused, and a refusal doesn't depend on what was asked.
-- Assumes nothing.
use Rattle.std.proofs.Common.{◌≡◌, ℕ, zero, suc, ◌<◌, ◌≤◌, true, false, T, length, Some, None, Ok, Err, Option, Result, sym, refl, ap, subst, arith}
use Rattle.members.specs.declared.refusal.Refusal.{Refusal}
use Rattle.members.specs.declared.refusal.Refusal.TheVariants.{NumberTooLarge}
use native.Mathlib.Nat.{suc-pred-eq_of_pos}
use Rattle.std.proofs.lemmas.Bool.{le-ltb, lt-ltb}
use Rattle.std.proofs.lemmas.Bool.Decides.{nat_tests}
use Rattle.members.specs.Answers.{answer, before, may_by, next_by, ring_of, or_else, refused_size, refused_member, refused_ring, refused_whole}
use Rattle.members.proofs.States.{below_at}
use Rattle.members.specs.Ring.{State, IsState, Enough, all_below, at, may, next}

pub accepted : {A : Type 0} (o : Option Refusal) (a v : A) → Ok v ≡ answer o a → (o ≡ None) × (v ≡ a)
accepted None a v e = (refl, cc)
accepted (Some x) a v e = (cc, cc)

pub refused : {A : Type 0} (o : Option Refusal) (a : A) (x : Refusal) → Err x ≡ answer o a → o ≡ Some x
refused None a x e = cc
refused (Some y) a x e = cc

-- the same refusal of another question
pub refuses : {A B : Type 0} (o : Option Refusal) (a : A) (b : B) (x : Refusal) → Err x ≡ answer o a → Err x ≡ answer o b
refuses None a b x e = cc
refuses (Some y) a b x e = cc

-- the answer where there is a reason to refuse
pub refuse : {A : Type 0} (o : Option Refusal) (a : A) (x : Refusal) → o ≡ Some x → Err x ≡ answer o a
refuse None a x e = cc
refuse (Some y) a x e = cc

-- an answer where nothing is refused
pub gives : {A : Type 0} (o : Option Refusal) (a v : A) → o ≡ None → v ≡ a → Ok v ≡ answer o a
gives None a v p q = cc
gives (Some y) a v p q = cc

-- a size that isn't refused
size_taken : (k : ℕ) (s : State) (o : Option Refusal) → or_else (refused_size k s) o ≡ None → (2 < length s) × (length s ≤ k) × (o ≡ None)
size_taken k s o e = (grind (arith, nat_tests), grind (arith, nat_tests), grind (arith, nat_tests))

-- a ring of the right size is refused where a number is too large, and only there
pub ring_refused : (k : ℕ) (s : State) → refused_size k s ≡ None → all_below k s ≡ false → refused_ring k s ≡ Some NumberTooLarge
ring_refused k s p q = rw (p, q)

pub ring_taken : (k : ℕ) (s : State) → refused_size k s ≡ None → all_below k s ≡ true → refused_ring k s ≡ None
ring_taken k s p q = rw (p, q)

pub whole_taken : (k : ℕ) (s : State) (i : ℕ) → refused_ring k s ≡ None → i < length s → refused_whole k s i ≡ None
whole_taken k s i p l = rw (p, lt-ltb i (length s) l)

-- what is known of a ring that was checked
pub record Checked (k : ℕ) (s : State) : Type 0 where
  pub taken : refused_ring k s ≡ None
  pub wide : length s ≤ k
  pub enough : Enough (ring_of k s)
  pub state : IsState (ring_of k s) s

pub checked : {A : Type 0} (k : ℕ) (s : State) (a v : A) → Ok v ≡ answer (refused_ring k s) a → Checked k s
checked k s a v e =
    let r = accepted (refused_ring k s) a v e in
    let z = size_taken k s _ r.0 in
    let b : all_below k s ≡ true = grind (arith, nat_tests) in
    record { taken = r.0; wide = z.1; enough = (z.0, omega (arith, z.1)); state = (refl, subst T (sym b) tt) }

before_below : (s : State) (i : ℕ) → i < length s → before s i < length s
before_below s zero l = omega (arith, suc-pred-eq_of_pos l)
before_below s (suc i) l = omega arith

-- the pair of numbers that a member looks at, where it was given: the question isn't refused, and the member's rule by these numbers is that of the ring
pub record Looked (k : ℕ) (s : State) (i b x : ℕ) : Type 0 where
  pub taken : refused_member k s i ≡ None
  pub big : 2 < length s
  pub wide : length s ≤ k
  pub there : i < length s
  pub below : x < k
  pub may_is : may_by i b x ≡ may (ring_of k s) s i
  pub next_is : next_by k i b x ≡ next (ring_of k s) s i

pub may_by_lem : (k : ℕ) (s : State) (i : ℕ) → may_by i (at s (before s i)) (at s i) ≡ may (ring_of k s) s i
unfolding may
may_by_lem k s zero = refl
may_by_lem k s (suc i) = refl

next_by_lem : (k : ℕ) (s : State) (i : ℕ) → next_by k i (at s (before s i)) (at s i) ≡ next (ring_of k s) s i
unfolding next
next_by_lem k s zero = refl
next_by_lem k s (suc i) = refl

pub looked : (k : ℕ) (s : State) (i b x : ℕ) → ◌≡◌ {A = Result (ℕ × ℕ) Refusal} (Ok (b, x)) (answer (refused_member k s i) (at s (before s i), at s i)) → Looked k s i b x
looked k s i b x e =
    let h = accepted (refused_member k s i) (at s (before s i), at s i) (b, x) e in
    let q : b ≡ at s (before s i) = ap (λ (p : ℕ × ℕ). p.0) h.1 in
    let w : x ≡ at s i = ap (λ (p : ℕ × ℕ). p.1) h.1 in
    let z = size_taken k s _ h.0 in
    record {
      taken = h.0;
      big = z.0;
      wide = z.1;
      there = grind (arith, nat_tests);
      below = grind (arith, nat_tests);
      may_is = rw (q, w) (may_by_lem k s i);
      next_is = rw (q, w) (next_by_lem k s i);
    }

-- a question about a member of a ring with its numbers isn't refused
pub member_taken : (k : ℕ) (s : State) (i : ℕ) → 2 < length s → length s ≤ k → T (all_below k s) → i < length s → refused_member k s i ≡ None
member_taken k s i g w b l =
    let a : at s (before s i) < k = below_at k s (before s i) b (before_below s i l) in
    let c : at s i < k = below_at k s i b l in
    rw (le-ltb (length s) 3 g, le-ltb k (length s) w, lt-ltb i (length s) l, lt-ltb (at s (before s i)) k a, lt-ltb (at s i) k c)
