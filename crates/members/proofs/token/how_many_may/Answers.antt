-- Those that have the token, a one for each, added up.
use Rattle.std.proofs.Common.{◌≡◌, ℕ, zero, suc, ◌+◌, ◌^◌, ◌≤◌, ◌<◌, Bool, true, false, ◌&&◌, ltb, cond, fold, length, Some, None, Option, MatchOption, unwrap_or, refl, ap, ◌∙◌, subst, sym, arith, rules, add-one}
use Rattle.std.specs.List.{range_with_len, sum_by}
use Rattle.std.proofs.lemmas.Bool.{lt-ltb, le-ltb}
use Rattle.std.proofs.lemmas.Iterator.{YieldsList-from_range, YieldsList-from_map}
use Rattle.std.proofs.lemmas.Iterator.Consumers.{sum_by_from_yields_List, fits_by_from_yields_list}
use borrow.Author.Tests.{tests}
use Rattle.members.specs.Answers.{ring_of}
use Rattle.members.specs.Ring.{Ring, State, may, how_many}
use Rattle.members.proofs.Answered.{checked, gives}
use Rattle.members.proofs.token.how_many_may.Goals as goal

-- a member of the ring that may move
abbrev there : Ring → State → ℕ → Bool
there r s i = ltb i (length s) && may r s i

there_is : (k : ℕ) (s : State) (i : ℕ) (o : Option Bool) → MatchOption o (length s ≤ i) (λ b. (i < length s) × ((k : ℕ) → b ≡ may (ring_of k s) s i)) →
    unwrap_or o false ≡ there (ring_of k s) s i
there_is k s i None h = rw (le-ltb i (length s) h) refl
there_is k s i (Some b) h = rw (lt-ltb i (length s) h.0) (h.1 k)

-- one for such a member
abbrev one : Ring → State → ℕ → ℕ
one r s i = cond (there r s i) 1 0

-- those from a on, added to the members before a
added_from : (r : Ring) (s : State) (n a m acc : ℕ) → m ≡ a + n → m ≤ length s → acc ≡ how_many r s a → fold (λ z i. z + one r s i) acc (range_with_len a n) ≡ how_many r s m
unfolding how_many
added_from r s zero a m acc e l h =
    let q : a ≡ m = omega arith in
    h ∙ ap (how_many r s) q
added_from r s (suc n) a m acc e l h =
    let p : there r s a ≡ may r s a = rw (lt-ltb a (length s) (omega arith)) refl in
    let q : how_many r s (a + 1) ≡ cond (may r s a) 1 0 + how_many r s a = rw add-one refl in
    added_from r s n (a + 1) m (acc + one r s a) (omega arith) l (rw p (omega (arith, h, q)))

summed : (r : Ring) (s : State) → sum_by (one r s) (range_with_len 0 (length s)) ≡ how_many r s (length s)
unfolding how_many
summed r s = added_from r s (length s) 0 (length s) 0 (omega arith) (omega arith) refl

one_at_most : (b : Bool) → cond b 1 0 ≤ 1
one_at_most true = omega arith
one_at_most false = omega arith

few : (r : Ring) (s : State) (n : ℕ) → how_many r s n ≤ n
unfolding how_many
few r s zero = omega arith
few r s (suc n) = omega (arith, few r s n, one_at_most (may r s n))

pub sum-count-requires-clause-fits : goal.sum-count-requires-clause-fits
sum-count-requires-clause-fits c =
    let s = c.args.numbers.now in
    let n = length s in
    let r = ring_of c.args.k s in
    let h = checked c.args.k s _ _ c.in_ok-check_ring.ensures in
    fits_by_from_yields_list (one r s) (range_with_len 0 n) c.map-ones.result (2 ^ 64)
    (YieldsList-from_map _ (one r s) (YieldsList-from_range 0 n n (cc) (omega arith)) c.map-ones.ensures.closure (λ x y q k. search (rules, tests, there_is)))
    (subst (λ z. z < 2 ^ 64) (sym (summed r s)) (omega (arith, few r s n, h.wide)))

pub returns : goal.returns
returns c =
    let s = c.args.numbers.now in
    let n = length s in
    let r = ring_of c.args.k s in
    let h = checked c.args.k s _ _ c.in_ok-check_ring.ensures in
    let e : c.sum-count.result ≡ sum_by (one r s) (range_with_len 0 n) =
    sum_by_from_yields_List (one r s) (range_with_len 0 n) c.map-ones.result _ c.sum-count.ensures.ran
    (YieldsList-from_map _ (one r s) (YieldsList-from_range 0 n n (cc) (omega arith)) c.map-ones.ensures.closure (λ x y q k. search (rules, tests, there_is))) in
    gives _ _ _ h.taken (e ∙ summed r s)
