-- Each number that is found lengthens the chain by one.
use Rattle.std.proofs.Common.{◌≡◌, ℕ, List, [], ◌∷◌, ◌++◌, length, map, reverse, Bor, refl, ap, sym, ◌∙◌, add-one, arith}
use Rattle.std.proofs.lemmas.Iterator.Adapters.{YieldsList-from_rev_slice}
use Rattle.std.proofs.lemmas.Iterator.Consumers.{YieldsList-turn}
use Rattle.std.proofs.lemmas.List.{length-map, length-reverse, map-append, reverse-append}
use Rattle.members.specs.Potential.{ahead, chain}
use Rattle.members.specs.Ring.{up}
use Rattle.members.proofs.Chain.{chain_hit, chain_length, chain_miss}
use Rattle.members.proofs.potential.chain_of.Goals as goal

-- one number more stands in front of those passed
in_front : (xs : List (Bor ℕ)) (x : Bor ℕ) → reverse (map (λ y. y.now) (xs ++ x ∷ [])) ≡ x.now ∷ reverse (map (λ y. y.now) xs)
in_front xs x = simp (map-append, reverse-append) refl

pub loop-number-init : goal.loop-number-init
unfolding chain ahead
loop-number-init c = record { can = tt; finite = tt; counted = refl; next = refl }

pub overflow_add-found : goal.overflow_add-found
overflow_add-found c =
    let s = c.args.numbers.now in
    let ys = c.loop-number.yielded in
    let t = YieldsList-turn (YieldsList-from_rev_slice s cc) ys _ c.loop-number.yielded_by _ _ c.in-Some.number c.in-Some.is c.next.ensures.steps in
    let l : length (reverse s) ≡ length s = length-reverse s in
    let f = chain_length c.args.k c.args.first (reverse (map (λ (y : Bor ℕ). y.now) ys)) in
    let m : length (reverse (map (λ (y : Bor ℕ). y.now) ys)) ≡ length ys = simp (length-reverse, length-map) refl in
    omega (arith, t.0, c.loop-number.invariant.counted)

pub loop-number-preserved-then-number-wanted : goal.loop-number-preserved-then-number-wanted
unfolding ahead
loop-number-preserved-then-number-wanted c =
    let k = c.args.k in
    let x = c.args.first in
    let n = c.loop-number.invariant.next in
    let e = c.loop-number.invariant.counted in record {
      can = tt;
      finite = tt;
      counted = rw (in_front c.loop-number.yielded c.in-Some.number)
          (omega (arith, e, chain_hit k x c.in-Some.number.now (reverse (map (λ (y : Bor ℕ). y.now) c.loop-number.yielded)) (c.if-number-wanted.true ∙ (n ∙ ap (ahead k x) e))));
      next = c.one_up-wanted.ensures ∙ (ap (up k) n ∙ ap (ahead k x) (sym (add-one c.loop-number.found)));
    }

pub loop-number-preserved : goal.loop-number-preserved
loop-number-preserved c =
    let k = c.args.k in
    let x = c.args.first in
    let n = c.loop-number.invariant.next in
    let e = c.loop-number.invariant.counted in record {
      can = tt;
      finite = tt;
      counted = rw (in_front c.loop-number.yielded c.in-Some.number)
          (omega (arith, e, chain_miss k x c.in-Some.number.now (reverse (map (λ (y : Bor ℕ). y.now) c.loop-number.yielded)) (λ q. c.if-number-wanted.false (q ∙ sym (n ∙ ap (ahead k x) e)))));
      next = n;
    }
