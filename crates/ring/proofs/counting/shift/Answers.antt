-- The guards of two members only can change.
use Rattle.std.proofs.Common.{◌≡◌, ℕ, ◌+◌, ◌<◌, ◌≤◌, length, set, refl, ap, arith, length-set}
use Rattle.members.specs.Answers.{ring_of}
use Rattle.members.specs.Ring.{State, how_many}
use Rattle.ring.specs.Tallies.{Counted, held_near}
use Rattle.ring.proofs.Holders.{shifted, few, near_few}
use Rattle.ring.proofs.counting.shift.Goals as goal

-- the count before and after, by what was looked at
balanced : (s : State) (j v h a b : ℕ) → Counted s h → j < length s → ((k : ℕ) → a ≡ held_near (ring_of k s) s j) → ((k : ℕ) → b ≡ held_near (ring_of k (set s j v)) (set s j v) j) → (k : ℕ) →
    (how_many (ring_of k s) (set s j v) (length s) + a ≡ h + b) × (h ≤ length s) × (b ≤ 2)
balanced s j v h a b g l p q k =
    let t = set s j v in
    let e : held_near (ring_of k t) t j ≡ held_near (ring_of k s) t j = ap (λ n. held_near (record { members = n; k = k }) t j) (length-set s j v) in
    let f = q k in
    (omega (arith, shifted (ring_of k s) s j v g.big l, g.counted k, p k), omega (arith, few (ring_of k s) s (length s), g.counted k), omega (arith, near_few (ring_of k t) t j))

pub overflow_add-result : goal.overflow_add-result
overflow_add-result c =
    let b = balanced c.args.numbers.now c.args.j c.args.value c.args.holders _ _ c.requires.counted c.requires.there c.held_near-before.ensures c.held_near.ensures 0 in
    omega (arith, b.1, b.2)

pub overflow_sub-result : goal.overflow_sub-result
overflow_sub-result c =
    let b = balanced c.args.numbers.now c.args.j c.args.value c.args.holders _ _ c.requires.counted c.requires.there c.held_near-before.ensures c.held_near.ensures 0 in
    omega (arith, b.0)

pub returns : goal.returns
returns c = record {
  after = refl;
  value = λ k.
      let b = balanced c.args.numbers.now c.args.j c.args.value c.args.holders _ _ c.requires.counted c.requires.there c.held_near-before.ensures c.held_near.ensures k in
      omega (arith, b.0);
}
