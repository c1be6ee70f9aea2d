-- The chain in the tail and the weights make the potential, whose bounds keep it within 64 bits.
use Rattle.std.proofs.Common.{◌≡◌, ℕ, ◌+◌, ◌*◌, ◌-◌, ◌^◌, ◌<◌, ◌≤◌, length, take, drop, refl, sym, ap, ◌∙◌, subst, arith, length-drop}
use Rattle.std.proofs.lemmas.List.{take_all}
use Rattle.members.specs.Answers.{ring_of}
use Rattle.members.specs.Potential.{chain, potential, tail, weights}
use Rattle.members.specs.Promise.{Bounds}
use Rattle.members.specs.Ring.{State, at}
use Rattle.members.proofs.Answered.{Checked, checked, gives}
use Rattle.members.proofs.OneMove.{potential_fits, potential_least, potential_most}
use Rattle.members.proofs.Walks.{potential_parts}
use Rattle.members.proofs.potential.potential_of.Goals as goal

-- all members but the first
abbrev others : State → State
others s = take (length s - 1) (drop 1 s)

-- a ring that was checked: its potential by the chain and the weights that were counted, and that it fits
measured : (k : ℕ) (s t : State) (ch w : ℕ) → Checked k s → k < 65536 → t ≡ tail (at s 0) (others s) → ch ≡ chain k (at s 0) t → w ≡ weights (at s 0) (others s) →
    (length s * ch + w ≡ potential k s) × (potential k s < 2 ^ 64)
measured k s t ch w h l d e f =
    let n : length (drop 1 s) ≤ length s - 1 = simp length-drop (omega arith) in
    let o : others s ≡ drop 1 s = take_all (length s - 1) (drop 1 s) n in
    let q : ch ≡ chain k (at s 0) (tail (at s 0) (drop 1 s)) = e ∙ ap (chain k (at s 0)) (d ∙ ap (tail (at s 0)) o) in
    let v : w ≡ weights (at s 0) (drop 1 s) = f ∙ ap (weights (at s 0)) o in (
      ap (λ n. length s * n + w) q ∙ (ap (λ n. length s * chain k (at s 0) (tail (at s 0) (drop 1 s)) + n) v ∙ potential_parts k s (omega (arith, h.enough.0))),
      potential_fits (ring_of k s) h.enough s h.state (omega (arith, h.wide)),
    )

pub overflow_mul-result : goal.overflow_mul-result
overflow_mul-result c =
    let h = checked c.args.k c.args.numbers.now _ _ c.in_ok-check_ring.ensures in
    let m = measured c.args.k c.args.numbers.now _ _ _ h c.ranges.k.fits c.tail_of.ensures c.chain_of-chained.ensures refl in
    omega (arith, m.0, m.1)

pub overflow_add-result : goal.overflow_add-result
overflow_add-result c =
    let h = checked c.args.k c.args.numbers.now _ _ c.in_ok-check_ring.ensures in
    let m = measured c.args.k c.args.numbers.now _ _ _ h c.ranges.k.fits c.tail_of.ensures c.chain_of-chained.ensures c.weights_of.ensures in
    omega (arith, m.0, m.1)

pub returns : goal.returns
returns c =
    let k = c.args.k in
    let s = c.args.numbers.now in
    let h = checked k s _ _ c.in_ok-check_ring.ensures in
    let m = measured k s _ _ _ h c.ranges.k.fits c.tail_of.ensures c.chain_of-chained.ensures c.weights_of.ensures in
    record {
      value = gives _ _ _ h.taken m.0;
      bounds = subst (Bounds (ring_of k s) s) (sym m.0) (record { least = potential_least (ring_of k s) h.enough s h.state; most = potential_most (ring_of k s) h.enough s h.state });
    }
