-- One bit more by a rotation: where a bit comes round, the terms in the middle of the polynomial are left to subtract. Assumes nothing.
use Rattle.std.proofs.Common.{◌≡◌, ℕ, ◌+◌, ◌-◌, ◌*◌, ◌/◌, ◌%◌, ◌<◌, ◌≤◌, sym, ap, ◌∙◌, inl, inr, add-zero, arith, lit<}
use lib.Bits.{bit_and, bit_or, bit_xor, and_mask, or_shifted, or_zero_r, xor_block}
use Rattle.std.proofs.lemmas.Bool.{cases_lt}
use Rattle.sums.specs.Sum.{reduced}
use Rattle.sums.proofs.SumLaws.{shifted, shifted_is, shifted_low, reduced_high}

module _ (r t : ℕ) (h : r < 65536) (turned : t ≡ bit_or (r * 2 % 65536) (r / 32768)) where
  none_round : r < 32768 → t ≡ 2 * r
  none_round low =
      let a : r * 2 % 65536 ≡ 2 * r = omega arith in
      let b : r / 32768 ≡ 0 = omega arith in
      turned ∙ ap (λ x. bit_or x (r / 32768)) a ∙ ap (bit_or (2 * r)) b ∙ or_zero_r (2 * r)

  one_round : 32768 ≤ r → t ≡ (r - 32768) * 2 + 1
  one_round high =
      let a : r * 2 % 65536 ≡ (r - 32768) * 2 = omega arith in
      let b : r / 32768 ≡ 1 = omega arith in
      turned ∙ ap (λ x. bit_or x (r / 32768)) a ∙ ap (bit_or ((r - 32768) * 2)) b ∙ or_shifted (r - 32768) 1 1 (lit< tt)

  pub turned_even : bit_and t 1 ≡ 0 → t ≡ shifted r
  turned_even e =
      let even : t % 2 ≡ 0 = sym (and_mask t 1) ∙ e in
      elim (cases_lt r 32768) [
        | inl low ↦ none_round low ∙ sym (shifted_low r low)
        | inr high ↦ let is = one_round high in absurd (omega arith)
      ]

  pub turned_odd : (bit_and t 1 ≡ 0 → ⊥) → bit_xor t 4128 ≡ shifted r
  turned_odd n =
      let odd : t % 2 ≡ 0 → ⊥ = λ e. n (and_mask t 1 ∙ e) in
      elim (cases_lt r 32768) [
        | inl low ↦ let is = none_round low in absurd (odd (omega arith))
        | inr high ↦
            let half = r - 32768 in
            let up : 2 * r ≡ 65536 + half * 2 = omega arith in
            ap (λ x. bit_xor x 4128) (one_round high) ∙ xor_block 1 half 2064 1 0 (lit< tt) (lit< tt)
            ∙ sym (shifted_is r ∙ ap reduced up ∙ reduced_high (half * 2) (omega arith) ∙ ap (λ x. bit_xor x 4129) (sym (add-zero (half * 2)))
            ∙ xor_block 1 half 2064 0 1 (lit< tt) (lit< tt))
      ]
