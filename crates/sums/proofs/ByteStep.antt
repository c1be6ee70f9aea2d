-- The eight bits of a byte added at once by rotations: what comes round stands for x^12 + x^5 + 1 each, and of the upper half of that some comes round once more.
-- Assumes nothing.
use Rattle.std.proofs.Common.{◌≡◌, ℕ, zero, suc, ◌+◌, ◌*◌, ◌/◌, ◌%◌, ◌<◌, Bool, true, ◌&&◌, eqb, sym, refl, ap, ◌∙◌, subst, inl, inr, add-zero, zero-add, arith, lit<}
use lib.Bits.{bit_and, bit_or, bit_xor, and_mask, or_shifted, xor_assoc, xor_block, xor_comm, xor_lt, xor_shifted, xor_zero_r}
use Rattle.std.proofs.lemmas.Bool.{and_parts, cases_eq, eqb-true}
use Rattle.sums.specs.Sum.{bits_down, remainder}
use Rattle.sums.proofs.SumLaws.{shifted, shifted_small, shifted_xor, shifts, byte_shifted}

-- a number of 16 bits turned left by 5, 8 and 12 bits
abbrev by5 : ℕ → ℕ
by5 v = bit_or (v * 32 % 65536) (v / 2048)

abbrev pub by8 : ℕ → ℕ
by8 v = bit_or (v * 256 % 65536) (v / 256)

abbrev by12 : ℕ → ℕ
by12 v = bit_or (v * 4096 % 65536) (v / 16)

-- a byte that comes round, with what of it comes round once more
abbrev carried : ℕ → ℕ
carried t = bit_xor t (t / 16)

-- what a byte that comes round leaves
abbrev round : ℕ → ℕ
round t = bit_xor (bit_xor t (by5 (carried t))) (by12 (carried t))

-- eight shifts of each byte below n: in the upper half of the register it comes round, in the lower half it moves up
round_same : ℕ → Bool
round_same zero = true
round_same (suc n) = (eqb (shifts 8 (n * 256)) (round n) && eqb (shifts 8 n) (n * 256)) && round_same n

all_same : round_same 256 ≡ true
unfolding round_same shifts
all_same = refl

same_at : (n t : ℕ) → round_same n ≡ true → t < n → (shifts 8 (t * 256) ≡ round t) × (shifts 8 t ≡ t * 256)
unfolding round_same
same_at zero t e h = absurd (omega arith)
same_at (suc n) t e h =
    elim (cases_eq t n) [
      | inl same ↦
          let p = and_parts _ _ (and_parts _ _ e).0 in
          subst (λ x. (shifts 8 (x * 256) ≡ round x) × (shifts 8 x ≡ x * 256)) (sym same) (eqb-true _ _ p.0, eqb-true _ _ p.1)
      | inr other ↦ same_at n t (and_parts _ _ e).1 (omega arith)
    ]

shifts_xor : (k r s : ℕ) → r < 65536 → s < 65536 → shifts k (bit_xor r s) ≡ bit_xor (shifts k r) (shifts k s)
unfolding shifts
shifts_xor zero r s h l = refl
shifts_xor (suc k) r s h l = ap (shifts k) (shifted_xor r s h l) ∙ shifts_xor k (shifted r) (shifted s) (shifted_small r h) (shifted_small s l)

module _ (r b : ℕ) (h : r < 65536) (l : b < 256) where
  low : ℕ
  low = r % 256

  high : ℕ
  high = bit_xor (r / 256) b

  high_small : high < 256
  unfolding high
  high_small = xor_lt 8 (r / 256) b (omega arith) l

  -- the register turned by a byte, with the new one
  turned_is : bit_xor (by8 r) b ≡ low * 256 + high
  unfolding low high
  turned_is =
      let a : r * 256 % 65536 ≡ r % 256 * 256 = omega arith in
      let turned : by8 r ≡ r % 256 * 256 + r / 256 = ap (λ x. bit_or x (r / 256)) a ∙ or_shifted (r % 256) 8 (r / 256) (omega arith) in
      ap (λ x. bit_xor x b) turned ∙ ap (bit_xor (r % 256 * 256 + r / 256)) (sym (zero-add b))
      ∙ xor_block 8 (r % 256) 0 (r / 256) b (omega arith) l ∙ ap (λ x. x * 256 + bit_xor (r / 256) b) (xor_zero_r (r % 256))

  -- the register with the new byte in its upper half
  placed_is : bit_xor r (b * 256) ≡ bit_xor (high * 256) low
  unfolding low high
  placed_is =
      let parts : r / 256 * 256 + r % 256 ≡ r = omega arith in
      ap (λ x. bit_xor x (b * 256)) (sym parts) ∙ ap (bit_xor (r / 256 * 256 + r % 256)) (sym (add-zero (b * 256)))
      ∙ xor_block 8 (r / 256) b (r % 256) 0 (omega arith) (lit< tt) ∙ ap (λ x. bit_xor (r / 256) b * 256 + x) (xor_zero_r (r % 256))
      ∙ sym (xor_shifted (bit_xor (r / 256) b) 8 (r % 256) (omega arith))

  pub byte_turned : (t c : ℕ) → t ≡ bit_xor (by8 r) b → c ≡ bit_xor (bit_and t 255) (bit_and t 255 / 16) →
      bit_xor (bit_xor t (by5 c)) (by12 c) ≡ remainder r (bits_down 8 b)
  unfolding low
  byte_turned t c e f =
      let is : t ≡ low * 256 + high = e ∙ turned_is in
      let kept : bit_and t 255 ≡ high = and_mask t 8 ∙ omega (arith, is, high_small) in
      let same : c ≡ carried high = f ∙ ap carried kept in
      let s = same_at 256 high all_same high_small in
      let small : low < 256 = omega arith in
      let m = same_at 256 low all_same small in
      ap (λ x. bit_xor (bit_xor x (by5 c)) (by12 c)) (is ∙ sym (xor_shifted low 8 high high_small))
      ∙ ap (λ x. bit_xor (bit_xor (bit_xor (low * 256) high) (by5 x)) (by12 x)) same
      ∙ ap (λ x. bit_xor x (by12 (carried high))) (xor_assoc (low * 256) high (by5 (carried high)))
      ∙ xor_assoc (low * 256) (bit_xor high (by5 (carried high))) (by12 (carried high))
      ∙ xor_comm (low * 256) (round high)
      ∙ ap (λ x. bit_xor x (low * 256)) (sym s.0) ∙ ap (bit_xor (shifts 8 (high * 256))) (sym m.1)
      ∙ sym (shifts_xor 8 (high * 256) low (omega (arith, high_small)) (omega arith))
      ∙ ap (shifts 8) (sym placed_is) ∙ byte_shifted r b (b * 256) h l refl
