-- Laws of the checksum: it is linear over exclusive or, and the bits of a byte can be added at once. Assumes nothing.
use Rattle.std.proofs.Common.{◌≡◌, ℕ, zero, suc, ◌+◌, ◌-◌, ◌*◌, ◌/◌, ◌%◌, ◌^◌, ◌<◌, List, [], ◌∷◌, sym, refl, ap, ◌∙◌, subst, inl, inr, add-zero, mul_assoc, mul_comm, add-mul, pow-suc, zero-add, zero-mul, one-add, arith, lit<, pow_pos, pow-add, shl_lt}
use native.Mathlib.Nat.{mod-one}
use lib.Bits.{bit_xor, xor_block, xor_assoc, xor_comm, xor_lt, xor_self, xor_zero_r, xor_shifted}
use lib.Pow.{mod-pow-add}
use Rattle.std.specs.List.{flat_map, fold}
use Rattle.std.proofs.lemmas.List.Sums.{fold-append}
use Rattle.std.proofs.lemmas.List.Concat.{flat_map-cons}
use Rattle.std.proofs.lemmas.Nat.{mod_below}
use Rattle.std.proofs.lemmas.Bool.{le-leb, lt-leb, cases_lt, cond-true, cond-false}
use Rattle.sums.specs.Sum.{reduced, with_bit, bits_down, remainder}

-- exclusive or

pub xor_scaled : (k a b : ℕ) → bit_xor (a * 2 ^ k) (b * 2 ^ k) ≡ bit_xor a b * 2 ^ k
xor_scaled k a b =
    let e : bit_xor (a * 2 ^ k + 0) (b * 2 ^ k + 0) ≡ bit_xor a b * 2 ^ k + 0 = xor_block k a b 0 0 (pow_pos k) (pow_pos k) in
    simp add-zero at e

pub xor_middle : (a b c d : ℕ) → bit_xor (bit_xor a b) (bit_xor c d) ≡ bit_xor (bit_xor a c) (bit_xor b d)
xor_middle a b c d =
    xor_assoc a b (bit_xor c d)
    ∙ ap (bit_xor a) (sym (xor_assoc b c d) ∙ ap (λ x. bit_xor x d) (xor_comm b c) ∙ xor_assoc c b d)
    ∙ sym (xor_assoc a c (bit_xor b d))

pub xor_twice : (a b : ℕ) → bit_xor (bit_xor a b) b ≡ a
xor_twice a b = xor_assoc a b b ∙ ap (bit_xor a) (xor_self b) ∙ xor_zero_r a

-- the remainder of a number of 17 bits

pub reduced_low : (v : ℕ) → v < 65536 → reduced v ≡ v
reduced_low v h = cond-false _ _ _ (lt-leb 65536 v h)

-- the 17th bit gone, the rest of the polynomial is left to subtract
pub reduced_high : (v : ℕ) → v < 65536 → reduced (65536 + v) ≡ bit_xor v 4129
reduced_high v h =
    cond-true _ _ _ (le-leb 65536 (65536 + v) (omega arith)) ∙ xor_block 16 1 1 v 4129 h (lit< tt) ∙ zero-add (bit_xor v 4129)

-- what holds of 16 bits, and of 16 bits under a 17th, holds of a number of 17 bits
by_top : (P : ℕ → Type 0) → ((v : ℕ) → v < 65536 → P v) → ((v : ℕ) → v < 65536 → P (65536 + v)) → (v : ℕ) → v < 131072 → P v
by_top P low high v h =
    elim (cases_lt v 65536) [
      | inl l ↦ low v l
      | inr l ↦ let e : 65536 + (v - 65536) ≡ v = omega arith in subst P e (high (v - 65536) (omega arith))
    ]

pub reduced_small : (v : ℕ) → v < 131072 → reduced v < 65536
reduced_small v h =
    by_top (λ x. reduced x < 65536) (λ x l. subst (λ y. y < 65536) (sym (reduced_low x l)) l)
    (λ x l. subst (λ y. y < 65536) (sym (reduced_high x l)) (xor_lt 16 x 4129 l (lit< tt))) v h

low_high : (v w : ℕ) → v < 65536 → w < 65536 → bit_xor v (65536 + w) ≡ 65536 + bit_xor v w
low_high v w h k = ap (λ x. bit_xor x (65536 + w)) (sym (zero-add v)) ∙ xor_block 16 0 1 v w h k

high_high : (v w : ℕ) → v < 65536 → w < 65536 → bit_xor (65536 + v) (65536 + w) ≡ bit_xor v w
high_high v w h k = xor_block 16 1 1 v w h k ∙ zero-add (bit_xor v w)

Additive : ℕ → ℕ → Type 0
Additive v w = reduced (bit_xor v w) ≡ bit_xor (reduced v) (reduced w)

module _ (v w : ℕ) (h : v < 65536) (k : w < 65536) where
  both_low : Additive v w
  unfolding Additive
  both_low = reduced_low _ (xor_lt 16 v w h k) ∙ sym (ap (λ x. bit_xor x (reduced w)) (reduced_low v h) ∙ ap (bit_xor v) (reduced_low w k))

  one_high : Additive v (65536 + w)
  unfolding Additive
  one_high =
      ap reduced (low_high v w h k) ∙ reduced_high _ (xor_lt 16 v w h k) ∙ xor_assoc v w 4129
      ∙ sym (ap (λ x. bit_xor x (reduced (65536 + w))) (reduced_low v h) ∙ ap (bit_xor v) (reduced_high w k))

  both_high : Additive (65536 + v) (65536 + w)
  unfolding Additive
  both_high =
      ap reduced (high_high v w h k) ∙ reduced_low _ (xor_lt 16 v w h k)
      ∙ sym (ap (λ x. bit_xor x (reduced (65536 + w))) (reduced_high v h) ∙ ap (bit_xor (bit_xor v 4129)) (reduced_high w k)
      ∙ xor_middle v 4129 w 4129 ∙ xor_zero_r (bit_xor v w))

turned_round : (v w : ℕ) → Additive v w → Additive w v
unfolding Additive
turned_round v w e = ap reduced (xor_comm w v) ∙ e ∙ xor_comm (reduced v) (reduced w)

pub reduced_xor : (v w : ℕ) → v < 131072 → w < 131072 → reduced (bit_xor v w) ≡ bit_xor (reduced v) (reduced w)
unfolding Additive
reduced_xor v w h k =
    by_top (λ x. Additive x w)
    (λ x l. by_top (Additive x) (λ y m. both_low x y l m) (λ y m. one_high x y l m) w k)
    (λ x l. by_top (Additive (65536 + x)) (λ y m. turned_round y (65536 + x) (one_high y x m l)) (λ y m. both_high x y l m) w k) v h

-- one bit more

bit_placed : (r b : ℕ) → r < 65536 → b < 2 → bit_xor (2 * r) (65536 * b) < 131072
bit_placed r b h k = xor_lt 17 (2 * r) (65536 * b) (omega arith) (omega arith)

pub with_bit_small : (r b : ℕ) → r < 65536 → b < 2 → with_bit r b < 65536
with_bit_small r b h k = reduced_small _ (bit_placed r b h k)

xor_double : (a b : ℕ) → 2 * bit_xor a b ≡ bit_xor (2 * a) (2 * b)
xor_double a b =
    mul_comm 2 (bit_xor a b) ∙ sym (xor_scaled 1 a b) ∙ ap (λ x. bit_xor x (b * 2)) (mul_comm a 2) ∙ ap (bit_xor (2 * a)) (mul_comm b 2)

xor_placed : (a b : ℕ) → 65536 * bit_xor a b ≡ bit_xor (65536 * a) (65536 * b)
xor_placed a b =
    mul_comm 65536 (bit_xor a b) ∙ sym (xor_scaled 16 a b) ∙ ap (λ x. bit_xor x (b * 65536)) (mul_comm a 65536)
    ∙ ap (bit_xor (65536 * a)) (mul_comm b 65536)

pub with_bit_xor : (r s b c : ℕ) → r < 65536 → s < 65536 → b < 2 → c < 2 →
    with_bit (bit_xor r s) (bit_xor b c) ≡ bit_xor (with_bit r b) (with_bit s c)
with_bit_xor r s b c hr hs hb hc =
    ap reduced (ap (λ x. bit_xor x (65536 * bit_xor b c)) (xor_double r s) ∙ ap (bit_xor (bit_xor (2 * r) (2 * s))) (xor_placed b c)
    ∙ xor_middle (2 * r) (2 * s) (65536 * b) (65536 * c))
    ∙ reduced_xor _ _ (bit_placed r b hr hb) (bit_placed s c hs hc)

-- a bit that is 0 only shifts
abbrev pub shifted : ℕ → ℕ
shifted r = with_bit r 0

pub shifted_is : (r : ℕ) → shifted r ≡ reduced (2 * r)
shifted_is r = ap reduced (xor_zero_r (2 * r))

pub shifted_small : (r : ℕ) → r < 65536 → shifted r < 65536
shifted_small r h = with_bit_small r 0 h (lit< tt)

pub shifted_xor : (r s : ℕ) → r < 65536 → s < 65536 → shifted (bit_xor r s) ≡ bit_xor (shifted r) (shifted s)
shifted_xor r s h k = with_bit_xor r s 0 0 h k (lit< tt) (lit< tt)

pub shifted_low : (r : ℕ) → r < 32768 → shifted r ≡ 2 * r
shifted_low r h = shifted_is r ∙ reduced_low (2 * r) (omega arith)

-- a bit can be put into the highest place before the shift
with_bit_shifted : (r b : ℕ) → with_bit r b ≡ shifted (bit_xor r (b * 32768))
with_bit_shifted r b =
    sym (shifted_is (bit_xor r (b * 32768)) ∙ ap reduced (xor_double r (b * 32768) ∙ ap (bit_xor (2 * r)) placed))
  where
    placed : 2 * (b * 32768) ≡ 65536 * b
    placed = omega arith

unfoldable pub shifts : ℕ → ℕ → ℕ
shifts zero r = r
shifts (suc k) r = shifts k (shifted r)

-- the k + 1 low bits of a number, moved up to 16 bits, by the highest of them and the rest
bits_split : (k j v : ℕ) → k + j ≡ 15 → v % 2 ^ suc k * 2 ^ j ≡ (v / 2 ^ k % 2) * 32768 + v % 2 ^ k * 2 ^ j
bits_split k j v e =
    ap (λ n. v % 2 ^ n * 2 ^ j) (sym (one-add k)) ∙ ap (λ x. x * 2 ^ j) (mod-pow-add v 1 k)
    ∙ add-mul (v / 2 ^ k % 2 * 2 ^ k) (v % 2 ^ k) (2 ^ j)
    ∙ ap (λ x. x + v % 2 ^ k * 2 ^ j)
    (mul_assoc (v / 2 ^ k % 2) (2 ^ k) (2 ^ j) ∙ ap (λ x. v / 2 ^ k % 2 * x) (sym (pow-add 2 k j) ∙ ap (λ n. 2 ^ n) e))

-- k bits can be put into the k highest places before k shifts
pub bits_shifted : (k j r v : ℕ) → k + j ≡ 16 → r < 65536 → remainder r (bits_down k v) ≡ shifts k (bit_xor r (v % 2 ^ k * 2 ^ j))
unfolding shifts
bits_shifted zero j r v e h =
    let none : v % 1 * 2 ^ j ≡ 0 = ap (λ x. x * 2 ^ j) (mod-one v) ∙ zero-mul (2 ^ j) in
    sym (ap (bit_xor r) none ∙ xor_zero_r r)
bits_shifted (suc k) j r v e h =
    let top = v / 2 ^ k % 2 in
    let low = v % 2 ^ k * 2 ^ j in
    let bit : top < 2 = mod_below (v / 2 ^ k) 2 (lit< tt) in
    let long : k + j ≡ 15 = omega arith in
    let below : low < 32768 = subst (λ n. low < 2 ^ n) long (shl_lt k j (mod_below v (2 ^ k) (pow_pos k))) in
    let twice : v % 2 ^ k * 2 ^ suc j ≡ 2 * low = ap (λ x. v % 2 ^ k * x) (pow-suc 2 j) ∙ sym (mul_assoc (v % 2 ^ k) (2 ^ j) 2) ∙ mul_comm low 2 in
    let rest = bits_shifted k (suc j) (with_bit r top) v (omega arith) (with_bit_small r top h bit) in
    let moved : bit_xor r (top * 32768) < 65536 = xor_lt 16 r (top * 32768) h (omega arith) in
    rest
    ∙ ap (shifts k) (ap (bit_xor (with_bit r top)) (twice ∙ sym (shifted_low low below))
    ∙ ap (λ x. bit_xor x (shifted low)) (with_bit_shifted r top)
    ∙ sym (shifted_xor (bit_xor r (top * 32768)) low moved (omega arith))
    ∙ ap shifted (xor_assoc r (top * 32768) low ∙ ap (bit_xor r) (xor_shifted top 15 low below ∙ sym (bits_split k j v long))))

-- the same shift on either side of others
pub shifts_more : (k r : ℕ) → shifts (suc k) r ≡ shifted (shifts k r)
unfolding shifts
shifts_more zero r = refl
shifts_more (suc k) r = shifts_more k (shifted r)

pub byte_shifted : (r b m : ℕ) → r < 65536 → b < 256 → m ≡ b * 256 → shifts 8 (bit_xor r m) ≡ remainder r (bits_down 8 b)
byte_shifted r b m h k e =
    let low : b % 256 ≡ b = omega arith in
    sym (bits_shifted 8 8 r b refl h ∙ ap (λ x. shifts 8 (bit_xor r x)) (ap (λ x. x * 256) low ∙ sym e))

-- byte by byte, each with its bits
pub by_bytes : (r : ℕ) (bs : List ℕ) → fold (λ s b. remainder s (bits_down 8 b)) r bs ≡ remainder r (flat_map (bits_down 8) bs)
by_bytes r [] = refl
by_bytes r (b ∷ bs) =
    by_bytes (remainder r (bits_down 8 b)) bs
    ∙ (sym (fold-append with_bit r (bits_down 8 b) (flat_map (bits_down 8) bs)) ∙ ap (remainder r) (sym (flat_map-cons (bits_down 8) b bs)))
