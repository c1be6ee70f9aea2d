-- The checksum catches damage: a frame with a right sum and one to three bits turned over, or any bits within 16
-- neighbouring ones, has a wrong sum. The sum is linear, so the damage alone would have to leave no remainder. Assumes nothing.
use Rattle.std.proofs.Common.{◌≡◌, ℕ, zero, suc, ◌+◌, ◌-◌, ◌*◌, ◌/◌, ◌%◌, ◌^◌, ◌<◌, ◌≤◌, Bool, true, false, not, ◌&&◌, eqb, leb, ◌⊎◌, List, [], ◌∷◌, ◌++◌, length, take, drop, fold, sym, refl, ap, ◌∙◌, subst, inl, inr, add-zero, mod-eq_of_lt, suc-add, mul-pos, pow-suc, zero-add, div-one, one-add, arith, lit<, pow_pos, pow-add, shr-shr}
use lib.Bits.{bit_xor, block_half, block_odd, shifted_half, shifted_even, xor_block, xor_lt, xor_self, xor_zero_r, xor_shr, xor_mod}
use lib.Count.{ones, ones_step}
use Rattle.std.specs.List.{flat_map, AllByRecursion}
use Rattle.std.proofs.lemmas.Grind.{flat_map-append}
use Rattle.std.proofs.lemmas.Nat.{mod_below, shl_below}
use Rattle.std.proofs.ByRecursion.{All-drop}
use Rattle.std.proofs.lemmas.List.{length-drop, take-append-drop}
use Rattle.std.proofs.lemmas.List.Sums.{fold-append, fold_push}
use Rattle.std.proofs.lemmas.Bool.{cases_lt, cases_eq, and_parts, not-true, eq-eqb, both_ways, cond_both}
use Rattle.sums.specs.Damage.{SixBytes, RightSum, differing, FewBits, Burst, DamagedFrame, Caught}
use Rattle.sums.specs.Sum.{reduced, with_bit, bits_down, remainder, sum_of}
use Rattle.sums.specs.Value.{value_of}
use Rattle.sums.proofs.SumLaws.{xor_middle, xor_twice, shifted, shifted_is, shifted_small, shifts, shifts_more, with_bit_small, with_bit_xor, bits_shifted, reduced_high, reduced_low}

-- the remainder of j bits of a number, after r
run : ℕ → ℕ → ℕ → ℕ
run r j v = remainder r (bits_down j v)

-- the lowest bit comes last
bits_last : (j v : ℕ) → bits_down (suc j) v ≡ bits_down j (v / 2) ++ v % 2 ∷ []
bits_last zero v = ap (λ x. x % 2 ∷ []) (div-one v)
bits_last (suc j) v =
    ap (λ x. x % 2 ∷ bits_down (suc j) v) (ap (λ n. v / 2 ^ n) (sym (one-add j)) ∙ sym (shr-shr v 1 j))
    ∙ ap (λ t. v / 2 / 2 ^ j % 2 ∷ t) (bits_last j v)

run_step : (r j v : ℕ) → run r (suc j) v ≡ with_bit (run r j (v / 2)) (v % 2)
unfolding run
run_step r j v = ap (remainder r) (bits_last j v) ∙ fold_push with_bit r (bits_down j (v / 2)) (v % 2)

run_small : (r j v : ℕ) → r < 65536 → run r j v < 65536
unfolding run
run_small r zero v h = h
run_small r (suc j) v h =
    subst (λ x. x < 65536) (sym (run_step r j v)) (with_bit_small (run r j (v / 2)) (v % 2) (run_small r j (v / 2) h) (mod_below v 2 (lit< tt)))

-- it is linear

run_xor : (r s j v w : ℕ) → r < 65536 → s < 65536 → run (bit_xor r s) j (bit_xor v w) ≡ bit_xor (run r j v) (run s j w)
unfolding run
run_xor r s zero v w h k = refl
run_xor r s (suc j) v w h k =
    run_step (bit_xor r s) j (bit_xor v w)
    ∙ ap (λ x. with_bit (run (bit_xor r s) j x) (bit_xor v w % 2)) (xor_shr v w 1)
    ∙ ap (λ b. with_bit (run (bit_xor r s) j (bit_xor (v / 2) (w / 2))) b) (xor_mod v w 1)
    ∙ ap (λ x. with_bit x (bit_xor (v % 2) (w % 2))) (run_xor r s j (v / 2) (w / 2) h k)
    ∙ with_bit_xor (run r j (v / 2)) (run s j (w / 2)) (v % 2) (w % 2) (run_small r j (v / 2) h) (run_small s j (w / 2) k)
    (mod_below v 2 (lit< tt)) (mod_below w 2 (lit< tt))
    ∙ sym (ap (λ x. bit_xor x (run s (suc j) w)) (run_step r j v) ∙ ap (bit_xor (with_bit (run r j (v / 2)) (v % 2))) (run_step s j w))

run_none : (j : ℕ) → run 0 j 0 ≡ 0
unfolding run
run_none zero = refl
run_none (suc j) = run_step 0 j 0 ∙ ap (λ x. with_bit x 0) (run_none j)

-- j bits after k bits
run_append : (r j k v b : ℕ) → b < 2 ^ j → run r (j + k) (v * 2 ^ j + b) ≡ run (run r k v) j b
unfolding run
run_append r zero k v b h =
    let same : v * 1 + b ≡ v = omega arith in
    ap (λ n. run r n (v * 1 + b)) (zero-add k) ∙ ap (run r k) same
run_append r (suc j) k v b h =
    let half : b / 2 < 2 ^ j = omega (arith, pow-suc 2 j) in
    let all = v * 2 ^ suc j + b in
    ap (λ n. run r n all) (suc-add j k) ∙ run_step r (j + k) all
    ∙ ap (λ x. with_bit (run r (j + k) x) (all % 2)) (block_half v j b)
    ∙ ap (with_bit (run r (j + k) (v * 2 ^ j + b / 2))) (block_odd v j b)
    ∙ ap (λ x. with_bit x (b % 2)) (run_append r j k v (b / 2) half) ∙ sym (run_step (run r k v) j b)

-- all bits of some bytes, as one number
bytes_run : (bs : List ℕ) (r k v : ℕ) → AllByRecursion (λ b. b < 256) bs →
    remainder (run r k v) (flat_map (bits_down 8) bs) ≡ run r (8 * length bs + k) (fold (λ x b. x * 256 + b) v bs)
unfolding run
bytes_run [] r k v h = ap (λ n. run r n v) (sym (zero-add k))
bytes_run (b ∷ bs) r k v h =
    let long : 8 * length bs + (8 + k) ≡ 8 * suc (length bs) + k = omega arith in
    fold-append with_bit (run r k v) (bits_down 8 b) (flat_map (bits_down 8) bs)
    ∙ ap (λ x. remainder x (flat_map (bits_down 8) bs)) (sym (run_append r 8 k v b h.0))
    ∙ bytes_run bs r (8 + k) (v * 256 + b) h.1 ∙ ap (λ n. run r n (fold (λ x c. x * 256 + c) (v * 256 + b) bs)) long

-- a shift loses nothing

shifted_zero : (r : ℕ) → r < 65536 → shifted r ≡ 0 → r ≡ 0
shifted_zero r h e =
    elim (cases_lt r 32768) [
      | inl low ↦ let twice = sym (shifted_is r ∙ reduced_low (2 * r) (omega arith)) ∙ e in omega arith
      | inr high ↦
          let half = r - 32768 in
          let up : 2 * r ≡ 65536 + half * 2 = omega arith in
          let odd : bit_xor (half * 2) 4129 ≡ bit_xor half 2064 * 2 + 1 =
          ap (λ x. bit_xor x 4129) (sym (add-zero (half * 2))) ∙ xor_block 1 half 2064 0 1 (lit< tt) (lit< tt) in
          let is = sym (shifted_is r ∙ ap reduced up ∙ reduced_high (half * 2) (omega arith) ∙ odd) ∙ e in absurd (omega arith)
    ]

shifts_zero : (k r : ℕ) → r < 65536 → shifts k r ≡ 0 → r ≡ 0
unfolding shifts
shifts_zero zero r h e = e
shifts_zero (suc k) r h e = shifted_zero r h (shifts_zero k (shifted r) (shifted_small r h) e)

shifts_none : (k : ℕ) → shifts k 0 ≡ 0
unfolding shifts
shifts_none zero = refl
shifts_none (suc k) = shifts_none k

-- the remainder of a right frame is 0, so that of damage that keeps the sum right would be too

own_sum : (s : ℕ) → s < 65536 → run s 16 s ≡ 0
unfolding run
own_sum s h =
    let low : s % 65536 * 1 ≡ s = omega arith in
    bits_shifted 16 0 s s refl h ∙ ap (λ x. shifts 16 (bit_xor s x)) low ∙ ap (shifts 16) (xor_self s) ∙ shifts_none 16

bits_append : (r : ℕ) (xs ys : List ℕ) →
    remainder r (flat_map (bits_down 8) (xs ++ ys)) ≡ remainder (remainder r (flat_map (bits_down 8) xs)) (flat_map (bits_down 8) ys)
bits_append r xs ys =
    ap (remainder r) (flat_map-append (bits_down 8) xs ys) ∙ fold-append with_bit r (flat_map (bits_down 8) xs) (flat_map (bits_down 8) ys)

value_small : (bs : List ℕ) (v k : ℕ) → v < 2 ^ k → AllByRecursion (λ b. b < 256) bs → fold (λ x b. x * 256 + b) v bs < 2 ^ (8 * length bs + k)
value_small [] v k h a = subst (λ n. v < 2 ^ n) (sym (zero-add k)) h
value_small (b ∷ bs) v k h a =
    let low = a.0 in
    let more : v * 256 + b < 2 ^ (8 + k) = omega (arith, pow-add 2 8 k) in
    let long : 8 * length bs + (8 + k) ≡ 8 * suc (length bs) + k = omega arith in
    subst (λ n. fold (λ x c. x * 256 + c) (v * 256 + b) bs < 2 ^ n) long (value_small bs (v * 256 + b) (8 + k) more a.1)

right_zero : (bs : List ℕ) → SixBytes bs → RightSum bs → run 65535 48 (value_of bs) ≡ 0
unfolding run sum_of
right_zero bs six right =
    let s = sum_of (take 4 bs) in
    let last = drop 4 bs in
    let octets : AllByRecursion (λ b. b < 256) last = All-drop (λ b. b < 256) 4 bs six.1 in
    let two : 8 * length last + 0 ≡ 16 = omega (arith, length-drop 4 bs, six.0) in
    let all : 8 * length bs + 0 ≡ 48 = omega (arith, six.0) in
    let small : s < 65536 = subst (λ x. x < 65536) (sym right) (subst (λ n. value_of last < 2 ^ n) two (value_small last 0 0 (lit< tt) octets)) in
    ap (λ n. run 65535 n (value_of bs)) (sym all) ∙ sym (bytes_run bs 65535 0 0 six.1)
    ∙ ap (λ xs. remainder 65535 (flat_map (bits_down 8) xs)) (sym (take-append-drop 4 bs))
    ∙ bits_append 65535 (take 4 bs) last ∙ bytes_run last s 0 0 octets ∙ ap (λ n. run s n (value_of last)) two
    ∙ ap (run s 16) (sym right) ∙ own_sum s small

no_remainder : (bs cs : List ℕ) → SixBytes bs → SixBytes cs → RightSum bs → RightSum cs → run 0 48 (differing bs cs) ≡ 0
no_remainder bs cs six others right too =
    run_xor 65535 65535 48 (value_of bs) (value_of cs) (lit< tt) (lit< tt)
    ∙ ap (λ x. bit_xor x (run 65535 48 (value_of cs))) (right_zero bs six right) ∙ right_zero cs others too

-- Any bits within 16 neighbouring ones leave a remainder: they are 16 bits at most, moved up.

short_remains : (k m : ℕ) → 0 < m → m < 65536 → m < 2 ^ k → run 0 k m ≡ 0 → ⊥
unfolding run
short_remains k m some few fits e =
    elim (cases_lt k 17) [
      | inl short ↦
          let j = 16 - k in
          let kept : m % 2 ^ k ≡ m = mod-eq_of_lt fits in
          let up : 0 < m * 2 ^ j = mul-pos some (pow_pos j) in
          let below : m * 2 ^ j < 65536 = let n : k + j ≡ 16 = omega arith in subst (λ n. m * 2 ^ j < 2 ^ n) n (shl_below m k j fits) in
          let is = sym (bits_shifted k j 0 m (omega arith) (lit< tt) ∙ ap (λ x. shifts k (x * 2 ^ j)) kept) ∙ e in
          let none = shifts_zero k (m * 2 ^ j) below is in omega arith
      | inr long ↦
          let d = k - 16 in
          let is : run 0 16 m ≡ 0 =
          sym (ap (λ n. run 0 n m) (let n : k ≡ 16 + d = omega arith in n)
          ∙ ap (run 0 (16 + d)) (sym (zero-add m)) ∙ run_append 0 16 d 0 m few ∙ ap (λ r. run r 16 m) (run_none d)) ∙ e in
          let kept : m % 65536 * 1 ≡ m = omega arith in
          let none = shifts_zero 16 m few (sym (bits_shifted 16 0 0 m refl (lit< tt) ∙ ap (shifts 16) kept) ∙ is) in omega arith
    ]

burst_remains : (i k m : ℕ) → 0 < m → m < 65536 → m * 2 ^ i < 2 ^ k → run 0 k (m * 2 ^ i) ≡ 0 → ⊥
burst_remains zero k m some few fits e =
    let one : m * 2 ^ 0 ≡ m = omega arith in
    short_remains k m some few (subst (λ x. x < 2 ^ k) one fits) (ap (run 0 k) (sym one) ∙ e)
burst_remains (suc i) zero m some few fits e = let up = mul-pos some (pow_pos (suc i)) in omega arith
burst_remains (suc i) (suc k) m some few fits e =
    let all = m * 2 ^ suc i in
    let half = shifted_half m i in
    let below : all / 2 < 2 ^ k = omega (arith, pow-suc 2 k) in
    let is : shifted (run 0 k (m * 2 ^ i)) ≡ 0 =
    sym (run_step 0 k all ∙ ap (with_bit (run 0 k (all / 2))) (shifted_even m i) ∙ ap (λ x. with_bit (run 0 k x) 0) half) ∙ e in
    burst_remains i k m some few (subst (λ x. x < 2 ^ k) half below)
    (shifted_zero (run 0 k (m * 2 ^ i)) (run_small 0 k (m * 2 ^ i) (lit< tt)) is)

-- An odd number of bits leaves a remainder: the polynomial has an even number of terms, so taking it away keeps whether they are odd.

-- 1 where k bits of a number have an odd number of ones, and else 0
parity : ℕ → ℕ → ℕ
parity zero v = 0
parity (suc k) v = bit_xor (parity k (v / 2)) (v % 2)

parity_xor : (k v w : ℕ) → parity k (bit_xor v w) ≡ bit_xor (parity k v) (parity k w)
unfolding parity
parity_xor zero v w = refl
parity_xor (suc k) v w =
    ap (λ x. bit_xor (parity k x) (bit_xor v w % 2)) (xor_shr v w 1) ∙ ap (bit_xor (parity k (bit_xor (v / 2) (w / 2)))) (xor_mod v w 1)
    ∙ ap (λ x. bit_xor x (bit_xor (v % 2) (w % 2))) (parity_xor k (v / 2) (w / 2))
    ∙ xor_middle (parity k (v / 2)) (parity k (w / 2)) (v % 2) (w % 2)

bits_odd : (x y : ℕ) → x < 2 → y < 2 → bit_xor x y ≡ (x + y) % 2
bits_odd zero y h k = omega arith
bits_odd (suc zero) zero h k = refl
bits_odd (suc zero) (suc zero) h k = refl
bits_odd (suc zero) (suc (suc y)) h k = absurd (omega arith)
bits_odd (suc (suc x)) y h k = absurd (omega arith)

no_ones : ones 0 ≡ 0
unfolding ones
no_ones = refl

parity_ones : (k v : ℕ) → v < 2 ^ k → parity k v ≡ ones v % 2
unfolding parity
parity_ones zero v h =
    let none : 0 ≡ v = omega arith in
    ap (λ x. x % 2) (sym no_ones) ∙ ap (λ x. ones x % 2) none
parity_ones (suc k) v h =
    let o = ones (v / 2) in
    let sum : (o % 2 + v % 2) % 2 ≡ (v % 2 + o) % 2 = omega arith in
    ap (λ x. bit_xor x (v % 2)) (parity_ones k (v / 2) (omega (arith, pow-suc 2 k)))
    ∙ bits_odd (o % 2) (v % 2) (mod_below o 2 (lit< tt)) (mod_below v 2 (lit< tt)) ∙ sum ∙ ap (λ x. x % 2) (sym (ones_step v))

parity_reduced : (v : ℕ) → parity 17 (reduced v) ≡ parity 17 v
unfolding parity
parity_reduced v =
    cond_both (leb 65536 v) (bit_xor v 69665) v (λ x. parity 17 x ≡ parity 17 v)
    (λ _. parity_xor 17 v 69665 ∙ xor_zero_r (parity 17 v)) (λ _. refl)

parity_double : (r : ℕ) → r < 65536 → parity 17 (2 * r) ≡ parity 17 r
parity_double r h =
    let half : 2 * r / 2 ≡ r = omega arith in
    let even : 2 * r % 2 ≡ 0 = omega arith in
    parity_ones 17 (2 * r) (omega arith)
    ∙ ap (λ x. x % 2) (ones_step (2 * r) ∙ ap (λ b. b + ones (2 * r / 2)) even ∙ zero-add (ones (2 * r / 2)) ∙ ap ones half)
    ∙ sym (parity_ones 17 r (omega arith))

parity_top : (b : ℕ) → b < 2 → parity 17 (65536 * b) ≡ b
unfolding parity
parity_top zero h = refl
parity_top (suc zero) h = refl
parity_top (suc (suc b)) h = absurd (omega arith)

parity_with_bit : (r b : ℕ) → r < 65536 → b < 2 → parity 17 (with_bit r b) ≡ bit_xor (parity 17 r) b
parity_with_bit r b h k =
    parity_reduced (bit_xor (2 * r) (65536 * b)) ∙ parity_xor 17 (2 * r) (65536 * b)
    ∙ ap (λ x. bit_xor x (parity 17 (65536 * b))) (parity_double r h) ∙ ap (bit_xor (parity 17 r)) (parity_top b k)

parity_run : (k v : ℕ) → parity 17 (run 0 k v) ≡ parity k v
unfolding run parity
parity_run zero v = refl
parity_run (suc k) v =
    ap (parity 17) (run_step 0 k v)
    ∙ parity_with_bit (run 0 k (v / 2)) (v % 2) (run_small 0 k (v / 2) (lit< tt)) (mod_below v 2 (lit< tt))
    ∙ ap (λ x. bit_xor x (v % 2)) (parity_run k (v / 2))

even_ones : (k e : ℕ) → e < 2 ^ k → run 0 k e ≡ 0 → ones e % 2 ≡ 0
unfolding parity
even_ones k e h zero_left = sym (parity_ones k e h) ∙ sym (parity_run k e) ∙ ap (parity 17) zero_left

-- Two bits leave a remainder: one bit leaves a power of x, and these do not come round within 48 bits.

-- none of n shifts of r gives that of the lowest bit
none_round : ℕ → ℕ → Bool
none_round zero r = true
none_round (suc n) r = not (eqb (shifted r) 4129) && none_round n (shifted r)

never_round : (n r i : ℕ) → none_round n r ≡ true → i < n → shifts (suc i) r ≡ 4129 → ⊥
unfolding none_round shifts
never_round zero r i t h e = omega arith
never_round (suc n) r zero t h e =
    both_ways (eqb (shifted r) 4129) (not-true _ (and_parts _ _ t).0) (eq-eqb (shifted r) 4129 e)
never_round (suc n) r (suc i) t h e = never_round n (shifted r) i (and_parts _ _ t).1 (omega arith) e

-- the table of the powers of x from 16 to 63
none_in_48 : none_round 48 4129 ≡ true
unfolding none_round
none_in_48 = refl

ones_zero : (k v : ℕ) → v < 2 ^ k → ones v ≡ 0 → v ≡ 0
ones_zero zero v h e = omega arith
ones_zero (suc k) v h e =
    let step = ones_step v in
    let half = ones_zero k (v / 2) (omega (arith, pow-suc 2 k)) (omega arith) in
    omega arith

lowest_bit : (x : ℕ) → x < 65536 → with_bit x 1 ≡ bit_xor (shifted x) 4129
lowest_bit x h = ap (λ y. with_bit y 1) (sym (xor_zero_r x)) ∙ with_bit_xor x 0 0 1 h (lit< tt) (lit< tt) (lit< tt)

-- the last bit of a number is 0 or 1
run_even : (k e : ℕ) → e % 2 ≡ 0 → run 0 (suc k) e ≡ shifted (run 0 k (e / 2))
run_even k e b = run_step 0 k e ∙ ap (with_bit (run 0 k (e / 2))) b

run_odd : (k e : ℕ) → e % 2 ≡ 1 → run 0 (suc k) e ≡ bit_xor (shifted (run 0 k (e / 2))) 4129
run_odd k e b = run_step 0 k e ∙ ap (with_bit (run 0 k (e / 2))) b ∙ lowest_bit (run 0 k (e / 2)) (run_small 0 k (e / 2) (lit< tt))

one_bit : (k e : ℕ) → e < 2 ^ k → ones e ≡ 1 → (i : ℕ) × (i < k) × (run 0 k e ≡ shifts i 4129)
unfolding shifts
one_bit zero e h o =
    let none : e ≡ 0 = omega arith in
    let zeros = ap ones none ∙ no_ones in absurd (omega arith)
one_bit (suc k) e h o =
    let step = ones_step e in
    let low = mod_below e 2 (lit< tt) in
    let below : e / 2 < 2 ^ k = omega (arith, pow-suc 2 k) in
    elim (cases_eq (e % 2) 0) [
      | inl even ↦
          let (i, less, is) = one_bit k (e / 2) below (omega arith) in
          (suc i, omega arith, run_even k e even ∙ ap shifted is ∙ sym (shifts_more i 4129))
      | inr odd ↦
          let none = ones_zero k (e / 2) below (omega arith) in
          (0, omega arith, run_odd k e (omega arith) ∙ ap (λ x. bit_xor (shifted x) 4129) (ap (run 0 k) none ∙ run_none k))
    ]

two_bits : (k e : ℕ) → k ≤ 48 → e < 2 ^ k → ones e ≡ 2 → run 0 k e ≡ 0 → ⊥
two_bits zero e short h o z =
    let none : e ≡ 0 = omega arith in
    let zeros = ap ones none ∙ no_ones in omega arith
two_bits (suc k) e short h o z =
    let step = ones_step e in
    let low = mod_below e 2 (lit< tt) in
    let below : e / 2 < 2 ^ k = omega (arith, pow-suc 2 k) in
    let left = run 0 k (e / 2) in
    elim (cases_eq (e % 2) 0) [
      | inl even ↦
          two_bits k (e / 2) (omega arith) below (omega arith)
          (shifted_zero left (run_small 0 k (e / 2) (lit< tt)) (sym (run_even k e even) ∙ z))
      | inr odd ↦
          let (i, less, is) = one_bit k (e / 2) below (omega arith) in
          let gone : bit_xor (shifted left) 4129 ≡ 0 = sym (run_odd k e (omega arith)) ∙ z in
          let round : shifted left ≡ 4129 = sym (xor_twice (shifted left) 4129) ∙ ap (λ x. bit_xor x 4129) gone in
          never_round 48 4129 i none_in_48 (omega arith) (shifts_more i 4129 ∙ ap shifted (sym is) ∙ round)
    ]

damage_remains : (e : ℕ) → e < 2 ^ 48 → FewBits e ⊎ Burst e → run 0 48 e ≡ 0 → ⊥
damage_remains e h (inl few) z =
    let even = even_ones 48 e h z in
    let some = few.0 in
    let most = few.1 in
    let two : ones e ≡ 2 = omega arith in
    two_bits 48 e (omega arith) h two z
damage_remains e h (inr burst) z =
    let (i, m, some, few, is) = burst in
    burst_remains i 48 m some few (subst (λ x. x < 2 ^ 48) is h) (ap (run 0 48) (sym is) ∙ z)

six_small : (bs : List ℕ) → SixBytes bs → value_of bs < 2 ^ 48
six_small bs six =
    let all : 8 * length bs + 0 ≡ 48 = omega (arith, six.0) in
    subst (λ n. value_of bs < 2 ^ n) all (value_small bs 0 0 (lit< tt) six.1)

pub damage_caught : (bs : List ℕ) → DamagedFrame bs → RightSum bs → ⊥
damage_caught bs (six, (sent, sixSent, right, damage)) too =
    damage_remains (differing sent bs) (xor_lt 48 (value_of sent) (value_of bs) (six_small sent sixSent) (six_small bs six)) damage
    (no_remainder sent bs sixSent six right too)

-- what is refused, and what is accepted with a right sum

pub refused_caught : (bs : List ℕ) → Caught bs false
refused_caught bs damaged = (damage_caught bs damaged, refl)

pub accepted_caught : (bs : List ℕ) → RightSum bs → Caught bs true
accepted_caught bs right damaged = absurd (damage_caught bs damaged right)
