-- The checksum of bytes: CRC-16 by x^16 + x^12 + x^5 + 1, begun with 65,535, and nothing added after it. A number stands for
-- the polynomial over bits whose coefficient of x^i is its bit i; sum and difference of two are their exclusive or.
-- Assumes nothing.
use Rattle.std.specs.Prelude.{ℕ, zero, suc, ◌*◌, ◌/◌, ◌%◌, ◌^◌, cond, List, [], ◌∷◌, fold, bit_xor, nat_le}
use Rattle.std.specs.List.{flat_map}

abbrev pub polynomial : ℕ
polynomial = 0x11021

-- the remainder of a number of 17 bits: where the 17th bit came, the polynomial is subtracted
abbrev pub reduced : ℕ → ℕ
reduced v = cond (nat_le 0x10000 v) (bit_xor v polynomial) v

-- r is the remainder of the bits so far, times x^16; with a bit b more it is that of x * r + b * x^16
abbrev pub with_bit : ℕ → ℕ → ℕ
with_bit r b = reduced (bit_xor (2 * r) (0x10000 * b))

-- the k low bits of a number, the highest first
abbrev pub bits_down : ℕ → ℕ → List ℕ
bits_down zero v = []
bits_down (suc k) v = (v / 2 ^ k % 2) ∷ bits_down k v

-- the same with more bits
abbrev pub remainder : ℕ → List ℕ → ℕ
remainder r bits = fold with_bit r bits

unfoldable pub sum_of : List ℕ → ℕ
sum_of bytes = remainder 65535 (flat_map (bits_down 8) bytes)
