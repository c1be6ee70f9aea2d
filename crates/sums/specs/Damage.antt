-- Damage on a line: some bits of a frame are turned over. Assumes nothing.
use Rattle.std.specs.Prelude.{◌≡◌, ℕ, ◌*◌, ◌^◌, ◌<◌, ◌≤◌, Bool, false, ◌⊎◌, List, length, take, drop, bit_xor, count_ones}
use Rattle.std.specs.List.{AllByRecursion}
use Rattle.sums.specs.Value.{value_of}
use Rattle.sums.specs.Sum.{sum_of}

abbrev pub SixBytes : List ℕ → Type 0
SixBytes bs = (length bs ≡ 6) × AllByRecursion (λ b. b < 256) bs

-- the last two of six bytes are the checksum of the others
abbrev pub RightSum : List ℕ → Type 0
RightSum bs = sum_of (take 4 bs) ≡ value_of (drop 4 bs)

-- the bits in which two byte strings of one length differ, as the ones of a number
abbrev pub differing : List ℕ → List ℕ → ℕ
differing bs cs = bit_xor (value_of bs) (value_of cs)

-- one, two or three bits
abbrev pub FewBits : ℕ → Type 0
FewBits e = (1 ≤ count_ones e) × (count_ones e ≤ 3)

-- some bits that all lie within 16 neighbouring ones
abbrev pub Burst : ℕ → Type 0
Burst e = (i : ℕ) × (m : ℕ) × (0 < m) × (m < 2 ^ 16) × (e ≡ m * 2 ^ i)

-- six bytes that such damage made of six with a right sum
abbrev pub DamagedFrame : List ℕ → Type 0
DamagedFrame bs =
    SixBytes bs × ((sent : List ℕ) × SixBytes sent × RightSum sent × (FewBits (differing sent bs) ⊎ Burst (differing sent bs)))

-- the sum of a damaged frame is wrong, so it is not accepted
abbrev pub Caught : List ℕ → Bool → Type 0
Caught bs accepted = DamagedFrame bs → (RightSum bs → ⊥) × (accepted ≡ false)
