-- Settings as a unit of bytes: the kind 2, the count of posts, K, and a turn for each post. Assumes nothing.
use Rattle.std.specs.Prelude.{◌≡◌, ℕ, ◌*◌, cond, ◌&&◌, leb, List, ◌∷◌, ◌++◌, length, take, replicate, Some, None, Option, nat_le, nat_lt, slice_index}
use Rattle.lines.specs.declared.fault.Fault.{Fault}
use Rattle.lines.specs.declared.fault.Fault.TheVariants.{OutOfRange}
use Rattle.lines.specs.Checks.{Check}
use Rattle.lines.specs.Units.{Field, byte_that, word_that, kind_byte, unit_checks}
use Rattle.lines.specs.Words.{word_up_to, word_bytes, words_bytes}
use Rattle.frames.specs.declared.settings.Settings.{Settings}

abbrev pub post_count : Field
post_count = byte_that OutOfRange (λ n. nat_le 2 n && nat_le n 21)

-- K, where there are n posts
abbrev pub number_count : ℕ → Field
number_count n = word_that OutOfRange (λ k. leb (3 * n) k)

-- a turn for each of n posts
abbrev pub turn_fields : ℕ → List Field
turn_fields n = replicate n (word_up_to OutOfRange 1000)

abbrev pub settings_fields : ℕ → List Field
settings_fields n = kind_byte 2 ∷ post_count ∷ number_count n ∷ turn_fields n

-- the second byte says how many posts there are
abbrev pub settings_checks : List ℕ → List Check
settings_checks bs = unit_checks bs (settings_fields (slice_index bs 1))

abbrev pub settings_bytes : Settings → List ℕ
settings_bytes s = 2 ∷ s.posts ∷ (word_bytes s.k ++ words_bytes (take s.posts s.turns))

-- the bytes of any settings are read with no fault
abbrev pub AcceptsAll : List ℕ → Option Fault → Type 0
AcceptsAll bs fault = (s : Settings) → length s.turns ≡ 21 → settings_bytes s ≡ bs → fault ≡ None

abbrev pub turn_of : Settings → ℕ → Option ℕ
turn_of s p = cond (nat_lt p s.posts) (Some (slice_index s.turns p)) None
