-- Frames as units of bytes: the kind 1, the post that sent it, its number, and the checksum of these four bytes.
-- Assumes nothing.
use Rattle.std.specs.Prelude.{◌≡◌, ℕ, zero, suc, ◌-◌, ◌<◌, List, [], ◌∷◌, ◌++◌, take, Ok, Result, ◌==◌, nat_eq, nat_lt}
use Rattle.sums.specs.Sum.{sum_of}
use Rattle.lines.specs.declared.fault.Fault.{Fault}
use Rattle.lines.specs.declared.fault.Fault.TheVariants.{OutOfRange, WrongSender, WrongSum}
use Rattle.lines.specs.Checks.{Check}
use Rattle.lines.specs.Units.{Field, kind_byte, word_that, unit_checks}
use Rattle.lines.specs.Words.{word_bytes}
use Rattle.frames.specs.NumbersUnit.{member_number}

-- what a post sends with a number
unfoldable pub frame_bytes : ℕ → ℕ → List ℕ
frame_bytes p x = 1 ∷ p ∷ (word_bytes x ++ word_bytes (sum_of (1 ∷ p ∷ word_bytes x)))

-- the post before a listener, in a ring of n posts
abbrev pub sender_of : ℕ → ℕ → ℕ
sender_of n zero = n - 1
sender_of n (suc i) = i

-- the post that sent a frame: one of n, and the one that should have
abbrev pub sent_by : ℕ → ℕ → Field
sent_by n sender = record {
  width = 1;
  rules =
      record { fault = OutOfRange; passes = λ p. nat_lt p n } ∷ record { fault = WrongSender; passes = λ p. (p == sender) } ∷ [];
}

-- the checksum of some bytes
abbrev pub sum_word : List ℕ → Field
sum_word bs = word_that WrongSum (λ v. nat_eq v (sum_of bs))

abbrev pub frame_fields : ℕ → ℕ → ℕ → List ℕ → List Field
frame_fields n k listener bs = kind_byte 1 ∷ sent_by n (sender_of n listener) ∷ member_number k ∷ sum_word (take 4 bs) ∷ []

-- in a ring of n posts with numbers below k, heard by a listener
unfoldable pub frame_checks : ℕ → ℕ → ℕ → List ℕ → List Check
frame_checks n k listener bs = unit_checks bs (frame_fields n k listener bs)

-- a listener reads whatever the post before it sends with a number below k, as that number
abbrev pub ReadsAllSent : ℕ → ℕ → ℕ → List ℕ → Result ℕ Fault → Type 0
ReadsAllSent n k listener bs answer =
    (p x : ℕ) → sender_of n listener ≡ p → p < n → x < k → bs ≡ frame_bytes p x → answer ≡ Ok x
