-- What the functions over a slice of numbers answer: for which ring, when they refuse, and what they leave in the slice.
-- Assumes nothing.
use Rattle.std.specs.Prelude.{◌≡◌, ℕ, zero, suc, pred, ◌<◌, Bool, true, false, cond, not, ◌&&◌, T, length, Some, None, Ok, Err, Option, Result, ◌==◌, nat_lt}
use Rattle.members.specs.declared.refusal.Refusal.{Refusal}
use Rattle.members.specs.declared.refusal.Refusal.TheVariants.{TooFewMembers, TooFewNumbers, NoSuchMember, NumberTooLarge}
use Rattle.members.specs.declared.holders.Holders.{Holders}
use Rattle.members.specs.declared.holders.Holders.TheVariants.{One, Several}
use Rattle.members.specs.Ring.{Ring, State, all_below, at, up, may, moved}
use Rattle.members.specs.Turns.{Alone}

-- the ring whose members have the numbers of a list
abbrev pub ring_of : ℕ → State → Ring
ring_of k s = record { members = length s; k = k }

-- a ring has at least three members, and K is at least their count
abbrev pub refused_size : ℕ → State → Option Refusal
refused_size k s = cond (nat_lt (length s) 3) (Some TooFewMembers) (cond (nat_lt k (length s)) (Some TooFewNumbers) None)

-- the member before i, the last one before member 0
abbrev pub before : State → ℕ → ℕ
before s zero = pred (length s)
before s (suc i) = i

-- the first reason that there is, else the second
abbrev pub or_else : Option Refusal → Option Refusal → Option Refusal
or_else (Some e) o = Some e
or_else None o = o

-- whether member i may move, and the number that it takes, by the number before it and its own
abbrev pub may_by : ℕ → ℕ → ℕ → Bool
may_by zero b x = x == b
may_by (suc i) b x = not (x == b)

abbrev pub next_by : ℕ → ℕ → ℕ → ℕ → ℕ
next_by k zero b x = up k x
next_by k (suc i) b x = b

-- why a question about member i is refused: the ring's size, no such member, or a number of K or more at i or before it
abbrev pub refused_member : ℕ → State → ℕ → Option Refusal
refused_member k s i =
    or_else (refused_size k s)
    (cond (nat_lt i (length s)) (cond (nat_lt (at s (before s i)) k && nat_lt (at s i) k) None (Some NumberTooLarge)) (Some NoSuchMember))

-- why a question about the whole ring is refused: its size, or a number of K or more
abbrev pub refused_ring : ℕ → State → Option Refusal
refused_ring k s = or_else (refused_size k s) (cond (all_below k s) None (Some NumberTooLarge))

-- why a question about the whole ring and member i is refused
abbrev pub refused_whole : ℕ → State → ℕ → Option Refusal
refused_whole k s i = or_else (refused_ring k s) (cond (nat_lt i (length s)) None (Some NoSuchMember))

-- the refusal where there is a reason, else the answer
abbrev pub answer : {A : Type 0} → Option Refusal → A → Result A Refusal
answer (Some e) a = Err e
answer None a = Ok a

-- what a move that was asked for leaves: the moved state where it was made, else all as it was
abbrev pub left : Result Bool Refusal → Ring → State → ℕ → State
left (Ok true) r s i = moved r s i
left (Ok false) r s i = s
left (Err e) r s i = s

-- who may move: one only, or several, of which the first two are named
abbrev pub Tells : Ring → State → Holders → Type 0
Tells r s (One i) = Alone r s i
Tells r s (Several i j) =
    (i < j) × (j < r.members) × T (may r s i) × T (may r s j) × ((l : ℕ) → l < j → T (may r s l) → l ≡ i)
