-- The ring of members by Dijkstra's K-state rule: numbers that may be anything below K, who may move, what a move does, and runs of moves chosen by anybody.
-- Assumes nothing.
use Rattle.std.specs.Prelude.{◌≡◌, ℕ, zero, suc, pred, ◌+◌, ◌<◌, ◌≤◌, Bool, true, cond, not, ◌&&◌, T, List, [], ◌∷◌, ◌++◌, length, ◌==◌, nat_lt, slice_index, slice_set}

-- a ring: how many members it has, and K, the count of numbers that each may hold, 0 to K - 1
pub record Ring : Type 0 where
  pub members : ℕ
  pub k : ℕ

-- the numbers of all members, member 0 first
abbrev pub State : Type 0
State = List ℕ

unfoldable pub all_below : ℕ → List ℕ → Bool
all_below k [] = true
all_below k (x ∷ xs) = nat_lt x k && all_below k xs

-- a number for each member, each below K
abbrev pub IsState : Ring → State → Type 0
IsState r s = (length s ≡ r.members) × T (all_below r.k s)

-- at least three members, and at least as many numbers as members
abbrev pub Good : Ring → Type 0
Good r = (2 < r.members) × (r.members ≤ r.k)

-- at least three members, and at most one number fewer than members: all that healing needs
abbrev pub Enough : Ring → Type 0
Enough r = (2 < r.members) × (r.members ≤ suc r.k)

abbrev pub at : State → ℕ → ℕ
at s i = slice_index s i

abbrev pub last : Ring → ℕ
last r = pred r.members

-- one more, and 0 after n - 1
abbrev pub up : ℕ → ℕ → ℕ
up n a = cond (nat_lt (a + 1) n) (a + 1) 0

-- member 0 may move if its number is the last one's; any other if its number isn't that of the one before
unfoldable pub may : Ring → State → ℕ → Bool
may r s zero = at s 0 == at s (last r)
may r s (suc i) = not (at s (suc i) == at s i)

-- member 0 goes up by one; any other takes the number of the one before
unfoldable pub next : Ring → State → ℕ → ℕ
next r s zero = up r.k (at s 0)
next r s (suc i) = at s i

abbrev pub moved : Ring → State → ℕ → State
moved r s i = slice_set s i (next r s i)

-- how many of members 0 to n - 1 may move
unfoldable pub how_many : Ring → State → ℕ → ℕ
how_many r s zero = 0
how_many r s (suc n) = cond (may r s n) 1 0 + how_many r s n

-- healed (legitimate): exactly one member may move
abbrev pub Healed : Ring → State → Type 0
Healed r s = how_many r s r.members ≡ 1

-- moves, one after the other, of members that may, chosen by anybody
pub data Moves (r : Ring) : State → ℕ → State → Type 0 where
  none : {s : State} → Moves r s 0 s
  then : {s t : State} {n : ℕ} (i : ℕ) → Moves r s n t → i < r.members → T (may r t i) → Moves r s (suc n) (moved r t i)

-- who moved, the first one first
unfoldable pub movers : {r : Ring} {s t : State} {n : ℕ} → Moves r s n t → List ℕ
movers none = []
movers (then i m l c) = movers m ++ (i ∷ [])

-- the member after i, member 0 after the last one
abbrev pub after : Ring → ℕ → ℕ
after r i = up r.members i

-- each the one after the one before it
unfoldable pub in_turn : Ring → List ℕ → Bool
in_turn r [] = true
in_turn r (i ∷ []) = true
in_turn r (i ∷ j ∷ js) = j == after r i && in_turn r (j ∷ js)

-- how often i stands in a list
unfoldable pub count : ℕ → List ℕ → ℕ
count i [] = 0
count i (j ∷ js) = cond (i == j) 1 0 + count i js
