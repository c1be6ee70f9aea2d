-- Moves counted since the last disturbance, and the count at which one member only might move for the first time. Assumes nothing.
use Rattle.std.specs.Prelude.{◌≡◌, ℕ, ◌+◌, ◌<◌, ◌≤◌, Bool, cond, T, length, Some, None, Option, ◌==◌}
use Rattle.members.specs.Answers.{ring_of}
use Rattle.members.specs.Ring.{Ring, State, all_below, may, how_many, after}
use Rattle.ring.specs.declared.tally.Tally.{Tally}
use Rattle.ring.specs.Numbers.{changed}

-- numbers of a ring that the code takes, with the count of members that may move
pub record Countable (k : ℕ) (s : State) (holders : ℕ) : Type 0 where
  pub big : 2 < length s
  pub wide : length s ≤ k
  pub below : T (all_below k s)
  pub counted : holders ≡ how_many (ring_of k s) s (length s)

-- numbers of a ring with the count of members that may move, whatever K is
pub record Counted (s : State) (holders : ℕ) : Type 0 where
  pub big : 2 < length s
  pub counted : (k : ℕ) → holders ≡ how_many (ring_of k s) s (length s)

-- how many of member j and the one after it may move
abbrev pub held_near : Ring → State → ℕ → ℕ
held_near r s j = cond (may r s j) 1 0 + cond (may r s (after r j)) 1 0

-- once the ring was healed at some count it stays that one
abbrev pub first_count : Option ℕ → Bool → ℕ → Option ℕ
first_count (Some c) healed n = Some c
first_count None healed n = cond healed (Some n) None

-- one move more, after which so many may move
abbrev pub one_more : ℕ → Tally → Tally
one_more holders y = record { holders = holders; moves = y.moves + 1; healed = first_count y.healed (holders == 1) (y.moves + 1) }

-- counting begins where so many may move
abbrev pub begun : ℕ → Tally
begun holders = record { holders = holders; moves = 0; healed = first_count None (holders == 1) 0 }

-- from s to t one number changes, which is a move, or none
unfoldable pub noted : Ring → State → State → Tally → Tally
noted r s t y = cond (changed s t == 0) y (one_more (how_many r t r.members) y)

-- after a disturbance that leaves the state t counting begins anew
unfoldable pub anew : Ring → State → Tally
anew r t = begun (how_many r t r.members)
