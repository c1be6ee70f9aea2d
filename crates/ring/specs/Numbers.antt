-- The numbers of a ring of posts, and the ring of members that they stand for: post i is member 3 i, the frame on its line member 3 i + 1, and the line's end,
-- which is what the next post heard last, member 3 i + 2. Assumes nothing.
use Rattle.std.specs.Prelude.{◌≡◌, ℕ, zero, suc, pred, ◌+◌, ◌*◌, ◌/◌, ◌%◌, ◌<◌, Bool, cond, List, [], ◌∷◌, map, length, ◌==◌, slice_index, slice_set}
use Rattle.std.specs.List.{range_with_len}
use Rattle.members.specs.Answers.{may_by, next_by}
use Rattle.members.specs.Ring.{Ring, State, up}

-- for each post its own number, the number sent last on its line, and the number that it heard last
pub record Numbers : Type 0 where
  pub own : List ℕ
  pub sent : List ℕ
  pub heard : List ℕ

-- the post before p, of n
abbrev pub preceding : ℕ → ℕ → ℕ
preceding n zero = pred n
preceding n (suc p) = p

-- by the part of a member: post, frame or end
abbrev pub by_part : ℕ → ℕ → ℕ → ℕ → ℕ
by_part zero x y z = x
by_part (suc zero) x y z = y
by_part (suc (suc c)) x y z = z

-- the number of member j
unfoldable pub member_of : ℕ → Numbers → ℕ → ℕ
member_of n x j = by_part (j % 3) (slice_index x.own (j / 3)) (slice_index x.sent (j / 3)) (slice_index x.heard (up n (j / 3)))

-- the numbers of all members of a ring of n posts
unfoldable pub state_of : ℕ → Numbers → State
state_of n x = map (member_of n x) (range_with_len 0 (3 * n))

-- the ring of members of n posts
abbrev pub ring_of_posts : ℕ → ℕ → Ring
ring_of_posts n k = record { members = 3 * n; k = k }

-- the member that is the end of the line to post p
abbrev pub end_before : ℕ → ℕ → ℕ
end_before n p = 3 * preceding n p + 2

-- post p moves, sends its number on its line, or hears the line to it
abbrev pub moves : ℕ → ℕ → Numbers → Numbers
moves k p x = record { own = slice_set x.own p (next_by k p (slice_index x.heard p) (slice_index x.own p)); sent = x.sent; heard = x.heard }

abbrev pub sends : ℕ → Numbers → Numbers
sends p x = record { own = x.own; sent = slice_set x.sent p (slice_index x.own p); heard = x.heard }

abbrev pub hears : ℕ → ℕ → Numbers → Numbers
hears n p x = record { own = x.own; sent = x.sent; heard = slice_set x.heard p (slice_index x.sent (preceding n p)) }

-- whether post p may move
abbrev pub may_move : ℕ → Numbers → Bool
may_move p x = may_by p (slice_index x.heard p) (slice_index x.own p)

-- a number for each of n posts and lines, each below k
pub record Fit (n k : ℕ) (x : Numbers) : Type 0 where
  pub owns : length x.own ≡ n
  pub sents : length x.sent ≡ n
  pub hearings : length x.heard ≡ n
  pub own_below : (p : ℕ) → p < n → slice_index x.own p < k
  pub sent_below : (p : ℕ) → p < n → slice_index x.sent p < k
  pub heard_below : (p : ℕ) → p < n → slice_index x.heard p < k

-- how many members' numbers differ between two states
unfoldable pub changed : State → State → ℕ
changed [] t = 0
changed (x ∷ xs) [] = 0
changed (x ∷ xs) (y ∷ ys) = cond (x == y) 0 1 + changed xs ys

-- post p moves and then sends, each if it is chosen
abbrev pub acts : ℕ → ℕ → Bool → Bool → Numbers → Numbers
acts k p moving sending x = cond sending (sends p (cond moving (moves k p x) x)) (cond moving (moves k p x) x)
