-- Whose turn it is after some moves.
-- Assumes nothing.
use Rattle.std.specs.Prelude.{◌≡◌, ℕ, ◌+◌, ◌-◌, ◌<◌, cond, T, nat_le}
use Rattle.members.specs.Ring.{Ring, State, may, Moves}

-- how many turns from member h to member i, in a ring of m members
abbrev pub wait : ℕ → ℕ → ℕ → ℕ
wait m h i = cond (nat_le h i) (i - h) (i + m - h)

-- member i may move, and no other
pub record Alone (r : Ring) (s : State) (i : ℕ) : Type 0 where
  pub there : i < r.members
  pub may_move_now : T (may r s i)
  pub others : (j : ℕ) → j < r.members → T (may r s j) → j ≡ i

-- after n moves, whoever chose them, member i may move and no other; n moves can be made, and after fewer it isn't yet member i's turn
pub record TurnAfter (r : Ring) (s : State) (n i : ℕ) : Type 0 where
  pub reached : (t : State) × Moves r s n t
  pub turn : (t : State) → Moves r s n t → Alone r t i
  pub first : (e : ℕ) (t : State) → e < n → Moves r s e t → T (may r t i) → ⊥
