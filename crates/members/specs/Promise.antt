-- What is promised of every ring, and of the potential of its states. Each is a type; a term of the type is its proof.
-- Assumes nothing.
use Rattle.std.specs.Prelude.{◌≡◌, ℕ, pred, ◌+◌, ◌*◌, ◌<◌, ◌≤◌, T}
use Rattle.members.specs.Ring.{Ring, State, IsState, Enough, may, moved, how_many, Healed, Moves, movers, in_turn, after, count}
use Rattle.members.specs.Potential.{potential}

-- It never stands still: whatever the numbers, some member may move.
abbrev pub NeverStill : Type 0
NeverStill = (r : Ring) → Enough r → (s : State) → IsState r s → (i : ℕ) × (i < r.members) × T (may r s i)

-- A move never makes it worse: no more may move after it than before.
abbrev pub NoMore : Type 0
NoMore =
    (r : Ring) → Enough r → (s : State) → IsState r s → (i : ℕ) → i < r.members → T (may r s i) →
    how_many r (moved r s i) r.members ≤ how_many r s r.members

-- Once one only may, it stays so, and the next to move is the one after.
abbrev pub Stays : Type 0
Stays =
    (r : Ring) → Enough r → (s : State) → IsState r s → Healed r s → (i : ℕ) → i < r.members → T (may r s i) →
    Healed r (moved r s i) × T (may r (moved r s i) (after r i))

-- Member 0 can't move as often as there are members without healing it all.
abbrev pub FirstHeals : Type 0
FirstHeals =
    (r : Ring) → Enough r → (s t : State) (n : ℕ) → IsState r s → (m : Moves r s n t) → r.members ≤ count 0 (movers m) → Healed r t

-- Nobody can move more often than member 0 does, by more than there are members before it.
abbrev pub InStep : Type 0
InStep =
    (r : Ring) → Enough r → (s t : State) (n : ℕ) → IsState r s → (m : Moves r s n t) → (i : ℕ) → i < r.members →
    count i (movers m) ≤ count 0 (movers m) + i

-- From these numbers, whoever moves when: some member may move; after three halves of members times (members - 1) moves exactly one may; and once it is so
-- it stays so, each moving in its turn.
pub record Whole (r : Ring) (s : State) : Type 0 where
  pub some : (i : ℕ) × (i < r.members) × T (may r s i)
  pub heals : (n : ℕ) (t : State) → Moves r s n t → 3 * (r.members * pred r.members) ≤ 2 * n → Healed r t
  pub stays : (n k : ℕ) (t u : State) → Moves r s n t → Healed r t → (m : Moves r t k u) → Healed r u × T (in_turn r (movers m))

-- The main promise: all of this from whatever numbers.
abbrev pub Main : Type 0
Main = (r : Ring) → Enough r → (s : State) → IsState r s → Whole r s

-- After healing, in any moves as many as there are members, each member moves exactly once.
abbrev pub EachOnce : Type 0
EachOnce =
    (r : Ring) → Enough r → (s t : State) → IsState r s → Healed r s → (m : Moves r s r.members t) → (i : ℕ) → i < r.members →
    count i (movers m) ≡ 1

-- The potential falls with every move of a state that isn't healed ..
abbrev pub PotentialFalls : Type 0
PotentialFalls =
    (r : Ring) → Enough r → (s : State) → IsState r s → (Healed r s → ⊥) → (i : ℕ) → i < r.members → T (may r s i) →
    potential r.k (moved r s i) < potential r.k s

-- .. is at least 3 in such a state ..
abbrev pub PotentialLeast : Type 0
PotentialLeast = (r : Ring) → Enough r → (s : State) → IsState r s → (Healed r s → ⊥) → 3 ≤ potential r.k s

-- .. and at most three halves of members times (members - 1) in every state.
abbrev pub PotentialMost : Type 0
PotentialMost = (r : Ring) → Enough r → (s : State) → IsState r s → 2 * potential r.k s ≤ 3 * (r.members * pred r.members)

-- All of these promises together.
pub record Promises : Type 0 where
  pub never_still : NeverStill
  pub no_more : NoMore
  pub stays : Stays
  pub first_heals : FirstHeals
  pub in_step : InStep
  pub main : Main
  pub each_once : EachOnce
  pub potential_falls : PotentialFalls
  pub potential_least : PotentialLeast
  pub potential_most : PotentialMost

-- What a move of member i from s to t brings: no more may move than before; if one only might, one only may, the one after i; if not, the potential fell.
pub record Better (r : Ring) (s t : State) (i : ℕ) : Type 0 where
  pub no_more : how_many r t r.members ≤ how_many r s r.members
  pub stays : Healed r s → Healed r t × T (may r t (after r i))
  pub falls : (Healed r s → ⊥) → potential r.k t < potential r.k s

-- The bounds of the potential v of a state.
pub record Bounds (r : Ring) (s : State) (v : ℕ) : Type 0 where
  pub least : (Healed r s → ⊥) → 3 ≤ v
  pub most : 2 * v ≤ 3 * (r.members * pred r.members)

-- No run of a ring of m members that hasn't healed it has more than n moves of member i.
abbrev pub MovesBefore : ℕ → ℕ → ℕ → Type 0
MovesBefore m i n =
    (r : Ring) → Enough r → r.members ≡ m → (s t : State) (l : ℕ) → IsState r s → (q : Moves r s l t) → (Healed r t → ⊥) → count i (movers q) ≤ n
