-- The potential V of a state, a number that falls with every move until the ring is healed.
-- Assumes nothing.
use Rattle.std.specs.Prelude.{ℕ, zero, suc, ◌+◌, ◌*◌, cond, List, [], ◌∷◌, length, ◌==◌}
use Rattle.members.specs.Ring.{State, up}

-- the number c steps up from x, below k
unfoldable pub ahead : ℕ → ℕ → ℕ → ℕ
ahead k x zero = x
ahead k x (suc c) = up k (ahead k x c)

-- how many of the numbers x, x + 1, x + 2, .. (0 after k - 1) are found in this order, going through the list from its end to its front
unfoldable pub chain : ℕ → ℕ → List ℕ → ℕ
chain k x [] = 0
chain k x (y ∷ ys) = cond (y == ahead k x (chain k x ys)) 1 0 + chain k x ys

-- a list without the run of x at its front
unfoldable pub tail : ℕ → List ℕ → List ℕ
tail x [] = []
tail x (y ∷ ys) = cond (y == x) (tail x ys) (y ∷ ys)

-- x stands before the list: each number that differs from the one before it weighs as much as there are numbers from it to the end
unfoldable pub weights : ℕ → List ℕ → ℕ
weights x [] = 0
weights x (y ∷ ys) = cond (y == x) 0 (suc (length ys)) + weights y ys

-- the length of member 0's chain in the tail of the others
unfoldable pub chained : ℕ → State → ℕ
chained k [] = 0
chained k (x ∷ ys) = chain k x (tail x ys)

-- the potential: members times the chain, and the weights of those that differ from the one before
unfoldable pub potential : ℕ → State → ℕ
potential k [] = 0
potential k (x ∷ ys) = suc (length ys) * chained k (x ∷ ys) + weights x ys
