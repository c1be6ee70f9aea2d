-- What is told of a ring of posts: who has the token, and after how many moves each post has its turn.
-- Assumes nothing.
use Rattle.std.specs.Prelude.{◌≡◌, ℕ, ◌*◌, ◌<◌, length, vec_items, slice_index}
use Rattle.std.specs.List.{AllByRecursion}
use Rattle.frames.specs.declared.settings.Settings.{Settings}
use Rattle.members.specs.Answers.{Tells}
use Rattle.members.specs.Ring.{Ring, State}
use Rattle.members.specs.Turns.{Alone, TurnAfter}
use Rattle.members.specs.declared.holders.Holders.TheVariants.{Several as SeveralHold}
use Rattle.order.specs.declared.tidings.Tidings.{Tidings}
use Rattle.order.specs.declared.tidings.Tidings.TheVariants.{One, Several}

-- a number below K for each member of the ring of posts
abbrev pub Numbered : Settings → State → Type 0
Numbered o s = (length s ≡ 3 * o.posts) × AllByRecursion (λ x. x < o.k) s

-- of n posts in a ring: its only holder with a turn for each post, which is member 3 p; or the first two of several holders
abbrev pub Right : Ring → State → ℕ → Tidings → Type 0
Right r s n (One h waits) = Alone r s h × (length (vec_items waits) ≡ n) × ((p : ℕ) → p < n → TurnAfter r s (slice_index (vec_items waits) p) (3 * p))
Right r s n (Several i j) = Tells r s (SeveralHold i j)
