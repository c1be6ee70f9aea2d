-- Each post passed has its turn after the moves noted.
use Rattle.std.proofs.Common.{◌≡◌, ℕ, ◌*◌, ◌<◌, length, get_or, vec_items}
use Rattle.members.specs.Answers.{ring_of}
use Rattle.members.specs.Turns.{TurnAfter}
use Rattle.order.proofs.telling.tell.Given as goal

abbrev pub invariant-loop-post : goal.invariant-loop-post
invariant-loop-post l =
    (length (vec_items l.waits) ≡ l.post) ×
    ((p : ℕ) → p < l.post → TurnAfter (ring_of l.settings.k l.numbers) l.numbers (get_or (vec_items l.waits) p 0) (3 * p))
