-- The members passed had at most one that may, and no second was found yet.
use Rattle.std.proofs.Common.{◌≡◌, ℕ, None}
use Rattle.members.specs.Answers.{before, ring_of}
use Rattle.members.specs.Ring.{at}
use Rattle.members.proofs.Seen.{Seen}
use Rattle.members.proofs.token.find_holders.Given as goal

abbrev pub invariant-members : goal.invariant-members
invariant-members l = record {
  none_yet : l.second ≡ None;
  seen : (k : ℕ) → Seen (ring_of k l.numbers) l.numbers l.i l.first;
  passed : l.before ≡ at l.numbers (before l.numbers l.i);
}
