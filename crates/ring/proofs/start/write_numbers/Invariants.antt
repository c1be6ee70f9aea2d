-- The members that were passed have their numbers.
use Rattle.std.proofs.Common.{◌≡◌, ℕ, ◌<◌, get_or}
use Rattle.ring.specs.Machine.{numbers_of}
use Rattle.ring.specs.Numbers.{member_of}
use Rattle.ring.proofs.start.write_numbers.Given as goal

abbrev pub invariant-loop-j : goal.invariant-loop-j
invariant-loop-j l = (k : ℕ) → k < l.j → get_or l.numbers k 0 ≡ member_of l.settings.posts (numbers_of l.settings (record { posts = l.posts; lines = l.lines })) k
