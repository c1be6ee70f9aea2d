-- The number taken at the pair of numbers is the ring's.
use Rattle.std.proofs.Common.{◌∙◌}
use Rattle.members.proofs.Answered.{gives, looked}
use Rattle.members.proofs.guard.next_number.Goals as goal

pub returns : goal.returns
returns c =
    let h = looked c.args.k c.args.numbers.now c.args.i _ _ c.in_ok-before.ensures in
    gives _ _ _ h.taken (c.number_taken.ensures ∙ h.next_is)
