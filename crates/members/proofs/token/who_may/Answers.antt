-- A ring that isn't refused heals.
use Rattle.members.proofs.Answered.{checked}
use Rattle.members.proofs.Runs.{main}
use Rattle.members.specs.Answers.{ring_of}
use Rattle.members.proofs.token.who_may.Goals as goal

pub returns : goal.returns
returns c =
    let k = c.args.k in
    let s = c.args.numbers.now in
    let h = checked k s _ _ c.in_ok-check_ring.ensures in
    (h.taken, c.find_holders.ensures k, main (ring_of k s) h.enough s h.state)
