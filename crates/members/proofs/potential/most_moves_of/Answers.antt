-- Member 0 moves at most (members - 1) times, and member i at most i times more.
use Rattle.std.proofs.Common.{◌≡◌, suc, ◌+◌, ◌-◌, arith}
use Rattle.members.proofs.Runs.{moves_before}
use Rattle.members.proofs.potential.most_moves_of.Goals as goal

pub returns : goal.returns
returns c =
    let n = c.from.result - 1 + c.from-2.result in
    let e : suc n ≡ c.args.members + c.args.i = omega arith in
    (e, c.if-i-members.false, moves_before c.args.members c.args.i n c.if-i-members.false e)
