-- The guard at the two numbers is the ring's.
use Rattle.std.proofs.Common.{ℕ, ap, ◌∙◌}
use Rattle.members.specs.Answers.{may_by}
use Rattle.members.proofs.Answered.{may_by_lem}
use Rattle.members.proofs.token.has_token.Goals as goal

pub returns : goal.returns
returns c =
    let s = c.args.numbers.now in
    let e = c.in_ok-before.ensures.1 in (
      c.in_ok-before.ensures.0,
      λ k. c.guard_holds.ensures ∙ (ap (λ (p : ℕ × ℕ). may_by c.args.i p.0 p.1) e ∙ may_by_lem k s c.args.i),
    )
