-- The token stays until the post moves, and the time to speak falls with each tick.
use Rattle.std.proofs.Common.{sym, ◌∙◌, rules}
use Rattle.posts.proofs.Thens.{then_cases}
use Rattle.posts.proofs.Ticks.{moves_after, waits}
use Rattle.posts.proofs.post.Post.ticks_to_moving.Goals as goal

pub returns : goal.returns
returns c =
    let s = c.args.settings.now in
    let p = c.args.self in
    then_cases _ _ _ _ _ c.then.ensures.variant c.then.ensures.some
    (λ h. waits s p (sym c.may_move.ensures ∙ h)) (λ h n q. (search rules, moves_after s p n (sym c.may_move.ensures ∙ h) (search rules)))
