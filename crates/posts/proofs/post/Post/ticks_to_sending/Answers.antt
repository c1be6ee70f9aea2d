-- Each tick takes one of the ticks to sending, and nothing else changes them.
use Rattle.std.proofs.Common.{arith}
use Rattle.posts.proofs.Ticks.{sends_within}
use Rattle.posts.proofs.post.Post.ticks_to_sending.Goals as goal

pub returns-clause-sends : goal.returns-clause-sends
returns-clause-sends c = λ s es l. sends_within c.args.self s es (omega (arith, c.min.ensures))
