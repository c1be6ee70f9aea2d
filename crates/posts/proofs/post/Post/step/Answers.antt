-- No step looks at the counts.
use Rattle.posts.proofs.CountLaws.{same_for_ever}
use Rattle.posts.proofs.post.Post.step.Goals as goal

pub returns-in-Tick-clause-counts : goal.returns-in-Tick-clause-counts
returns-in-Tick-clause-counts c = same_for_ever _ _

pub returns-in-Frame-clause-counts : goal.returns-in-Frame-clause-counts
returns-in-Frame-clause-counts c = same_for_ever _ _

pub returns-in-ButtonDown-clause-counts : goal.returns-in-ButtonDown-clause-counts
returns-in-ButtonDown-clause-counts c = same_for_ever _ _

pub returns-in-ButtonUp-clause-counts : goal.returns-in-ButtonUp-clause-counts
returns-in-ButtonUp-clause-counts c = same_for_ever _ _
