-- A post's code is that of a member.
use Rattle.posts.proofs.PostCode.{post_laws}
use Rattle.posts.proofs.post.Post.new.Goals as goal

pub returns-clause-code : goal.returns-clause-code
returns-clause-code c = post_laws c.args.settings.now c.args.place
