-- The speakers among the posts that were passed are added.
use Rattle.std.proofs.Common.{◌≡◌, ◌++◌, map, take, vec_items}
use Rattle.posts.specs.Steps.{deeds_in}
use Rattle.ring.proofs.saying.push_speakers.Given as goal

abbrev pub invariant-loop-post : goal.invariant-loop-post
invariant-loop-post l = vec_items l.speakers ≡ vec_items l.initial.speakers ++ map (λ p. (deeds_in l.settings p).speaks) (take l.post-index l.posts)
