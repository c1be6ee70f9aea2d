-- By what the member is: a post, a frame or an end.
use Rattle.std.proofs.Common.{◌≡◌, ◌<◌, sym, ap, ◌∙◌, arith}
use Rattle.members.specs.Ring.{up}
use Rattle.members.proofs.Steps.{up_below}
use Rattle.posts.specs.Rule.{heard_in}
use Rattle.ring.specs.Machine.{Machine, numbers_of, post_at}
use Rattle.ring.proofs.Machines.{numbers_own, numbers_sent, numbers_heard}
use Rattle.ring.proofs.Places.{post_number, frame_number, end_number}
use Rattle.ring.proofs.start.member_number.Goals as goal

pub returns-in-Post : goal.returns-in-Post
returns-in-Post c =
    let o = c.args.settings.now in
    let m : Machine = record { posts = c.args.posts.now; lines = c.args.lines.now } in
    let i = c.in-Post.i in
    c.in_range.ensures ∙ sym (post_number o.posts (numbers_of o m) i c.args.j c.in-Post.ensures ∙ numbers_own o o.posts m c.requires.whole i (omega (arith, c.in-Post.ensures, c.requires.there)))

pub returns-in-Frame : goal.returns-in-Frame
returns-in-Frame c =
    let o = c.args.settings.now in
    let m : Machine = record { posts = c.args.posts.now; lines = c.args.lines.now } in
    let i = c.in-Frame.i in
    c.number.ensures ∙ sym (frame_number o.posts (numbers_of o m) i c.args.j c.in-Frame.ensures ∙ numbers_sent o o.posts m c.requires.whole i (omega (arith, c.in-Frame.ensures, c.requires.there)))

pub returns-in-End : goal.returns-in-End
returns-in-End c =
    let o = c.args.settings.now in
    let m : Machine = record { posts = c.args.posts.now; lines = c.args.lines.now } in
    let i = c.in-End.i in
    let l : i < o.posts = omega (arith, c.in-End.ensures, c.requires.there) in
    let e : c.member_after.result ≡ up o.posts i = c.member_after.ensures ∙ ap (λ n. up n i) c.requires.whole.count_of_posts in
    c.in_range-in-End.ensures ∙ (ap (λ x. heard_in o.k (post_at m x).memory) e ∙
    sym (end_number o.posts (numbers_of o m) i c.args.j c.in-End.ensures ∙ numbers_heard o o.posts m c.requires.whole (up o.posts i) (up_below o.posts i (omega (arith, l)))))
