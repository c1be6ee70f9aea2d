-- The slices fit where nothing was refused, and then the numbers are those of a ring.
use Rattle.std.proofs.Common.{◌≡◌, ℕ, sym, ◌∙◌, arith}
use Rattle.members.proofs.Answered.{accepted, refused}
use Rattle.ring.specs.Machine.{Machine}
use Rattle.ring.proofs.StartLaws.{fitting, fitting_whole, numbers_taken, begun_anew}
use Rattle.ring.proofs.start.start.Goals as goal

pub unreachable-requires : goal.unreachable-requires
unreachable-requires c =
    let o = c.args.settings.now in
    let m : Machine = record { posts = c.args.posts.now; lines = c.args.lines.now } in
    let s = c.write_numbers.new.numbers in
    let f = fitting o m.posts m.lines c.args.numbers.now c.from-count.result c.from-count.ensures c.if-posts-count.false c.if-lines-count.false c.if-numbers-count.false c.if-not-all_seated.ensures in
    let n = numbers_taken o m (fitting_whole o m.posts m.lines c.args.numbers.now f) s c.write_numbers.ensures in
    let e = refused _ _ _ (sym c.in_default.is ∙ c.how_many_may.ensures) in
    let z : ◌≡◌ {A = ℕ} 0 1 = cc in
    omega arith

pub returns : goal.returns
returns c =
    let o = c.args.settings.now in
    let m : Machine = record { posts = c.args.posts.now; lines = c.args.lines.now } in
    let s = c.write_numbers.new.numbers in
    let f = fitting o m.posts m.lines c.args.numbers.now c.from-count.result c.from-count.ensures c.if-posts-count.false c.if-lines-count.false c.if-numbers-count.false c.if-not-all_seated.ensures in
    record {
      fits = f;
      numbers = c.write_numbers.ensures;
      tally = c.begin.ensures ∙ begun_anew o m (fitting_whole o m.posts m.lines c.args.numbers.now f) s c.write_numbers.ensures c.in-Ok.holders
          (accepted _ _ _ (sym c.in-Ok.is ∙ c.how_many_may.ensures)).1;
    }
