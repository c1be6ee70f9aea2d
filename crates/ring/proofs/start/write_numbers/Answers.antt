-- One number more stands where it should.
use Rattle.std.proofs.Common.{◌≡◌, ◌*◌, length, sym, ◌∙◌, arith}
use Rattle.std.proofs.lemmas.List.{ext_get_or}
use Rattle.ring.specs.Machine.{Machine, numbers_of, state_in}
use Rattle.ring.proofs.Places.{state_length, state_at}
use Rattle.ring.proofs.start.write_numbers.Goals as goal

pub returns : goal.returns
returns c =
    let o = c.args.settings.now in
    let m : Machine = record { posts = c.args.posts.now; lines = c.args.lines.now } in
    let s = c.loop-j.numbers in
    let e : length s ≡ 3 * o.posts = omega (arith, c.requires.count_of_numbers, c.loop-j.auto.numbers) in
    ext_get_or 0 s (state_in o m) (e ∙ sym (state_length o.posts (numbers_of o m)))
    (λ k l. c.loop-j.invariant k (omega arith) ∙ sym (state_at o.posts (numbers_of o m) k (omega arith)))
