-- One only may, so that the turns go round from it; or two may, so that it isn't healed.
use Rattle.std.proofs.Common.{length, sym, subst, arith}
use Rattle.members.specs.Answers.{ring_of}
use Rattle.members.specs.Turns.{TurnAfter}
use Rattle.members.proofs.Answered.{checked, whole_taken}
use Rattle.members.proofs.Runs.{turn_after}
use Rattle.members.proofs.States.{alone_healed, counted_two}
use Rattle.members.proofs.token.moves_until.Goals as goal

pub turns_between-requires : goal.turns_between-requires
turns_between-requires c = let l = (c.in-One.ensures c.args.k).there in record { holder_there = omega arith; member_there = omega arith }

pub returns-in-One : goal.returns-in-One
returns-in-One c =
    let k = c.args.k in
    let s = c.args.numbers.now in
    let r = ring_of k s in
    let h = checked k s _ _ c.in_ok-check_ring.ensures in
    let a = c.in-One.ensures k in
    let i = c.args.i in (
      whole_taken k s i h.taken (omega arith),
      subst (λ n. TurnAfter r s n i) (sym c.turns_between.ensures)
          (turn_after r h.enough s h.state (alone_healed r s c.in-One.holder a) c.in-One.holder a.there a.may_move_now i (omega arith)),
    )

pub returns-in-Several : goal.returns-in-Several
returns-in-Several c =
    let k = c.args.k in
    let s = c.args.numbers.now in
    let h = checked k s _ _ c.in_ok-check_ring.ensures in
    let t = c.in-Several.ensures k in (
      whole_taken k s c.args.i h.taken (omega arith),
      λ q.
          omega (arith, q, counted_two (ring_of k s) s (length s) c.in-Several.field-0 c.in-Several.field-1 t.0 t.1 t.2 t.3),
    )
