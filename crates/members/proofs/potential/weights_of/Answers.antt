-- Each number that differs from the one before adds its weight.
use Rattle.std.proofs.Common.{arith}
use Rattle.std.proofs.lemmas.Bool.{eq-eqb, ne_eqb}
use Rattle.members.specs.Ring.{at}
use Rattle.members.proofs.Walks.{weights_walk, weights_end, weights_fit}
use Rattle.members.proofs.potential.weights_of.Goals as goal
use Rattle.members.proofs.potential.weights_of.Goals.{then-own-before, else-own-before}

pub overflow_add-sum : goal.overflow_add-sum
overflow_add-sum c = omega (arith, weights_fit c.args.first c.args.others.now c.requires, c.loop-i.invariant)

pub loop-i-preserved : goal.loop-i-preserved
loop-i-preserved c =
    let s = c.args.others.now in
    let i = c.loop-i.i in
    let p = c.loop-i.before in
    elim c.if-own-before.branch [
      | then-own-before w ↦
          let e = ne_eqb (at s i) p w.if-own-before.true in
          rw w.before-is (weights_walk s i p c.loop-i.sum c.if-own-before.sum _ c.loop-i-test.true c.loop-i.invariant (rw e w.sum-is))
      | else-own-before w ↦
          let e = eq-eqb (at s i) p w.if-own-before.false in
          rw w.before-is (weights_walk s i p c.loop-i.sum c.if-own-before.sum _ c.loop-i-test.true c.loop-i.invariant (rw e (omega (arith, w.sum-is))))
    ]

pub returns : goal.returns
returns c = omega (arith, c.loop-i.invariant, weights_end c.loop-i.before c.args.others.now c.loop-i.i (omega arith))
