-- Counting begins with those that may move after the change.
use Rattle.std.proofs.Common.{ℕ, sym, ap, ◌∙◌, subst}
use Rattle.ring.specs.Tallies.{Counted, anew, begun}
use Rattle.ring.proofs.DisturbLaws.{anew_kept}
use Rattle.ring.proofs.tally.Tally.disturb.Goals as goal

pub returns : goal.returns
unfolding anew
returns c =
    let a = c.shift-holders.ensures.after in
    let v = λ (k : ℕ). c.begin.ensures ∙ ap begun (c.shift-holders.ensures.value k) in
    record {
      after = a;
      value = v;
      counted = subst (λ s. Counted s c.begin.result.holders) (sym a) (anew_kept c.args.numbers.now c.args.j c.args.value c.begin.result c.requires.counted.big v);
    }
