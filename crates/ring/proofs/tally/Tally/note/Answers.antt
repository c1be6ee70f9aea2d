-- A number that stays is no move, another one is.
use Rattle.std.proofs.Common.{ℕ, set, sym, ap, ◌∙◌, subst, arith}
use Rattle.std.proofs.lemmas.List.{set-get_or}
use Rattle.members.specs.Answers.{ring_of}
use Rattle.ring.specs.Tallies.{Counted, one_more}
use Rattle.ring.proofs.Holders.{noted_same, noted_other}
use Rattle.ring.proofs.TickLaws.{noted_kept}
use Rattle.ring.proofs.tally.Tally.note.Goals as goal

pub returns-then-numbers-j : goal.returns-then-numbers-j
returns-then-numbers-j c =
    let s = c.args.numbers.now in
    record {
      after = sym (ap (set s c.args.j) (sym c.if-numbers-j.true) ∙ set-get_or s c.args.j 0);
      value = λ k. sym (noted_same (ring_of k s) s c.args.j c.args.value c.args.self.now c.requires.there c.if-numbers-j.true);
      counted = c.requires.counted;
      moves = omega arith;
    }

pub returns : goal.returns
returns c =
    let s = c.args.numbers.now in
    let y = c.args.self.now in
    let a = c.shift-holders.ensures.after in
    let v = λ (k : ℕ). c.add_move.ensures ∙ (ap (λ h. one_more h y) (c.shift-holders.ensures.value k) ∙
    sym (noted_other (ring_of k s) s c.args.j c.args.value y c.requires.there c.if-numbers-j.false)) in
    record {
      after = a;
      value = v;
      counted = subst (λ t. Counted t c.add_move.new.self.holders) (sym a) (noted_kept s c.args.j c.args.value y c.add_move.new.self c.requires.counted c.requires.there v);
      moves = omega (arith, ap (λ t. t.moves) c.add_move.ensures);
    }
