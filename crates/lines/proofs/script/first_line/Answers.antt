-- The line ends at the newline that was found, or with the text.
use Rattle.std.proofs.Common.{length, ◌∙◌, arith}
use lib.Seq.{take-length}
use Rattle.std.proofs.lemmas.List.{drop_all}
use Rattle.lines.proofs.ScriptLaws.{line_found, last_line}
use Rattle.lines.proofs.TextLaws.{lines_first}
use Rattle.lines.proofs.script.first_line.Goals as goal

pub returns-in-Some-clause-line : goal.returns-in-Some-clause-line
returns-in-Some-clause-line c = (line_found c.args.text.now c.in-Some.end c.in-Some.ensures).0

pub returns-in-Some-clause-after : goal.returns-in-Some-clause-after
returns-in-Some-clause-after c = (line_found c.args.text.now c.in-Some.end c.in-Some.ensures).1

pub returns-in-Some-clause-lines : goal.returns-in-Some-clause-lines
returns-in-Some-clause-lines c = λ l.
    let f = line_found c.args.text.now c.in-Some.end c.in-Some.ensures in
    rw f.0 (rw f.1 (lines_first c.args.text.now l))

pub returns-in-None-clause-line : goal.returns-in-None-clause-line
returns-in-None-clause-line c =
    c.split_at.ensures.front ∙ (take-length c.args.text.now ∙ (last_line c.args.text.now c.in-None.ensures).0)

pub returns-in-None-clause-after : goal.returns-in-None-clause-after
returns-in-None-clause-after c =
    let s = c.args.text.now in
    c.split_at.ensures.back ∙ (drop_all (length s) s (omega arith) ∙ (last_line s c.in-None.ensures).1)

pub returns-in-None-clause-lines : goal.returns-in-None-clause-lines
returns-in-None-clause-lines c = λ l.
    let s = c.args.text.now in
    let a = c.split_at.ensures.front ∙ (take-length s ∙ (last_line s c.in-None.ensures).0) in
    let b = c.split_at.ensures.back ∙ (drop_all (length s) s (omega arith) ∙ (last_line s c.in-None.ensures).1) in
    rw a (rw b (lines_first s l))
