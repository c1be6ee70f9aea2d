-- What `read_line` owes, byte by byte. Assumes nothing.
use Rattle.std.proofs.Common.{drop, Some, None, vec_items, refl, ap, ◌∙◌, subst, arith}
use Rattle.std.proofs.lemmas.List.{take_rest}
use Rattle.lines.specs.declared.line.Symbol.TheVariants.{Digit, Comment, Stray}
use Rattle.lines.specs.declared.line.Ending.TheVariants.{Whole, Damaged}
use Rattle.lines.specs.Hex.{symbol_of, reading, line_of}
use Rattle.lines.proofs.LineLaws.{Remains, one_character, done, cut_byte, all_read}
use Rattle.lines.proofs.Spelling.{line_spelled}
use Rattle.lines.proofs.UnitSteps.{rest_item}
use Rattle.lines.proofs.line.read_line.Goals as goal

pub returns-in_default-after-clause-whole : goal.returns-in_default-after-clause-whole
returns-in_default-after-clause-whole c =
    let line = line_of c.args.text.now in
    let held = vec_items c.loop-rest.bytes in
    let cs = c.loop-rest.rest.now in
    let half = one_character line held cs 0 None None (Digit c.in-Digit.high) (omega arith) refl c.in-Digit.ensures c.loop-rest.invariant in
    let d = done line held Damaged (all_read line held cs 1 (Some c.in-Digit.high) _ (omega arith) refl half) in
    line_spelled c.args.text.now _ _ d.0 d.1

pub returns-in_default-from : goal.returns-in_default-from
returns-in_default-from c =
    let line = line_of c.args.text.now in
    let held = vec_items c.loop-rest.bytes in
    let cs = c.loop-rest.rest.now in
    let high = c.in-Digit.high in
    let half = one_character line held cs 0 None None (Digit high) (omega arith) refl c.in-Digit.ensures c.loop-rest.invariant in
    let next = c.from-in-Digit.ensures ∙ ap symbol_of (rest_item cs 1 _ (take_rest cs 1) 0) in
    let seen = one_character line held cs 1 (Some high) _ c.from-in-Digit.result (omega arith) refl next half in
    let d = done line held Damaged (subst (Remains line held) (cut_byte high c.from-in-Digit.result (reading (drop 2 cs)) c.in_default-from.not-Digit) seen) in
    record { ending = d.1; bytes = d.0; whole = line_spelled c.args.text.now _ _ d.0 d.1; first = tt }

pub returns-in-Comment-clause-whole : goal.returns-in-Comment-clause-whole
returns-in-Comment-clause-whole c =
    let d = done _ _ Whole
    (one_character (line_of c.args.text.now) (vec_items c.loop-rest.bytes) c.loop-rest.rest.now 0 None None Comment (omega arith) refl
    c.in-Comment.ensures c.loop-rest.invariant) in
    line_spelled c.args.text.now _ _ d.0 d.1

pub returns-in-Stray-clause-whole : goal.returns-in-Stray-clause-whole
returns-in-Stray-clause-whole c =
    let d = done _ _ Damaged
    (one_character (line_of c.args.text.now) (vec_items c.loop-rest.bytes) c.loop-rest.rest.now 0 None None Stray (omega arith) refl
    c.in-Stray.ensures c.loop-rest.invariant) in
    line_spelled c.args.text.now _ _ d.0 d.1

pub returns-clause-whole : goal.returns-clause-whole
returns-clause-whole c =
    let d = done _ _ Whole
    (all_read (line_of c.args.text.now) (vec_items c.loop-rest.bytes) c.loop-rest.rest.now 0 None None (omega arith) refl c.loop-rest.invariant) in
    line_spelled c.args.text.now _ _ d.0 d.1
