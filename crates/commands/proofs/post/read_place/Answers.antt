-- What `read_place` owes, from the laws of its field. Assumes nothing.
use Rattle.std.proofs.Common.{length, sym, arith}
use Rattle.std.proofs.lemmas.Bool.{eqb-true, eqb-false}
use Rattle.std.proofs.lemmas.Grind.{common_steps}
use Rattle.lines.proofs.FirstFault.{is_first}
use Rattle.lines.proofs.UnitSteps.{rest_after}
use Rattle.frames.proofs.HeadLaws.{all_read, more_left}
use Rattle.commands.proofs.PostLaws.{place_missing, place_beyond, end_left}
use Rattle.commands.proofs.post.read_place.Goals as goal

pub returns-in_default : goal.returns-in_default
returns-in_default c =
    let e = place_missing c.args.settings.now.posts c.args.bytes.now c.in_default.len_below in
    record { fault = e; first = is_first _ _ e; value = tt; below = tt }

pub returns-then-place-settings : goal.returns-then-place-settings
returns-then-place-settings c =
    let e = place_beyond c.args.settings.now.posts c.args.bytes.now c.in-len1-up.len_at_least c.if-place-settings.true in
    record { fault = e; first = is_first _ _ e; value = tt; below = tt }

pub returns-else-is_empty : goal.returns-else-is_empty
returns-else-is_empty c =
    let bs = c.args.bytes.now in
    let left = end_left c.args.settings.now.posts bs c.in-len1-up.len_at_least c.if-place-settings.false in
    let e = more_left _ _ left (eqb-false (length (rest_after 1 bs)) 0 (sym c.if-is_empty.ensures)) in
    record { fault = e; first = is_first _ _ e; value = tt; below = tt }

pub returns-then-is_empty : goal.returns-then-is_empty
returns-then-is_empty c =
    let bs = c.args.bytes.now in
    let left = end_left c.args.settings.now.posts bs c.in-len1-up.len_at_least c.if-place-settings.false in
    let e = all_read _ _ left (eqb-true (length (rest_after 1 bs)) 0 (sym c.if-is_empty.ensures)) in
    record { fault = e; first = is_first _ _ e; value = grind (arith, common_steps); below = c.if-place-settings.false }
