-- What `read_post_order` owes, from the laws of its fields. Assumes nothing.
use Rattle.std.proofs.Common.{◌∙◌, arith}
use Rattle.std.proofs.lemmas.Grind.{common_steps}
use Rattle.lines.proofs.FirstFault.{is_first}
use Rattle.commands.proofs.PostLaws.{kind_missing, kind_wrong, post_other, what_next}
use Rattle.commands.proofs.post.read_post_order.Goals as goal

pub returns-in_default : goal.returns-in_default
returns-in_default c = let e = kind_missing c.args.place c.args.bytes.now c.in_default.len_below in record { fault = e; first = is_first _ _ e; value = tt }

pub returns-in_default-2 : goal.returns-in_default-2
returns-in_default-2 c =
    let e = kind_wrong c.args.place c.args.bytes.now c.in_default.len_at_least (λ e. omega arith) in record { fault = e; first = is_first _ _ e; value = tt }

pub returns-then-post-place : goal.returns-then-post-place
returns-then-post-place c =
    let e = post_other c.args.place c.args.bytes.now c.in-3.len_at_least (omega arith) c.if-post-place.true in
    record { fault = e; first = is_first _ _ e; value = tt }

pub returns : goal.returns
returns c =
    let e = c.read_post_what.ensures.fault ∙ what_next c.args.place c.args.bytes.now c.in-3.len_at_least (omega arith) c.if-post-place.false in
    record { fault = e; first = is_first _ _ e; value = grind (arith, common_steps) }
