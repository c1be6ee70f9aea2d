-- What `read_order` owes, from the laws of its fields. Assumes nothing.
use Rattle.std.proofs.Common.{◌≡◌, ℕ, List, Some, ◌∙◌, arith}
use Rattle.std.proofs.lemmas.Result.{err_from_is_err_and}
use Rattle.lines.specs.declared.fault.Fault.{Fault}
use Rattle.lines.specs.Checks.{first_fault, IsFirstFault}
use Rattle.std.proofs.lemmas.Grind.{common_steps}
use Rattle.lines.proofs.FirstFault.{is_first}
use Rattle.commands.specs.OrderUnit.{order_checks, AcceptsOrders}
use Rattle.commands.proofs.OrderLaws.{kind_missing, kind_wrong, post_beyond, what_next, accepts_orders}
use Rattle.commands.proofs.order.read_order.Goals as goal

-- what is owed where an order is refused
Refusal : ℕ → List ℕ → Fault → Type 0
Refusal n bs f = record {
  fault : Some f ≡ first_fault (order_checks n bs);
  first : IsFirstFault (order_checks n bs) (Some f);
  value : Unit {0};
  below : Unit {0};
  complete : AcceptsOrders n bs (Some f);
}

refused : (n : ℕ) (bs : List ℕ) (f : Fault) → Some f ≡ first_fault (order_checks n bs) → Refusal n bs f
unfolding Refusal
refused n bs f e = record { fault = e; first = is_first _ _ e; value = tt; below = tt; complete = accepts_orders n bs _ e }

pub returns-in_default : goal.returns-in_default
unfolding Refusal
returns-in_default c = refused _ _ _ (kind_missing _ _ c.in_default.len_below)

pub returns-in_default-2 : goal.returns-in_default-2
unfolding Refusal
returns-in_default-2 c = refused _ _ _ (kind_wrong _ _ c.in_default.len_at_least (λ e. omega arith))

pub returns-then-post-settings : goal.returns-then-post-settings
unfolding Refusal
returns-then-post-settings c = refused _ _ _ (post_beyond _ _ c.in-3.len_at_least (omega arith) c.if-post-settings.true)

pub returns-in_err-order : goal.returns-in_err-order
unfolding Refusal
returns-in_err-order c =
    let p = err_from_is_err_and c.from_residual.result c.from_residual.ensures.1 in
    let next = what_next _ _ c.in-3.len_at_least (omega arith) c.if-post-settings.false in
    rw (p.1, p.2) (refused _ _ _ (c.in_err-order.ensures.fault ∙ next))

pub returns : goal.returns
returns c =
    let e = c.in_ok-order.ensures.fault ∙ what_next c.args.settings.now.posts c.args.bytes.now c.in-3.len_at_least (omega arith) c.if-post-settings.false in
    record {
      fault = e;
      first = is_first _ _ e;
      value = grind (arith, common_steps);
      below = c.if-post-settings.false;
      complete = accepts_orders _ _ _ e;
    }
