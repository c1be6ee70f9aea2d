-- The ring is refused where a number is too large, and only there.
use Rattle.std.proofs.Common.{◌≡◌, ltb, rules, sym, refl, ◌∙◌}
use Rattle.std.specs.List.{list_all}
use Rattle.std.proofs.lemmas.Iterator.{YieldsList-from_slice}
use Rattle.std.proofs.lemmas.Iterator.Search.{all_from_yields_List}
use borrow.Author.Tests.{tests}
use Rattle.members.proofs.Answered.{accepted, gives, refuse, ring_refused, ring_taken}
use Rattle.members.proofs.States.{all_below_is}
use Rattle.members.proofs.checks.check_ring.Goals as goal

pub returns-then-all : goal.returns-then-all
returns-then-all c =
    let s = c.args.numbers.now in
    let k = c.args.k in
    let e : c.all.result ≡ list_all (λ x. ltb x k) s = all_from_yields_List (λ x. ltb x k) _ _ c.all.result c.all.ensures.ran (YieldsList-from_slice s cc) (λ x b q r. search (rules, tests)) in
    let z = (accepted _ _ _ c.in_ok-check_size.ensures).0 in
    gives _ _ _ (ring_taken k s z (sym (all_below_is k s) ∙ (sym e ∙ c.if-all.true))) refl

pub returns-else-all : goal.returns-else-all
returns-else-all c =
    let s = c.args.numbers.now in
    let k = c.args.k in
    let e : c.all.result ≡ list_all (λ x. ltb x k) s = all_from_yields_List (λ x. ltb x k) _ _ c.all.result c.all.ensures.ran (YieldsList-from_slice s cc) (λ x b q r. search (rules, tests)) in
    let z = (accepted _ _ _ c.in_ok-check_size.ensures).0 in
    refuse _ _ _ (ring_refused k s z (sym (all_below_is k s) ∙ (sym e ∙ c.if-all.false)))
