-- Behind the run stands the tail.
use Rattle.std.proofs.Common.{◌≡◌, ℕ, ◌≤◌, ◌-◌, eqb, List, take, drop, length, rules, ap, ◌∙◌, arith, length-drop}
use Rattle.std.specs.List.{prefix_len}
use borrow.Author.Tests.{tests}
use Rattle.std.proofs.lemmas.Iterator.{YieldsList-from_slice}
use Rattle.std.proofs.lemmas.Iterator.Consumers.{count_from_yields_List}
use Rattle.std.proofs.lemmas.Iterator.Search.{YieldsList-from_take_while}
use Rattle.std.proofs.lemmas.List.{take_all}
use Rattle.std.proofs.lemmas.List.Folds.{length-prefix_len}
use Rattle.members.specs.Potential.{tail}
use Rattle.members.proofs.Walks.{tail_at}
use Rattle.members.proofs.potential.tail_of.Goals as goal

-- from an index as large as the run is long, the tail stands
from_index : (x : ℕ) (s : List ℕ) (i : ℕ) → i ≡ prefix_len (λ y. eqb y x) s → take (length s - i) (drop i s) ≡ tail x s
from_index x s i e =
    let t : length (drop i s) ≤ length s - i = simp length-drop (omega arith) in
    take_all (length s - i) (drop i s) t ∙ (ap (λ n. drop n s) e ∙ tail_at x s)

pub returns : goal.returns
returns c =
    let s = c.args.others.now in
    let x = c.args.first in
    let n : c.count-run.result ≡ prefix_len (λ y. eqb y x) s =
    count_from_yields_List c.take_while.result _ c.count-run.ensures.ran
    (YieldsList-from_take_while _ (λ y. eqb y x) (YieldsList-from_slice s cc) c.take_while.ensures.closure c.take_while.ensures.done (λ x r q k. search (rules, tests)))
    ∙ length-prefix_len (λ y. eqb y x) s in
    from_index x s _ (grind (arith, n))
