-- What `read_settings` owes, from the laws of its fields. Assumes nothing.
use Rattle.std.proofs.Common.{◌≡◌, ℕ, ◌&&◌, leb, List, ◌∷◌, get_or, Some, sym, refl, ◌∙◌, arith}
use Rattle.std.specs.Ordering.{is_le, nat_cmp}
use Rattle.std.proofs.lemmas.Bool.Decides.{nat_tests}
use Rattle.std.proofs.lemmas.Result.{err_from_is_err_and}
use Rattle.lines.specs.declared.fault.Fault.{Fault}
use Rattle.lines.specs.Checks.{first_fault, IsFirstFault}
use Rattle.lines.specs.Units.{reading_fault}
use Rattle.lines.proofs.FirstFault.{is_first}
use Rattle.lines.proofs.UnitSteps.{rest_after}
use Rattle.frames.specs.SettingsUnit.{number_count, turn_fields, settings_checks, AcceptsAll}
use Rattle.frames.proofs.SettingsLaws.{kind_missing, kind_wrong, posts_wrong, k_left, k_missing, k_wrong, turns_left, bytes_back, accepts}
use Rattle.frames.proofs.settings.reading.read_settings.Goals as goal
use Rattle.frames.proofs.settings.reading.read_settings.Goals.{After-contains, Else-not-contains, Else-k-from}

-- what is owed where settings are refused
Refusal : List ℕ → Fault → Type 0
Refusal bs f = record {
  fault : Some f ≡ first_fault (settings_checks bs);
  first : IsFirstFault (settings_checks bs) (Some f);
  value : Unit {0};
  complete : AcceptsAll bs (Some f);
}

refused : (bs : List ℕ) (f : Fault) → Some f ≡ first_fault (settings_checks bs) → Refusal bs f
unfolding Refusal
refused bs f e = record { fault = e; first = is_first _ _ e; value = tt; complete = accepts bs _ e }

pub returns-in_default : goal.returns-in_default
unfolding Refusal
returns-in_default c = refused _ _ (kind_missing _ c.in_default.len_below)

pub returns-in_default-2 : goal.returns-in_default-2
unfolding Refusal
returns-in_default-2 c = refused _ _ (kind_wrong _ c.in_default.len_at_least (λ e. omega arith))

-- a number is compared as it is tested
le_is_leb : (a b : ℕ) → is_le (nat_cmp a b) ≡ leb a b
le_is_leb a b = grind (arith, nat_tests)

-- the test of the count of posts
in_range : (c : After-contains) → (leb 2 (get_or c.args.bytes.now 1 0) && leb (get_or c.args.bytes.now 1 0) 21) ≡ c.contains.result
in_range c =
    let made = c.new.ensures in
    let n = get_or c.args.bytes.now 1 0 in
    sym (c.contains.ensures.value ∙ rw (made.start, made.end, made.exhausted, le_is_leb 2 n, le_is_leb n 21) refl)

-- the fields that are left after the count, and after K

to_k : (c : Else-not-contains) → (leb 2 (get_or c.args.bytes.now 1 0) && leb (get_or c.args.bytes.now 1 0) 21) ≡ c.contains.result →
    first_fault (settings_checks c.args.bytes.now)
    ≡ reading_fault (number_count (get_or c.args.bytes.now 1 0) ∷ turn_fields (get_or c.args.bytes.now 1 0)) (rest_after 2 c.args.bytes.now)
to_k c e =
    k_left _ c.in-2.len_at_least (omega arith) (e ∙ c.if-not-contains.false)

to_turns : (c : Else-k-from) →
    first_fault (settings_checks c.args.bytes.now)
    ≡ reading_fault (number_count (get_or c.args.bytes.now 1 0) ∷ turn_fields (get_or c.args.bytes.now 1 0)) (rest_after 2 c.args.bytes.now) →
    first_fault (settings_checks c.args.bytes.now) ≡ reading_fault (turn_fields (get_or c.args.bytes.now 1 0)) c.in_ok-k.rest.now
to_turns c e =
    let read = c.in_ok-k.ensures in
    turns_left _ _ e _ _ read.cases read.number read.rest (omega (arith, c.if-k-from.false, c.from.ensures))

pub returns-then-not-contains : goal.returns-then-not-contains
unfolding Refusal
returns-then-not-contains c =
    refused _ _ (posts_wrong _ c.in-2.len_at_least (omega arith) (in_range (goal.at.returns-then-not-contains c).After-contains ∙ c.if-not-contains.true))

pub returns-in_err-k : goal.returns-in_err-k
unfolding Refusal
returns-in_err-k c =
    let p = err_from_is_err_and c.from_residual.result c.from_residual.ensures.1 in
    let at = goal.at.returns-in_err-k c in
    let left = to_k at.Else-not-contains (in_range at.After-contains) in
    let read = c.in_err-k.ensures.cases in
    rw (p.1, p.2, read.1) (refused _ _ (k_missing _ _ left read.0))

pub returns-then-k-from : goal.returns-then-k-from
unfolding Refusal
returns-then-k-from c =
    let at = goal.at.returns-then-k-from c in
    let left = to_k at.Else-not-contains (in_range at.After-contains) in
    let read = c.in_ok-k.ensures in
    refused _ _ (k_wrong _ _ left _ _ read.cases read.number read.rest (omega (arith, c.if-k-from.true, c.from.ensures)))

pub returns-in_err-turns : goal.returns-in_err-turns
unfolding Refusal
returns-in_err-turns c =
    let p = err_from_is_err_and c.from_residual-in_err-turns.result c.from_residual-in_err-turns.ensures.1 in
    let at = goal.at.returns-in_err-turns c in
    let left = to_turns at.Else-k-from (to_k at.Else-not-contains (in_range at.After-contains)) in
    rw (p.1, p.2) (refused _ _ (c.in_err-turns.ensures.fault ∙ sym left))

pub returns : goal.returns
returns c =
    let at = goal.at.returns c in
    let left = to_turns at.Else-k-from (to_k at.Else-not-contains (in_range at.After-contains)) in
    let k = c.in_ok-k.ensures in
    let turns = c.in_ok-turns.ensures in
    let e = turns.fault ∙ sym left in
    record {
      fault = e;
      first = is_first _ _ e;
      complete = accepts _ _ e;
      value = bytes_back _ _ _ c.in-2.len_at_least (λ i. omega (arith, c.type_inv.bytes i)) (omega arith) k.cases k.number (turns.value ∙ k.rest);
    }
