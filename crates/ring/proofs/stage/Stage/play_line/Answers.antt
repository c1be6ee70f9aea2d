-- A line is passed over, refused, shown, or obeyed.
use Rattle.std.proofs.Common.{◌≡◌, [], ◌∷◌, Some, Ok, Err, Result, OnOk, is_ok, if◌then◌else◌, sym, refl, ap, ◌∙◌, subst, arith}
use Rattle.std.specs.Result.{result_err}
use Rattle.lines.specs.Hex.{Line}
use Rattle.ring.specs.Lent.{Becomes, stage_in}
use Rattle.ring.specs.Plays.{Stage, line_fault, show, obeyed, answered, stage_of_line, says_of_line}
use Rattle.ring.specs.Reports.{Adds}
use Rattle.ring.proofs.ObeyLaws.{obeyed_moves, quiet_order}
use Rattle.ring.proofs.PlayLaws.{Commands, fault_found, order_found, blank_stage, blank_says, refused_stage, refused_says, order_stage, order_says}
use Rattle.ring.proofs.SayLaws.{adds_none}
use Rattle.ring.proofs.StageLaws.{stays}
use Rattle.ring.proofs.stage.Stage.play_line.Goals as goal
use Rattle.ring.proofs.stage.Stage.play_line.Goals.{In-Ok, In-Err, Start}

pub returns-then-is_blank-clause-stage : goal.returns-then-is_blank-clause-stage
returns-then-is_blank-clause-stage c =
    let x = c.args.self.now in
    let k : Line = record { bytes = c.args.unit.bytes.now; ending = c.args.unit.ending } in
    let b = sym c.is_blank.ensures ∙ c.if-is_blank.true in
    subst (Becomes x x) (sym (blank_stage x.settings.now k (stage_in x) c.args.line b)) (stays x c.requires.in_step)

pub returns-then-is_blank-clause-says : goal.returns-then-is_blank-clause-says
returns-then-is_blank-clause-says c =
    let x = c.args.self.now in
    let s = c.args.report.now in
    let k : Line = record { bytes = c.args.unit.bytes.now; ending = c.args.unit.ending } in
    let b = sym c.is_blank.ensures ∙ c.if-is_blank.true in
    subst (Adds s s) (sym (blank_says x.settings.now k (stage_in x) c.args.line b)) (adds_none s)

-- the fault that was found is the line's
found : (c : In-Err) → let k : Line = record { bytes = c.args.unit.bytes.now; ending = c.args.unit.ending } in
    Some c.in-Err.fault ≡ line_fault c.args.self.now.settings.now k
found c =
    let k : Line = record { bytes = c.args.unit.bytes.now; ending = c.args.unit.ending } in
    sym (ap result_err c.in-Err.is) ∙ fault_found c.args.self.now.settings.now k c.read_order.result c.settle.result c.read_order.ensures.fault c.settle.ensures.fault

pub returns-in-Err-clause-stage : goal.returns-in-Err-clause-stage
returns-in-Err-clause-stage c =
    let x = c.args.self.now in
    let k : Line = record { bytes = c.args.unit.bytes.now; ending = c.args.unit.ending } in
    let b = sym c.is_blank.ensures ∙ c.if-is_blank.false in
    subst (Becomes x x) (sym (refused_stage x.settings.now k (stage_in x) c.args.line b c.in-Err.fault (found (goal.at.returns-in-Err-clause-stage c).In-Err))) (stays x c.requires.in_step)

pub returns-in-Err-clause-says : goal.returns-in-Err-clause-says
returns-in-Err-clause-says c =
    let x = c.args.self.now in
    let n = c.args.line in
    let f = c.in-Err.fault in
    let k : Line = record { bytes = c.args.unit.bytes.now; ending = c.args.unit.ending } in
    let b = sym c.is_blank.ensures ∙ c.if-is_blank.false in
    let r = c.args.report.now in
    let a = adds_none r in
    subst (Adds r record { said = c.push.new.self; numbers = r.numbers; speakers = r.speakers; tally = r.tally }) (sym (refused_says x.settings.now k (stage_in x) n b f (found (goal.at.returns-in-Err-clause-says c).In-Err)))
    (record { said = c.in_ok-push-in-Err.ensures.items; numbers = a.numbers; speakers = a.speakers })

-- the command that was found is the line's
commanded : (c : In-Ok) → let k : Line = record { bytes = c.args.unit.bytes.now; ending = c.args.unit.ending } in
    Commands c.args.self.now.settings.now k c.in-Ok.command
commanded c =
    let k : Line = record { bytes = c.args.unit.bytes.now; ending = c.args.unit.ending } in
    order_found c.args.self.now.settings.now k c.read_order.result c.settle.result c.read_order.ensures.fault c.settle.ensures.fault c.settle.ensures.value c.read_order.ensures.value c.read_order.ensures.below c.in-Ok.command c.in-Ok.is

-- whatever a show answers, the stage is as it was
either : {X E : Type 0} (r : Result X E) (y z : Stage) → y ≡ z → (if is_ok r then y else z) ≡ z
either (Ok v) y z e = e
either (Err f) y z e = refl

pub returns-in-Show-clause-stage : goal.returns-in-Show-clause-stage
unfolding obeyed
returns-in-Show-clause-stage c =
    let x = c.args.self.now in
    let o = x.settings.now in
    let p = c.in-Ok.command.post in
    let k : Line = record { bytes = c.args.unit.bytes.now; ending = c.args.unit.ending } in
    let b = sym c.is_blank.ensures ∙ c.if-is_blank.false in
    let d = commanded (goal.at.returns-in-Show-clause-stage c).In-Ok in
    let e : stage_of_line o k (stage_in x) ≡ stage_in x = order_stage o k (stage_in x) c.args.line b c.in-Ok.command d.faultless d.written ∙ ap (λ z. obeyed o p z (stage_in x)) c.in-Show.is in
    subst (Becomes x x) (sym (either c.show.result _ _ e)) (stays x c.requires.in_step)

pub returns-in-Show-clause-says : goal.returns-in-Show-clause-says
unfolding answered
returns-in-Show-clause-says c =
    let x = c.args.self.now in
    let o = x.settings.now in
    let m = (stage_in x).machine in
    let p = c.in-Ok.command.post in
    let k : Line = record { bytes = c.args.unit.bytes.now; ending = c.args.unit.ending } in
    let b = sym c.is_blank.ensures ∙ c.if-is_blank.false in
    let d = commanded (goal.at.returns-in-Show-clause-says c).In-Ok in
    let e : says_of_line o c.args.line k m ≡ show o p m ∷ [] = order_says o k (stage_in x) c.args.line b c.in-Ok.command d.faultless d.written ∙ ap (λ z. answered o p z m) c.in-Show.is in
    subst (λ z. OnOk c.show.result (Adds c.args.report.now c.show.new.report z)) (sym e) c.show.ensures

pub returns-in_default : goal.returns-in_default
returns-in_default c =
    let x = c.args.self.now in
    let o = x.settings.now in
    let m = (stage_in x).machine in
    let s = c.args.report.now in
    let p = c.in-Ok.command.post in
    let k : Line = record { bytes = c.args.unit.bytes.now; ending = c.args.unit.ending } in
    let b = sym c.is_blank.ensures ∙ c.if-is_blank.false in
    let d = commanded (goal.at.returns-in_default c).In-Ok in
    let e : stage_of_line o k (stage_in x) ≡ obeyed o c.from.result c.in-Ok.command.order (stage_in x) =
    order_stage o k (stage_in x) c.args.line b c.in-Ok.command d.faultless d.written ∙ ap (λ i. obeyed o i c.in-Ok.command.order (stage_in x)) (sym c.from.ensures) in
    let t : says_of_line o c.args.line k m ≡ [] = order_says o k (stage_in x) c.args.line b c.in-Ok.command d.faultless d.written ∙ quiet_order o p c.in-Ok.command.order m c.in_default.not-Show in
    record {
      stage = subst (Becomes x c.obey.new.self) (sym e) c.obey.ensures;
      says = subst (Adds s s) (sym t) (adds_none s);
      moves = omega (arith, ap (λ (z : Stage). z.tally.moves) c.obey.ensures.stage, obeyed_moves o c.from.result c.in-Ok.command.order (stage_in x));
    }
