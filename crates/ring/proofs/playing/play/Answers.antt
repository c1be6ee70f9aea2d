-- Each line is one step more; at the end all lines were played.
use Rattle.std.proofs.Common.{◌≡◌, ◌+◌, ◌∷◌, length, vec_items, sym, refl, ap, ◌∙◌, subst, arith, rules, MatchOption}
use Rattle.std.proofs.lemmas.List.{take_rest}
use Rattle.std.proofs.lemmas.Bool.{eqb-true}
use Rattle.lines.specs.Hex.{Line, line_of}
use Rattle.lines.specs.Text.{first_line, after_line, lines_of}
use Rattle.lines.proofs.ThreeLaws.{three_long}
use Rattle.lines.proofs.TextLaws.{some_left, lines_first, after_shorter}
use Rattle.ring.specs.Bound.{Sound}
use Rattle.ring.specs.Lent.{Becomes, stage_in}
use Rattle.ring.specs.Machine.{Machine}
use Rattle.ring.specs.Plays.{stage_of_line, says_of_line}
use Rattle.ring.specs.Reports.{Adds}
use Rattle.ring.proofs.Going.{progress}
use Rattle.ring.proofs.Healing.{heals}
use Rattle.ring.proofs.KeptLaws.{sound_anew}
use Rattle.ring.proofs.PlayLaws.{line_is, stage_read, says_read}
use Rattle.ring.proofs.PlayRuns.{midplay_none, midplay_more, midplay_all}
use Rattle.ring.proofs.StartLaws.{fitting_whole}
use Rattle.ring.proofs.playing.play.Goals as goal
use Rattle.ring.proofs.playing.play.Goals.{in-Some, in-None+in_ok-ending-in-None}

pub loop-rest-init : goal.loop-rest-init
loop-rest-init c =
    let o = c.args.settings.now in
    let m : Machine = record { posts = c.args.posts.now; lines = c.args.lines.now } in
    let h = c.in_ok-tally.ensures in
    let w = fitting_whole o m.posts m.lines c.args.numbers.now h.fits in
    midplay_none o c.args.script.now _ _ refl (record { sound = subst (Sound o m) (sym h.tally) (sound_anew o m w); same = h.numbers }) h.tally (record { said = c.new.ensures.items; numbers = c.new-2.ensures.items; speakers = c.new-3.ensures.items })

pub slice_bounds-ending-count : goal.slice_bounds-ending-count
slice_bounds-ending-count c = three_long c.loop-rest.rest.now c.in-Some.ensures.0

pub slice_bounds-ending-start : goal.slice_bounds-ending-start
slice_bounds-ending-start c = three_long c.loop-rest.rest.now c.in-Some.ensures.0

-- what was read, in either way, is the first line of what was left
line_read : (c : goal.In_ok-play_line) → let l : Line = line_of (first_line c.loop-rest.rest.now) in
    (c.bytes_read.result.now ≡ l.bytes) × (c.match-three.ending.0 ≡ l.ending) × (c.match-three.ending.1.now ≡ after_line c.loop-rest.rest.now)
line_read c =
    let s = c.loop-rest.rest.now in
    let unit = c.bytes_read.result.now in
    let read = c.deref.result.now in
    elim c.match-three.branch [
      | in-Some w ↦
          let f = w.in-Some.ensures.1 in
          let u : unit ≡ w.in-Some.field-0 = subst (λ z. MatchOption z (unit ≡ read) (λ b. unit ≡ b)) w.in-Some.is c.bytes_read.ensures in
          (u ∙ f.line_bytes, ap (λ p. p.0) w.ending-is ∙ f.line_ending, ap (λ p. p.1.now) w.ending-is ∙ (take_rest s 9 ∙ f.after))
      | in-None+in_ok-ending-in-None w ↦
          let f = w.in_ok-ending-in-None.ensures.line in
          let u : unit ≡ read = subst (λ z. MatchOption z (unit ≡ read) (λ b. unit ≡ b)) w.in-None.is c.bytes_read.ensures in
          (u ∙ (c.deref.ensures.value ∙ (ap vec_items w.bytes-is ∙ f.line_bytes)), ap (λ p. p.0) w.ending-is ∙ f.line_ending, ap (λ p. p.1.now) w.ending-is ∙ f.after)
    ]

pub loop-rest-smaller : goal.loop-rest-smaller
loop-rest-smaller c =
    let s = c.loop-rest.rest.now in
    let l = some_left s (sym c.loop-rest-test.true ∙ c.is_empty.ensures) in
    omega (arith, after_shorter s l, ap length (line_read c).2)

pub loop-rest-preserved : goal.loop-rest-preserved
loop-rest-preserved c =
    let s = c.loop-rest.rest.now in
    let x = c.loop-rest.stage in
    let y = c.play_line.new.self in
    let o = x.settings.now in
    let l = some_left s (sym c.loop-rest-test.true ∙ c.is_empty.ensures) in
    let f = line_read c in
    let h = c.in_ok-play_line.ensures in
    let d = line_is (line_of (first_line s)) c.bytes_read.result.now c.match-three.ending.0 f.0 f.1 in
    let n = c.loop-rest.line + 1 in
    midplay_more c.args.settings.now c.args.script.now s _ x c.loop-rest.line c.loop-rest.report c.loop-rest.invariant
    (first_line s) c.match-three.ending.1.now y c.play_line.new.report (lines_first s l ∙ ap (λ t. first_line s ∷ lines_of t) (sym f.2))
    (omega (arith, after_shorter s l, ap length f.2))
    (subst (Becomes x y) (ap (λ z. stage_of_line o z (stage_in x)) d ∙ stage_read o (first_line s) (stage_in x)) h.stage)
    (subst (Adds c.loop-rest.report c.play_line.new.report) (ap (λ z. says_of_line o n z (stage_in x).machine) d ∙ says_read o n (first_line s) (stage_in x).machine) h.says)
    h.moves

pub returns-clause-outcome : goal.returns-clause-outcome
returns-clause-outcome c =
    let e : length c.loop-rest.rest.now ≡ 0 = eqb-true (length c.loop-rest.rest.now) 0 (sym c.is_empty.ensures ∙ c.loop-rest-test.false) in (
      c.in_ok-tally.ensures.fits,
      midplay_all c.args.settings.now c.args.script.now c.loop-rest.rest.now _ c.loop-rest.stage c.loop-rest.line c.loop-rest.report _ _ _
          c.loop-rest.invariant e (search rules) (search rules) (search rules),
    )

pub returns-in_err-tally-clause-progress : goal.returns-in_err-tally-clause-progress
returns-in_err-tally-clause-progress c = progress

pub returns-in_err-tally-clause-heals : goal.returns-in_err-tally-clause-heals
returns-in_err-tally-clause-heals c = heals

pub returns-in_err-ending-in-None-clause-progress : goal.returns-in_err-ending-in-None-clause-progress
returns-in_err-ending-in-None-clause-progress c = progress

pub returns-in_err-ending-in-None-clause-heals : goal.returns-in_err-ending-in-None-clause-heals
returns-in_err-ending-in-None-clause-heals c = heals

pub returns-in_err-play_line-clause-progress : goal.returns-in_err-play_line-clause-progress
returns-in_err-play_line-clause-progress c = progress

pub returns-in_err-play_line-clause-heals : goal.returns-in_err-play_line-clause-heals
returns-in_err-play_line-clause-heals c = heals

pub returns-clause-progress : goal.returns-clause-progress
returns-clause-progress c = progress

pub returns-clause-heals : goal.returns-clause-heals
returns-clause-heals c = heals
