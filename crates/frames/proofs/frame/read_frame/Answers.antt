-- What `read_frame` owes, from the laws of its fields. Assumes nothing.
use Rattle.std.proofs.Common.{◌≡◌, ℕ, false, List, [], ◌∷◌, length, take, Some, Err, sym, ◌∙◌, arith}
use Rattle.std.proofs.lemmas.Bool.{eqb-true, eqb-false}
use Rattle.std.proofs.lemmas.Result.{err_from_is_err_and}
use Rattle.sums.specs.Damage.{Caught}
use Rattle.sums.specs.Sum.{sum_of}
use Rattle.sums.proofs.SumCatches.{refused_caught, accepted_caught}
use Rattle.lines.specs.declared.fault.Fault.{Fault}
use Rattle.lines.specs.Checks.{first_fault, IsFirstFault}
use Rattle.lines.specs.Units.{reading_fault}
use Rattle.lines.proofs.FirstFault.{is_first}
use Rattle.lines.proofs.UnitSteps.{rest_after}
use Rattle.frames.specs.NumbersUnit.{member_number}
use Rattle.frames.specs.FrameUnit.{frame_checks, sum_word, ReadsAllSent}
use Rattle.frames.proofs.HeadLaws.{all_read, more_left}
use Rattle.frames.proofs.FrameLaws.{kind_missing, kind_wrong, post_beyond, post_other, number_left, number_missing, number_large, sum_left, sum_missing, sum_wrong, end_left, refusal_complete, number_complete, numbers_read, frame_back, sum_read}
use Rattle.frames.proofs.frame.read_frame.Goals as goal
use Rattle.frames.proofs.frame.read_frame.Goals.{Else-post-sender, Else-number-settings, Else-sum-checksum}

-- what is owed where a frame is refused
Refusal : ℕ → ℕ → ℕ → List ℕ → Fault → Type 0
Refusal n k l bs f = record {
  fault : Some f ≡ first_fault (frame_checks n k l bs);
  first : IsFirstFault (frame_checks n k l bs) (Some f);
  value : Unit {0};
  complete : ReadsAllSent n k l bs (Err f);
  caught : Caught bs false;
}

refused : (n k l : ℕ) (bs : List ℕ) (f : Fault) → Some f ≡ first_fault (frame_checks n k l bs) → Refusal n k l bs f
unfolding Refusal
refused n k l bs f e = record { fault = e; first = is_first _ _ e; value = tt; complete = refusal_complete n k l bs f e; caught = refused_caught bs }

-- the fields that are left after the post, after the number and after the sum

to_number : (c : Else-post-sender) →
    first_fault (frame_checks c.args.settings.now.posts c.args.settings.now.k c.args.listener c.args.bytes.now)
    ≡ reading_fault (member_number c.args.settings.now.k ∷ sum_word (take 4 c.args.bytes.now) ∷ []) (rest_after 2 c.args.bytes.now)
to_number c = number_left _ _ _ _ c.in-1.len_at_least (omega arith) c.if-post-settings.false (c.if-post-sender.false ∙ c.sender.ensures)

to_sum : (c : Else-number-settings) →
    first_fault (frame_checks c.args.settings.now.posts c.args.settings.now.k c.args.listener c.args.bytes.now)
    ≡ reading_fault (member_number c.args.settings.now.k ∷ sum_word (take 4 c.args.bytes.now) ∷ []) (rest_after 2 c.args.bytes.now) →
    first_fault (frame_checks c.args.settings.now.posts c.args.settings.now.k c.args.listener c.args.bytes.now)
    ≡ reading_fault (sum_word (take 4 c.args.bytes.now) ∷ []) c.in_ok-number.rest.now
to_sum c e =
    let read = c.in_ok-number.ensures in
    sum_left _ _ _ _ _ _ _ read.cases read.number read.rest e c.if-number-settings.false

pub returns-in_default : goal.returns-in_default
unfolding Refusal
returns-in_default c = refused _ _ _ _ _ (kind_missing _ _ _ _ c.in_default.len_below)

pub returns-in_default-2 : goal.returns-in_default-2
unfolding Refusal
returns-in_default-2 c = refused _ _ _ _ _ (kind_wrong _ _ _ _ c.in_default.len_at_least (λ e. omega arith))

pub returns-then-post-settings : goal.returns-then-post-settings
unfolding Refusal
returns-then-post-settings c = refused _ _ _ _ _ (post_beyond _ _ _ _ c.in-1.len_at_least (omega arith) c.if-post-settings.true)

pub returns-then-post-sender : goal.returns-then-post-sender
unfolding Refusal
returns-then-post-sender c =
    refused _ _ _ _ _
    (post_other _ _ _ _ c.in-1.len_at_least (omega arith) c.if-post-settings.false (λ s. c.if-post-sender.true (s ∙ sym c.sender.ensures)))

pub returns-in_err-number : goal.returns-in_err-number
unfolding Refusal
returns-in_err-number c =
    let p = err_from_is_err_and c.from_residual.result c.from_residual.ensures.1 in
    let left = to_number (goal.at.returns-in_err-number c).Else-post-sender in
    let read = c.in_err-number.ensures.cases in
    rw (p.1, p.2, read.1) (refused _ _ _ _ _ (number_missing _ _ _ _ _ left read.0))

pub returns-then-number-settings : goal.returns-then-number-settings
unfolding Refusal
returns-then-number-settings c =
    let left = to_number (goal.at.returns-then-number-settings c).Else-post-sender in
    let read = c.in_ok-number.ensures in
    refused _ _ _ _ _ (number_large _ _ _ _ _ _ _ read.cases read.number read.rest left c.if-number-settings.true (omega arith))

pub returns-in_err-sum : goal.returns-in_err-sum
unfolding Refusal
returns-in_err-sum c =
    let p = err_from_is_err_and c.from_residual-in_err-sum.result c.from_residual-in_err-sum.ensures.1 in
    let at = goal.at.returns-in_err-sum c in
    let left = to_sum at.Else-number-settings (to_number at.Else-post-sender) in
    let read = c.in_err-sum.ensures.cases in
    rw (p.1, p.2, read.1) (refused _ _ _ _ _ (sum_missing _ _ _ _ _ left read.0))

pub returns-then-sum-checksum : goal.returns-then-sum-checksum
unfolding Refusal
returns-then-sum-checksum c =
    let at = goal.at.returns-then-sum-checksum c in
    let left = to_sum at.Else-number-settings (to_number at.Else-post-sender) in
    let read = c.in_ok-sum.ensures in
    refused _ _ _ _ _ (sum_wrong _ _ _ _ _ _ _ read.cases read.number read.rest left (λ e. c.if-sum-checksum.true (e ∙ sym c.checksum.ensures)))

to_end : (c : Else-sum-checksum) →
    first_fault (frame_checks c.args.settings.now.posts c.args.settings.now.k c.args.listener c.args.bytes.now)
    ≡ reading_fault (sum_word (take 4 c.args.bytes.now) ∷ []) c.in_ok-number.rest.now →
    first_fault (frame_checks c.args.settings.now.posts c.args.settings.now.k c.args.listener c.args.bytes.now)
    ≡ reading_fault [] c.in_ok-sum.rest.now
to_end c e =
    let read = c.in_ok-sum.ensures in
    end_left _ _ _ _ _ _ _ read.cases read.number read.rest e (c.if-sum-checksum.false ∙ c.checksum.ensures)

pub returns-else-is_empty : goal.returns-else-is_empty
unfolding Refusal
returns-else-is_empty c =
    let at = goal.at.returns-else-is_empty c in
    let left = to_end at.Else-sum-checksum (to_sum at.Else-number-settings (to_number at.Else-post-sender)) in
    refused _ _ _ _ _ (more_left _ _ left (eqb-false (length c.in_ok-sum.rest.now) 0 (sym c.if-is_empty.ensures)))

pub returns-then-is_empty : goal.returns-then-is_empty
returns-then-is_empty c =
    let at = goal.at.returns-then-is_empty c in
    let bs = c.args.bytes.now in
    let left = to_end at.Else-sum-checksum (to_sum at.Else-number-settings (to_number at.Else-post-sender)) in
    let none : length c.in_ok-sum.rest.now ≡ 0 = eqb-true (length c.in_ok-sum.rest.now) 0 (sym c.if-is_empty.ensures) in
    let e = all_read _ _ left none in
    let x = c.in_ok-number.ensures in
    let v = c.in_ok-sum.ensures in
    let read = numbers_read bs _ _ _ _ x.rest v.rest v.cases none x.number v.number in
    let right : c.in_ok-sum.sum ≡ sum_of (take 4 bs) = c.if-sum-checksum.false ∙ c.checksum.ensures in
    let back = frame_back bs _ _ _ read (λ i. omega (arith, c.type_inv.bytes i)) (omega arith) (c.if-post-sender.false ∙ c.sender.ensures) right in
    record {
      fault = e;
      first = is_first _ _ e;
      value = (c.if-number-settings.false, back);
      complete = number_complete c.args.settings.now.posts c.args.settings.now.k c.args.listener bs _ back;
      caught = accepted_caught bs (sym right ∙ sum_read bs _ _ read);
    }
