-- What `read_numbers` owes, from what `read_words` ensures. Assumes nothing.
use Rattle.std.proofs.Common.{◌≡◌, ℕ, ◌-◌, ◌*◌, ◌<◌, ◌≤◌, List, length, take, replicate, Some, None, vec_items, vec_len, Option, sym, ap, ◌∙◌, subst, arith}
use Rattle.std.specs.List.{AllByRecursion}
use Rattle.std.proofs.ByRecursion.{All-weaker}
use Rattle.std.proofs.lemmas.List.{length-take-le}
use Rattle.std.proofs.lemmas.Result.{err_from_is_err_and}
use Rattle.lines.specs.declared.fault.Fault.{Fault}
use Rattle.lines.specs.declared.fault.Fault.TheVariants.{NumberTooLarge}
use Rattle.lines.specs.Checks.{first_fault}
use Rattle.lines.specs.Units.{reading_fault}
use Rattle.lines.specs.Words.{words_bytes}
use Rattle.lines.proofs.FirstFault.{is_first}
use Rattle.lines.proofs.Reading.{reading_first}
use Rattle.lines.proofs.WordSteps.{words_laid}
use Rattle.frames.specs.declared.settings.Settings.{Settings}
use Rattle.frames.specs.NumbersUnit.{member_number, numbers_fields, numbers_checks}
use Rattle.frames.proofs.numbers.read_numbers.Goals as goal

-- how many places are lent where so many members are asked for
places : ℕ → ℕ
places n = length (take n (replicate {A = ℕ} 63 0))

places_are : (s : Settings) (n : ℕ) → n ≡ 3 * s.posts → places n ≡ 3 * s.posts
unfolding places
places_are s n e = length-take-le n (replicate {A = ℕ} 63 0) (omega (arith, s.few)) ∙ e

told_first : (s : Settings) (bs : List ℕ) (n : ℕ) (o : Option Fault) → n ≡ 3 * s.posts →
    o ≡ reading_fault (replicate (places n) (member_number s.k)) bs → o ≡ first_fault (numbers_checks s bs)
unfolding places
told_first s bs n o e h =
    h ∙ ap (λ m. reading_fault (replicate m (member_number s.k)) bs) (places_are s n e)
    ∙ sym (reading_first bs (numbers_fields s) (words_laid NumberTooLarge (s.k - 1) (3 * s.posts)))

pub returns-in_err-read_words : goal.returns-in_err-read_words
unfolding places
returns-in_err-read_words c =
    let p = err_from_is_err_and c.from_residual.result c.from_residual.ensures.1 in
    let e = told_first c.args.settings.now c.args.bytes.now c.members.result (Some c.in_err-read_words.field-0.0) c.members.ensures
    c.in_err-read_words.ensures.fault in
    rw (p.1, p.2) record { fault = e; first = is_first _ _ e; value = tt; len = tt; below = tt }

pub returns-in_err-from_slice : goal.returns-in_err-from_slice
unfolding places
returns-in_err-from_slice c =
    let p = err_from_is_err_and c.from_residual-in_err-from_slice.result c.from_residual-in_err-from_slice.ensures.1 in
    let e = told_first c.args.settings.now c.args.bytes.now c.members.result None c.members.ensures
    c.in_ok-read_words.ensures.fault in
    rw (p.1, p.2) record { fault = e; first = is_first _ _ e; value = tt; len = tt; below = tt }

pub returns : goal.returns
unfolding places
returns c =
    let told = c.in_ok-read_words.ensures in
    let s = c.args.settings.now in
    let v = c.in_ok-from_slice.field-0 in
    let words = c.read_words.new.words in
    let copied : vec_items v ≡ words = c.in_ok-from_slice.ensures.items in
    let long : vec_len v ≡ length words = c.in_ok-from_slice.ensures.len in
    let kept : length words ≡ places c.members.result = c.read_words.auto.words in
    let bytes : words_bytes words ≡ c.args.bytes.now = told.value in
    let below : AllByRecursion (λ x. x ≤ s.k - 1) words = told.bound in
    let e = told_first s c.args.bytes.now c.members.result None c.members.ensures told.fault in
    record {
      fault = e;
      first = is_first _ _ e;
      value = ap words_bytes copied ∙ bytes;
      len = long ∙ kept ∙ places_are s c.members.result c.members.ensures;
      below = subst (AllByRecursion (λ x. x < s.k)) (sym copied) (All-weaker _ _ (λ x h. omega (arith, s.some, s.enough)) words below);
    }
