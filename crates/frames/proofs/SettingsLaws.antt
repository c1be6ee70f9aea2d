-- What a reader of settings meets, field by field. Assumes nothing.
use Rattle.std.proofs.Common.{◌≡◌, ℕ, suc, ◌+◌, ◌*◌, ◌<◌, ◌≤◌, true, false, ◌&&◌, leb, List, [], ◌∷◌, ◌++◌, length, get_or, take, drop, Some, None, Option, sym, refl, ap, ◌∙◌, subst, arith}
use Rattle.std.specs.List.{AllByRecursion}
use Rattle.std.proofs.lemmas.List.{get_or-take, length-take-le, take_rest}
use Rattle.std.proofs.ByRecursion.{All-from_get_or}
use Rattle.std.proofs.lemmas.Bool.{cond-true, cond-false, le-leb, lt-leb}
use Rattle.lines.specs.declared.fault.Fault.{Fault}
use Rattle.lines.specs.declared.fault.Fault.TheVariants.{Malformed, OutOfRange}
use Rattle.lines.specs.Checks.{first_fault}
use Rattle.lines.specs.Units.{Field, Laid, rule_fault, reading_fault}
use Rattle.lines.specs.Words.{word_bytes, words_bytes}
use Rattle.lines.proofs.WordSteps.{word_back, words_laid, words_accepted}
use Rattle.lines.proofs.Reading.{reading_first}
use Rattle.lines.proofs.UnitSteps.{Left, rest_after}
use Rattle.frames.proofs.HeadLaws.{head_other, head_missing, head_taken, word_missing, word_met}
use Rattle.frames.specs.declared.settings.Settings.{Settings}
use Rattle.frames.specs.SettingsUnit.{post_count, number_count, turn_fields, settings_fields, settings_checks, settings_bytes, AcceptsAll}

pub settings_laid : (n : ℕ) → Laid (settings_fields n)
settings_laid n =
    ((omega arith, (tt, tt)), ((omega arith, (tt, tt)), ((omega arith, (tt, tt)), words_laid OutOfRange 1000 n)))

module _ (bs : List ℕ) where
  abbrev faultHere : Option Fault
  faultHere = first_fault (settings_checks bs)

  abbrev count : ℕ
  count = get_or bs 1 0

  -- the field after the count
  abbrev toK : List Field
  toK = number_count count ∷ turn_fields count

  reads : Left bs faultHere 0 (settings_fields count)
  reads = reading_first bs (settings_fields count) (settings_laid count)

  pub kind_missing : length bs < 2 → Some Malformed ≡ faultHere
  kind_missing h = head_missing bs faultHere 2 post_count toK refl reads h

  module _ (long : 2 ≤ length bs) where
    pub kind_wrong : (get_or bs 0 0 ≡ 2 → ⊥) → Some Malformed ≡ faultHere
    kind_wrong e = head_other bs faultHere 2 post_count toK refl reads (omega arith) e

    module _ (kind : get_or bs 0 0 ≡ 2) where
      pub posts_wrong : (leb 2 count && leb count 21) ≡ false → Some OutOfRange ≡ faultHere
      posts_wrong e = sym (head_taken bs faultHere 2 post_count toK refl reads long kind ∙ cond-false _ _ _ e)

      pub k_left : (leb 2 count && leb count 21) ≡ true → faultHere ≡ reading_fault toK (rest_after 2 bs)
      k_left e = head_taken bs faultHere 2 post_count toK refl reads long kind ∙ cond-true _ _ _ e

  -- K at the front of what is left, and the turns after it
  module _ (rest : List ℕ) (left : faultHere ≡ reading_fault toK rest) where
    pub k_missing : length rest < 2 → Some Malformed ≡ faultHere
    k_missing h = word_missing rest faultHere (number_count count) (turn_fields count) refl left h

    module _ (k : ℕ) (turns : List ℕ) (there : 2 ≤ length rest) (is : k ≡ get_or rest 0 0 * 256 + get_or rest 1 0) (after : turns ≡ drop 2 rest) where
      met : faultHere ≡ rule_fault k (number_count count).rules (reading_fault (turn_fields count) turns)
      met = word_met rest faultHere (number_count count) (turn_fields count) refl left k turns there is after

      pub k_wrong : k < 3 * count → Some OutOfRange ≡ faultHere
      k_wrong h = sym (met ∙ cond-false _ _ _ (lt-leb (3 * count) k h))

      pub turns_left : 3 * count ≤ k → faultHere ≡ reading_fault (turn_fields count) turns
      turns_left h = met ∙ cond-true _ _ _ (le-leb (3 * count) k h)

-- the bytes of settings that were read are those that they were read from
pub bytes_back : (bs : List ℕ) (k : ℕ) (turns : List ℕ) → 2 ≤ length bs → ((i : ℕ) → get_or bs i 0 < 256) → get_or bs 0 0 ≡ 2 →
    2 ≤ length (rest_after 2 bs) → k ≡ get_or (rest_after 2 bs) 0 0 * 256 + get_or (rest_after 2 bs) 1 0 → turns ≡ drop 2 (rest_after 2 bs) →
    2 ∷ get_or bs 1 0 ∷ (word_bytes k ++ turns) ≡ bs
bytes_back [] k turns h o kind long is rest = absurd (omega arith)
bytes_back (a ∷ []) k turns h o kind long is rest = absurd (omega arith)
bytes_back (a ∷ b ∷ bs) k turns h o kind long is rest =
    let same : rest_after 2 (a ∷ b ∷ bs) ≡ bs = take_rest (a ∷ b ∷ bs) 2 in
    let there : 2 ≤ length bs = subst (λ r. 2 ≤ length r) same long in
    let number : k ≡ get_or bs 0 0 * 256 + get_or bs 1 0 = subst (λ r. k ≡ get_or r 0 0 * 256 + get_or r 1 0) same is in
    let back = word_back bs k there (λ i. o (suc (suc i))) number in
    rw (rest, same, back) (ap (λ x. x ∷ b ∷ bs) (sym kind))

settings_accepted : (s : Settings) → length s.turns ≡ 21 → first_fault (settings_checks (settings_bytes s)) ≡ None
settings_accepted s long =
    let n = s.posts in
    let few : n ≤ 21 = s.few in
    let bs = settings_bytes s in
    let turns = take n s.turns in
    let count : length turns ≡ n = length-take-le n s.turns (omega arith) in
    let short : AllByRecursion (λ t. t ≤ 1000) turns =
    All-from_get_or (λ t. t ≤ 1000) turns 0 (λ i h. subst (λ t. t ≤ 1000) (sym (get_or-take n s.turns i 0 (omega arith))) (s.short i)) in
    let more = k_left bs (omega arith) refl (rw (le-leb 2 n s.some, le-leb n 21 few)) in
    turns_left bs (word_bytes s.k ++ words_bytes turns) (more ∙ ap (reading_fault (number_count n ∷ turn_fields n)) (take_rest bs 2)) s.k (words_bytes turns)
    (omega arith) (omega arith) refl s.enough
    ∙ ap (λ m. reading_fault (turn_fields m) (words_bytes turns)) (sym count) ∙ words_accepted OutOfRange 1000 turns short

pub accepts : (bs : List ℕ) (o : Option Fault) → o ≡ first_fault (settings_checks bs) → AcceptsAll bs o
accepts bs o e s long same = e ∙ ap (λ x. first_fault (settings_checks x)) (sym same) ∙ settings_accepted s long
