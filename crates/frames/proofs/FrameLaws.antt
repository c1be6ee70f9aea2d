-- What a reader of frames meets, field by field; and a frame that the post before sent is accepted. Assumes nothing.
use Rattle.std.proofs.Common.{◌≡◌, ℕ, zero, suc, ◌+◌, ◌-◌, ◌*◌, ◌/◌, ◌%◌, ◌<◌, ◌≤◌, List, [], ◌∷◌, length, get_or, take, drop, Some, None, Ok, Err, Option, sym, refl, ap, ◌∙◌, subst, arith}
use Rattle.std.proofs.lemmas.List.{length-drop, drop-drop, take_all, take_rest}
use Rattle.std.proofs.lemmas.Bool.{cond-true, cond-false, eq-eqb, ne_eqb, lt-ltb, le-ltb, le-leb, lt-leb}
use Rattle.sums.specs.Value.{value_of}
use Rattle.sums.specs.Sum.{sum_of}
use Rattle.lines.specs.declared.fault.Fault.{Fault}
use Rattle.lines.specs.declared.fault.Fault.TheVariants.{Malformed, OutOfRange, WrongSum, WrongSender, NumberTooLarge}
use Rattle.lines.specs.Checks.{first_fault}
use Rattle.lines.specs.Units.{Field, Laid, rule_fault, reading_fault}
use Rattle.lines.specs.Words.{word_bytes}
use Rattle.lines.proofs.FirstFault.{some_none}
use Rattle.lines.proofs.Reading.{reading_first}
use Rattle.lines.proofs.UnitSteps.{Left, rest_after, rest_long, rest_item, items, take_items, all_items}
use Rattle.frames.proofs.HeadLaws.{head_other, head_missing, head_taken, word_missing, word_met, all_read}
use Rattle.frames.specs.NumbersUnit.{member_number}
use Rattle.frames.specs.FrameUnit.{frame_bytes, sender_of, sent_by, sum_word, frame_fields, frame_checks, ReadsAllSent}

pub frame_laid : (n k listener : ℕ) (bs : List ℕ) → Laid (frame_fields n k listener bs)
frame_laid n k listener bs =
    ((omega arith, (tt, tt)), ((omega arith, ((omega arith, tt), (tt, tt))), ((omega arith, (tt, tt)), ((omega arith, (tt, tt)), tt))))

module _ (n k listener : ℕ) (bs : List ℕ) where
  abbrev faultHere : Option Fault
  faultHere = first_fault (frame_checks n k listener bs)

  -- the fields after the post and after the number
  abbrev toSum : List Field
  toSum = sum_word (take 4 bs) ∷ []

  abbrev toNumber : List Field
  toNumber = member_number k ∷ toSum

  reads : Left bs faultHere 0 (frame_fields n k listener bs)
  unfolding frame_checks
  reads = reading_first bs (frame_fields n k listener bs) (frame_laid n k listener bs)

  pub kind_missing : length bs < 2 → Some Malformed ≡ faultHere
  kind_missing h = head_missing bs faultHere 1 (sent_by n (sender_of n listener)) toNumber refl reads h

  module _ (long : 2 ≤ length bs) where
    pub kind_wrong : (get_or bs 0 0 ≡ 1 → ⊥) → Some Malformed ≡ faultHere
    kind_wrong e = head_other bs faultHere 1 (sent_by n (sender_of n listener)) toNumber refl reads (omega arith) e

    module _ (kind : get_or bs 0 0 ≡ 1) where
      taken : faultHere ≡ rule_fault (get_or bs 1 0) (sent_by n (sender_of n listener)).rules (reading_fault toNumber (rest_after 2 bs))
      taken = head_taken bs faultHere 1 (sent_by n (sender_of n listener)) toNumber refl reads long kind

      pub post_beyond : n ≤ get_or bs 1 0 → Some OutOfRange ≡ faultHere
      post_beyond h = sym (taken ∙ cond-false _ _ _ (le-ltb (get_or bs 1 0) n h))

      module _ (within : get_or bs 1 0 < n) where
        pub post_other : (get_or bs 1 0 ≡ sender_of n listener → ⊥) → Some WrongSender ≡ faultHere
        post_other e =
            sym (taken ∙ cond-true _ _ _ (lt-ltb (get_or bs 1 0) n within) ∙ cond-false _ _ _ (ne_eqb (get_or bs 1 0) (sender_of n listener) e))

        pub number_left : get_or bs 1 0 ≡ sender_of n listener → faultHere ≡ reading_fault toNumber (rest_after 2 bs)
        number_left e =
            taken ∙ cond-true _ _ _ (lt-ltb (get_or bs 1 0) n within) ∙ cond-true _ _ _ (eq-eqb (get_or bs 1 0) (sender_of n listener) e)

  pub number_missing : (rest : List ℕ) → faultHere ≡ reading_fault toNumber rest → length rest < 2 → Some Malformed ≡ faultHere
  number_missing rest left h = word_missing rest faultHere (member_number k) toSum refl left h

  pub sum_missing : (rest : List ℕ) → faultHere ≡ reading_fault toSum rest → length rest < 2 → Some Malformed ≡ faultHere
  sum_missing rest left h = word_missing rest faultHere (sum_word (take 4 bs)) [] refl left h

  -- a number at the front of what is left, and what is left after it
  module _ (rest after : List ℕ) (x : ℕ) (long : 2 ≤ length rest) (number : x ≡ get_or rest 0 0 * 256 + get_or rest 1 0) (is : after ≡ drop 2 rest) where
    module _ (left : faultHere ≡ reading_fault toNumber rest) where
      met : faultHere ≡ rule_fault x (member_number k).rules (reading_fault toSum after)
      met = word_met rest faultHere (member_number k) toSum refl left x after long number is

      pub number_large : k ≤ x → 0 < k → Some NumberTooLarge ≡ faultHere
      number_large h some = sym (met ∙ cond-false _ _ _ (lt-leb x (k - 1) (omega arith)))

      pub sum_left : x < k → faultHere ≡ reading_fault toSum after
      sum_left below = met ∙ cond-true _ _ _ (le-leb x (k - 1) (omega arith))

    module _ (left : faultHere ≡ reading_fault toSum rest) where
      sum_met : faultHere ≡ rule_fault x (sum_word (take 4 bs)).rules (reading_fault [] after)
      sum_met = word_met rest faultHere (sum_word (take 4 bs)) [] refl left x after long number is

      pub sum_wrong : (x ≡ sum_of (take 4 bs) → ⊥) → Some WrongSum ≡ faultHere
      sum_wrong e = sym (sum_met ∙ cond-false _ _ _ (ne_eqb x (sum_of (take 4 bs)) e))

      pub end_left : x ≡ sum_of (take 4 bs) → faultHere ≡ reading_fault [] after
      end_left e = sum_met ∙ cond-true _ _ _ (eq-eqb x (sum_of (take 4 bs)) e)

-- a number by its two bytes
pub word_value : (v : ℕ) → v ≡ v / 256 * 256 + v % 256
word_value v = omega arith

-- what the post before a listener sends with a number below k is accepted
pub sent_accepted : (n k p x listener : ℕ) → sender_of n listener ≡ p → p < n → x < k → first_fault (frame_checks n k listener (frame_bytes p x)) ≡ None
unfolding frame_bytes
sent_accepted n k p x listener sender within below =
    let bs = frame_bytes p x in
    let sum = sum_of (1 ∷ p ∷ word_bytes x) in
    let number = number_left n k listener bs (omega arith) refl within (sym sender) in
    let checked = sum_left n k listener bs (rest_after 2 bs) (word_bytes sum) x (omega arith) (word_value x) refl number below in
    sym (all_read [] _ (end_left n k listener bs (word_bytes sum) [] sum (omega arith) (word_value sum) refl checked refl) refl)

pub sender_within : (n listener : ℕ) → listener < n → sender_of n listener < n
sender_within n zero h = omega arith
sender_within n (suc i) h = omega arith

pub frame_accepted : (n k p x listener : ℕ) → listener < n → sender_of n listener ≡ p → x < k → first_fault (frame_checks n k listener (frame_bytes p x)) ≡ None
frame_accepted n k p x listener h sender below =
    sent_accepted n k p x listener sender (subst (λ q. q < n) sender (sender_within n listener h)) below

-- a frame carries one number
pub frame_number : (p q x y : ℕ) → frame_bytes p x ≡ frame_bytes q y → x ≡ y
unfolding frame_bytes
frame_number p q x y e =
    let high : x / 256 ≡ y / 256 = ap (λ bs. get_or bs 2 0) e in
    let low : x % 256 ≡ y % 256 = ap (λ bs. get_or bs 3 0) e in
    omega arith

-- the answer of a reader that refuses for the first fault, or accepts, takes what was sent

pub refusal_complete : (n k listener : ℕ) (bs : List ℕ) (f : Fault) → Some f ≡ first_fault (frame_checks n k listener bs) →
    ReadsAllSent n k listener bs (Err f)
refusal_complete n k listener bs f e p x sender within below is =
    absurd (some_none f (e ∙ ap (λ b. first_fault (frame_checks n k listener b)) is ∙ sent_accepted n k p x listener sender within below))

pub number_complete : (n k listener : ℕ) (bs : List ℕ) (y : ℕ) → bs ≡ frame_bytes (sender_of n listener) y → ReadsAllSent n k listener bs (Ok y)
number_complete n k listener bs y e p x sender within below is = ap Ok (frame_number (sender_of n listener) p y x (sym e ∙ is))

-- the two numbers of a frame of six bytes
pub record NumbersRead (bs : List ℕ) (x v : ℕ) : Type 0 where
  pub whole : length bs ≡ 6
  pub number : x ≡ get_or bs 2 0 * 256 + get_or bs 3 0
  pub sum : v ≡ get_or bs 4 0 * 256 + get_or bs 5 0

-- they were read from what is left after the post, one after the other
pub numbers_read : (bs more end : List ℕ) (x v : ℕ) → more ≡ drop 2 (rest_after 2 bs) → end ≡ drop 2 more → 2 ≤ length more → length end ≡ 0 →
    x ≡ get_or (rest_after 2 bs) 0 0 * 256 + get_or (rest_after 2 bs) 1 0 → v ≡ get_or more 0 0 * 256 + get_or more 1 0 → NumbersRead bs x v
numbers_read bs more end x v is last there none number sum =
    let a = take_rest bs 2 in
    let b : more ≡ drop 4 bs = is ∙ ap (drop 2) a ∙ drop-drop 2 2 bs in
    let high = rest_item bs 2 (rest_after 2 bs) a 0 in
    let low = rest_item bs 2 (rest_after 2 bs) a 1 in
    let sum_high = rest_item bs 4 more b 0 in
    let sum_low = rest_item bs 4 more b 1 in
    let long = rest_long bs 4 more b in
    let rest = ap length last ∙ length-drop 2 more in
    record { whole = omega arith; number = omega arith; sum = omega arith }

-- a frame that is accepted is what the post before sends with its number
pub frame_back : (bs : List ℕ) (p x v : ℕ) → NumbersRead bs x v → ((i : ℕ) → get_or bs i 0 < 256) → get_or bs 0 0 ≡ 1 → get_or bs 1 0 ≡ p →
    v ≡ sum_of (take 4 bs) → bs ≡ frame_bytes p x
unfolding frame_bytes
frame_back bs p x v read octets kind post right =
    let long = read.whole in
    let number = read.number in
    let sum = read.sum in
    let low = octets 3 in
    let sum_low = octets 5 in
    let a : get_or bs 2 0 ≡ x / 256 = omega arith in
    let b : get_or bs 3 0 ≡ x % 256 = omega arith in
    let d : get_or bs 4 0 ≡ v / 256 = omega arith in
    let e : get_or bs 5 0 ≡ v % 256 = omega arith in
    let head : take 4 bs ≡ 1 ∷ p ∷ word_bytes x = take_items 4 0 bs (omega arith) ∙ cc in
    let same : v ≡ sum_of (1 ∷ p ∷ word_bytes x) = right ∙ ap sum_of head in
    all_items 6 bs long ∙ cc

-- the sum that six bytes end with
pub sum_read : (bs : List ℕ) (x v : ℕ) → NumbersRead bs x v → v ≡ value_of (drop 4 bs)
sum_read bs x v read =
    let long = read.whole in
    let sum = read.sum in
    let last : take 2 (drop 4 bs) ≡ drop 4 bs = take_all 2 (drop 4 bs) (omega (arith, length-drop 4 bs)) in
    let value : v ≡ value_of (items 4 2 bs) = omega arith in
    value ∙ ap value_of (sym (take_items 2 4 bs (omega arith)) ∙ last)
