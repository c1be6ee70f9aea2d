-- Laws of units: reading one field by field meets its first fault, and a stray character after its bytes is the
-- first fault where there is no other. Assumes nothing.
use Rattle.std.proofs.Common.{◌≡◌, ℕ, ◌+◌, ◌-◌, ◌*◌, ◌<◌, ◌≤◌, Bool, true, false, cond, ltb, leb, ◌⊎◌, List, [], ◌∷◌, ◌++◌, length, get_or, take, drop, Some, Option, unwrap_or, sym, refl, ap, ◌∙◌, subst, inl, inr, arith}
use Rattle.std.specs.Option.{option_map}
use Rattle.std.specs.List.{AllByRecursion}
use Rattle.std.proofs.ByRecursion.{All-weaker, All-append}
use Rattle.std.proofs.lemmas.List.{length-drop, drop-drop, take_rest}
use Rattle.std.proofs.lemmas.Bool.{cases_Bool, cond-true, cond-false, le-leb, le-ltb, lt-ltb, cases_lt}
use Rattle.std.proofs.lemmas.Bool.Decides.{nat_tests}
use Rattle.lines.specs.declared.fault.Fault.{Fault}
use Rattle.lines.specs.declared.fault.Fault.TheVariants.{Malformed, OutOfRange, WrongSum, WrongSender, NumberTooLarge}
use Rattle.lines.specs.Faults.{number_of}
use Rattle.lines.specs.Checks.{Check, before, first_fault}
use Rattle.sums.specs.Value.{value_of}
use Rattle.lines.specs.Units.{Rule, Field, word_that, missing, failing, too_many, stray, rule_checks, field_checks, unit_checks, rule_fault, reading_fault, Rising, Laid}
use Rattle.lines.proofs.FirstFault.{head_broken, InOrder, first_broken_in_order, some_none, first_with_last}

fault_in : Option Check → Option Fault
fault_in o = option_map (λ c. c.fault) o

pub number_of_pos : (f : Fault) → 1 ≤ number_of f
number_of_pos Malformed = omega arith
number_of_pos OutOfRange = omega arith
number_of_pos WrongSum = omega arith
number_of_pos WrongSender = omega arith
number_of_pos NumberTooLarge = omega arith

-- the checks of a unit stand in order

in_order_append : (xs ys : List Check) → InOrder xs → InOrder ys → AllByRecursion (λ x. AllByRecursion (λ y. before y x ≡ false) ys) xs → InOrder (xs ++ ys)
in_order_append [] ys h k a = k
in_order_append (x ∷ xs) ys h k a = (All-append _ xs ys h.0 a.0, in_order_append xs ys h.1 k a.1)

rules_place : (bs : List ℕ) (p w : ℕ) (rs : List Rule) → AllByRecursion (λ c. c.place ≡ p) (rule_checks bs p w rs)
rules_place bs p w [] = tt
rules_place bs p w (r ∷ rs) = (refl, rules_place bs p w rs)

rules_after : (bs : List ℕ) (p w : ℕ) (c : Check) (rs : List Rule) → c.place ≡ p → AllByRecursion (λ s. number_of c.fault ≤ number_of s.fault) rs →
    AllByRecursion (λ d. before d c ≡ false) (rule_checks bs p w rs)
rules_after bs p w c [] at h = tt
rules_after bs p w c (r ∷ rs) at h = (let k = h.0 in grind (arith, nat_tests), rules_after bs p w c rs at h.1)

rules_in_order : (bs : List ℕ) (p w : ℕ) (rs : List Rule) → Rising rs → InOrder (rule_checks bs p w rs)
rules_in_order bs p w [] h = tt
rules_in_order bs p w (r ∷ rs) h = (rules_after bs p w (failing bs p w r) rs refl h.0, rules_in_order bs p w rs h.1)

all_numbered : (rs : List Rule) → AllByRecursion (λ s. 1 ≤ number_of s.fault) rs
all_numbered [] = tt
all_numbered (r ∷ rs) = (number_of_pos r.fault, all_numbered rs)

fields_from : (bs : List ℕ) (p : ℕ) (fs : List Field) → AllByRecursion (λ c. p ≤ c.place) (field_checks bs p fs)
fields_from bs p [] = (omega arith, tt)
fields_from bs p (f ∷ fs) = (
  omega arith,
  All-append _ (rule_checks bs p f.width f.rules) _
      (All-weaker _ _ (λ c e. omega arith) _ (rules_place bs p f.width f.rules))
      (All-weaker _ _ (λ c h. omega arith) _ (fields_from bs (p + f.width) fs)),
)

after : (c d : Check) → c.place < d.place → before d c ≡ false
after c d h = grind (arith, nat_tests)

pub fields_in_order : (bs : List ℕ) (p : ℕ) (fs : List Field) → Laid fs → InOrder (field_checks bs p fs)
fields_in_order bs p [] h = (tt, tt)
fields_in_order bs p (f ∷ fs) h =
    let wide = h.0.0 in
    let rules = rule_checks bs p f.width f.rules in
    let rest = field_checks bs (p + f.width) fs in
    let later : (c : Check) → c.place ≡ p → AllByRecursion (λ d. before d c ≡ false) rest =
    λ c e. All-weaker _ _ (λ d k. after c d (omega arith)) rest (fields_from bs (p + f.width) fs) in (
      All-append _ rules rest (rules_after bs p f.width (missing bs p f.width) f.rules refl (all_numbered f.rules))
          (later (missing bs p f.width) refl),
      in_order_append rules rest (rules_in_order bs p f.width f.rules h.0.1) (fields_in_order bs (p + f.width) fs h.1)
          (All-weaker _ _ later rules (rules_place bs p f.width f.rules)),
    )

-- what is read field by field is what the list of checks has first

rules_met : (bs : List ℕ) (p w : ℕ) (rs : List Rule) (cs : List Check) → p + w ≤ length bs →
    fault_in (head_broken (rule_checks bs p w rs ++ cs)) ≡ rule_fault (value_of (take w (drop p bs))) rs (fault_in (head_broken cs))
unfolding fault_in
rules_met bs p w [] cs h = refl
rules_met bs p w (r ∷ rs) cs h =
    let more = rules_met bs p w rs cs h in
    let b : leb (p + w) (length bs) ≡ true = le-leb (p + w) (length bs) h in
    elim (cases_Bool (r.passes (value_of (take w (drop p bs))))) [ inl t ↦ simp (b, t) more | inr t ↦ simp (b, t) ]

fields_met : (bs : List ℕ) (p : ℕ) (fs : List Field) → p ≤ length bs →
    fault_in (head_broken (field_checks bs p fs)) ≡ reading_fault fs (drop p bs)
unfolding fault_in
fields_met bs p [] h = ended (drop p bs) (length-drop p bs)
  where
    ended : (rest : List ℕ) → length rest ≡ length bs - p → fault_in (head_broken (field_checks bs p [])) ≡ reading_fault [] rest
    ended [] e = let k : ltb p (length bs) ≡ false = le-ltb p (length bs) (omega arith) in simp k
    ended (b ∷ rest) e = let k : ltb p (length bs) ≡ true = lt-ltb p (length bs) (omega arith) in simp k
fields_met bs p (f ∷ fs) h =
    elim (cases_lt (length bs) (p + f.width)) [
      | inl short ↦
          let a : ltb (length bs) (p + f.width) ≡ true = lt-ltb _ _ short in
          let b : ltb (length (drop p bs)) f.width ≡ true = lt-ltb _ _ (simp length-drop (omega arith)) in
          simp (a, b)
      | inr there ↦
          let a : ltb (length bs) (p + f.width) ≡ false = le-ltb _ _ there in
          let b : ltb (length (drop p bs)) f.width ≡ false = le-ltb _ _ (simp length-drop (omega arith)) in
          let more = fields_met bs (p + f.width) fs there in
          let rules = rules_met bs p f.width f.rules (field_checks bs (p + f.width) fs) there in
          simp (a, b, drop-drop) (rules ∙ ap (rule_fault (value_of (take f.width (drop p bs))) f.rules) more)
    ]

pub reading_first : (bs : List ℕ) (fs : List Field) → Laid fs → first_fault (unit_checks bs fs) ≡ reading_fault fs bs
unfolding first_fault unit_checks fault_in
reading_first bs fs h = ap fault_in (first_broken_in_order (field_checks bs 0 fs) (fields_in_order bs 0 fs h)) ∙ fields_met bs 0 fs (omega arith)

-- one field

pub field_missing : (f : Field) (fs : List Field) (bs : List ℕ) → length bs < f.width → reading_fault (f ∷ fs) bs ≡ Some Malformed
field_missing f fs bs h = rw (lt-ltb (length bs) f.width h)

-- a field that is there is decided by its rules
pub field_there : (f : Field) (fs : List Field) (bs : List ℕ) (w : ℕ) → f.width ≡ w → w ≤ length bs →
    reading_fault (f ∷ fs) bs ≡ rule_fault (value_of (take w bs)) f.rules (reading_fault fs (drop w bs))
field_there f fs bs w wide h =
    ap (λ n. cond (ltb (length bs) n) (Some Malformed) (rule_fault (value_of (take n bs)) f.rules (reading_fault fs (drop n bs)))) wide
    ∙ cond-false _ _ _ (le-ltb (length bs) w h)

module _ (f : Fault) (passes : ℕ → Bool) (fs : List Field) where
  word_there : (bs : List ℕ) (v : ℕ) → 2 ≤ length bs → v ≡ get_or bs 0 0 * 256 + get_or bs 1 0 →
      reading_fault (word_that f passes ∷ fs) bs ≡ cond (passes v) (reading_fault fs (drop 2 bs)) (Some f)
  word_there [] v h e = absurd (omega arith)
  word_there (a ∷ []) v h e = absurd (omega arith)
  word_there (a ∷ b ∷ bs) v h e =
      let value : value_of (a ∷ b ∷ []) ≡ v = omega arith in
      field_there (word_that f passes) fs (a ∷ b ∷ bs) 2 refl h ∙ ap (λ x. cond (passes x) (reading_fault fs bs) (Some f)) value

  pub word_fails : (bs : List ℕ) (v : ℕ) → 2 ≤ length bs → v ≡ get_or bs 0 0 * 256 + get_or bs 1 0 → passes v ≡ false →
      reading_fault (word_that f passes ∷ fs) bs ≡ Some f
  word_fails bs v h is e = word_there bs v h is ∙ cond-false _ _ _ e

  pub word_passes : (bs : List ℕ) (v : ℕ) → 2 ≤ length bs → v ≡ get_or bs 0 0 * 256 + get_or bs 1 0 → passes v ≡ true →
      reading_fault (word_that f passes ∷ fs) bs ≡ reading_fault fs (drop 2 bs)
  word_passes bs v h is e = word_there bs v h is ∙ cond-true _ _ _ e

-- a stray character

head_append : (xs ys : List Check) (c : Check) → head_broken (xs ++ ys) ≡ Some c → (head_broken xs ≡ Some c) ⊎ (head_broken ys ≡ Some c)
head_append [] ys c e = inr e
head_append (x ∷ xs) ys c e =
    elim (cases_Bool x.broken) [
      | inl b ↦ inl (cond-true _ _ _ b ∙ sym (cond-true _ _ _ b) ∙ e)
      | inr b ↦ elim (head_append xs ys c (sym (cond-false _ _ _ b) ∙ e)) [ inl k ↦ inl (cond-false _ _ _ b ∙ k) | inr k ↦ inr k ]
    ]

head_all : (P : Check → Type 0) (cs : List Check) (c : Check) → AllByRecursion P cs → head_broken cs ≡ Some c → P c
head_all P [] c h e = absurd (some_none c (sym e))
head_all P (d ∷ cs) c h e =
    elim (cases_Bool d.broken) [
      | inl b ↦ let k : Some d ≡ Some c = sym (cond-true _ _ _ b) ∙ e in let same : d ≡ c = cc in subst P same h.0
      | inr b ↦ head_all P cs c h.1 (sym (cond-false _ _ _ b) ∙ e)
    ]

-- the first broken check of a unit stands before the end of its bytes, or there with the smallest number
head_not_after_stray : (bs : List ℕ) (p : ℕ) (fs : List Field) (c : Check) → Laid fs → p ≤ length bs →
    head_broken (field_checks bs p fs) ≡ Some c → before (stray bs) c ≡ false
head_not_after_stray bs p [] c h at e =
    elim (cases_lt p (length bs)) [
      | inl l ↦ head_all (λ d. before (stray bs) d ≡ false) (field_checks bs p []) c (after (too_many bs p) (stray bs) l, tt) e
      | inr g ↦ absurd (some_none c (sym e ∙ cond-false _ _ _ (le-ltb p (length bs) g)))
    ]
head_not_after_stray bs p (f ∷ fs) c h at e =
    elim (cases_lt (length bs) (p + f.width)) [
      | inl short ↦
          let k : Some (missing bs p f.width) ≡ Some c = sym (cond-true _ _ _ (lt-ltb _ _ short)) ∙ e in
          let same : missing bs p f.width ≡ c = cc in
          subst (λ d. before (stray bs) d ≡ false) same (grind (arith, nat_tests))
      | inr there ↦
          let wide = h.0.0 in
          let k = sym (cond-false _ _ _ (le-ltb _ _ there)) ∙ e in
          elim (head_append (rule_checks bs p f.width f.rules) (field_checks bs (p + f.width) fs) c k) [
            | inl r ↦ after c (stray bs) (let q = head_all (λ d. d.place ≡ p) _ c (rules_place bs p f.width f.rules) r in omega arith)
            | inr r ↦ head_not_after_stray bs (p + f.width) fs c h.1 there r
          ]
    ]

pub stray_first : (bs : List ℕ) (fs : List Field) → Laid fs →
    first_fault (unit_checks bs fs ++ stray bs ∷ []) ≡ Some (unwrap_or (first_fault (unit_checks bs fs)) Malformed)
unfolding unit_checks
stray_first bs fs h =
    first_with_last (field_checks bs 0 fs) (stray bs) refl
    (λ c e. head_not_after_stray bs 0 fs c h (omega arith) (sym (first_broken_in_order _ (fields_in_order bs 0 fs h)) ∙ e))

-- what a reader that took the first b bytes of the rest of a unit has left
pub rest_after_lem : (bs : List ℕ) (a b : ℕ) (rest : List ℕ) → rest ≡ drop a bs → take (length rest - b) (drop b rest) ≡ drop (a + b) bs
rest_after_lem bs a b rest e = take_rest rest b ∙ ap (drop b) e ∙ drop-drop b a bs
