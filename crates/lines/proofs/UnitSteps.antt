-- Steps of a reader that takes a unit's fields one after the other. Assumes nothing.
use Rattle.std.proofs.Common.{◌≡◌, ℕ, zero, suc, ◌+◌, ◌-◌, ◌*◌, ◌<◌, ◌≤◌, Bool, true, false, eqb, List, [], ◌∷◌, length, get_or, take, drop, Some, None, Option, sym, refl, ap, ◌∙◌, subst, add_assoc, add-one, arith}
use Rattle.std.proofs.lemmas.List.{length-drop, drop_more, drop_all, take_all, get_or-drop}
use Rattle.std.proofs.lemmas.Bool.{cond-true, cond-false, eq-eqb, ne_eqb}
use Rattle.lines.specs.declared.fault.Fault.{Fault}
use Rattle.lines.specs.declared.fault.Fault.TheVariants.{Malformed}
use Rattle.sums.specs.Value.{value_of}
use Rattle.lines.specs.Units.{Field, byte_that, kind_byte, rule_fault, reading_fault}
use Rattle.lines.proofs.Reading.{field_missing, field_there}

-- a bytes are taken, these fields are left, and they decide the fault
abbrev pub Left : List ℕ → Option Fault → ℕ → List Field → Type 0
Left bs fault a fs = fault ≡ reading_fault fs (drop a bs)

module _ (bs : List ℕ) (fault : Option Fault) (a : ℕ) where
  pub is_missing : (f : Field) (fs : List Field) → Left bs fault a (f ∷ fs) → a ≤ length bs → length bs < a + f.width → Some Malformed ≡ fault
  is_missing f fs l at h = sym (l ∙ field_missing f fs (drop a bs) (subst (λ n. n < f.width) (sym (length-drop a bs)) (omega arith)))

  pub too_long : Left bs fault a [] → a < length bs → Some Malformed ≡ fault
  too_long l h = sym (l ∙ ap (reading_fault []) (drop_more bs a 0 h))

  pub at_end : Left bs fault a [] → length bs ≤ a → None ≡ fault
  at_end l h = sym (l ∙ ap (reading_fault []) (drop_all a bs h))

  -- the rules of a field that is there
  module _ (f : Field) (fs : List Field) (left : Left bs fault a (f ∷ fs)) where
    field_taken : (w : ℕ) (xs : List ℕ) → f.width ≡ w → drop a bs ≡ xs → w ≤ length xs →
        fault ≡ rule_fault (value_of (take w xs)) f.rules (reading_fault fs (drop w xs))
    field_taken w xs wide e h =
        left ∙ ap (reading_fault (f ∷ fs)) e ∙ field_there f fs xs w wide h

    pub byte_taken : f.width ≡ 1 → a < length bs → fault ≡ rule_fault (get_or bs a 0) f.rules (reading_fault fs (drop (a + 1) bs))
    byte_taken wide h =
        let b = get_or bs a 0 in
        let value : value_of (b ∷ []) ≡ b = omega arith in
        field_taken 1 (b ∷ drop (a + 1) bs) wide (drop_more bs a 0 h) (omega arith)
        ∙ ap (λ v. rule_fault v f.rules (reading_fault fs (drop (a + 1) bs))) value

    pub word_taken : f.width ≡ 2 → a + 2 ≤ length bs → (v : ℕ) → v ≡ get_or bs a 0 * 256 + get_or bs (a + 1) 0 →
        fault ≡ rule_fault v f.rules (reading_fault fs (drop (a + 2) bs))
    word_taken wide h v e =
        let b = get_or bs a 0 in
        let d = get_or bs (a + 1) 0 in
        let value : value_of (b ∷ d ∷ []) ≡ v = omega arith in
        let rest : drop (a + 1) bs ≡ d ∷ drop (a + 2) bs = drop_more bs (a + 1) 0 (omega arith) ∙ ap (λ i. d ∷ drop i bs) (add_assoc a 1 1) in
        field_taken 2 (b ∷ d ∷ drop (a + 2) bs) wide (drop_more bs a 0 (omega arith) ∙ ap (λ r. b ∷ r) rest) (omega arith)
        ∙ ap (λ x. rule_fault x f.rules (reading_fault fs (drop (a + 2) bs))) value

  -- a byte with one rule
  module _ (f : Fault) (passes : ℕ → Bool) (fs : List Field) (left : Left bs fault a (byte_that f passes ∷ fs)) (there : a < length bs) where
    pub byte_refused : passes (get_or bs a 0) ≡ false → Some f ≡ fault
    byte_refused e = sym (byte_taken (byte_that f passes) fs left refl there ∙ cond-false _ _ _ e)

    pub byte_accepted : passes (get_or bs a 0) ≡ true → Left bs fault (a + 1) fs
    byte_accepted e = byte_taken (byte_that f passes) fs left refl there ∙ cond-true _ _ _ e

-- the kind of a unit
module _ (bs : List ℕ) (fault : Option Fault) (k : ℕ) (fs : List Field) (reads : Left bs fault 0 (kind_byte k ∷ fs)) where
  pub no_kind : length bs < 1 → Some Malformed ≡ fault
  no_kind h = is_missing bs fault 0 (kind_byte k) fs reads (omega arith) h

  module _ (there : 1 ≤ length bs) where
    pub other_kind : (get_or bs 0 0 ≡ k → ⊥) → Some Malformed ≡ fault
    other_kind e = byte_refused bs fault 0 Malformed (λ v. eqb v k) fs reads there (ne_eqb (get_or bs 0 0) k e)

    pub left_after_kind : get_or bs 0 0 ≡ k → Left bs fault 1 fs
    left_after_kind e = byte_accepted bs fault 0 Malformed (λ v. eqb v k) fs reads there (eq-eqb (get_or bs 0 0) k e)

-- what a pattern leaves of the bytes: all but the first b
abbrev pub rest_after : ℕ → List ℕ → List ℕ
rest_after b bs = take (length bs - b) (drop b bs)

module _ (bs : List ℕ) (a : ℕ) (rest : List ℕ) (is : rest ≡ drop a bs) where
  pub rest_long : length rest ≡ length bs - a
  rest_long = ap length is ∙ length-drop a bs

  pub rest_item : (i : ℕ) → get_or rest i 0 ≡ get_or bs (a + i) 0
  rest_item i = ap (λ xs. get_or xs i 0) is ∙ get_or-drop a bs i 0

-- m bytes from a place on, one by one
abbrev pub items : ℕ → ℕ → List ℕ → List ℕ
items a zero bs = []
items a (suc m) bs = get_or bs a 0 ∷ items (suc a) m bs

pub take_items : (m a : ℕ) (bs : List ℕ) → a + m ≤ length bs → take m (drop a bs) ≡ items a m bs
take_items zero a bs h = refl
take_items (suc m) a bs h =
    ap (take (suc m)) (drop_more bs a 0 (omega arith))
    ∙ ap (λ i. get_or bs a 0 ∷ take m (drop i bs)) (add-one a)
    ∙ ap (λ xs. get_or bs a 0 ∷ xs) (take_items m (suc a) bs (omega arith))

pub all_items : (m : ℕ) (bs : List ℕ) → length bs ≡ m → bs ≡ items 0 m bs
all_items m bs h = sym (take_all m bs (omega arith)) ∙ take_items m 0 bs (omega arith)
