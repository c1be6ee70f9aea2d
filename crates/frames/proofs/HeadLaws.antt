-- What a reader meets that takes a kind and a byte, then numbers of two bytes, and then the end. Assumes nothing.
use Rattle.std.proofs.Common.{◌≡◌, ℕ, ◌+◌, ◌*◌, ◌<◌, ◌≤◌, eqb, List, [], ◌∷◌, length, get_or, drop, Some, None, Option, sym, ap, ◌∙◌, inl, inr, arith}
use Rattle.std.proofs.lemmas.List.{take_rest}
use Rattle.std.proofs.lemmas.Bool.{cases_Bool, cases_lt, eqb-true, eqb-false}
use Rattle.lines.specs.declared.fault.Fault.{Fault}
use Rattle.lines.specs.declared.fault.Fault.TheVariants.{Malformed}
use Rattle.lines.specs.Units.{Field, kind_byte, rule_fault, reading_fault}
use Rattle.lines.proofs.UnitSteps.{Left, no_kind, other_kind, left_after_kind, is_missing, too_long, at_end, byte_taken, word_taken, rest_after}

-- a kind, and a field of one byte after it
module _ (bs : List ℕ) (fault : Option Fault) (k : ℕ) (f : Field) (fs : List Field) (wide : f.width ≡ 1)
    (reads : Left bs fault 0 (kind_byte k ∷ f ∷ fs)) where
  pub head_other : 1 ≤ length bs → (get_or bs 0 0 ≡ k → ⊥) → Some Malformed ≡ fault
  head_other there e = other_kind bs fault k (f ∷ fs) reads there e

  pub head_missing : length bs < 2 → Some Malformed ≡ fault
  head_missing h =
      elim (cases_lt (length bs) 1) [
        | inl none ↦ no_kind bs fault k (f ∷ fs) reads none
        | inr there ↦
            elim (cases_Bool (eqb (get_or bs 0 0) k)) [
              | inl t ↦
                  is_missing bs fault 1 f fs (left_after_kind bs fault k (f ∷ fs) reads there (eqb-true (get_or bs 0 0) k t)) there (omega arith)
              | inr t ↦ head_other there (eqb-false (get_or bs 0 0) k t)
            ]
      ]

  pub head_taken : 2 ≤ length bs → get_or bs 0 0 ≡ k → fault ≡ rule_fault (get_or bs 1 0) f.rules (reading_fault fs (rest_after 2 bs))
  head_taken long kind =
      byte_taken bs fault 1 f fs (left_after_kind bs fault k (f ∷ fs) reads (omega arith) kind) wide long
      ∙ ap (λ r. rule_fault (get_or bs 1 0) f.rules (reading_fault fs r)) (sym (take_rest bs 2))

-- a field of two bytes at the front of what is left
module _ (rest : List ℕ) (fault : Option Fault) (f : Field) (fs : List Field) (wide : f.width ≡ 2) (left : fault ≡ reading_fault (f ∷ fs) rest) where
  pub word_missing : length rest < 2 → Some Malformed ≡ fault
  word_missing h = is_missing rest fault 0 f fs left (omega arith) (omega arith)

  pub word_met : (x : ℕ) (after : List ℕ) → 2 ≤ length rest → x ≡ get_or rest 0 0 * 256 + get_or rest 1 0 → after ≡ drop 2 rest →
      fault ≡ rule_fault x f.rules (reading_fault fs after)
  word_met x after h e is = word_taken rest fault 0 f fs left wide h x e ∙ ap (λ r. rule_fault x f.rules (reading_fault fs r)) (sym is)

-- nothing is to be left
module _ (rest : List ℕ) (fault : Option Fault) (left : fault ≡ reading_fault [] rest) where
  pub all_read : length rest ≡ 0 → None ≡ fault
  all_read e = at_end rest fault 0 left (omega arith)

  pub more_left : (length rest ≡ 0 → ⊥) → Some Malformed ≡ fault
  more_left e = too_long rest fault 0 left (omega arith)
