-- What a reader of a place, and one of orders to one post, begins with. Assumes nothing.
use Rattle.std.proofs.Common.{◌≡◌, ℕ, ◌<◌, ◌≤◌, eqb, ltb, List, [], ◌∷◌, length, get_or, Some, Option, sym, refl, ap, ◌∙◌, arith}
use Rattle.std.proofs.lemmas.Bool.{cond-true, cond-false, eq-eqb, ne_eqb, lt-ltb, le-ltb}
use Rattle.std.proofs.lemmas.List.{take_rest}
use Rattle.lines.specs.declared.fault.Fault.{Fault}
use Rattle.lines.specs.declared.fault.Fault.TheVariants.{Malformed, OutOfRange}
use Rattle.lines.specs.Checks.{first_fault}
use Rattle.lines.specs.Units.{Field, Laid, byte_that, rule_fault, reading_fault}
use Rattle.lines.proofs.Reading.{reading_first}
use Rattle.lines.proofs.UnitSteps.{Left, is_missing, byte_refused, byte_accepted, rest_after}
use Rattle.frames.proofs.HeadLaws.{head_missing, head_other, head_taken}
use Rattle.commands.specs.OrderUnit.{post_below}
use Rattle.commands.specs.PostUnit.{place_fields, place_checks, post_what_field, post_order_fields, post_order_checks}

pub place_laid : (n : ℕ) → Laid (place_fields n)
place_laid n = ((omega arith, (tt, tt)), tt)

module _ (n : ℕ) (bs : List ℕ) where
  abbrev placeFault : Option Fault
  placeFault = first_fault (place_checks n bs)

  reads_place : Left bs placeFault 0 (place_fields n)
  unfolding place_checks
  reads_place = reading_first bs (place_fields n) (place_laid n)

  pub place_missing : length bs < 1 → Some Malformed ≡ placeFault
  place_missing h = is_missing bs placeFault 0 (post_below n) [] reads_place (omega arith) h

  module _ (there : 1 ≤ length bs) where
    pub place_beyond : n ≤ get_or bs 0 0 → Some OutOfRange ≡ placeFault
    place_beyond h = byte_refused bs placeFault 0 OutOfRange (λ p. ltb p n) [] reads_place there (le-ltb (get_or bs 0 0) n h)

    pub end_left : get_or bs 0 0 < n → placeFault ≡ reading_fault [] (rest_after 1 bs)
    end_left h =
        byte_accepted bs placeFault 0 OutOfRange (λ p. ltb p n) [] reads_place there (lt-ltb (get_or bs 0 0) n h)
        ∙ ap (reading_fault []) (sym (take_rest bs 1))

pub post_order_laid : (place : ℕ) → Laid (post_order_fields place)
post_order_laid place = ((omega arith, (tt, tt)), ((omega arith, (tt, tt)), ((omega arith, (tt, tt)), tt)))

module _ (place : ℕ) (bs : List ℕ) where
  abbrev faultHere : Option Fault
  faultHere = first_fault (post_order_checks place bs)

  abbrev toPlace : Field
  toPlace = byte_that OutOfRange (λ p. eqb p place)

  reads : Left bs faultHere 0 (post_order_fields place)
  unfolding post_order_checks
  reads = reading_first bs (post_order_fields place) (post_order_laid place)

  pub kind_missing : length bs < 2 → Some Malformed ≡ faultHere
  kind_missing h = head_missing bs faultHere 3 toPlace (post_what_field ∷ []) refl reads h

  module _ (long : 2 ≤ length bs) where
    pub kind_wrong : (get_or bs 0 0 ≡ 3 → ⊥) → Some Malformed ≡ faultHere
    kind_wrong e = head_other bs faultHere 3 toPlace (post_what_field ∷ []) refl reads (omega arith) e

    module _ (kind : get_or bs 0 0 ≡ 3) where
      taken : faultHere ≡ rule_fault (get_or bs 1 0) toPlace.rules (reading_fault (post_what_field ∷ []) (rest_after 2 bs))
      taken = head_taken bs faultHere 3 toPlace (post_what_field ∷ []) refl reads long kind

      pub post_other : (get_or bs 1 0 ≡ place → ⊥) → Some OutOfRange ≡ faultHere
      post_other e = sym (taken ∙ cond-false _ _ _ (ne_eqb (get_or bs 1 0) place e))

      pub what_next : get_or bs 1 0 ≡ place → reading_fault (post_what_field ∷ []) (rest_after 2 bs) ≡ faultHere
      what_next e = sym (taken ∙ cond-true _ _ _ (eq-eqb (get_or bs 1 0) place e))
