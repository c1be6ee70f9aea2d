-- What a reader of orders meets, field by field; and every order to a post that is there is accepted. Assumes nothing.
use Rattle.std.proofs.Common.{◌≡◌, ℕ, zero, suc, ◌<◌, ◌≤◌, true, cond, ◌&&◌, eqb, leb, List, [], ◌∷◌, length, get_or, drop, replicate, Some, None, Option, sym, refl, ap, ◌∙◌, arith}
use Rattle.std.proofs.lemmas.List.{take_rest}
use Rattle.std.proofs.lemmas.Bool.{cond-true, cond-false, eq-eqb, lt-ltb, le-ltb}
use Rattle.std.proofs.lemmas.Bool.Decides.{nat_tests}
use Rattle.lines.specs.declared.fault.Fault.{Fault}
use Rattle.lines.specs.declared.fault.Fault.TheVariants.{Malformed, OutOfRange}
use Rattle.lines.specs.Checks.{first_fault}
use Rattle.lines.specs.Units.{Field, Laid, rule_fault, reading_fault}
use Rattle.lines.proofs.Reading.{reading_first, rest_after_lem}
use Rattle.lines.proofs.UnitSteps.{Left, byte_accepted, rest_after, rest_item}
use Rattle.frames.proofs.HeadLaws.{head_missing, head_other, head_taken}
use Rattle.commands.specs.declared.order.Order.{Order}
use Rattle.commands.specs.declared.order.Order.TheVariants.{Tick, Hear, Lose, Memory, Frame, ButtonDown, ButtonUp, Show}
use Rattle.commands.specs.declared.order.Command.{Command}
use Rattle.commands.specs.OrderUnit.{what_of, content_of, order_bytes, AcceptsOrders, following, post_below, any_byte, what_fields, order_fields, order_checks}

-- m bytes of any kind, and no more
pub any_bytes : (m : ℕ) (bs : List ℕ) → reading_fault (replicate m any_byte) bs ≡ cond (eqb (length bs) m) None (Some Malformed)
any_bytes zero [] = refl
any_bytes zero (b ∷ bs) = grind (arith, nat_tests)
any_bytes (suc m) [] = grind (arith, nat_tests)
any_bytes (suc m) (b ∷ bs) = let rest = any_bytes m bs in grind (arith, nat_tests)

-- a known number, and what follows
module _ (bs : List ℕ) (w : ℕ) (there : 1 ≤ length bs) (is : get_or bs 0 0 ≡ w) (known : (leb 1 w && leb w 8) ≡ true) where
  pub what_left : reading_fault (what_fields (get_or bs 0 0)) bs ≡ cond (eqb (length (rest_after 1 bs)) (following w)) None (Some Malformed)
  what_left =
      ap (λ x. reading_fault (what_fields x) bs) is
      ∙ byte_accepted bs (reading_fault (what_fields w) bs) 0 Malformed (λ v. leb 1 v && leb v 8) (replicate (following w) any_byte) refl there
      (ap (λ v. leb 1 v && leb v 8) is ∙ known)
      ∙ any_bytes (following w) (drop 1 bs)
      ∙ ap (λ r. cond (eqb (length r) (following w)) None (Some Malformed)) (sym (rest_after_lem bs 0 1 bs refl))

any_laid : (m : ℕ) → Laid (replicate m any_byte)
any_laid zero = tt
any_laid (suc m) = ((omega arith, tt), any_laid m)

pub order_laid : (n : ℕ) (bs : List ℕ) → Laid (order_fields n bs)
order_laid n bs =
    ((omega arith, (tt, tt)), ((omega arith, (tt, tt)), ((omega arith, (tt, tt)), any_laid (following (get_or bs 2 0)))))

module _ (n : ℕ) (bs : List ℕ) where
  abbrev faultHere : Option Fault
  faultHere = first_fault (order_checks n bs)

  abbrev toWhat : List Field
  toWhat = what_fields (get_or bs 2 0)

  reads : Left bs faultHere 0 (order_fields n bs)
  unfolding order_checks
  reads = reading_first bs (order_fields n bs) (order_laid n bs)

  pub kind_missing : length bs < 2 → Some Malformed ≡ faultHere
  kind_missing h = head_missing bs faultHere 3 (post_below n) toWhat refl reads h

  module _ (long : 2 ≤ length bs) where
    pub kind_wrong : (get_or bs 0 0 ≡ 3 → ⊥) → Some Malformed ≡ faultHere
    kind_wrong e = head_other bs faultHere 3 (post_below n) toWhat refl reads (omega arith) e

    module _ (kind : get_or bs 0 0 ≡ 3) where
      taken : faultHere ≡ rule_fault (get_or bs 1 0) (post_below n).rules (reading_fault toWhat (rest_after 2 bs))
      taken = head_taken bs faultHere 3 (post_below n) toWhat refl reads long kind

      pub post_beyond : n ≤ get_or bs 1 0 → Some OutOfRange ≡ faultHere
      post_beyond h = sym (taken ∙ cond-false _ _ _ (le-ltb (get_or bs 1 0) n h))

      pub what_next : get_or bs 1 0 < n → reading_fault (what_fields (get_or (rest_after 2 bs) 0 0)) (rest_after 2 bs) ≡ faultHere
      what_next h =
          ap (λ w. reading_fault (what_fields w) (rest_after 2 bs)) (rest_item bs 2 (rest_after 2 bs) (take_rest bs 2) 0)
          ∙ sym (taken ∙ cond-true _ _ _ (lt-ltb (get_or bs 1 0) n h))

known_order : (o : Order) → (leb 1 (what_of o) && leb (what_of o) 8) ≡ true
known_order Tick = refl
known_order Hear = refl
known_order Lose = refl
known_order (Memory bs) = refl
known_order (Frame bs) = refl
known_order ButtonDown = refl
known_order ButtonUp = refl
known_order Show = refl

order_accepted : (n : ℕ) (c : Command) → c.post < n → length (content_of c.order) ≡ following (what_of c.order) →
    first_fault (order_checks n (order_bytes c)) ≡ None
order_accepted n c within long =
    let bs = order_bytes c in
    let w = what_of c.order in
    sym (what_next n bs (omega arith) refl within) ∙ ap (λ r. reading_fault (what_fields (get_or r 0 0)) r) (take_rest bs 2)
    ∙ byte_accepted (w ∷ content_of c.order) (reading_fault (what_fields w) (w ∷ content_of c.order)) 0 Malformed (λ v. leb 1 v && leb v 8)
    (replicate (following w) any_byte) refl (omega arith) (known_order c.order)
    ∙ any_bytes (following w) (content_of c.order) ∙ cond-true _ _ _ (eq-eqb (length (content_of c.order)) (following w) long)

pub accepts_orders : (n : ℕ) (bs : List ℕ) (o : Option Fault) → o ≡ first_fault (order_checks n bs) → AcceptsOrders n bs o
accepts_orders n bs o e c within long same = e ∙ ap (λ x. first_fault (order_checks n x)) (sym same) ∙ order_accepted n c within long
