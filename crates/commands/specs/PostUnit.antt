-- What the program of one post reads: the post's place as a unit of one byte, and the orders to it. Assumes nothing.
use Rattle.std.specs.Prelude.{ℕ, Bool, ◌||◌, List, [], ◌∷◌, ◌==◌, nat_eq}
use Rattle.lines.specs.declared.fault.Fault.TheVariants.{Malformed, OutOfRange}
use Rattle.lines.specs.Checks.{Check}
use Rattle.lines.specs.Units.{Field, byte_that, kind_byte, unit_checks}
use Rattle.commands.specs.declared.post.PostOrder.{PostOrder}
use Rattle.commands.specs.declared.post.PostOrder.TheVariants.{Tick, ButtonDown, ButtonUp, Show}
use Rattle.commands.specs.OrderUnit.{post_below}

abbrev pub place_fields : ℕ → List Field
place_fields n = post_below n ∷ []

unfoldable pub place_checks : ℕ → List ℕ → List Check
place_checks n bs = unit_checks bs (place_fields n)

-- the number of an order to one post, which is that of the same order to a ring
abbrev pub post_what : PostOrder → ℕ
post_what Tick = 1
post_what ButtonDown = 6
post_what ButtonUp = 7
post_what Show = 8

abbrev pub post_order_bytes : ℕ → PostOrder → List ℕ
post_order_bytes place o = 3 ∷ place ∷ post_what o ∷ []

abbrev pub is_post_order : ℕ → Bool
is_post_order w = w == 1 || (w == 6 || (w == 7 || w == 8))

abbrev pub post_what_field : Field
post_what_field = byte_that Malformed is_post_order

abbrev pub post_order_fields : ℕ → List Field
post_order_fields place = kind_byte 3 ∷ byte_that OutOfRange (λ p. nat_eq p place) ∷ post_what_field ∷ []

unfoldable pub post_order_checks : ℕ → List ℕ → List Check
post_order_checks place bs = unit_checks bs (post_order_fields place)
