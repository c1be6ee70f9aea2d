-- Orders as units of bytes: the kind 3, the post that an order is for, what it is to do, and for some orders what follows.
-- Assumes nothing.
use Rattle.std.specs.Prelude.{◌≡◌, ℕ, ◌<◌, cond, ◌&&◌, List, [], ◌∷◌, length, replicate, None, Option, ◌==◌, nat_le, nat_lt, slice_index}
use Rattle.lines.specs.declared.fault.Fault.{Fault}
use Rattle.lines.specs.declared.fault.Fault.TheVariants.{Malformed, OutOfRange}
use Rattle.lines.specs.Checks.{Check}
use Rattle.lines.specs.Units.{Field, byte_that, kind_byte, unit_checks}
use Rattle.commands.specs.declared.order.Order.{Order}
use Rattle.commands.specs.declared.order.Order.TheVariants.{Tick, Hear, Lose, Memory, Frame, ButtonDown, ButtonUp, Show}
use Rattle.commands.specs.declared.order.Command.{Command}

-- the number of an order
abbrev pub what_of : Order → ℕ
what_of Tick = 1
what_of Hear = 2
what_of Lose = 3
what_of (Memory bs) = 4
what_of (Frame bs) = 5
what_of ButtonDown = 6
what_of ButtonUp = 7
what_of Show = 8

-- the bytes after the number of an order
abbrev pub content_of : Order → List ℕ
content_of Tick = []
content_of Hear = []
content_of Lose = []
content_of (Memory bs) = bs
content_of (Frame bs) = bs
content_of ButtonDown = []
content_of ButtonUp = []
content_of Show = []

abbrev pub order_bytes : Command → List ℕ
order_bytes c = 3 ∷ c.post ∷ what_of c.order ∷ content_of c.order

-- how many bytes follow the number of an order
abbrev pub following : ℕ → ℕ
following what = cond (what == 4) 16 (cond (what == 5) 6 0)

-- one of n posts
abbrev pub post_below : ℕ → Field
post_below n = byte_that OutOfRange (λ p. nat_lt p n)

abbrev pub any_byte : Field
any_byte = record { width = 1; rules = [] }

-- what is to be done, and what follows
abbrev pub what_fields : ℕ → List Field
what_fields what = byte_that Malformed (λ w. nat_le 1 w && nat_le w 8) ∷ replicate (following what) any_byte

-- the third byte says what is to be done
abbrev pub order_fields : ℕ → List ℕ → List Field
order_fields n bs = kind_byte 3 ∷ post_below n ∷ what_fields (slice_index bs 2)

unfoldable pub order_checks : ℕ → List ℕ → List Check
order_checks n bs = unit_checks bs (order_fields n bs)

-- the bytes of any order to one of n posts are read with no fault
abbrev pub AcceptsOrders : ℕ → List ℕ → Option Fault → Type 0
AcceptsOrders n bs fault =
    (c : Command) → c.post < n → length (content_of c.order) ≡ following (what_of c.order) → order_bytes c ≡ bs → fault ≡ None
