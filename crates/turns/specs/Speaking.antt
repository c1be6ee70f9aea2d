-- The time to speak: what is left of a turn, and how hearing and speaking change it. Assumes nothing.
use Rattle.std.specs.Prelude.{Bool, cond, not, ◌&&◌, ℕ, ◌-◌, leb}
use Rattle.turns.specs.declared.turn.Turn.{Turn}

-- the ticks that are left of a turn: more than 1,000 count as 0
abbrev pub time_left : Turn → ℕ
time_left t = cond (leb t.left 1000) t.left 0

-- the ticks for which a post may still speak: without the button 0
abbrev pub time_to_speak : Bool → Turn → ℕ
time_to_speak button t = cond button (time_left t) 0

-- a turn of so many ticks
abbrev pub lasting : ℕ → Turn
lasting ticks = record { left = ticks }

-- each tick of speaking takes one
abbrev pub spoken_once : Turn → Turn
spoken_once t = lasting (t.left - 1)

-- hearing a frame that brings the token, which the post did not have before, sets the turn anew
abbrev pub after_hearing : (had has : Bool) → ℕ → Turn → Turn
after_hearing had has ticks t = cond (not had && has) (lasting ticks) t
