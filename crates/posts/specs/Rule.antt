-- The rule of one post: what it does in a tick and when it hears a number, whatever stands in its memory. Assumes nothing.
use Rattle.std.specs.Prelude.{ℕ, ◌+◌, ◌-◌, ◌^◌, min, Bool, cond, ◌&&◌, ◌||◌, ◌==◌, nat_lt}
use Rattle.members.specs.Answers.{may_by, next_by}
use Rattle.turns.specs.Speaking.{after_hearing, lasting, spoken_once, time_to_speak}
use Rattle.posts.specs.declared.deeds.Deeds.{Deeds}
use Rattle.posts.specs.declared.memory.Memory.{Memory}

-- a number of K or more counts as 0
abbrev pub norm : ℕ → ℕ → ℕ
norm k x = cond (nat_lt x k) x 0

-- the number that a memory stands for, and the number heard last from the post before
abbrev pub number_in : ℕ → Memory → ℕ
number_in k m = norm k m.number

abbrev pub heard_in : ℕ → Memory → ℕ
heard_in k m = norm k m.heard

-- a count stays at its largest value
abbrev pub largest_count : ℕ
largest_count = 2 ^ 32 - 1

abbrev pub one_more : ℕ → ℕ
one_more c = min (c + 1) largest_count

-- The guard of post p, by the rule of the ring's members: post 0 is the first of them, and the number heard is that of the one before.
abbrev pub may_move : ℕ → ℕ → Memory → Bool
may_move k p m = may_by p (heard_in k m) (number_in k m)

-- It speaks if it may move and has time to; if it may move and has none, it moves; it sends if it moves or no tick to sending is left.
abbrev pub speaks_now : ℕ → ℕ → Bool → Memory → Bool
speaks_now k p button m = may_move k p m && nat_lt 0 (time_to_speak button m.turn)

abbrev pub moves_now : ℕ → ℕ → Bool → Memory → Bool
moves_now k p button m = may_move k p m && time_to_speak button m.turn == 0

abbrev pub deeds_of : ℕ → ℕ → Bool → Memory → Deeds
deeds_of k p button m =
    record {
      speaks = speaks_now k p button m;
      moves = moves_now k p button m;
      sends = moves_now k p button m || (m.wait == 0);
    }

-- The parts of a tick, in their order. It begins: numbers of K or more are replaced, more than 3 ticks to sending are 3.
abbrev pub begun : ℕ → Memory → Memory
begun k m =
    record {
      number = number_in k m;
      heard = heard_in k m;
      turn = m.turn;
      wait = min m.wait 3;
      moves = m.moves;
      since = one_more m.since;
    }

-- Speaking takes a tick of the turn.
abbrev pub speak_if : Bool → Memory → Memory
speak_if b m =
    record {
      number = m.number;
      heard = m.heard;
      turn = cond b (spoken_once m.turn) m.turn;
      wait = m.wait;
      moves = m.moves;
      since = m.since;
    }

-- A move: post 0 goes up by one, any other takes the number heard, and the turn is over.
abbrev pub move_if : Bool → ℕ → ℕ → Memory → Memory
move_if b k p m =
    record {
      number = cond b (next_by k p m.heard m.number) m.number;
      heard = m.heard;
      turn = cond b (lasting 0) m.turn;
      wait = m.wait;
      moves = cond b (one_more m.moves) m.moves;
      since = cond b 0 m.since;
    }

-- After sending there are three ticks to the next; without it one fewer is left.
abbrev pub send_if : Bool → Memory → Memory
send_if b m =
    record {
      number = m.number;
      heard = m.heard;
      turn = m.turn;
      wait = cond b 3 (m.wait - 1);
      moves = m.moves;
      since = m.since;
    }

-- a tick in which it does what is chosen
abbrev pub tick_doing : ℕ → ℕ → Deeds → Memory → Memory
tick_doing k p d m = send_if d.sends (move_if d.moves k p (speak_if d.speaks (begun k m)))

-- a tick by the rule
abbrev pub ticked : ℕ → ℕ → Bool → Memory → Memory
ticked k p button m = tick_doing k p (deeds_of k p button m) m

-- Hearing the number f from the post before; where it lets the post move, which might not before, the turn is set anew to so many ticks.
abbrev pub heard_from : ℕ → ℕ → ℕ → ℕ → Memory → Memory
heard_from k p ticks f m =
    record {
      number = number_in k m;
      heard = f;
      turn = after_hearing (may_move k p m) (may_by p f (number_in k m)) ticks m.turn;
      wait = m.wait;
      moves = m.moves;
      since = m.since;
    }
