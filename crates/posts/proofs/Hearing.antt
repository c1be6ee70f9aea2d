-- Hearing a frame: the number in it, and what the memory is after it. Assumes nothing.
use Rattle.std.proofs.Common.{◌≡◌, ℕ, ◌<◌, ◌≤◌, Bool, true, false, ltb, List, None, sym, refl, ap, ◌∙◌, inl, inr, arith, MatchOption}
use Rattle.std.proofs.lemmas.Bool.{cases_Bool}
use Rattle.members.specs.Answers.{may_by}
use Rattle.lines.specs.declared.fault.Fault.{Fault}
use Rattle.frames.specs.declared.settings.Settings.{Settings}
use Rattle.lines.specs.Checks.{first_fault}
use Rattle.frames.specs.FrameUnit.{frame_bytes, frame_checks}
use Rattle.frames.proofs.FrameLaws.{frame_accepted}
use Rattle.turns.specs.Speaking.{after_hearing}
use Rattle.turns.specs.declared.turn.Turn.{Turn}
use Rattle.posts.specs.declared.act.Act.{Act}
use Rattle.posts.specs.declared.memory.Memory.{Memory}
use Rattle.posts.specs.declared.post.Post.{Post}
use Rattle.posts.specs.Rule.{norm, heard_from, may_move, number_in}
use Rattle.posts.specs.Steps.{frame_of, hear_by, hear_step, number_carried, quiet, turn_set, with_memory}
use Rattle.posts.specs.Promise.{Reaches, Refreshed}
use Rattle.posts.proofs.Norms.{norm_below, norm_is, norm_norm}

number_in_frame : (bytes : List ℕ) (p x : ℕ) → bytes ≡ frame_bytes p x → number_carried bytes ≡ x
unfolding frame_bytes
number_in_frame bytes p x e = ap number_carried e ∙ omega arith

hear_heard : (s : Settings) (bytes : List ℕ) (p : Post) (x : ℕ) → None ≡ first_fault (frame_checks s.posts s.k p.place bytes) →
    number_carried bytes ≡ x → (with_memory (heard_from s.k p.place (turn_set s p.place) x p.memory) p, quiet) ≡ hear_step s bytes p
hear_heard s bytes p x e f =
    ap (λ y. (with_memory (heard_from s.k p.place (turn_set s p.place) y p.memory) p, quiet)) (sym f) ∙ ap (λ o. hear_by o s bytes p) e

turn_set_short : (s : Settings) (p : ℕ) → turn_set s p ≤ 1000
turn_set_short s p = elim (cases_Bool (ltb p s.posts)) [ inl e ↦ rw e (s.short p) | inr e ↦ rw e (omega arith) ]

set_anew : (had has : Bool) (ticks : ℕ) (t : Turn) → had ≡ false → has ≡ true → ticks ≤ 1000 → (after_hearing had has ticks t).left ≤ 1000
set_anew had has ticks t e f l = rw (e, f) l

set_or_kept : (had has : Bool) (ticks : ℕ) (t : Turn) → ticks ≤ 1000 → t.left ≤ 1000 → (after_hearing had has ticks t).left ≤ 1000
set_or_kept had has ticks t l m = grind arith

hear_refreshes : (k p ticks x : ℕ) (m : Memory) → x < k → ticks ≤ 1000 → Refreshed k p m (heard_from k p ticks x m)
hear_refreshes k p ticks x m h l =
    record {
      number_below = norm_below k m.number (omega arith);
      heard_below = h;
      turn_cut = λ had has.
          let now : may_by p x (number_in k m) ≡ true = rw (norm_is k x h, norm_norm k m.number) at has in
          set_anew (may_move k p m) (may_by p x (number_in k m)) ticks m.turn had now l;
      turn_stays = λ t. set_or_kept (may_move k p m) (may_by p x (number_in k m)) ticks m.turn l t;
    }

-- the same number heard again changes nothing
kept_turn : (b : Bool) (ticks : ℕ) (t : Turn) → after_hearing b b ticks t ≡ t
kept_turn true ticks t = refl
kept_turn false ticks t = refl

heard_twice : (k p ticks x : ℕ) (m : Memory) → x < k → heard_from k p ticks x (heard_from k p ticks x m) ≡ heard_from k p ticks x m
heard_twice k p ticks x m h =
    let turn : after_hearing (may_by p (norm k x) (norm k (number_in k m))) (may_by p x (norm k (number_in k m))) ticks (heard_from k p ticks x m).turn
    ≡ (heard_from k p ticks x m).turn = rw (norm_is k x h, kept_turn) in
    rw (turn, norm_norm k m.number)

-- a frame that the reader accepts is heard, and heard again it changes nothing
pub record HeardFrame (s : Settings) (bytes : List ℕ) (p : Post) (m : Memory) (a : Act) (Q : Fault → Type 0) : Type 0 where
  pub value : (with_memory m p, a) ≡ hear_step s bytes p
  pub refreshed : MatchOption a.refuses (Refreshed s.k p.place p.memory m) Q
  pub again : hear_step s bytes (with_memory m p) ≡ (with_memory m p, a)

pub heard_frame : (s : Settings) (bytes : List ℕ) (p : Post) (sender x ticks : ℕ) (m : Memory) (a : Act) (Q : Fault → Type 0) →
    None ≡ first_fault (frame_checks s.posts s.k p.place bytes) → x < s.k → bytes ≡ frame_bytes sender x → ticks ≡ turn_set s p.place →
    m ≡ heard_from s.k p.place ticks x p.memory → a ≡ quiet → HeardFrame s bytes p m a Q
heard_frame s bytes p sender x ticks m a Q none below framed set heard does =
    let k = s.k in
    let carried : number_carried bytes ≡ x = number_in_frame bytes sender x framed in
    let first : m ≡ heard_from k p.place (turn_set s p.place) x p.memory = heard ∙ ap (λ t. heard_from k p.place t x p.memory) set in
    let second : heard_from k p.place (turn_set s p.place) x m ≡ m =
    ap (heard_from k p.place (turn_set s p.place) x) first ∙ (heard_twice k p.place (turn_set s p.place) x p.memory below ∙ sym first) in
    record {
      value = rw (does, first) (hear_heard s bytes p x none carried);
      refreshed = rw (does, first) (hear_refreshes k p.place (turn_set s p.place) x p.memory below (turn_set_short s p.place));
      again = sym (hear_heard s bytes (with_memory m p) x none carried) ∙ (ap (λ n. (with_memory n p, quiet)) second ∙ ap (λ b. (with_memory m p, b)) (sym does));
    }

-- what a post sends is heard by the post after it
pub frame_reaches : (s : Settings) (p : Post) (bytes : List ℕ) → bytes ≡ frame_of s p → Reaches s p bytes
frame_reaches s p bytes e q l from =
    let x = number_in s.k p.memory in
    let below : x < s.k = norm_below s.k p.memory.number (omega (arith, s.some, s.enough)) in
    let none : first_fault (frame_checks s.posts s.k q.place bytes) ≡ None =
    ap (λ bs. first_fault (frame_checks s.posts s.k q.place bs)) e ∙ frame_accepted s.posts s.k p.place x q.place l from below in
    sym (hear_heard s bytes q x (sym none) (number_in_frame bytes p.place x e))
