-- Runs of ticks: when a post sends, and when it moves. Assumes nothing.
use Rattle.std.proofs.Common.{◌≡◌, ℕ, zero, suc, ◌-◌, ◌<◌, ◌≤◌, min, Bool, true, false, cond, ◌||◌, eqb, List, [], ◌∷◌, is_some, Some, None, Option, refl, ap, ◌∙◌, inl, inr, arith}
use Rattle.std.proofs.lemmas.Bool.{and_left, cases_Bool}
use Rattle.std.proofs.lemmas.Bool.Decides.{nat_tests}
use Rattle.lines.specs.declared.fault.Fault.{Fault}
use Rattle.frames.specs.declared.settings.Settings.{Settings}
use Rattle.lines.specs.Checks.{first_fault}
use Rattle.frames.specs.FrameUnit.{frame_checks}
use Rattle.members.specs.Answers.{may_by}
use Rattle.turns.specs.Speaking.{lasting, spoken_once, time_to_speak}
use Rattle.turns.specs.declared.turn.Turn.{Turn}
use Rattle.posts.specs.declared.act.Act.{Act}
use Rattle.posts.specs.declared.post.Post.{Post}
use Rattle.posts.specs.Rule.{norm}
use Rattle.posts.specs.Steps.{Event, tick, frame, down, up, has_token, deeds_in, frame_of, after_tick, hear_by, acts_in, ticks_in}
use Rattle.posts.specs.Promise.{any_sends, after_ticks, MovesAfter, Waits}
use Rattle.posts.proofs.Norms.{norm_norm}

-- hearing leaves the ticks to sending
hear_waits : (o : Option Fault) (s : Settings) (bs : List ℕ) (p : Post) → (hear_by o s bs p).0.memory.wait ≡ p.memory.wait
hear_waits None s bs p = refl
hear_waits (Some f) s bs p = refl

hear_sends : (o : Option Fault) (s : Settings) (bs : List ℕ) (p : Post) (acts : List Act) → any_sends ((hear_by o s bs p).1 ∷ acts) ≡ any_sends acts
hear_sends None s bs p acts = refl
hear_sends (Some f) s bs p acts = refl

-- in a tick a post sends, or one tick fewer is left to sending
unsent : (b : Bool) (bytes : List ℕ) (rest : Bool) → b ≡ false → (is_some (cond b (Some bytes) None) || rest) ≡ rest
unsent b bytes rest e = rw e

one_fewer : (moves : Bool) (w : ℕ) → (moves || eqb w 0) ≡ false → suc (min (cond (moves || eqb w 0) 3 (min w 3 - 1)) 3) ≡ min w 3
one_fewer moves w e = grind (arith, nat_tests)

pub sends_within : (p : Post) (s : Settings) (es : List Event) → suc (min p.memory.wait 3) ≤ ticks_in es → any_sends (acts_in s es p) ≡ true
sends_within p s [] l = absurd (omega arith)
sends_within p s (tick ∷ es) l =
    elim (cases_Bool (deeds_in s p).sends) [
      | inl e ↦ rw e
      | inr e ↦
          unsent (deeds_in s p).sends (frame_of s (after_tick s p)) (any_sends (acts_in s es (after_tick s p))) e
          ∙ sends_within (after_tick s p) s es (omega (arith, one_fewer (deeds_in s p).moves p.memory.wait e))
    ]
sends_within p s (frame bs ∷ es) l =
    let o = first_fault (frame_checks s.posts s.k p.place bs) in
    hear_sends o s bs p (acts_in s es (hear_by o s bs p).0)
    ∙ sends_within (hear_by o s bs p).0 s es (omega (arith, ap (λ w. min w 3) (hear_waits o s bs p)))
sends_within p s (down ∷ es) l = sends_within _ s es l
sends_within p s (up ∷ es) l = sends_within _ s es l

-- a post that doesn't move has or lacks the token as before
same_guard : (k p heard number taken : ℕ) (moves : Bool) → moves ≡ false →
    may_by p (norm k (norm k heard)) (norm k (cond moves taken (norm k number))) ≡ may_by p (norm k heard) (norm k number)
same_guard k p heard number taken moves e = rw (e, norm_norm k heard, norm_norm k number)

token_stays : (s : Settings) (p : Post) → (deeds_in s p).moves ≡ false → has_token s (after_tick s p) ≡ has_token s p
token_stays s p e = same_guard s.k p.place p.memory.heard p.memory.number _ (deeds_in s p).moves e

-- a tick of speaking takes one of the time
less_time : (button : Bool) (t : Turn) (n : ℕ) (moves speaks : Bool) → moves ≡ false → speaks ≡ true → time_to_speak button t ≡ suc n →
    time_to_speak button (cond moves (lasting 0) (cond speaks (spoken_once t) t)) ≡ n
less_time button t n moves speaks e f h = rw (e, f) (grind (arith, nat_tests))

first_and_rest : (P : ℕ → Type 0) (n : ℕ) → P 0 → ((i : ℕ) → i < n → P (suc i)) → (i : ℕ) → i < suc n → P i
first_and_rest P n h f zero l = h
first_and_rest P n h f (suc i) l = f i (omega arith)

pub moves_after : (s : Settings) (p : Post) (n : ℕ) → has_token s p ≡ true → time_to_speak p.button p.memory.turn ≡ n → MovesAfter s p n
moves_after s p zero h e =
    record {
      speaks_first = λ i l. absurd (omega arith);
      moves_not_yet = λ i l. absurd (omega arith);
      moves_then = rw (h, e);
    }
moves_after s p (suc n) h e =
    let m : (deeds_in s p).moves ≡ false = rw (h, e) (grind (arith, nat_tests)) in
    let t : (deeds_in s p).speaks ≡ true = rw (h, e) (grind (arith, nat_tests)) in
    let rest = moves_after s (after_tick s p) n (token_stays s p m ∙ h)
    (less_time p.button p.memory.turn n (deeds_in s p).moves (deeds_in s p).speaks m t e) in
    record {
      speaks_first = first_and_rest (λ i. (deeds_in s (after_ticks s i p)).speaks ≡ true) n t rest.speaks_first;
      moves_not_yet = first_and_rest (λ i. (deeds_in s (after_ticks s i p)).moves ≡ false) n m rest.moves_not_yet;
      moves_then = rest.moves_then;
    }

-- without the token it waits
never : (s : Settings) (i : ℕ) (p : Post) → has_token s p ≡ false → has_token s (after_ticks s i p) ≡ false
never s zero p h = h
never s (suc i) p h = never s i (after_tick s p) (token_stays s p (and_left (has_token s p) _ h) ∙ h)

pub waits : (s : Settings) (p : Post) → has_token s p ≡ false → Waits s p
waits s p h = record { silent = λ i. and_left (has_token s (after_ticks s i p)) _ (never s i p h); still = λ i. and_left (has_token s (after_ticks s i p)) _ (never s i p h) }
