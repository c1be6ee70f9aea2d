-- What the code keeps of a machine holds again after each event and after each disturbance. Assumes nothing.
use Rattle.std.proofs.Common.{◌≡◌, ℕ, ◌+◌, ◌*◌, ◌<◌, ◌≤◌, Bool, true, false, List, [], ◌∷◌, length, set, sym, refl, ap, ◌∙◌, subst, inl, inr, arith, length-set}
use Rattle.std.proofs.lemmas.Bool.{cases_eq, cond-true, cond-false, eq-eqb, ne_eqb, and_parts}
use Rattle.std.proofs.lemmas.Bool.Decides.{nat_tests}
use Rattle.frames.specs.declared.settings.Settings.{Settings}
use Rattle.members.specs.Ring.{Ring, State, Enough, how_many}
use Rattle.posts.specs.declared.memory.Memory.{Memory}
use Rattle.posts.specs.Steps.{deeds_in}
use Rattle.posts.proofs.Norms.{norm_is}
use Rattle.ring.specs.declared.tally.Tally.{Tally}
use Rattle.ring.specs.Bound.{HeldTo, Sound}
use Rattle.ring.specs.Disturbances.{memory_becomes, frame_becomes}
use Rattle.ring.specs.Events.{midway, tallied}
use Rattle.ring.specs.Machine.{Machine, Whole, post_at, post_doing, Event, tick, hear, lose, press, release, post_of, tick_of, hear_of, step, numbers_of, state_in}
use Rattle.ring.specs.Numbers.{Numbers, end_before, moves, sends, hears, acts, may_move, state_of, ring_of_posts, changed, Fit}
use Rattle.ring.specs.Promise.{ring_of_settings}
use Rattle.ring.specs.Tallies.{noted, one_more, anew}
use Rattle.ring.proofs.Acts.{moves_steps, sends_steps, hears_steps, fit_moves}
use Rattle.ring.proofs.BoundLaws.{Single, few_set, single_none, held_note, held_anew}
use Rattle.ring.proofs.Healing.{machine_state}
use Rattle.ring.proofs.Machines.{taken, acts_parts, doing_numbers, hear_numbers, lose_numbers, button_numbers, machine_fit}
use Rattle.ring.proofs.Places.{state_length, own_set, preceding_below}
use Rattle.ring.proofs.PostMoves.{moves_is, sends_is, hears_is}
use Rattle.ring.proofs.Refine.{enough, token_is, placed_set, step_whole}
use Rattle.ring.proofs.TickLaws.{below_after, midway_is}

-- states of one length between which no number changes are one
pub changed_zero : (s t : State) → length s ≡ length t → changed s t ≡ 0 → s ≡ t
unfolding changed
changed_zero [] [] l e = refl
changed_zero [] (y ∷ ys) l e = absurd (omega arith)
changed_zero (x ∷ xs) [] l e = absurd (omega arith)
changed_zero (x ∷ xs) (y ∷ ys) l e =
    let h = changed_zero xs ys (omega arith) (grind (arith, nat_tests)) in
    let q : x ≡ y = grind (arith, nat_tests) in
    cc

noted_holders : (r : Ring) (s t : State) (y : Tally) → length s ≡ length t → y.holders ≡ how_many r s r.members → (noted r s t y).holders ≡ how_many r t r.members
unfolding noted
noted_holders r s t y l h =
    elim (cases_eq (changed s t) 0) [
      | inl e ↦ ap (λ z. z.holders) (cond-true _ y (one_more (how_many r t r.members) y) (eq-eqb (changed s t) 0 e)) ∙ (h ∙ ap (λ u. how_many r u r.members) (changed_zero s t l e))
      | inr d ↦ ap (λ z. z.holders) (cond-false _ y (one_more (how_many r t r.members) y) (ne_eqb (changed s t) 0 d))
    ]

-- what a post does is one member's move, or none

module _ (n k : ℕ) (g : Enough (ring_of_posts n k)) (x : Numbers) (f : Fit n k x) (p : ℕ) (l : p < n) where
  few_if : (t : State) (j v : ℕ) → j < 3 * n → t ≡ set (state_of n x) j v → changed (state_of n x) t ≤ 1
  few_if t j v b e = subst (λ z. changed (state_of n x) z ≤ 1) (sym e) (few_set (state_of n x) j v (omega (arith, state_length n x)))

  single_sends : Single (ring_of_posts n k) (state_of n x) (state_of n (sends p x))
  single_sends = record { moves = sends_steps n k g x f p l; few = few_if _ (3 * p + 1) _ (omega arith) (sends_is n k x f p l) }

  single_hears : Single (ring_of_posts n k) (state_of n x) (state_of n (hears n p x))
  single_hears = let b = preceding_below n p l in record { moves = hears_steps n k g x f p l; few = few_if _ (end_before n p) _ (omega arith) (hears_is n k x f p l) }

  single_first : (mv : Bool) → (mv ≡ true → may_move p x ≡ true) → Single (ring_of_posts n k) (state_of n x) (state_of n (acts k p mv false x))
  single_first true h = record { moves = moves_steps n k g x f p l (h refl); few = few_if _ (3 * p) _ (omega arith) (moves_is n k x f p l) }
  single_first false h = single_none (ring_of_posts n k) (state_of n x)

single_second : (n k : ℕ) → Enough (ring_of_posts n k) → (x : Numbers) → Fit n k x → (p : ℕ) → p < n → (mv sd : Bool) →
    Single (ring_of_posts n k) (state_of n (acts k p mv false x)) (state_of n (acts k p mv sd x))
single_second n k g x f p l true true = single_sends n k g (moves k p x) (fit_moves n k x f p l) p l
single_second n k g x f p l false true = single_sends n k g x f p l
single_second n k g x f p l true false = single_none (ring_of_posts n k) (state_of n (moves k p x))
single_second n k g x f p l false false = single_none (ring_of_posts n k) (state_of n x)

module _ (o : Settings) (m : Machine) (w : Whole o.posts m) (i : ℕ) (l : i < o.posts) where
  midway_acts : midway o i m ≡ state_of o.posts (acts o.k i (deeds_in o (post_at m i)).moves false (numbers_of o m))
  midway_acts =
      let d = deeds_in o (post_at m i) in
      let f = machine_fit o m w in
      let v = (post_doing o d (post_at m i)).memory.number in
      let q = sym (norm_is o.k v (below_after o m w i l)) ∙ taken o m w i l d in
      midway_is o m w i l v refl ∙
      sym (ap (state_of o.posts) (acts_parts o.k i d.moves false (numbers_of o m) v (omega (arith, f.owns)) q) ∙ own_set o.posts (numbers_of o m) i v l f.owns)

  tick_first : Single (ring_of_settings o) (state_in o m) (midway o i m)
  tick_first =
      subst (Single (ring_of_settings o) (state_in o m)) (sym midway_acts)
      (single_first o.posts o.k (enough o) (numbers_of o m) (machine_fit o m w) i l (deeds_in o (post_at m i)).moves (λ e. sym (token_is o m w i l) ∙ (and_parts _ _ e).0))

  tick_second : Single (ring_of_settings o) (midway o i m) (state_in o (tick_of o i m))
  tick_second =
      let d = deeds_in o (post_at m i) in
      subst (λ s. Single (ring_of_settings o) s (state_in o (tick_of o i m))) (sym midway_acts)
      (subst (Single (ring_of_settings o) _) (sym (ap (state_of o.posts) (doing_numbers o m w i l d)))
      (single_second o.posts o.k (enough o) (numbers_of o m) (machine_fit o m w) i l d.moves d.sends))

  hear_single : Single (ring_of_settings o) (state_in o m) (state_in o (hear_of o i m))
  hear_single =
      elim (hear_numbers o m w i l) [
        | inl e ↦ subst (λ x. Single (ring_of_settings o) (state_in o m) (state_of o.posts x)) (sym e) (single_none (ring_of_settings o) (state_in o m))
        | inr e ↦ subst (λ x. Single (ring_of_settings o) (state_in o m) (state_of o.posts x)) (sym e) (single_hears o.posts o.k (enough o) (numbers_of o m) (machine_fit o m w) i l)
      ]

-- a machine whose numbers are as before
unmoved : (o : Settings) (m n : Machine) (y : Tally) → Sound o m y → Whole o.posts n → numbers_of o n ≡ numbers_of o m → Sound o n y
unmoved o m n y h w e = record {
  whole = w;
  counted = h.counted ∙ ap (λ x. how_many (ring_of_settings o) (state_of o.posts x) (3 * o.posts)) (sym e);
  held = subst (λ x. HeldTo (ring_of_settings o) (state_of o.posts x) y) (sym e) h.held;
}

pub sound_event : (o : Settings) (e : Event) (m : Machine) (y : Tally) → Sound o m y → post_of e < o.posts → Sound o (step o e m) (tallied o e m y)
unfolding tallied step
sound_event o (tick i) m y h l =
    let r = ring_of_settings o in
    let w = h.whole in
    let a = state_length o.posts (numbers_of o m) in
    let b : length (midway o i m) ≡ 3 * o.posts = length-set (state_in o m) (3 * i) _ ∙ a in
    let c = state_length o.posts (numbers_of o (tick_of o i m)) in
    let z = noted r (state_in o m) (midway o i m) y in
    record {
      whole = step_whole o (tick i) m w l;
      counted = noted_holders r (midway o i m) (state_in o (tick_of o i m)) z (b ∙ sym c) (noted_holders r (state_in o m) (midway o i m) y (a ∙ sym b) h.counted);
      held = held_note r (enough o) (midway o i m) (state_in o (tick_of o i m)) z (held_note r (enough o) (state_in o m) (midway o i m) y h.held (tick_first o m w i l)) (tick_second o m w i l);
    }
sound_event o (hear i) m y h l =
    let r = ring_of_settings o in
    record {
      whole = step_whole o (hear i) m h.whole l;
      counted = noted_holders r (state_in o m) (state_in o (hear_of o i m)) y (state_length o.posts (numbers_of o m) ∙ sym (state_length o.posts (numbers_of o (hear_of o i m)))) h.counted;
      held = held_note r (enough o) (state_in o m) (state_in o (hear_of o i m)) y h.held (hear_single o m h.whole i l);
    }
sound_event o (lose i) m y h l = unmoved o m _ y h (step_whole o (lose i) m h.whole l) (lose_numbers o m h.whole i l)
sound_event o (press i) m y h l = unmoved o m _ y h (step_whole o (press i) m h.whole l) (button_numbers o m h.whole i l true)
sound_event o (release i) m y h l = unmoved o m _ y h (step_whole o (release i) m h.whole l) (button_numbers o m h.whole i l false)

-- a machine from which counting begins
pub sound_anew : (o : Settings) (m : Machine) → Whole o.posts m → Sound o m (anew (ring_of_settings o) (state_in o m))
unfolding anew
sound_anew o m w = record { whole = w; counted = refl; held = held_anew (ring_of_settings o) (enough o) (state_in o m) (machine_state o m w) }

pub memory_whole : (o : Settings) (i : ℕ) (x : Memory) (m : Machine) → Whole o.posts m → i < o.posts → Whole o.posts (memory_becomes i x m)
memory_whole o i x m w l = record {
  count_of_posts = length-set m.posts i _ ∙ w.count_of_posts;
  line_count = w.line_count;
  placed = placed_set o.posts m.posts i _ w.count_of_posts w.placed l refl;
}

pub frame_whole : (o : Settings) (i : ℕ) (bytes : List ℕ) (m : Machine) → Whole o.posts m → i < o.posts → Whole o.posts (frame_becomes i bytes m)
frame_whole o i bytes m w l = record { count_of_posts = w.count_of_posts; line_count = length-set m.lines i _ ∙ w.line_count; placed = w.placed }
