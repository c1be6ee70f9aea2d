-- What the ring's theory gives for posts and lines: healing, order, and that one speaks at a time. Assumes nothing.
use Rattle.std.proofs.Common.{◌≡◌, ℕ, suc, ◌+◌, ◌*◌, ◌<◌, ◌≤◌, Bool, true, false, cond, T, eqb, ◌≢◌, List, [], ◌∷◌, sym, refl, ap, ◌∙◌, subst, inl, inr, add-one, arith}
use Rattle.std.proofs.lemmas.Bool.{cases_Bool, and_parts, both_ways}
use Rattle.std.proofs.lemmas.Bool.Decides.{nat_tests}
use Rattle.frames.specs.declared.settings.Settings.{Settings}
use Rattle.members.specs.Ring.{IsState, none, may, moved}
use Rattle.members.specs.Turns.{Alone}
use Rattle.members.proofs.Runs.{main, run_healed, each_once, alone}
use Rattle.posts.specs.Steps.{deeds_in, has_token}
use Rattle.ring.specs.Machine.{Machine, Whole, post_at, Event, tick, hear, lose, press, release, post_of, Among, step, run, numbers_of, state_in, moves_in, speaks_at, speakings, ticks_one, ticks_of}
use Rattle.ring.specs.Numbers.{preceding, end_before, acts, state_of}
use Rattle.ring.specs.Promise.{ring_of_settings, HealedIn, Orderly, Heals, SpeaksAlone}
use Rattle.ring.proofs.Machines.{doing_numbers, hear_numbers, lose_numbers, button_numbers, machine_fit}
use Rattle.ring.proofs.Places.{preceding_below}
use Rattle.ring.proofs.PostMoves.{may_post, sends_is, hears_is, rests, fit_state}
use Rattle.ring.proofs.Refine.{enough, step_whole, run_whole, token_is, refines}

pub machine_state : (o : Settings) (m : Machine) → Whole o.posts m → IsState (ring_of_settings o) (state_in o m)
machine_state o m w = fit_state o.posts o.k (numbers_of o m) (machine_fit o m w)

pub orderly : (o : Settings) (m : Machine) → Whole o.posts m → HealedIn o m → Orderly o m
orderly o m w h = record {
  stays = λ es a. run_healed (ring_of_settings o) (enough o) (machine_state o m w) h (refines o m w es a);
  moves_in_turn = λ es a q. ((main (ring_of_settings o) (enough o) (state_in o m) (machine_state o m w)).stays 0 _ (state_in o m) _ none h q).1;
  each_once = λ es a q i l. each_once (ring_of_settings o) (enough o) (state_in o m) _ (machine_state o m w) h q i l;
}

pub heals : Heals
heals o m w es a b =
    let h : HealedIn o (run o es m) = (main (ring_of_settings o) (enough o) (state_in o m) (machine_state o m w)).heals (moves_in o es m) _ (refines o m w es a) b in
    (h, orderly o (run o es m) (run_whole o es m w a) h)

-- a post that speaks, or moves, has the token, and doesn't do both
pub speaks_token : (o : Settings) (m : Machine) → Whole o.posts m → (i : ℕ) → i < o.posts → (deeds_in o (post_at m i)).speaks ≡ true → T (may (ring_of_settings o) (state_in o m) (3 * i))
speaks_token o m w i l e =
    let a : has_token o (post_at m i) ≡ true = (and_parts _ _ e).0 in
    subst T (sym (may_post o.posts o.k (numbers_of o m) i l ∙ (sym (token_is o m w i l) ∙ a))) tt

moves_token : (o : Settings) (m : Machine) → Whole o.posts m → (i : ℕ) → i < o.posts → (deeds_in o (post_at m i)).moves ≡ true → T (may (ring_of_settings o) (state_in o m) (3 * i))
moves_token o m w i l e =
    let a : has_token o (post_at m i) ≡ true = (and_parts _ _ e).0 in
    subst T (sym (may_post o.posts o.k (numbers_of o m) i l ∙ (sym (token_is o m w i l) ∙ a))) tt

speaks_still : (o : Settings) (m : Machine) (i : ℕ) → (deeds_in o (post_at m i)).speaks ≡ true → (deeds_in o (post_at m i)).moves ≡ false
speaks_still o m i e = grind (arith, nat_tests)

-- where post i alone has the token nothing changes until it moves

other_rests : (o : Settings) (m : Machine) (i j : ℕ) → Alone (ring_of_settings o) (state_in o m) (3 * i) → suc j < 3 * o.posts → suc j ≢ 3 * i → moved (ring_of_settings o) (state_in o m) (suc j) ≡ state_in o m
other_rests o m i j a l d =
    elim (cases_Bool (may (ring_of_settings o) (state_in o m) (suc j))) [
      | inl e ↦ absurd (d (a.others (suc j) l (subst T (sym e) tt)))
      | inr e ↦ rests (ring_of_settings o) (state_in o m) j e
    ]

module _ (o : Settings) (m : Machine) (w : Whole o.posts m) (i : ℕ) (a : Alone (ring_of_settings o) (state_in o m) (3 * i)) where
  -- post j sends and doesn't move
  still_acts : (j : ℕ) → j < o.posts → (sd : Bool) → state_of o.posts (acts o.k j false sd (numbers_of o m)) ≡ state_in o m
  still_acts j l true =
      sends_is o.posts o.k (numbers_of o m) (machine_fit o m w) j l ∙
      (let d : suc (3 * j) ≢ 3 * i = omega arith in rw add-one (other_rests o m i (3 * j) a (omega arith) d))
  still_acts j l false = refl

  still_tick : (j : ℕ) → j < o.posts → (deeds_in o (post_at m j)).moves ≡ false → state_in o (step o (tick j) m) ≡ state_in o m
  unfolding step
  still_tick j l e =
      ap (state_of o.posts) (doing_numbers o m w j l (deeds_in o (post_at m j))) ∙
      (ap (λ b. state_of o.posts (acts o.k j b (deeds_in o (post_at m j)).sends (numbers_of o m))) e ∙ still_acts j l (deeds_in o (post_at m j)).sends)

  still_hear : (j : ℕ) → j < o.posts → state_in o (step o (hear j) m) ≡ state_in o m
  unfolding step
  still_hear j l =
      elim (hear_numbers o m w j l) [
        | inl e ↦ ap (state_of o.posts) e
        | inr e ↦
            let b = preceding_below o.posts j l in
            let q : end_before o.posts j ≡ suc (3 * preceding o.posts j + 1) = omega arith in
            let d : suc (3 * preceding o.posts j + 1) ≢ 3 * i = omega arith in
            ap (state_of o.posts) e ∙ (hears_is o.posts o.k (numbers_of o m) (machine_fit o m w) j l ∙ rw q (other_rests o m i (3 * preceding o.posts j + 1) a (omega arith) d))
      ]

  -- an event in which post i doesn't move changes no number
  pub still : (e : Event) → post_of e < o.posts → (e ≡ tick i → (deeds_in o (post_at m i)).moves ≡ false) → state_in o (step o e m) ≡ state_in o m
  unfolding step
  still (tick j) l h =
      elim (cases_Bool (deeds_in o (post_at m j)).moves) [
        | inl e ↦
            let q : j ≡ i = let p : 3 * j ≡ 3 * i = a.others (3 * j) (omega arith) (moves_token o m w j l e) in omega arith in
            absurd (both_ways (deeds_in o (post_at m i)).moves (h (ap tick q)) (subst (λ z. (deeds_in o (post_at m z)).moves ≡ true) q e))
        | inr e ↦ still_tick j l e
      ]
  still (hear j) l h = still_hear j l
  still (lose j) l h = ap (state_of o.posts) (lose_numbers o m w j l)
  still (press j) l h = ap (state_of o.posts) (button_numbers o m w j l true)
  still (release j) l h = ap (state_of o.posts) (button_numbers o m w j l false)

-- where post i alone has the token and doesn't tick, nobody speaks
silent : (o : Settings) (i : ℕ) (es : List Event) (m : Machine) → Whole o.posts m → Alone (ring_of_settings o) (state_in o m) (3 * i) → Among o.posts es → ticks_of i es ≡ 0 → speakings o es m ≡ 0
unfolding speakings ticks_of Among
silent o i [] m w a n t = refl
silent o i (e ∷ es) m w a n t =
    let s : state_in o (step o e m) ≡ state_in o m = still o m w i a e n.0 (λ q. absurd (ticks q)) in
    let r = silent o i es (step o e m) (step_whole o e m w n.0) (subst (λ z. Alone (ring_of_settings o) z (3 * i)) (sym s) a) n.1 (omega arith) in
    omega (arith, r, mute e n.0 (omega arith))
  where
    ticks : e ≡ tick i → ⊥
    ticks q = let z : ticks_one i e ≡ 1 = ap (ticks_one i) q ∙ grind (arith, nat_tests) in omega arith

    mute : (f : Event) → post_of f < o.posts → ticks_one i f ≡ 0 → ◌≡◌ {A = ℕ} (cond (speaks_at o f m) 1 0) 0
    mute (tick j) l z =
        elim (cases_Bool (deeds_in o (post_at m j)).speaks) [
          | inl b ↦ absurd (let p : 3 * j ≡ 3 * i = a.others (3 * j) (omega arith) (speaks_token o m w j l b) in let q : i ≡ j = omega arith in grind (arith, nat_tests))
          | inr b ↦ ap (λ x. cond x 1 0) b
        ]
    mute (hear j) l z = refl
    mute (lose j) l z = refl
    mute (press j) l z = refl
    mute (release j) l z = refl

pub quiet_token : (o : Settings) (m : Machine) → Whole o.posts m → HealedIn o m → (i : ℕ) → i < o.posts → (deeds_in o (post_at m i)).speaks ≡ true → Alone (ring_of_settings o) (state_in o m) (3 * i)
quiet_token o m w h i l e = alone (ring_of_settings o) (state_in o m) h (3 * i) (omega arith) (speaks_token o m w i l e)

step_healed : (o : Settings) (e : Event) (m : Machine) → Whole o.posts m → HealedIn o m → post_of e < o.posts → HealedIn o (step o e m)
unfolding run Among
step_healed o e m w h l = (orderly o m w h).stays (e ∷ []) (l, tt)

-- in a stretch in which no post ticks twice at most one tick speaks
first_speaks : (o : Settings) (e : Event) (es : List Event) (m : Machine) → Whole o.posts m → HealedIn o m → Among o.posts (e ∷ es) → ((i : ℕ) → ticks_of i (e ∷ es) ≤ 1) →
    speakings o es (step o e m) ≤ 1 → speakings o (e ∷ es) m ≤ 1
unfolding speakings ticks_of Among
first_speaks o (tick i) es m w h n t r =
    elim (cases_Bool (deeds_in o (post_at m i)).speaks) [
      | inl b ↦
          let a = quiet_token o m w h i n.0 b in
          let s : state_in o (step o (tick i) m) ≡ state_in o m = still o m w i a (tick i) n.0 (λ q. speaks_still o m i b) in
          let c : ◌≡◌ {A = ℕ} (cond (eqb i i) 1 0) 1 = grind (arith, nat_tests) in
          let z : ticks_of i es ≡ 0 = omega (arith, t i) in
          let q = silent o i es (step o (tick i) m) (step_whole o (tick i) m w n.0) (subst (λ x. Alone (ring_of_settings o) x (3 * i)) (sym s) a) n.1 z in
          rw b (omega arith)
      | inr b ↦ rw b (omega arith)
    ]
first_speaks o (hear i) es m w h n t r = omega arith
first_speaks o (lose i) es m w h n t r = omega arith
first_speaks o (press i) es m w h n t r = omega arith
first_speaks o (release i) es m w h n t r = omega arith

one_speaks : (o : Settings) (es : List Event) (m : Machine) → Whole o.posts m → HealedIn o m → Among o.posts es → ((i : ℕ) → ticks_of i es ≤ 1) → speakings o es m ≤ 1
unfolding speakings ticks_of Among
one_speaks o [] m w h n t = omega arith
one_speaks o (e ∷ es) m w h n t =
    first_speaks o e es m w h n t
    (one_speaks o es (step o e m) (step_whole o e m w n.0) (step_healed o e m w h n.0) n.1 (λ j. omega (arith, t j)))

pub speaks_alone : SpeaksAlone
speaks_alone o m w h = record { token = quiet_token o m w h; at_most_one = λ es n t. one_speaks o es m w h n t }
