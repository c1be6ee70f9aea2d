-- No content stops the ring: ticks of a post, and a hear of the next one, end in a move. Assumes nothing.
use Rattle.std.proofs.Common.{◌≡◌, ℕ, zero, suc, ◌+◌, ◌-◌, ◌*◌, ◌<◌, ◌≤◌, min, Bool, true, false, cond, ◌&&◌, ◌||◌, T, List, [], ◌∷◌, ◌++◌, length, set, replicate, Some, None, sym, refl, ap, ◌∙◌, subst, inl, inr, add-one, sub-one, arith}
use Rattle.std.proofs.lemmas.List.{get_or-set_same, get_or-set_other}
use Rattle.std.proofs.lemmas.Bool.{cases_eq, cases_Bool, cond-true, cond-false, eqb-false, true≢false}
use Rattle.std.proofs.lemmas.Bool.Decides.{nat_tests}
use Rattle.frames.specs.declared.settings.Settings.{Settings}
use Rattle.lines.specs.Checks.{first_fault}
use Rattle.frames.specs.FrameUnit.{frame_bytes, frame_checks, sender_of}
use Rattle.frames.proofs.FrameLaws.{frame_accepted}
use Rattle.members.specs.Ring.{Ring, State, at, up, may, next}
use Rattle.members.proofs.OneMove.{never_still}
use Rattle.members.proofs.Steps.{up_below}
use Rattle.posts.specs.declared.post.Post.{Post}
use Rattle.posts.specs.Promise.{after_ticks}
use Rattle.posts.specs.Rule.{norm, number_in}
use Rattle.posts.specs.Steps.{deeds_in, has_token, frame_of, hear_by, hear_step, number_carried}
use Rattle.posts.proofs.Norms.{norm_below, norm_is}
use Rattle.posts.proofs.Ticks.{moves_after}
use Rattle.turns.specs.Speaking.{time_to_speak}
use Rattle.ring.specs.declared.line.Line.{Line}
use Rattle.ring.specs.Machine.{Machine, Whole, nobody, unused, post_at, line_at, sent_on, post_doing, Event, tick, hear, Among, tick_of, hear_of, step, run, numbers_of, state_in, moves_in}
use Rattle.ring.specs.Numbers.{preceding, changed}
use Rattle.ring.specs.Promise.{ring_of_settings, Progress}
use Rattle.ring.proofs.BoundLaws.{no_moves}
use Rattle.ring.proofs.Changes.{differs}
use Rattle.ring.proofs.Healing.{machine_state}
use Rattle.ring.proofs.HearLaws.{heard_state}
use Rattle.ring.proofs.KeptLaws.{changed_zero}
use Rattle.ring.proofs.Machines.{carried, positive, doing_number, taken, numbers_own, numbers_sent}
use Rattle.ring.proofs.Places.{state_length, preceding_up}
use Rattle.ring.proofs.PostMoves.{may_post, next_post, own_at, sent_at}
use Rattle.ring.proofs.Refine.{enough, step_whole, run_whole, token_is, refines}
use Rattle.ring.proofs.TickLaws.{number_after, below_after, tick_state}

-- a post that moves in a tick changes a number

module _ (o : Settings) (m : Machine) (w : Whole o.posts m) (i : ℕ) (l : i < o.posts) where
  at_after : (v : ℕ) (b : Bool) (s : State) → 3 * i + 1 < length s → at (cond b (set (set s (3 * i) v) (3 * i + 1) v) (set s (3 * i) v)) (3 * i) ≡ v
  at_after v true s h = get_or-set_other (set s (3 * i) v) (3 * i + 1) (3 * i) v 0 (omega arith) ∙ get_or-set_same s (3 * i) v 0 (omega arith)
  at_after v false s h = get_or-set_same s (3 * i) v 0 (omega arith)

  pub tick_moves : (deeds_in o (post_at m i)).moves ≡ true → 1 ≤ changed (state_in o m) (state_in o (tick_of o i m))
  tick_moves e =
      let r = ring_of_settings o in
      let s = state_in o m in
      let t = state_in o (tick_of o i m) in
      let x = numbers_of o m in
      let d = deeds_in o (post_at m i) in
      let v = (post_doing o d (post_at m i)).memory.number in
      let n = state_length o.posts x in
      elim (cases_eq (changed s t) 0) [
        | inr z ↦ omega arith
        | inl z ↦
            let q : s ≡ t = changed_zero s t (n ∙ sym (state_length o.posts (numbers_of o (tick_of o i m)))) z in
            let a : at t (3 * i) ≡ v = ap (λ u. at u (3 * i)) (tick_state o m w i l v refl) ∙ at_after v d.sends s (omega (arith, n)) in
            let b : v ≡ next r s (3 * i) =
            sym (norm_is o.k v (below_after o m w i l)) ∙ (taken o m w i l d ∙ (cond-true _ _ _ e ∙ sym (next_post o.posts o.k x i l))) in
            let f : may r s (3 * i) ≡ true = may_post o.posts o.k x i l ∙ (sym (token_is o m w i l) ∙ and_left_true (has_token o (post_at m i)) _ e) in
            absurd (eqb-false (at s (3 * i)) (next r s (3 * i)) (differs r (enough o) s (3 * i) f) (ap (λ u. at u (3 * i)) q ∙ (a ∙ b)))
      ]
    where
      and_left_true : (a b : Bool) → (a && b) ≡ true → a ≡ true
      and_left_true true b h = refl
      and_left_true false b h = h

-- n ticks of a post after which it moves
post_goes : (o : Settings) (i k n : ℕ) (m : Machine) → Whole o.posts m → i < o.posts → n < k → (deeds_in o (after_ticks o n (post_at m i))).moves ≡ true → 1 ≤ moves_in o (replicate k (tick i)) m
unfolding moves_in step
post_goes o i zero n m w l h e = absurd (omega arith)
post_goes o i (suc k) zero m w l h e = omega (arith, tick_moves o m w i l e)
post_goes o i (suc k) (suc n) m w l h e =
    let q = number_after o m w i l in
    let g = post_goes o i k n (tick_of o i m) (step_whole o (tick i) m w l) l (omega arith) (subst (λ p. (deeds_in o (after_ticks o n p)).moves ≡ true) (sym q) e) in
    omega arith

time_short : (b : Bool) (p : Post) → time_to_speak b p.memory.turn ≤ 1000
time_short b p = grind (arith, nat_tests)

T_true : (b : Bool) → T b → b ≡ true
T_true true t = refl
T_true false t = absurd t

by_post : (o : Settings) (m : Machine) → Whole o.posts m → (i : ℕ) → i < o.posts → T (may (ring_of_settings o) (state_in o m) (3 * i)) → 1 ≤ moves_in o (replicate 1001 (tick i)) m
by_post o m w i l c =
    let p = post_at m i in
    let t : has_token o p ≡ true = token_is o m w i l ∙ (sym (may_post o.posts o.k (numbers_of o m) i l) ∙ T_true _ c) in
    let n = time_to_speak p.button p.memory.turn in
    post_goes o i 1001 n m w l (omega (arith, time_short p.button p)) (moves_after o p n t refl).moves_then

-- a line that carries its post's number

abbrev Carries : Settings → ℕ → Machine → Type 0
Carries o i m = line_at m i ≡ record { frame = frame_bytes i (number_in o.k (post_at m i).memory); lost = false }

module _ (o : Settings) (m : Machine) (w : Whole o.posts m) (i : ℕ) (l : i < o.posts) where
  line_after : line_at (tick_of o i m) i ≡ sent_on (cond (deeds_in o (post_at m i)).sends (Some (frame_of o (post_doing o (deeds_in o (post_at m i)) (post_at m i)))) None) (line_at m i)
  line_after = get_or-set_same m.lines i _ unused (omega (arith, w.line_count))

  tick_carries : (deeds_in o (post_at m i)).sends ≡ true → Carries o i (tick_of o i m)
  tick_carries e =
      let d = deeds_in o (post_at m i) in
      let p = post_doing o d (post_at m i) in
      line_after ∙ (ap (λ b. sent_on (cond b (Some (frame_of o p)) None) (line_at m i)) e ∙
      (ap (λ z. record { frame = frame_bytes z (number_in o.k p.memory); lost = false }) (w.placed i nobody l) ∙
      ap (λ (z : Post). record { frame = frame_bytes i (number_in o.k z.memory); lost = false }) (sym (number_after o m w i l))))

  tick_keeps : (deeds_in o (post_at m i)).sends ≡ false → Carries o i m → Carries o i (tick_of o i m)
  tick_keeps e h =
      let d = deeds_in o (post_at m i) in
      let p = post_at m i in
      let a : number_in o.k (post_doing o d p).memory ≡ number_in o.k p.memory = doing_number o.k p.place d p.memory (positive o) ∙ cond-false _ _ _ (or_left d.moves _ e) in
      line_after ∙ (ap (λ b. sent_on (cond b (Some (frame_of o (post_doing o d p))) None) (line_at m i)) e ∙ (h ∙
      ap (λ z. record { frame = frame_bytes i z; lost = false }) (sym (ap (λ (z : Post). number_in o.k z.memory) (number_after o m w i l) ∙ a))))
    where
      or_left : (a b : Bool) → (a || b) ≡ false → a ≡ false
      or_left true b z = z
      or_left false b z = refl

  carries_stays : Carries o i m → Carries o i (tick_of o i m)
  carries_stays h = elim (cases_Bool (deeds_in o (post_at m i)).sends) [ inl e ↦ tick_carries e | inr e ↦ tick_keeps e h ]

  -- in a tick without sending one tick fewer is left
  fewer : (deeds_in o (post_at m i)).sends ≡ false → suc (min (post_at (tick_of o i m) i).memory.wait 3) ≡ min (post_at m i).memory.wait 3
  fewer e =
      let p = post_at m i in
      let q : (post_at (tick_of o i m) i).memory.wait ≡ min p.memory.wait 3 - 1 = ap (λ (z : Post). z.memory.wait) (number_after o m w i l) ∙ cond-false _ _ _ e in
      let z : p.memory.wait ≡ 0 → ⊥ = eqb-false p.memory.wait 0 (or_right (deeds_in o p).moves _ e) in
      omega (arith, q, z)
    where
      or_right : (a b : Bool) → (a || b) ≡ false → b ≡ false
      or_right true b z = absurd (true≢false z)
      or_right false b z = z

still_carries : (o : Settings) (i k : ℕ) (m : Machine) → Whole o.posts m → i < o.posts → Carries o i m → Carries o i (run o (replicate k (tick i)) m)
unfolding run step
still_carries o i zero m w l h = h
still_carries o i (suc k) m w l h = still_carries o i k (tick_of o i m) (step_whole o (tick i) m w l) l (carries_stays o m w i l h)

carries_within : (o : Settings) (i k : ℕ) (m : Machine) → Whole o.posts m → i < o.posts → min (post_at m i).memory.wait 3 < k → Carries o i (run o (replicate k (tick i)) m)
unfolding run step
carries_within o i zero m w l h = absurd (omega arith)
carries_within o i (suc k) m w l h =
    elim (cases_Bool (deeds_in o (post_at m i)).sends) [
      | inl e ↦ still_carries o i k (tick_of o i m) (step_whole o (tick i) m w l) l (tick_carries o m w i l e)
      | inr e ↦ carries_within o i k (tick_of o i m) (step_whole o (tick i) m w l) l (omega (arith, fewer o m w i l e))
    ]

among_ticks : (n i k : ℕ) → i < n → Among n (replicate k (tick i))
unfolding Among
among_ticks n i zero l = tt
among_ticks n i (suc k) l = (l, among_ticks n i k l)

-- where a line carries its post's number the frame has it
carries_frame : (o : Settings) (i : ℕ) (m : Machine) → Whole o.posts m → i < o.posts → Carries o i m → at (state_in o m) (3 * i + 1) ≡ at (state_in o m) (3 * i)
carries_frame o i m w l h =
    let x = number_in o.k (post_at m i).memory in
    sent_at o.posts (numbers_of o m) i l ∙ (numbers_sent o o.posts m w i l ∙
    (ap (λ (z : Line). norm o.k (number_carried z.frame)) h ∙ (ap (norm o.k) (carried i x) ∙ (norm_is o.k x (norm_below o.k _ (positive o)) ∙
    (sym (numbers_own o o.posts m w i l) ∙ sym (own_at o.posts (numbers_of o m) i l))))))

may_not : (r : Ring) (s : State) (j : ℕ) → at s (suc j) ≡ at s j → T (may r s (suc j)) → ⊥
unfolding may
may_not r s j e c = grind (arith, nat_tests)

-- events in which nobody moves leave the numbers as they were
unmoved : (o : Settings) (m : Machine) → Whole o.posts m → (es : List Event) → Among o.posts es → moves_in o es m ≡ 0 → state_in o m ≡ state_in o (run o es m)
unmoved o m w es a e = no_moves (ring_of_settings o) (refines o m w es a) e

four_carry : (o : Settings) (m : Machine) → Whole o.posts m → (i : ℕ) → i < o.posts → Carries o i (run o (replicate 4 (tick i)) m)
four_carry o m w i l = carries_within o i 4 m w l (omega arith)

by_frame : (o : Settings) (m : Machine) → Whole o.posts m → (i : ℕ) → i < o.posts → T (may (ring_of_settings o) (state_in o m) (3 * i + 1)) → 1 ≤ moves_in o (replicate 4 (tick i)) m
by_frame o m w i l c =
    let es = replicate 4 (tick i) in
    let a = among_ticks o.posts i 4 l in
    elim (cases_eq (moves_in o es m) 0) [
      | inr z ↦ omega arith
      | inl z ↦
          let e = unmoved o m w es a z in
          let h = carries_frame o i (run o es m) (run_whole o es m w a) l (four_carry o m w i l) in
          absurd (may_not (ring_of_settings o) (state_in o m) (3 * i) (subst (λ j. at (state_in o m) j ≡ at (state_in o m) (3 * i)) (add-one (3 * i)) (subst (λ s. at s (3 * i + 1) ≡ at s (3 * i)) (sym e) h)) (subst (λ j. T (may (ring_of_settings o) (state_in o m) j)) (add-one (3 * i)) c))
    ]

-- the next post hears it

sender_is : (n p : ℕ) → sender_of n p ≡ preceding n p
sender_is n zero = sub-one n
sender_is n (suc p) = refl

module _ (o : Settings) (m : Machine) (w : Whole o.posts m) (i : ℕ) (l : i < o.posts) (h : Carries o i m) where
  -- the next post
  abbrev j : ℕ
  j = up o.posts i

  abbrev x : ℕ
  x = number_in o.k (post_at m i).memory

  below : j < o.posts
  below = up_below o.posts i (omega arith)

  back : preceding o.posts j ≡ i
  back = preceding_up o.posts i l

  frame_here : line_at m (preceding o.posts j) ≡ record { frame = frame_bytes i x; lost = false }
  frame_here = ap (line_at m) back ∙ h

  accepted : (hear_step o (line_at m (preceding o.posts j)).frame (post_at m j)).1.refuses ≡ None
  accepted =
      let q = post_at m j in
      let f : first_fault (frame_checks o.posts o.k q.place (line_at m (preceding o.posts j)).frame) ≡ None =
      ap (λ (z : Line). first_fault (frame_checks o.posts o.k q.place z.frame)) frame_here ∙
      (ap (λ p. first_fault (frame_checks o.posts o.k p (frame_bytes i x))) (w.placed j nobody below) ∙
      frame_accepted o.posts o.k i x j below (sender_is o.posts j ∙ back) (norm_below o.k _ (positive o))) in
      ap (λ z. (hear_by z o (line_at m (preceding o.posts j)).frame q).1.refuses) f

  heard_so : state_in o (hear_of o j m) ≡ set (state_in o m) (3 * i + 2) x
  heard_so =
      heard_state o m w j below x (ap (λ (z : Line). z.lost) frame_here) accepted (ap (λ (z : Line). number_carried z.frame) frame_here ∙ carried i x) (norm_below o.k _ (positive o)) ∙
      ap (λ z. set (state_in o m) (3 * z + 2) x) back

  pub hear_frame : at (state_in o (hear_of o j m)) (3 * i + 2) ≡ at (state_in o (hear_of o j m)) (3 * i + 1)
  hear_frame =
      let s = state_in o m in
      let n = state_length o.posts (numbers_of o m) in
      ap (λ t. at t (3 * i + 2)) heard_so ∙ (get_or-set_same s (3 * i + 2) x 0 (omega (arith, n)) ∙
      sym (ap (λ t. at t (3 * i + 1)) heard_so ∙ (get_or-set_other s (3 * i + 2) (3 * i + 1) x 0 (omega arith) ∙
      (carries_frame o i m w l h ∙ (own_at o.posts (numbers_of o m) i l ∙ numbers_own o o.posts m w i l)))))

run_append : (o : Settings) (es fs : List Event) (m : Machine) → run o (es ++ fs) m ≡ run o fs (run o es m)
unfolding run
run_append o [] fs m = refl
run_append o (e ∷ es) fs m = run_append o es fs (step o e m)

among_append : (n : ℕ) (es fs : List Event) → Among n es → Among n fs → Among n (es ++ fs)
unfolding Among
among_append n [] fs a b = b
among_append n (e ∷ es) fs a b = (a.0, among_append n es fs a.1 b)

by_end : (o : Settings) (m : Machine) → Whole o.posts m → (i : ℕ) → i < o.posts → T (may (ring_of_settings o) (state_in o m) (3 * i + 2)) → 1 ≤ moves_in o (replicate 4 (tick i) ++ hear (up o.posts i) ∷ []) m
unfolding run step Among
by_end o m w i l c =
    let ts = replicate 4 (tick i) in
    let j = up o.posts i in
    let b = among_ticks o.posts i 4 l in
    let a = among_append o.posts ts (hear j ∷ []) b (up_below o.posts i (omega arith), tt) in
    let q : 3 * i + 2 ≡ suc (3 * i + 1) = omega arith in
    elim (cases_eq (moves_in o (ts ++ hear j ∷ []) m) 0) [
      | inr z ↦ omega arith
      | inl z ↦
          let e = unmoved o m w (ts ++ hear j ∷ []) a z ∙ ap (state_in o) (run_append o ts (hear j ∷ []) m) in
          let h = hear_frame o (run o ts m) (run_whole o ts m w b) i l (four_carry o m w i l) in
          let k = subst (λ s. at s (3 * i + 2) ≡ at s (3 * i + 1)) (sym e) h in
          absurd (may_not (ring_of_settings o) (state_in o m) (3 * i + 1) (subst (λ n. at (state_in o m) n ≡ at (state_in o m) (3 * i + 1)) q k) (subst (λ n. T (may (ring_of_settings o) (state_in o m) n)) q c))
    ]

pub progress : Progress
progress o m w = record {
  some_may = never_still (ring_of_settings o) (enough o) (state_in o m) (machine_state o m w);
  by_post = by_post o m w;
  by_frame = by_frame o m w;
  by_end = by_end o m w;
}
