-- What a tick leaves of the numbers and the tally, member by member. Assumes nothing.
use Rattle.std.proofs.Common.{◌≡◌, ℕ, ◌+◌, ◌*◌, ◌<◌, Bool, true, false, cond, length, set, sym, refl, ap, ◌∙◌, inl, inr, arith, length-set}
use Rattle.std.proofs.lemmas.List.{get_or-set_same, set-get_or}
use Rattle.std.proofs.lemmas.Bool.{cases_eq, cond-true, cond-false}
use Rattle.frames.specs.declared.settings.Settings.{Settings}
use Rattle.members.specs.Answers.{ring_of}
use Rattle.members.specs.Ring.{State, at, how_many}
use Rattle.posts.specs.declared.post.Post.{Post}
use Rattle.posts.specs.Rule.{number_in}
use Rattle.posts.specs.Steps.{deeds_in}
use Rattle.posts.proofs.Norms.{norm_is}
use Rattle.ring.specs.declared.tally.Tally.{Tally}
use Rattle.ring.specs.Events.{midway, tallied}
use Rattle.ring.specs.Machine.{Machine, Whole, nobody, post_at, post_doing, tick, tick_of, step, numbers_of, state_in}
use Rattle.ring.specs.Numbers.{Numbers, Fit, state_of}
use Rattle.ring.specs.Promise.{ring_of_settings}
use Rattle.ring.specs.Tallies.{Counted, noted}
use Rattle.ring.proofs.Holders.{noted_same, noted_other, noted_none, noted_ap}
use Rattle.ring.proofs.Machines.{positive, doing_below, acts_parts, taken, doing_numbers, machine_fit}
use Rattle.ring.proofs.Places.{state_length, own_set, sent_set}

-- the ring of a list of numbers is that of the settings
pub ring_same : (o : Settings) (s : State) → length s ≡ 3 * o.posts → ring_of o.k s ≡ ring_of_settings o
ring_same o s e = ap (λ n. record { members = n; k = o.k }) e

pub ring_set : (k : ℕ) (s : State) (j v : ℕ) (t : State) → t ≡ set s j v → ring_of k t ≡ ring_of k s
ring_set k s j v t e = ap (λ n. record { members = n; k = k }) (ap length e ∙ length-set s j v)

-- numbers after a note can be noted again
pub noted_kept : (s : State) (j v : ℕ) (y z : Tally) → Counted s y.holders → j < length s → ((k : ℕ) → z ≡ noted (ring_of k s) s (set s j v) y) → Counted (set s j v) z.holders
noted_kept s j v y z h l q =
    let e = length-set s j v in
    record {
      big = rw e h.big;
      counted = λ k. ap (λ w. w.holders) (q k) ∙ elim (cases_eq (at s j) v) [
        | inl p ↦
            let t : set s j v ≡ s = ap (set s j) (sym p) ∙ set-get_or s j 0 in
            ap (λ w. w.holders) (noted_same (ring_of k s) s j v y l p) ∙ (h.counted k ∙ ap (λ w. how_many (ring_of k w) w (length w)) (sym t))
        | inr d ↦
            ap (λ w. w.holders) (noted_other (ring_of k s) s j v y l d) ∙ ap (λ n. how_many (record { members = n; k = k }) (set s j v) n) (sym e)
      ];
    }

module _ (o : Settings) (m : Machine) (w : Whole o.posts m) (i : ℕ) (l : i < o.posts) where
  -- the number of post i after its tick
  pub number_after : post_at (tick_of o i m) i ≡ post_doing o (deeds_in o (post_at m i)) (post_at m i)
  number_after = get_or-set_same m.posts i _ nobody (omega (arith, w.count_of_posts))

  pub below_after : (post_doing o (deeds_in o (post_at m i)) (post_at m i)).memory.number < o.k
  below_after = doing_below o.k (post_at m i).place (deeds_in o (post_at m i)) (post_at m i).memory (positive o)

  -- a post that has the number v, and sends it or not
  sets : (v : ℕ) (sd : Bool) (x : Numbers) → Fit o.posts o.k x →
      state_of o.posts (record { own = set x.own i v; sent = cond sd (set x.sent i v) x.sent; heard = x.heard }) ≡
      cond sd (set (set (state_of o.posts x) (3 * i) v) (3 * i + 1) v) (set (state_of o.posts x) (3 * i) v)
  sets v true x f =
      sent_set o.posts (record { own = set x.own i v; sent = x.sent; heard = x.heard }) i v l f.sents ∙ ap (λ z. set z (3 * i + 1) v) (own_set o.posts x i v l f.owns)
  sets v false x f = own_set o.posts x i v l f.owns

  -- the numbers after a tick: the post's, and the frame's where it sends
  pub tick_state : (v : ℕ) → (post_doing o (deeds_in o (post_at m i)) (post_at m i)).memory.number ≡ v →
      state_in o (tick_of o i m) ≡ cond (deeds_in o (post_at m i)).sends (set (set (state_in o m) (3 * i) v) (3 * i + 1) v) (set (state_in o m) (3 * i) v)
  tick_state v e =
      let d = deeds_in o (post_at m i) in
      let f = machine_fit o m w in
      let q = sym e ∙ (sym (norm_is o.k _ below_after) ∙ taken o m w i l d) in
      ap (state_of o.posts) (doing_numbers o m w i l d ∙ acts_parts o.k i d.moves d.sends (numbers_of o m) v (omega (arith, f.owns)) q) ∙ sets v d.sends (numbers_of o m) f

  pub midway_is : (v : ℕ) → (post_doing o (deeds_in o (post_at m i)) (post_at m i)).memory.number ≡ v → midway o i m ≡ set (state_in o m) (3 * i) v
  midway_is v e = ap (set (state_in o m) (3 * i)) (ap (λ (p : Post). number_in o.k p.memory) number_after ∙ (norm_is o.k _ below_after ∙ e))

  -- the numbers and the tally of a tick that does not send, and of one that does
  module _ (s : State) (z : s ≡ state_in o m) (v : ℕ) (e : (post_doing o (deeds_in o (post_at m i)) (post_at m i)).memory.number ≡ v) (y : Tally) where
    ring_is : ring_of_settings o ≡ ring_of o.k s
    ring_is = sym (ring_same o s (ap length z ∙ state_length o.posts (numbers_of o m)))

    pub state_silent : (deeds_in o (post_at m i)).sends ≡ false → set s (3 * i) v ≡ state_in o (tick_of o i m)
    state_silent b = ap (λ t. set t (3 * i) v) z ∙ sym (tick_state v e ∙ cond-false _ _ _ b)

    pub state_sent : (deeds_in o (post_at m i)).sends ≡ true → set (set s (3 * i) v) (3 * i + 1) v ≡ state_in o (tick_of o i m)
    state_sent b = ap (λ t. set (set t (3 * i) v) (3 * i + 1) v) z ∙ sym (tick_state v e ∙ cond-true _ _ _ b)

    halfway : set s (3 * i) v ≡ midway o i m
    halfway = ap (λ t. set t (3 * i) v) z ∙ sym (midway_is v e)

    pub tally_silent : (deeds_in o (post_at m i)).sends ≡ false → noted (ring_of o.k s) s (set s (3 * i) v) y ≡ tallied o (tick i) m y
    unfolding tallied step
    tally_silent b =
        noted_ap (sym ring_is) z halfway refl ∙
        sym (noted_ap {y = noted (ring_of_settings o) (state_in o m) (midway o i m) y} refl (sym halfway ∙ state_silent b) refl refl ∙ noted_none (ring_of_settings o) (state_in o (tick_of o i m)) (noted (ring_of_settings o) (state_in o m) (midway o i m) y))

    pub tally_sent : (deeds_in o (post_at m i)).sends ≡ true →
        noted (ring_of o.k s) (set s (3 * i) v) (set (set s (3 * i) v) (3 * i + 1) v) (noted (ring_of o.k s) s (set s (3 * i) v) y) ≡ tallied o (tick i) m y
    unfolding tallied step
    tally_sent b = noted_ap (sym ring_is) halfway (state_sent b) (noted_ap (sym ring_is) z halfway refl)
