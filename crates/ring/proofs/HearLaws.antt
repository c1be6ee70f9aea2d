-- What a hear leaves of the numbers and the tally. Assumes nothing.
use Rattle.std.proofs.Common.{◌≡◌, ℕ, ◌<◌, Bool, true, false, cond, List, length, get_or, set, Some, None, Option, sym, refl, ap, ◌∙◌, arith}
use Rattle.std.proofs.lemmas.List.{set-get_or}
use Rattle.std.proofs.lemmas.Bool.{cond-true, cond-false}
use Rattle.lines.specs.declared.fault.Fault.{Fault}
use Rattle.frames.specs.declared.settings.Settings.{Settings}
use Rattle.lines.specs.Checks.{first_fault}
use Rattle.frames.specs.FrameUnit.{frame_checks}
use Rattle.members.specs.Answers.{ring_of}
use Rattle.members.specs.Ring.{State}
use Rattle.posts.specs.declared.post.Post.{Post}
use Rattle.posts.specs.Rule.{norm}
use Rattle.posts.specs.Steps.{number_carried, hear_by, hear_step}
use Rattle.posts.proofs.Norms.{norm_is}
use Rattle.ring.specs.declared.tally.Tally.{Tally}
use Rattle.ring.specs.Events.{tallied}
use Rattle.ring.specs.Machine.{Machine, Whole, nobody, post_at, line_at, hear, hear_of, step, numbers_of, state_in}
use Rattle.ring.specs.Numbers.{preceding, end_before, state_of}
use Rattle.ring.specs.Promise.{ring_of_settings}
use Rattle.ring.specs.Tallies.{noted}
use Rattle.ring.proofs.Holders.{noted_none, noted_ap}
use Rattle.ring.proofs.Machines.{heard_numbers, numbers_sent, machine_fit}
use Rattle.ring.proofs.Places.{state_length, preceding_below, heard_set}
use Rattle.ring.proofs.TickLaws.{ring_same}

-- what a post has heard that refuses nothing
pub accepted_heard : (f : Option Fault) (o : Settings) (bytes : List ℕ) (p : Post) → (hear_by f o bytes p).1.refuses ≡ None → number_carried bytes ≡ (hear_by f o bytes p).0.memory.heard
accepted_heard None o bytes p e = refl
accepted_heard (Some h) o bytes p e = let z : ◌≡◌ {A = ℕ} 0 1 = cc in absurd (omega arith)

-- a post that refuses bytes stays as it is; one that refuses nothing found no fault
pub refused_same : (f : Option Fault) (o : Settings) (bytes : List ℕ) (p : Post) (g : Fault) → (hear_by f o bytes p).1.refuses ≡ Some g → (hear_by f o bytes p).0 ≡ p
refused_same None o bytes p g e = let z : ◌≡◌ {A = ℕ} 0 1 = cc in absurd (omega arith)
refused_same (Some h) o bytes p g e = refl

pub accepted_none : (f : Option Fault) (o : Settings) (bytes : List ℕ) (p : Post) → (hear_by f o bytes p).1.refuses ≡ None → f ≡ None
accepted_none None o bytes p e = refl
accepted_none (Some h) o bytes p e = cc

-- no line changes
pub hear_lines : (o : Settings) (m : Machine) (i : ℕ) → m.lines ≡ (hear_of o i m).lines
hear_lines o m i = either (line_at m (preceding o.posts i)).lost _
  where
    either : (b : Bool) (ps : List Post) → m.lines ≡ (cond b m (record { posts = ps; lines = m.lines })).lines
    either true ps = refl
    either false ps = refl

module _ (o : Settings) (m : Machine) (w : Whole o.posts m) (i : ℕ) (l : i < o.posts) where
  -- a machine in which nothing was heard
  pub same_after_lost : (line_at m (preceding o.posts i)).lost ≡ true → hear_of o i m ≡ m
  same_after_lost b = cond-true _ _ _ b

  pub same_after_refused : (g : Fault) → (hear_step o (line_at m (preceding o.posts i)).frame (post_at m i)).1.refuses ≡ Some g → hear_of o i m ≡ m
  same_after_refused g e =
      let q = refused_same (first_fault (frame_checks o.posts o.k (post_at m i).place (line_at m (preceding o.posts i)).frame)) o _ (post_at m i) g e in
      either (line_at m (preceding o.posts i)).lost (ap (set m.posts i) q ∙ set-get_or m.posts i nobody)
    where
      either : (b : Bool) → {ps : List Post} → ps ≡ m.posts → cond b m (record { posts = ps; lines = m.lines }) ≡ m
      either true e = refl
      either false e = ap (λ ps. record { posts = ps; lines = m.lines }) e

  pub machine_heard : (line_at m (preceding o.posts i)).lost ≡ false → hear_of o i m ≡ record { posts = set m.posts i (hear_step o (line_at m (preceding o.posts i)).frame (post_at m i)).0; lines = m.lines }
  machine_heard b = cond-false _ _ _ b

  pub quiet_tally : (y : Tally) → hear_of o i m ≡ m → y ≡ tallied o (hear i) m y
  unfolding tallied step
  quiet_tally y e = sym (noted_ap {y = y} refl refl (ap (state_in o) e) refl ∙ noted_none (ring_of_settings o) (state_in o m) y)

  module _ (v : ℕ) (b : (line_at m (preceding o.posts i)).lost ≡ false) (a : (hear_step o (line_at m (preceding o.posts i)).frame (post_at m i)).1.refuses ≡ None)
      (e : number_carried (line_at m (preceding o.posts i)).frame ≡ v) (z : v < o.k) where
    pub heard_state : state_in o (hear_of o i m) ≡ set (state_in o m) (end_before o.posts i) v
    heard_state =
        let p = preceding o.posts i in
        let bytes = (line_at m p).frame in
        let q = accepted_none (first_fault (frame_checks o.posts o.k (post_at m i).place bytes)) o bytes (post_at m i) a in
        let c : hear_of o i m ≡ record { posts = set m.posts i (hear_by None o bytes (post_at m i)).0; lines = m.lines } =
        cond-false _ _ _ b ∙ ap (λ f. record { posts = set m.posts i (hear_by f o bytes (post_at m i)).0; lines = m.lines }) q in
        let s : get_or (numbers_of o m).sent p 0 ≡ v = numbers_sent o o.posts m w p (preceding_below o.posts i l) ∙ (ap (norm o.k) e ∙ norm_is o.k v z) in
        ap (state_in o) c ∙ (ap (state_of o.posts) (heard_numbers o m w i l) ∙
        (ap (λ x. state_of o.posts (record { own = (numbers_of o m).own; sent = (numbers_of o m).sent; heard = set (numbers_of o m).heard i x })) s ∙
        heard_set o.posts (numbers_of o m) i v l (machine_fit o m w).hearings))

    pub heard_tally : (s : State) (y : Tally) → s ≡ state_in o m → noted (ring_of o.k s) s (set s (end_before o.posts i) v) y ≡ tallied o (hear i) m y
    unfolding tallied step
    heard_tally s y h =
        noted_ap (ring_same o s (ap length h ∙ state_length o.posts (numbers_of o m))) h (ap (λ t. set t (end_before o.posts i) v) h ∙ sym heard_state) refl
