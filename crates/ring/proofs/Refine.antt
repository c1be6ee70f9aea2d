-- Every event of a machine is zero, one or two moves of the ring of its numbers; so is every run as many as it counts. Assumes nothing.
use Rattle.std.proofs.Common.{◌≡◌, ℕ, ◌<◌, Bool, true, false, cond, List, [], ◌∷◌, length, get_or, set, Some, None, Option, sym, refl, ap, ◌∙◌, subst, inl, inr, arith, length-set}
use Rattle.std.proofs.lemmas.List.{get_or-set_same, get_or-set_other}
use Rattle.std.proofs.lemmas.Bool.{cases_eq, and_parts}
use Rattle.frames.specs.declared.settings.Settings.{Settings}
use Rattle.members.specs.Ring.{Enough, none}
use Rattle.posts.specs.declared.deeds.Deeds.{Deeds}
use Rattle.posts.specs.declared.post.Post.{Post}
use Rattle.posts.specs.Steps.{deeds_in, has_token, hear_by, hear_step}
use Rattle.lines.specs.Checks.{first_fault}
use Rattle.frames.specs.FrameUnit.{frame_checks}
use Rattle.lines.specs.declared.fault.Fault.{Fault}
use Rattle.ring.specs.Machine.{Machine, Whole, nobody, post_at, line_at, Event, tick, hear, lose, press, release, post_of, Among, tick_doing_of, step, run, numbers_of, moves_in}
use Rattle.ring.specs.Numbers.{preceding, may_move}
use Rattle.ring.specs.Promise.{ring_of_settings, Refines}
use Rattle.ring.proofs.Acts.{Steps, acts_steps, hears_steps, none_steps}
use Rattle.ring.proofs.Changes.{joined}
use Rattle.ring.proofs.Machines.{numbers_own, numbers_heard, doing_numbers, hear_numbers, lose_numbers, button_numbers, machine_fit}

pub enough : (o : Settings) → Enough (ring_of_settings o)
enough o = (omega (arith, o.some), omega (arith, o.enough))

-- a machine stays whole: posts keep their places

pub placed_set : (n : ℕ) (ps : List Post) (i : ℕ) (q : Post) → length ps ≡ n → ((j : ℕ) (d : Post) → j < n → (get_or ps j d).place ≡ j) → i < n → q.place ≡ (get_or ps i nobody).place →
    (j : ℕ) (d : Post) → j < n → (get_or (set ps i q) j d).place ≡ j
placed_set n ps i q e h l s j d m =
    elim (cases_eq j i) [
      | inl z ↦ ap (λ a. (get_or (set ps i q) a d).place) z ∙ (ap (λ (x : Post). x.place) (get_or-set_same ps i q d (omega arith)) ∙ (s ∙ (h i nobody l ∙ sym z)))
      | inr z ↦ ap (λ (x : Post). x.place) (get_or-set_other ps i j q d z) ∙ h j d m
    ]

hear_place : (f : Option Fault) (o : Settings) (bytes : List ℕ) (p : Post) → (hear_by f o bytes p).0.place ≡ p.place
hear_place None o bytes p = refl
hear_place (Some f) o bytes p = refl

pub step_whole : (o : Settings) (e : Event) (m : Machine) → Whole o.posts m → post_of e < o.posts → Whole o.posts (step o e m)
unfolding step
step_whole o (tick i) m w l = record {
  count_of_posts = length-set m.posts i _ ∙ w.count_of_posts;
  line_count = length-set m.lines i _ ∙ w.line_count;
  placed = placed_set o.posts m.posts i _ w.count_of_posts w.placed l refl;
}
step_whole o (hear i) m w l = lost_or (line_at m (preceding o.posts i)).lost
  where
    bytes : List ℕ
    bytes = (line_at m (preceding o.posts i)).frame

    lost_or : (b : Bool) → Whole o.posts (cond b m (record { posts = set m.posts i (hear_step o bytes (post_at m i)).0; lines = m.lines }))
    lost_or true = w
    lost_or false = record {
      count_of_posts = length-set m.posts i _ ∙ w.count_of_posts;
      line_count = w.line_count;
      placed = placed_set o.posts m.posts i _ w.count_of_posts w.placed l (hear_place (first_fault (frame_checks o.posts o.k (post_at m i).place bytes)) o bytes (post_at m i));
    }
step_whole o (lose i) m w l = record {
  count_of_posts = w.count_of_posts;
  line_count = length-set m.lines i _ ∙ w.line_count;
  placed = w.placed;
}
step_whole o (press i) m w l = record {
  count_of_posts = length-set m.posts i _ ∙ w.count_of_posts;
  line_count = w.line_count;
  placed = placed_set o.posts m.posts i _ w.count_of_posts w.placed l refl;
}
step_whole o (release i) m w l = record {
  count_of_posts = length-set m.posts i _ ∙ w.count_of_posts;
  line_count = w.line_count;
  placed = placed_set o.posts m.posts i _ w.count_of_posts w.placed l refl;
}

pub run_whole : (o : Settings) (es : List Event) (m : Machine) → Whole o.posts m → Among o.posts es → Whole o.posts (run o es m)
unfolding run Among
run_whole o [] m w a = w
run_whole o (e ∷ es) m w a = run_whole o es (step o e m) (step_whole o e m w a.0) a.1

-- the guard of a post is that of its numbers
pub token_is : (o : Settings) (m : Machine) → Whole o.posts m → (i : ℕ) → i < o.posts → has_token o (post_at m i) ≡ may_move i (numbers_of o m)
token_is o m w i l = rw (numbers_heard o o.posts m w i l, numbers_own o o.posts m w i l, w.placed i nobody l)

-- THE LEMMA: an event is zero, one or two moves; in a tick with any choice of moving where the post may, and of sending
pub tick_steps : (o : Settings) (m : Machine) → Whole o.posts m → (i : ℕ) → i < o.posts → (d : Deeds) → (d.moves ≡ true → has_token o (post_at m i) ≡ true) →
    Steps o.posts o.k (numbers_of o m) (numbers_of o (tick_doing_of o d i m))
tick_steps o m w i l d h =
    subst (Steps o.posts o.k (numbers_of o m)) (sym (doing_numbers o m w i l d))
    (acts_steps o.posts o.k (enough o) (numbers_of o m) (machine_fit o m w) i l d.moves d.sends (λ e. sym (token_is o m w i l) ∙ h e))

pub event_steps : (o : Settings) (e : Event) (m : Machine) → Whole o.posts m → post_of e < o.posts → Steps o.posts o.k (numbers_of o m) (numbers_of o (step o e m))
unfolding step
event_steps o (tick i) m w l = tick_steps o m w i l (deeds_in o (post_at m i)) (λ e. (and_parts _ _ e).0)
event_steps o (hear i) m w l =
    elim (hear_numbers o m w i l) [
      | inl e ↦ subst (Steps o.posts o.k (numbers_of o m)) (sym e) (none_steps o.posts o.k (numbers_of o m))
      | inr e ↦ subst (Steps o.posts o.k (numbers_of o m)) (sym e) (hears_steps o.posts o.k (enough o) (numbers_of o m) (machine_fit o m w) i l)
    ]
event_steps o (lose i) m w l = subst (Steps o.posts o.k (numbers_of o m)) (sym (lose_numbers o m w i l)) (none_steps o.posts o.k (numbers_of o m))
event_steps o (press i) m w l = subst (Steps o.posts o.k (numbers_of o m)) (sym (button_numbers o m w i l true)) (none_steps o.posts o.k (numbers_of o m))
event_steps o (release i) m w l = subst (Steps o.posts o.k (numbers_of o m)) (sym (button_numbers o m w i l false)) (none_steps o.posts o.k (numbers_of o m))

pub refines : Refines
unfolding run moves_in Among
refines o m w [] a = none
refines o m w (e ∷ es) a =
    joined (ring_of_settings o) (event_steps o e m w a.0) (refines o (step o e m) (step_whole o e m w a.0) es a.1)
