-- Counts decide nothing: a post does what it would do with counts of 0. Assumes nothing.
use Rattle.std.proofs.Common.{◌≡◌, ℕ, List, [], ◌∷◌, Some, None, Option, sym, refl, ap, ◌∙◌}
use Rattle.lines.specs.declared.fault.Fault.{Fault}
use Rattle.frames.specs.declared.settings.Settings.{Settings}
use Rattle.lines.specs.Checks.{first_fault}
use Rattle.frames.specs.FrameUnit.{frame_checks}
use Rattle.posts.specs.declared.act.Act.{Act}
use Rattle.posts.specs.declared.post.Post.{Post}
use Rattle.posts.specs.Steps.{Event, tick, frame, down, up, hear_by, step_at, after_run, acts_in}
use Rattle.posts.specs.Promise.{without_counts, SameForEver}

hears_alike : (o : Option Fault) (s : Settings) (bs : List ℕ) (p : Post) →
    ((hear_by o s bs p).1 ≡ (hear_by o s bs (without_counts p)).1) × (without_counts (hear_by o s bs p).0 ≡ without_counts (hear_by o s bs (without_counts p)).0)
hears_alike None s bs p = (refl, refl)
hears_alike (Some f) s bs p = (refl, refl)

steps_alike : (s : Settings) (e : Event) (p : Post) →
    ((step_at s e p).1 ≡ (step_at s e (without_counts p)).1) × (without_counts (step_at s e p).0 ≡ without_counts (step_at s e (without_counts p)).0)
steps_alike s tick p = (refl, refl)
steps_alike s (frame bs) p = hears_alike (first_fault (frame_checks s.posts s.k p.place bs)) s bs p
steps_alike s down p = (refl, refl)
steps_alike s up p = (refl, refl)

-- what holds of a run from posts with the same but for their counts, if it holds from a post and the same post without counts
across : {A : Type 0} (f : Post → A) → ((p : Post) → f p ≡ f (without_counts p)) → (p q : Post) → without_counts p ≡ without_counts q → f p ≡ f q
across f h p q e = h p ∙ (ap f e ∙ sym (h q))

acts_alike : (s : Settings) (es : List Event) (p : Post) → acts_in s es p ≡ acts_in s es (without_counts p)
acts_alike s [] p = refl
acts_alike s (e ∷ es) p =
    let h = steps_alike s e p in
    let rest : acts_in s es (step_at s e p).0 ≡ acts_in s es (step_at s e (without_counts p)).0 = across (acts_in s es) (acts_alike s es) _ _ h.1 in
    ap (λ (a : Act). a ∷ acts_in s es (step_at s e p).0) h.0 ∙ ap (λ acts. (step_at s e (without_counts p)).1 ∷ acts) rest

posts_alike : (s : Settings) (es : List Event) (p : Post) → without_counts (after_run s es p) ≡ without_counts (after_run s es (without_counts p))
posts_alike s [] p = refl
posts_alike s (e ∷ es) p = across (λ q. without_counts (after_run s es q)) (posts_alike s es) _ _ (steps_alike s e p).1

pub same_for_ever : (s : Settings) (p : Post) → SameForEver s p
same_for_ever s p q e es = (across (acts_in s es) (acts_alike s es) p q e, across (λ r. without_counts (after_run s es r)) (posts_alike s es) p q e)
