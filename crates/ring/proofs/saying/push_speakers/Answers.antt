-- One post more.
use Rattle.std.proofs.Common.{◌≡◌, ℕ, ◌+◌, ◌<◌, Bool, List, [], ◌∷◌, ◌++◌, map, length, get_or, take, vec_items, sym, ap, ◌∙◌, append_assoc}
use Rattle.std.proofs.lemmas.List.{take_more, take_all, map-append}
use Rattle.posts.specs.declared.post.Post.{Post}
use Rattle.posts.specs.Steps.{deeds_in}
use Rattle.ring.specs.Machine.{nobody}
use Rattle.ring.proofs.saying.push_speakers.Goals as goal

one_more : {X Y : Type 0} (f : X → Y) (xs : List X) (i : ℕ) (d : X) (a : List Y) → i < length xs → (a ++ map f (take i xs)) ++ f (get_or xs i d) ∷ [] ≡ a ++ map f (take (i + 1) xs)
one_more f xs i d a l =
    append_assoc a (map f (take i xs)) (f (get_or xs i d) ∷ []) ∙ ap (λ b. a ++ b) (sym (map-append f (take i xs) (get_or xs i d ∷ [])) ∙ ap (map f) (sym (take_more xs i d l)))

pub loop-post-preserved : goal.loop-post-preserved
loop-post-preserved c =
    let o = c.args.settings.now in
    let f : Post → Bool = λ p. (deeds_in o p).speaks in
    let i = c.loop-post.post-index in
    c.in_ok-push.ensures.items ∙
    (ap (λ b. vec_items c.loop-post.speakers ++ b ∷ []) (ap (λ d. d.speaks) c.deeds.ensures) ∙
    (ap (λ a. a ++ f (get_or c.args.posts.now i nobody) ∷ []) c.loop-post.invariant ∙
    one_more f c.args.posts.now i nobody (vec_items c.args.speakers.now) c.loop-post-test.true))

pub returns : goal.returns
returns c =
    c.loop-post.invariant ∙
    ap (λ z. vec_items c.args.speakers.now ++ map (λ (p : Post). (deeds_in c.args.settings.now p).speaks) z)
    (take_all c.loop-post.post-index c.args.posts.now c.loop-post-test.false)
