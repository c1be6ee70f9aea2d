-- The ring isn't refused, and the turn of each post is noted behind those before it.
use Rattle.std.proofs.Common.{◌≡◌, ℕ, ◌+◌, ◌*◌, [], ◌∷◌, ◌++◌, length, get_or, vec_items, sym, ap, ◌∙◌, subst, inl, inr, arith}
use Rattle.std.proofs.lemmas.List.{length_push, get_or_push, get_or_append_left}
use Rattle.std.proofs.lemmas.Bool.{cases_eq}
use Rattle.members.specs.Answers.{ring_of, Tells}
use Rattle.members.specs.Turns.{TurnAfter}
use Rattle.members.proofs.States.{alone_healed}
use Rattle.order.proofs.Rings.{numbered_ring}
use Rattle.order.proofs.telling.tell.Goals as goal

pub unreachable-requires : goal.unreachable-requires
unreachable-requires c =
    let e = c.in_default.ensures in
    let n = numbered_ring c.args.settings.now c.args.numbers.now c.requires in
    let z : ◌≡◌ {A = ℕ} 0 1 = cc in
    omega arith

pub wait_of-requires : goal.wait_of-requires
wait_of-requires c =
    let s = c.args.numbers.now in
    let r = ring_of c.args.settings.now.k s in
    record { numbered = c.requires; healed = alone_healed r s c.in-One.holder (subst (Tells r s) c.in-One.is c.in-Ok.ensures.1); there = c.loop-post-test.true }

pub loop-post-preserved : goal.loop-post-preserved
loop-post-preserved c =
    let s = c.args.numbers.now in
    let r = ring_of c.args.settings.now.k s in
    let ws = vec_items c.loop-post.waits in
    let w = c.wait_of.result in
    let e : vec_items c.push.new.self ≡ ws ++ (w ∷ []) = c.in_ok-push.ensures.items in (
      ap length e ∙ (length_push ws w ∙ ap (λ n. n + 1) c.loop-post.invariant.0),
      λ p l. elim (cases_eq p c.loop-post.post) [
        | inl q ↦
            let g : get_or (vec_items c.push.new.self) p 0 ≡ w = ap (λ v. get_or v p 0) e ∙ get_or_push ws w 0 p (c.loop-post.invariant.0 ∙ sym q) in
            subst (λ n. TurnAfter r s n (3 * p)) (sym g) (subst (λ n. TurnAfter r s w (3 * n)) (sym q) c.wait_of.ensures)
        | inr d ↦
            let g : get_or (vec_items c.push.new.self) p 0 ≡ get_or ws p 0 = ap (λ v. get_or v p 0) e ∙ get_or_append_left ws (w ∷ []) 0 p (omega (arith, c.loop-post.invariant.0)) in
            subst (λ n. TurnAfter r s n (3 * p)) (sym g) (c.loop-post.invariant.1 p (omega arith))
      ],
    )

pub returns : goal.returns
returns c =
    let s = c.args.numbers.now in
    let r = ring_of c.args.settings.now.k s in
    let n : c.loop-post.post ≡ c.args.settings.now.posts = omega (arith, c.loop-post-test.false, c.loop-post.auto.post-end) in
    (subst (Tells r s) c.in-One.is c.in-Ok.ensures.1, c.loop-post.invariant.0 ∙ n, λ p l. c.loop-post.invariant.1 p (omega arith))
