-- The numbers read are those of a ring with the settings read.
use Rattle.std.proofs.Common.{◌≡◌, ℕ, ◌*◌, ◌<◌, IfOk, vec_items, vec_len, sym, ◌∙◌, subst}
use Rattle.std.specs.List.{AllByRecursion}
use Rattle.lines.proofs.LineLaws.{was_read}
use Rattle.order.proofs.run.Goals as goal

pub tell-requires : goal.tell-requires
tell-requires c =
    let o = c.in_ok-settings.settings in
    let e = was_read _ _ _ _ c.in_ok-numbers.ensures.value in (
      c.as_slice.ensures.len ∙ subst (λ r. IfOk r (λ v. vec_len v ≡ 3 * o.posts)) e c.read_numbers.ensures.len,
      subst (AllByRecursion (λ (x : ℕ). x < o.k)) (sym c.as_slice.ensures.value)
          (subst (λ r. IfOk r (λ v. AllByRecursion (λ (x : ℕ). x < o.k) (vec_items v))) e c.read_numbers.ensures.below),
    )
