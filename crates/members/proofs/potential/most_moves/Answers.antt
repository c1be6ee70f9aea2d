-- Half of a product of neighbours is whole, and the promises hold.
use Rattle.std.proofs.Common.{◌≡◌, ℕ, zero, suc, pred, ◌+◌, ◌-◌, ◌*◌, ◌/◌, refl, ap, ◌∙◌, suc-mul, mul-suc, sub-one, arith}
use Rattle.members.proofs.Runs.{promises}
use Rattle.members.proofs.potential.most_moves.Goals as goal

even : (n : ℕ) → (t : ℕ) × (suc n * n ≡ 2 * t)
even zero = (0, omega arith)
even (suc n) =
    let h = even n in
    (h.0 + suc n, omega (arith, h.1, mul-suc (suc (suc n)) n, suc-mul (suc n) (suc n), suc-mul (suc n) n, mul-suc (suc n) n))

halved : (n : ℕ) → 2 * (n * pred n / 2) ≡ n * pred n
halved zero = refl
halved (suc n) = let h = even n in omega (arith, h.1)

pub returns : goal.returns
returns c =
    let m = c.args.members in
    let e : c.from-m.result * c.saturating_sub.result ≡ m * pred m =
    ap (λ x. c.from-m.result * x) c.saturating_sub.ensures ∙ (ap (λ x. x * (x - 1)) c.from-m.ensures ∙ ap (λ x. m * x) (sub-one m)) in
    record { value = omega (arith, halved m, ap (λ x. x / 2) e); promises = promises }
