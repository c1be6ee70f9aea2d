-- The end of a line without its carriage return, character by character. Assumes nothing.
use Rattle.std.proofs.Common.{◌≡◌, ℕ, suc, ◌-◌, Bool, true, false, cond, eqb, List, [], ◌∷◌, length, get_or, take, refl, ap, sym, ◌∙◌, arith}
use Rattle.std.proofs.lemmas.Bool.{cond-false, ne_eqb}
use Rattle.lines.specs.Hex.{without_return}

in_front : (c : ℕ) (b : Bool) (xs ys : List ℕ) → cond b (c ∷ xs) (c ∷ ys) ≡ c ∷ cond b xs ys
in_front c true xs ys = refl
in_front c false xs ys = refl

-- a character that isn't the last one stays
pub return_more : (c d : ℕ) (cs : List ℕ) → without_return (c ∷ d ∷ cs) ≡ c ∷ without_return (d ∷ cs)
return_more c d cs =
    let text = c ∷ d ∷ cs in
    let rest = d ∷ cs in
    let n = length cs in
    let long : length text - 1 ≡ suc n = omega arith in
    let short : length rest - 1 ≡ n = omega arith in
    ap (λ k. cond (eqb (get_or text k 0) 13) (take k text) text) long
    ∙ in_front c (eqb (get_or rest n 0) 13) (take n rest) rest
    ∙ sym (ap (λ k. c ∷ cond (eqb (get_or rest k 0) 13) (take k rest) rest) short)

-- a character that is no carriage return stays
pub kept : (c : ℕ) (cs : List ℕ) → (c ≡ 13 → ⊥) → without_return (c ∷ cs) ≡ c ∷ without_return cs
kept c [] h = cond-false _ _ _ (ne_eqb c 13 h)
kept c (d ∷ cs) h = return_more c d cs
