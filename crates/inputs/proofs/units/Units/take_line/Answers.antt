-- The text without the newline at its end is its first line.
use Rattle.std.proofs.Common.{◌≡◌, ◌≢◌, ℕ, List, [], ◌∷◌, ◌++◌, Bor, Some, None, Option, MatchOption, unwrap_or, sym, ap, ap₂, subst, ◌∙◌}
use Rattle.std.proofs.lemmas.Bool.Decides.{Decides-eqb}
use Rattle.std.proofs.lemmas.Slice.Eq.{strip_suffix_is}
use Rattle.std.specs.Io.{StopsAt}
use Rattle.lines.specs.declared.line.Ending.{Ending}
use Rattle.lines.specs.Hex.{Line, line_of, is_blank}
use Rattle.lines.specs.Text.{first_line}
use Rattle.lines.proofs.ScriptLaws.{stripped_line, unstripped_line}
use Rattle.inputs.proofs.units.Units.take_line.Goals as goal

-- the newline was there, or not
abbrev Stripped : List ℕ → Option (Bor (List ℕ)) → Type 0
Stripped s o = MatchOption o ((f : List ℕ) → s ≢ f ++ 10 ∷ []) (λ x. s ≡ x.now ++ 10 ∷ [])

left_is : (t : Bor (List ℕ)) (o : Option (Bor (List ℕ))) → StopsAt t.now 10 → Stripped t.now o → (unwrap_or o t).now ≡ first_line t.now
left_is t None h m = unstripped_line t.now h m
left_is t (Some x) h m = stripped_line t.now x.now h m

-- what was read of what is left, is the line
left_read : (t r : Bor (List ℕ)) (o : Option (Bor (List ℕ))) (s bs : List ℕ) (e : Ending) → t.now ≡ s → StopsAt s 10 → Stripped t.now o → r ≡ unwrap_or o t →
    bs ≡ (line_of r.now).bytes → e ≡ (line_of r.now).ending → record { bytes = bs; ending = e } ≡ line_of (first_line s)
left_read t r o s bs e v h m l p q =
    let k : line_of r.now ≡ line_of (first_line s) =
    ap line_of (ap (λ (x : Bor (List ℕ)). x.now) l ∙ (left_is t o (subst (λ z. StopsAt z 10) (sym v) h) m ∙ ap first_line v)) in
    ap₂ (λ x y. record { bytes = x; ending = y }) (p ∙ ap (λ (z : Line). z.bytes) k) (q ∙ ap (λ (z : Line). z.ending) k)

pub returns-then-is_blank-clause-unit : goal.returns-then-is_blank-clause-unit
returns-then-is_blank-clause-unit g c =
    let t = c.as_slice-text.result in
    let u = left_read t c.unwrap_or-line.result c.strip_suffix.result _ _ c.in_ok-ending.ending c.as_slice-text.ensures.value c.requires
    (strip_suffix_is Decides-eqb t.now (10 ∷ []) c.strip_suffix.result c.strip_suffix.ensures.cases) c.unwrap_or-line.ensures c.in_ok-ending.ensures.bytes c.in_ok-ending.ensures.ending in
    (ap (λ (z : Line). z.bytes) u, sym (c.is_blank.ensures ∙ ap is_blank (c.unit.ensures ∙ u)) ∙ c.if-is_blank.true)

pub returns-else-is_blank-clause-unit : goal.returns-else-is_blank-clause-unit
returns-else-is_blank-clause-unit g c =
    let t = c.as_slice-text.result in
    let u = left_read t c.unwrap_or-line.result c.strip_suffix.result _ _ c.in_ok-ending.ending c.as_slice-text.ensures.value c.requires
    (strip_suffix_is Decides-eqb t.now (10 ∷ []) c.strip_suffix.result c.strip_suffix.ensures.cases) c.unwrap_or-line.ensures c.in_ok-ending.ensures.bytes c.in_ok-ending.ensures.ending in
    (u, sym (c.is_blank.ensures ∙ ap is_blank (c.unit.ensures ∙ u)) ∙ c.if-is_blank.false)
