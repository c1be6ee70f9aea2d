-- A line is whole where its text writes bytes. Assumes nothing.
use Rattle.std.proofs.Common.{◌≡◌, ℕ, ◌+◌, ◌*◌, List, [], ◌∷◌, Some, None, Option, sym, refl, ap, ◌∙◌, subst, arith}
use Rattle.lines.specs.declared.line.Ending.{Ending}
use Rattle.lines.specs.declared.line.Ending.TheVariants.{Whole, Damaged}
use Rattle.lines.specs.declared.line.Symbol.{Symbol}
use Rattle.lines.specs.declared.line.Symbol.TheVariants.{Digit, Blank, Comment, Stray}
use Rattle.lines.specs.Hex.{symbol_of, prepended, on_symbol, reading, without_return, line_of, Spells, end, blank, comment, byte, WholeBySpelling}

not_whole : Damaged ≡ Whole → ⊥
not_whole e = let z : ◌≡◌ {A = ℕ} 0 1 = cc in omega arith

-- a text that writes bytes is read whole
spelled_read : {cs bs : List ℕ} → Spells cs bs → reading cs None ≡ record { bytes = bs; ending = Whole }
spelled_read end = refl
spelled_read (blank {cs = cs} e r) = ap (λ s. on_symbol s None (reading cs)) e ∙ spelled_read r
spelled_read (comment {cs = cs} e) = ap (λ s. on_symbol s None (reading cs)) e
spelled_read (byte {d = d} {high = high} {low = low} {cs = cs} e f r) =
    ap (λ s. on_symbol s None (reading (d ∷ cs))) e
    ∙ ap (λ s. on_symbol s (Some high) (reading cs)) f
    ∙ ap (prepended (16 * high + low)) (spelled_read r)

-- a line that is read whole writes its bytes
abbrev Reads : List ℕ → Option ℕ → List ℕ → Type 0
Reads cs pending text = (reading cs pending).ending ≡ Whole → Spells text (reading cs pending).bytes

low_digit : (c d high : ℕ) (cs : List ℕ) (s : Symbol) → symbol_of c ≡ Digit high → symbol_of d ≡ s → Reads cs None cs →
    (on_symbol s (Some high) (reading cs)).ending ≡ Whole → Spells (c ∷ d ∷ cs) (on_symbol s (Some high) (reading cs)).bytes
low_digit c d high cs (Digit low) e f more h = byte e f (more h)
low_digit c d high cs Blank e f more h = absurd (not_whole h)
low_digit c d high cs Comment e f more h = absurd (not_whole h)
low_digit c d high cs Stray e f more h = absurd (not_whole h)

one_symbol : (c : ℕ) (cs : List ℕ) (s : Symbol) → symbol_of c ≡ s → Reads cs None cs →
    ((high : ℕ) → symbol_of c ≡ Digit high → Reads cs (Some high) (c ∷ cs)) →
    (on_symbol s None (reading cs)).ending ≡ Whole → Spells (c ∷ cs) (on_symbol s None (reading cs)).bytes
one_symbol c cs (Digit high) e more digit h = digit high e h
one_symbol c cs Blank e more digit h = blank e (more h)
one_symbol c cs Comment e more digit h = comment e
one_symbol c cs Stray e more digit h = absurd (not_whole h)

read_spelled : (cs : List ℕ) → Reads cs None cs
read_spelled [] h = end
read_spelled (c ∷ []) h = one_symbol c [] (symbol_of c) refl (λ _. end) (λ high e k. absurd (not_whole k)) h
read_spelled (c ∷ d ∷ cs) h =
    one_symbol c (d ∷ cs) (symbol_of c) refl (read_spelled (d ∷ cs))
    (λ high e k. low_digit c d high cs (symbol_of d) e refl (read_spelled cs) k) h

pub line_spelled : (text bytes : List ℕ) (e : Ending) → bytes ≡ (line_of text).bytes → e ≡ (line_of text).ending →
    WholeBySpelling (without_return text) e bytes
line_spelled text bytes e same ends = (
  (λ whole. subst (Spells (without_return text)) (sym same) (read_spelled (without_return text) (sym ends ∙ whole))),
  λ bs r. let is = spelled_read r in (ends ∙ ap (λ l. l.ending) is, same ∙ ap (λ l. l.bytes) is),
)
