-- Laws of the first line of a text, character by character. Assumes nothing.
use Rattle.std.proofs.Common.{◌≡◌, ℕ, ◌+◌, ◌*◌, ◌<◌, Bool, true, false, cond, eqb, List, [], ◌∷◌, ◌++◌, length, get_or, Some, None, sym, refl, ap, ◌∙◌, subst, arith}
use Rattle.std.proofs.lemmas.Bool.Decides.{nat_tests}
use Rattle.std.proofs.lemmas.Bool.{cond-true, cond-false, eq-eqb, ne_eqb}
use Rattle.lines.specs.declared.line.Ending.{Ending}
use Rattle.lines.specs.declared.line.Ending.TheVariants.{Whole}
use Rattle.lines.specs.declared.line.Symbol.{Symbol}
use Rattle.lines.specs.declared.line.Symbol.TheVariants.{Digit, Blank, Stray}
use Rattle.lines.specs.Hex.{symbol_of, nothing, prepended, on_symbol, reading, without_return, line_of, IsFirstLine}
use Rattle.lines.specs.Text.{first_line, after_line, with_first, lines_of}
use Rattle.lines.proofs.ReturnLaws.{kept}
use Rattle.lines.proofs.LineLaws.{Remains, pushed_byte, done}
use Rattle.lines.proofs.Reading.{rest_after_lem}
use Rattle.lines.proofs.Spelling.{line_spelled}
use Rattle.lines.proofs.UnitSteps.{rest_after}

-- a text with a character on it: that one, and the rest
pub head_rest : (s : List ℕ) → 0 < length s → s ≡ get_or s 0 0 ∷ rest_after 1 s
head_rest [] h = absurd (omega arith)
head_rest (c ∷ cs) h = ap (λ t. c ∷ t) (sym (rest_after_lem (c ∷ cs) 0 1 (c ∷ cs) refl))

-- whether there is one, by a test
pub some_left : (s : List ℕ) → false ≡ eqb (length s) 0 → 0 < length s
some_left [] e = let q : ◌≡◌ {A = ℕ} 0 1 = cc in omega arith
some_left (c ∷ cs) e = omega arith

-- a character that is no newline stands on the first line
line_more : (c : ℕ) (cs : List ℕ) → (c ≡ 10 → ⊥) → first_line (c ∷ cs) ≡ c ∷ first_line cs
unfolding first_line
line_more c cs h = cond-false _ _ _ (ne_eqb c 10 h)

pub after_more : (c : ℕ) (cs : List ℕ) → (c ≡ 10 → ⊥) → after_line (c ∷ cs) ≡ after_line cs
unfolding after_line
after_more c cs h = cond-false _ _ _ (ne_eqb c 10 h)

pub after_newline : (c : ℕ) (cs : List ℕ) → c ≡ 10 → after_line (c ∷ cs) ≡ cs
unfolding after_line
after_newline c cs h = cond-true _ _ _ (eq-eqb c 10 h)

-- the lines of a text are its first one and those after it, which are shorter
pub lines_first : (s : List ℕ) → 0 < length s → lines_of s ≡ first_line s ∷ lines_of (after_line s)
unfolding lines_of first_line after_line
lines_first [] l = absurd (omega arith)
lines_first (c ∷ []) l = go (eqb c 10)
  where
    go : (b : Bool) → cond b ([] ∷ []) ((c ∷ []) ∷ []) ≡ cond b [] (c ∷ []) ∷ lines_of (cond b [] [])
    go true = refl
    go false = refl
lines_first (c ∷ d ∷ cs) l = go (eqb c 10) (lines_first (d ∷ cs) (omega arith))
  where
    go : (b : Bool) → lines_of (d ∷ cs) ≡ first_line (d ∷ cs) ∷ lines_of (after_line (d ∷ cs)) →
        cond b ([] ∷ lines_of (d ∷ cs)) (with_first c (lines_of (d ∷ cs))) ≡ cond b [] (c ∷ first_line (d ∷ cs)) ∷ lines_of (cond b (d ∷ cs) (after_line (d ∷ cs)))
    go true e = refl
    go false e = ap (with_first c) e

pub after_shorter : (s : List ℕ) → 0 < length s → length (after_line s) < length s
unfolding after_line
after_shorter [] l = absurd (omega arith)
after_shorter (c ∷ []) l = grind (arith, nat_tests)
after_shorter (c ∷ d ∷ cs) l = let h = after_shorter (d ∷ cs) (omega arith) in go (eqb c 10) h
  where
    go : (b : Bool) → length (after_line (d ∷ cs)) < length (d ∷ cs) → length (cond b (d ∷ cs) (after_line (d ∷ cs))) < length (c ∷ d ∷ cs)
    go true h = omega arith
    go false h = omega arith

-- only a stray character can be a newline or a carriage return
no_end : (c e : ℕ) → symbol_of e ≡ Stray → (symbol_of c ≡ Stray → ⊥) → c ≡ e → ⊥
no_end c e s h same = h (ap symbol_of same ∙ s)

-- the rest of a line after one character that isn't stray
first_symbol : (c : ℕ) (cs : List ℕ) → (symbol_of c ≡ Stray → ⊥) →
    line_of (first_line (c ∷ cs)) ≡ on_symbol (symbol_of c) None (reading (without_return (first_line cs)))
first_symbol c cs h =
    ap line_of (line_more c cs (no_end c 10 refl h)) ∙ ap (λ t. reading t None) (kept c (first_line cs) (no_end c 13 refl h))

-- a symbol that is another one than a stray character
other : (s t : Symbol) → s ≡ t → (t ≡ Stray → ⊥) → s ≡ Stray → ⊥
other s t e h z = h (sym e ∙ z)

module _ (c high : ℕ) (digit : Digit high ≡ symbol_of c) where
  no_stray : symbol_of c ≡ Stray → ⊥
  no_stray = other (symbol_of c) (Digit high) (sym digit) (λ z. let q : ◌≡◌ {A = ℕ} 0 1 = cc in omega arith)

  half : (cs : List ℕ) → line_of (first_line (c ∷ cs)) ≡ reading (without_return (first_line cs)) (Some high)
  half cs = first_symbol c cs no_stray ∙ ap (λ s. on_symbol s None (reading (without_return (first_line cs)))) (sym digit)

  whole_byte : (d low : ℕ) (cs : List ℕ) → Digit low ≡ symbol_of d →
      (line_of (first_line (c ∷ d ∷ cs)) ≡ prepended (16 * high + low) (line_of (first_line cs))) × (after_line (c ∷ d ∷ cs) ≡ after_line cs)
  whole_byte d low cs e =
      let h = other (symbol_of d) (Digit low) (sym e) (λ z. let q : ◌≡◌ {A = ℕ} 0 1 = cc in omega arith) in
      let f = ap without_return (line_more d cs (no_end d 10 refl h)) ∙ kept d (first_line cs) (no_end d 13 refl h) in (
        half (d ∷ cs) ∙ ap (λ t. reading t (Some high)) f ∙ ap (λ s. on_symbol s (Some high) (reading (without_return (first_line cs)))) (sym e),
        after_more c (d ∷ cs) (no_end c 10 refl no_stray) ∙ after_more d cs (no_end d 10 refl h),
      )

-- what the first characters of a text are, by index, and what is left after them

pub byte_more : (s : List ℕ) (high low : ℕ) → 1 < length s → Digit high ≡ symbol_of (get_or s 0 0) → Digit low ≡ symbol_of (get_or s 1 0) →
    (line_of (first_line s) ≡ prepended (16 * high + low) (line_of (first_line (rest_after 2 s)))) × (after_line s ≡ after_line (rest_after 2 s))
byte_more [] high low l e f = absurd (omega arith)
byte_more (c ∷ []) high low l e f = absurd (omega arith)
byte_more (c ∷ d ∷ cs) high low l e f =
    let r : rest_after 2 (c ∷ d ∷ cs) ≡ cs = rest_after_lem (c ∷ d ∷ cs) 0 2 (c ∷ d ∷ cs) refl in
    subst (λ t. (line_of (first_line (c ∷ d ∷ cs)) ≡ prepended (16 * high + low) (line_of (first_line t))) × (after_line (c ∷ d ∷ cs) ≡ after_line t)) (sym r)
    (whole_byte c high e d low cs f)

pub blank_more : (s : List ℕ) → 0 < length s → Blank ≡ symbol_of (get_or s 0 0) →
    (line_of (first_line s) ≡ line_of (first_line (rest_after 1 s))) × (after_line s ≡ after_line (rest_after 1 s))
blank_more s l e =
    let c = get_or s 0 0 in
    let cs = rest_after 1 s in
    let h = other (symbol_of c) Blank (sym e) (λ z. let q : ◌≡◌ {A = ℕ} 0 1 = cc in omega arith) in (
      ap (λ t. line_of (first_line t)) (head_rest s l) ∙ first_symbol c cs h ∙ ap (λ s. on_symbol s None (reading (without_return (first_line cs)))) (sym e),
      ap after_line (head_rest s l) ∙ after_more c cs (no_end c 10 refl h),
    )

-- what holds between two bytes of the first line of a text: those that are held and those of the rest are the line's, and what follows the line is the same
pub record Between (text held rest : List ℕ) : Type 0 where
  pub remains : Remains (line_of (first_line text)) held (line_of (first_line rest))
  pub after : after_line rest ≡ after_line text

pub between_start : (text : List ℕ) → Between text [] text
between_start text = record { remains = record { bytes = refl; ending = refl }; after = refl }

-- a step: the rest has a byte more, or the same line
module _ (text held s : List ℕ) (b : Between text held s) where
  pub after_blank : (t : List ℕ) → (line_of (first_line s) ≡ line_of (first_line t)) × (after_line s ≡ after_line t) → Between text held t
  after_blank t e = record { remains = subst (Remains (line_of (first_line text)) held) e.0 b.remains; after = sym e.1 ∙ b.after }

  pub after_byte : (t : List ℕ) (x : ℕ) → (line_of (first_line s) ≡ prepended x (line_of (first_line t))) × (after_line s ≡ after_line t) → Between text (held ++ x ∷ []) t
  after_byte t x e =
      record {
        remains = pushed_byte (line_of (first_line text)) held x (line_of (first_line t)) (subst (Remains (line_of (first_line text)) held) e.0 b.remains);
        after = sym e.1 ∙ b.after;
      }

  -- the line ends here: what is held is all of it
  pub at_end : (e : Ending) (t : List ℕ) → line_of (first_line s) ≡ nothing e → t ≡ after_line s → IsFirstLine text held e t
  at_end e t is same =
      let d = done (line_of (first_line text)) held e (subst (Remains (line_of (first_line text)) held) is b.remains) in
      record { line_bytes = d.0; line_ending = d.1; after = same ∙ b.after; whole = line_spelled (first_line text) held e d.0 d.1 }

-- how a line ends at its newline

pub newline_ends : (s : List ℕ) → 0 < length s → get_or s 0 0 ≡ 10 → line_of (first_line s) ≡ nothing Whole
unfolding first_line
newline_ends [] h e = absurd (omega arith)
newline_ends (c ∷ cs) h e = ap line_of (cond-true _ _ _ (eq-eqb c 10 e))
