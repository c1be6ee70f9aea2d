-- Laws of a first line of three bytes. Assumes nothing.
use Rattle.std.proofs.Common.{◌≡◌, ℕ, ◌+◌, ◌*◌, ◌<◌, ◌≤◌, Bool, true, false, ltb, List, [], ◌∷◌, ◌++◌, length, get_or, drop, sym, refl, ap, ◌∙◌, subst, add-zero, arith}
use Rattle.std.specs.Char.{digit_value}
use Rattle.std.proofs.lemmas.List.{length-drop, drop_more, get_or-drop}
use Rattle.std.proofs.lemmas.Bool.{and_parts, and_from, leb-true, le-leb, eqb-true, eq-eqb, cond-true}
use Rattle.lines.specs.declared.line.Ending.TheVariants.{Whole}
use Rattle.lines.specs.declared.line.Symbol.TheVariants.{Digit}
use Rattle.lines.specs.Hex.{symbol_of, IsFirstLine, are_digits, digits_at, is_three}
use Rattle.lines.specs.Text.{after_line}
use Rattle.lines.proofs.Reading.{rest_after_lem}
use Rattle.lines.proofs.TextLaws.{Between, between_start, after_blank, after_byte, at_end, byte_more, blank_more, after_newline, newline_ends}
use Rattle.lines.proofs.UnitSteps.{rest_after}

-- what the test of one byte says, and that of all three
pub record ByteAt (s : List ℕ) (i c : ℕ) : Type 0 where
  pub digits : are_digits (get_or s i 0) (get_or s (i + 1) 0) ≡ true
  pub next : get_or s (i + 2) 0 ≡ c

pub record Three (s : List ℕ) : Type 0 where
  pub long : 9 ≤ length s
  pub first : ByteAt s 0 32
  pub second : ByteAt s 3 32
  pub third : ByteAt s 6 10

byte_so : (s : List ℕ) (i c : ℕ) → digits_at s i c ≡ true → ByteAt s i c
byte_so s i c e = let h = and_parts _ _ e in record { digits = h.0; next = eqb-true _ _ h.1 }

byte_is : (s : List ℕ) (i c : ℕ) → ByteAt s i c → digits_at s i c ≡ true
byte_is s i c h = and_from _ _ h.digits (eq-eqb _ _ h.next)

three_so : (s : List ℕ) → is_three s ≡ true → Three s
unfolding is_three
three_so s e =
    let a = and_parts _ _ e in
    let b = and_parts _ _ a.1 in
    let d = and_parts _ _ b.1 in
    record { long = leb-true 9 (length s) a.0; first = byte_so s 0 32 b.0; second = byte_so s 3 32 d.0; third = byte_so s 6 10 d.1 }

pub three_long : (s : List ℕ) → is_three s ≡ true → 9 ≤ length s
three_long s e = (three_so s e).long

pub three_is : (s : List ℕ) → Three s → is_three s ≡ true
unfolding is_three
three_is s h =
    and_from _ _ (le-leb 9 (length s) h.long)
    (and_from _ _ (byte_is s 0 32 h.first) (and_from _ _ (byte_is s 3 32 h.second) (byte_is s 6 10 h.third)))

pub not_three : (s : List ℕ) → (Three s → ⊥) → is_three s ≡ false
not_three s h = go (is_three s) refl
  where
    go : (b : Bool) → is_three s ≡ b → b ≡ false
    go true e = absurd (h (three_so s e))
    go false e = refl

-- the line is read byte by byte
abbrev pub byte_at : List ℕ → ℕ → ℕ
byte_at s i = 16 * digit_value (get_or s i 0) + digit_value (get_or s (i + 1) 0)

at_place : (s : List ℕ) (i : ℕ) → get_or (drop i s) 0 0 ≡ get_or s i 0
at_place s i = get_or-drop i s 0 0 ∙ ap (λ k. get_or s k 0) (add-zero i)

digit_of : (c d : ℕ) → ltb (digit_value c) 16 ≡ true → d ≡ c → Digit (digit_value c) ≡ symbol_of d
digit_of c d e same = sym (ap symbol_of same ∙ cond-true _ _ _ e)

module _ (s held : List ℕ) (i : ℕ) (b : Between s held (drop i s)) where
  digits_step : i + 2 ≤ length s → are_digits (get_or s i 0) (get_or s (i + 1) 0) ≡ true → Between s (held ++ byte_at s i ∷ []) (drop (i + 2) s)
  digits_step l e =
      let t = drop i s in
      let c = get_or s i 0 in
      let d = get_or s (i + 1) 0 in
      let h = and_parts (ltb (digit_value c) 16) (ltb (digit_value d) 16) e in
      let m = byte_more t (digit_value c) (digit_value d) (subst (λ n. 1 < n) (sym (length-drop i s)) (omega arith)) (digit_of c (get_or t 0 0) h.0 (at_place s i)) (digit_of d (get_or t 1 0) h.1 (get_or-drop i s 1 0)) in
      subst (Between s (held ++ byte_at s i ∷ [])) (rest_after_lem s i 2 t refl) (after_byte s held t b (rest_after 2 t) (byte_at s i) m)

  blank_step : i < length s → get_or s i 0 ≡ 32 → Between s held (drop (i + 1) s)
  blank_step l e =
      let t = drop i s in
      let m = blank_more t (subst (λ n. 0 < n) (sym (length-drop i s)) (omega arith)) (ap symbol_of (sym (at_place s i ∙ e))) in
      subst (Between s held) (rest_after_lem s i 1 t refl) (after_blank s held t b (rest_after 1 t) m)

pub three_line : (s : List ℕ) → Three s → IsFirstLine s (byte_at s 0 ∷ byte_at s 3 ∷ byte_at s 6 ∷ []) Whole (drop 9 s)
three_line s h =
    let x = byte_at s 0 in
    let y = byte_at s 3 in
    let z = byte_at s 6 in
    let a = digits_step s [] 0 (between_start s) (omega arith) h.first.digits in
    let b = blank_step s (x ∷ []) 2 a (omega arith) h.first.next in
    let c = digits_step s (x ∷ []) 3 b (omega arith) h.second.digits in
    let d = blank_step s (x ∷ y ∷ []) 5 c (omega arith) h.second.next in
    let e = digits_step s (x ∷ y ∷ []) 6 d (omega arith) h.third.digits in
    let f = drop_more s 8 0 (omega arith) in
    at_end s (x ∷ y ∷ z ∷ []) (drop 8 s) e Whole (drop 9 s)
    (newline_ends (drop 8 s) (subst (λ n. 0 < n) (sym (length-drop 8 s)) (omega arith)) (get_or-drop 8 s 0 0 ∙ h.third.next))
    (sym (ap after_line f ∙ after_newline (get_or s 8 0) (drop 9 s) h.third.next))
