-- The text of bytes reads back as those bytes. Assumes nothing.
use Rattle.std.proofs.Common.{◌≡◌, ℕ, ◌+◌, ◌*◌, ◌/◌, ◌%◌, ◌<◌, ◌≤◌, List, [], ◌∷◌, ◌++◌, length, get_or, take, drop, sym, refl, ap, ◌∙◌, subst, arith}
use Rattle.std.specs.List.{flat_map, AllByRecursion}
use Rattle.std.specs.Char.{digit_value, digit_char}
use Rattle.std.proofs.ByRecursion.{All-append}
use Rattle.std.proofs.lemmas.List.{append_assoc, take-append-drop, take_more, flat_map_more}
use Rattle.std.proofs.lemmas.Bool.{cond-true, lt-ltb}
use Rattle.std.proofs.lemmas.Bool.Decides.{nat_tests}
use Rattle.lines.specs.declared.line.Ending.TheVariants.{Whole}
use Rattle.lines.specs.declared.line.Symbol.TheVariants.{Digit}
use Rattle.lines.specs.Hex.{symbol_of, without_return, line_of, Spells, end, blank, byte, byte_text, hex_text}
use Rattle.lines.proofs.ReturnLaws.{kept}
use Rattle.lines.proofs.Reading.{rest_after_lem}
use Rattle.lines.proofs.Spelling.{line_spelled}
use Rattle.lines.proofs.UnitSteps.{rest_after}

digit_value-digit_char : (d : ℕ) → d < 16 → digit_value (digit_char d) ≡ d
digit_value-digit_char d h = grind (arith, nat_tests)

digit_low : (d : ℕ) → d < 16 → (48 ≤ digit_char d) × (digit_char d < 128)
digit_low d h = (grind (arith, nat_tests), grind (arith, nat_tests))

-- a digit's character takes one byte
digit_symbol : (d : ℕ) → d < 16 → symbol_of (digit_char d) ≡ Digit d
digit_symbol d h =
    let v = digit_value-digit_char d h in
    cond-true _ _ _ (lt-ltb (digit_value (digit_char d)) 16 (subst (λ x. x < 16) (sym v) h)) ∙ ap Digit v

-- the text of bytes after the first
abbrev pub more_text : List ℕ → List ℕ
more_text bs = flat_map (λ c. 32 ∷ byte_text c) bs

spells_byte : (b : ℕ) (text bs : List ℕ) → b < 256 → Spells text bs → Spells (byte_text b ++ text) (b ∷ bs)
spells_byte b text bs h s =
    let value : 16 * (b / 16) + b % 16 ≡ b = omega arith in
    subst (λ x. Spells (byte_text b ++ text) (x ∷ bs)) value
    (byte (digit_symbol (b / 16) (omega arith)) (digit_symbol (b % 16) (omega arith)) s)

spells_more : (bs : List ℕ) → AllByRecursion (λ b. b < 256) bs → Spells (more_text bs) bs
spells_more [] h = end
spells_more (b ∷ bs) h = blank refl (spells_byte b (more_text bs) bs h.0 (spells_more bs h.1))

spells_all : (bs : List ℕ) → AllByRecursion (λ b. b < 256) bs → Spells (hex_text bs) bs
spells_all [] h = end
spells_all (b ∷ bs) h = spells_byte b (more_text bs) bs h.0 (spells_more bs h.1)

-- no character of it is a carriage return

byte_large : (b : ℕ) → b < 256 → AllByRecursion (λ c. 13 < c) (byte_text b)
byte_large b h =
    let high = digit_low (b / 16) (omega arith) in
    let low = digit_low (b % 16) (omega arith) in (omega arith, (omega arith, tt))

more_large : (bs : List ℕ) → AllByRecursion (λ b. b < 256) bs → AllByRecursion (λ c. 13 < c) (more_text bs)
more_large [] h = tt
more_large (b ∷ bs) h = (omega arith, All-append _ (byte_text b) (more_text bs) (byte_large b h.0) (more_large bs h.1))

all_large : (bs : List ℕ) → AllByRecursion (λ b. b < 256) bs → AllByRecursion (λ c. 13 < c) (hex_text bs)
all_large [] h = tt
all_large (b ∷ bs) h = All-append _ (byte_text b) (more_text bs) (byte_large b h.0) (more_large bs h.1)

large_kept : (text : List ℕ) → AllByRecursion (λ c. 13 < c) text → without_return text ≡ text
large_kept [] h = refl
large_kept (c ∷ cs) h = kept c cs (λ e. omega (arith, h.0)) ∙ ap (λ t. c ∷ t) (large_kept cs h.1)

pub reads_back : (bs : List ℕ) → AllByRecursion (λ b. b < 256) bs → line_of (hex_text bs) ≡ record { bytes = bs; ending = Whole }
reads_back bs h =
    let text = hex_text bs in
    let kept = large_kept text (all_large bs h) in
    let told = (line_spelled text (line_of text).bytes (line_of text).ending refl refl).1 bs (subst (λ t. Spells t bs) (sym kept) (spells_all bs h)) in
    ap (λ b. record { bytes = b; ending = (line_of text).ending }) told.1 ∙ ap (λ e. record { bytes = bs; ending = e }) told.0

-- what a writer of that text holds, and what is left where memory fails

pub hex_parts : (bs : List ℕ) → 1 ≤ length bs → byte_text (get_or bs 0 0) ++ more_text (rest_after 1 bs) ≡ hex_text bs
hex_parts [] h = absurd (omega arith)
hex_parts (b ∷ bs) h = ap (λ t. byte_text b ++ more_text t) (rest_after_lem (b ∷ bs) 0 1 (b ∷ bs) refl)

more_append : (xs ys : List ℕ) → more_text (xs ++ ys) ≡ more_text xs ++ more_text ys
more_append [] ys = refl
more_append (x ∷ xs) ys = ap (λ t. 32 ∷ (byte_text x ++ t)) (more_append xs ys)

module _ (first tail full : List ℕ) (parts : first ++ more_text tail ≡ full) where
  pub left_of : (i : ℕ) → (first ++ more_text (take i tail)) ++ more_text (drop i tail) ≡ full
  left_of i =
      append_assoc first (more_text (take i tail)) (more_text (drop i tail))
      ∙ ap (λ t. first ++ t) (sym (more_append (take i tail) (drop i tail)) ∙ ap more_text (take-append-drop i tail)) ∙ parts

  pub next_byte : (i : ℕ) → i < length tail →
      ((first ++ more_text (take i tail)) ++ 32 ∷ []) ++ byte_text (get_or tail i 0) ≡ first ++ more_text (take (i + 1) tail)
  next_byte i h =
      append_assoc (first ++ more_text (take i tail)) (32 ∷ []) (byte_text (get_or tail i 0))
      ∙ flat_map_more (λ c. 32 ∷ byte_text c) first (take i tail) (get_or tail i 0)
      ∙ ap (λ xs. first ++ more_text xs) (sym (take_more tail i 0 h))

  -- a byte was written in part
  pub left_after : (i : ℕ) → i < length tail → (text rest : List ℕ) →
      text ++ rest ≡ ((first ++ more_text (take i tail)) ++ 32 ∷ []) ++ byte_text (get_or tail i 0) →
      text ++ (rest ++ more_text (drop (i + 1) tail)) ≡ full
  left_after i h text rest e =
      sym (append_assoc text rest (more_text (drop (i + 1) tail)))
      ∙ ap (λ t. t ++ more_text (drop (i + 1) tail)) (e ∙ next_byte i h) ∙ left_of (i + 1)
