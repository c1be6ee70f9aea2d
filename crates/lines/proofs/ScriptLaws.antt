-- The first line of a text by the place of its newline. Assumes nothing.
use Rattle.std.proofs.Common.{◌≡◌, ℕ, suc, ◌+◌, ◌<◌, ◌≤◌, Bool, true, false, cond, eqb, List, [], ◌∷◌, ◌++◌, ◌≢◌, length, length-append, get_or, take, drop, Option, Some, None, refl, ap, subst, ◌-◌, ◌∙◌, sym, inl, inr, arith, not}
use Rattle.std.specs.List.{position, position_or_len}
use Rattle.std.proofs.lemmas.Bool.Decides.{nat_tests}
use Rattle.std.proofs.lemmas.Bool.{cond-true, cond-false, lt-ltb, le-ltb, false_from_ne_true, eq-eqb, ne_eqb, cases_lt}
use Rattle.std.proofs.lemmas.List.{take_rest, take_all, drop_all, length-take-le, get_or-take, get_or_push}
use lib.Seq.{take-append_seam}
use Rattle.std.proofs.lemmas.List.Prefix.{end_from_reads}
use Rattle.std.proofs.lemmas.List.Sums.{position_or_len_is}
use Rattle.std.specs.Io.{StopsAt}
use Rattle.memchr.specs.Find.{IsFirstByte, is_byte}
use Rattle.lines.specs.Text.{first_line, after_line}

-- how many characters stand before the first newline
abbrev pub before_newline : List ℕ → ℕ
before_newline s = position_or_len (λ c. eqb c 10) s

-- the place of a newline before which there is none
pub newline_place : (s : List ℕ) (r : Option ℕ) → IsFirstByte (is_byte 10) s r → r ≡ position (λ c. eqb c 10) s
newline_place s None f =
    let n : before_newline s ≡ length s =
    position_or_len_is (λ c. eqb c 10) s (length s) 0 (omega arith)
    (λ k l. false_from_ne_true (eqb (get_or s k 0) 10) (f k (omega arith) l)) (λ l. absurd (omega arith)) in
    sym (cond-false _ _ _ (le-ltb (before_newline s) (length s) (omega arith)))
newline_place s (Some i) f =
    let within : i < length s = f.0.high in
    let n : before_newline s ≡ i =
    position_or_len_is (λ c. eqb c 10) s i 0 (omega arith)
    (λ k l. false_from_ne_true (eqb (get_or s k 0) 10) (f.0.before k (omega arith) l)) (λ l. f.1) in
    ap Some (sym n) ∙ sym (cond-true _ _ _ (lt-ltb (before_newline s) (length s) (omega arith)))

pub newline_ends_line : (s : List ℕ) → (take (before_newline s) s ≡ first_line s) × (drop (1 + before_newline s) s ≡ after_line s)
unfolding first_line after_line
newline_ends_line [] = (refl, refl)
newline_ends_line (c ∷ cs) = go (eqb c 10) (newline_ends_line cs)
  where
    go : (b : Bool) → (take (before_newline cs) cs ≡ first_line cs) × (drop (1 + before_newline cs) cs ≡ after_line cs) →
        (take (cond (not b) (1 + before_newline cs) 0) (c ∷ cs) ≡ cond b [] (c ∷ first_line cs)) × (drop (1 + cond (not b) (1 + before_newline cs) 0) (c ∷ cs) ≡ cond b cs (after_line cs))
    go true e = (refl, refl)
    go false e =
        let n = before_newline cs in
        let one : 1 + n ≡ suc n = omega arith in
        let two : 1 + (1 + n) ≡ suc (1 + n) = omega arith in
        (ap (λ k. take k (c ∷ cs)) one ∙ ap (λ t. c ∷ t) e.0, ap (λ k. drop k (c ∷ cs)) two ∙ e.1)

-- where a newline was found: the text before it, and the text after it
pub line_found : (s : List ℕ) (i : ℕ) → Some i ≡ position (λ c. eqb c 10) s → (take i s ≡ first_line s) × (take (length s - (i + 1)) (drop (i + 1) s) ≡ after_line s)
line_found s i e =
    let f : (before_newline s ≡ i) × (i < length s) = grind (arith, nat_tests) in
    let h = newline_ends_line s in (
      subst (λ n. take n s ≡ first_line s) f.0 h.0,
      take_rest s (i + 1) ∙ subst (λ n. drop n s ≡ after_line s) (omega (arith, f.0)) h.1,
    )

-- where none was found: all of it, and nothing
pub last_line : (s : List ℕ) → None ≡ position (λ c. eqb c 10) s → (s ≡ first_line s) × ([] ≡ after_line s)
last_line s e =
    let f : length s ≤ before_newline s = grind (arith, nat_tests) in
    let h = newline_ends_line s in (
      sym (take_all (before_newline s) s f) ∙ h.0,
      sym (drop_all (1 + before_newline s) s (omega (arith, f))) ∙ h.1,
    )

-- in a text in which no newline stands before its last character, the line is what stands before that newline, or all of it
none_before : (s : List ℕ) → StopsAt s 10 → (k : ℕ) → k < length s - 1 → eqb (get_or s k 0) 10 ≡ false
none_before s h k m =
    let there : k < length (take (length s - 1) s) = subst (λ n. k < n) (sym (length-take-le (length s - 1) s (omega arith))) m in
    ne_eqb (get_or s k 0) 10 (subst (λ c. c ≡ 10 → ⊥) (get_or-take (length s - 1) s k 0 m) (h k 0 there))

line_of_length : (s : List ℕ) (n : ℕ) → before_newline s ≡ n → take n s ≡ first_line s
line_of_length s n e = subst (λ k. take k s ≡ first_line s) e (newline_ends_line s).0

ended_line : (s : List ℕ) → StopsAt s 10 → (b : Bool) → eqb (get_or s (length s - 1) 0) 10 ≡ b → cond b (take (length s - 1) s) s ≡ first_line s
ended_line s h true e = line_of_length s (length s - 1) (position_or_len_is (λ c. eqb c 10) s (length s - 1) 0 (omega arith) (none_before s h) (λ _. e))
ended_line s h false e =
    sym (take_all (length s) s (omega arith)) ∙ line_of_length s (length s) (position_or_len_is (λ c. eqb c 10) s (length s) 0 (omega arith) none (λ l. absurd (omega arith)))
  where
    none : (k : ℕ) → k < length s → eqb (get_or s k 0) 10 ≡ false
    none k m =
        elim (cases_lt k (length s - 1)) [
          | inl l ↦ none_before s h k l
          | inr g ↦ ap (λ i. eqb (get_or s i 0) 10) {y = length s - 1} (omega arith) ∙ e
        ]

pub stripped_line : (s f : List ℕ) → StopsAt s 10 → s ≡ f ++ 10 ∷ [] → f ≡ first_line s
stripped_line s f h e =
    let n : length s ≡ length f + 1 = omega (arith, ap length e, length-append f (10 ∷ [])) in
    let last : get_or s (length s - 1) 0 ≡ 10 = ap (λ t. get_or t (length s - 1) 0) e ∙ get_or_push f 10 0 (length s - 1) (omega (arith, n)) in
    let front : take (length s - 1) s ≡ f = ap (λ k. take k s) {x = length s - 1} {y = length f} (omega (arith, n)) ∙ (ap (take (length f)) e ∙ take-append_seam f (10 ∷ [])) in
    sym front ∙ ended_line s h true (eq-eqb _ 10 last)

pub unstripped_line : (s : List ℕ) → StopsAt s 10 → ((f : List ℕ) → s ≢ f ++ 10 ∷ []) → s ≡ first_line s
unstripped_line [] h other = ended_line [] h false refl
unstripped_line (x ∷ xs) h other =
    let s = x ∷ xs in
    let reads : get_or s (length s - 1) 0 ≡ 10 → (i : ℕ) → i < 1 → get_or s (length s - 1 + i) 0 ≡ get_or (10 ∷ []) i 0 =
    λ g i l. let z : i ≡ 0 = omega arith in ap (λ k. get_or s (length s - 1 + k) 0) z ∙ (ap (λ k. get_or s k 0) {x = length s - 1 + 0} {y = length s - 1} (omega arith) ∙ (g ∙ ap (λ k. get_or (10 ∷ []) k 0) (sym z))) in
    ended_line s h false (ne_eqb _ 10 (λ g. other (take (length s - 1) s) (end_from_reads 0 s (10 ∷ []) (omega arith) (reads g))))
