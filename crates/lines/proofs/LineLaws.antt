-- Laws of lines of bytes. Assumes nothing.
use Rattle.std.proofs.Common.{◌≡◌, ℕ, ◌+◌, ◌<◌, ◌≤◌, Bool, true, false, cond, ◌||◌, eqb, ltb, List, [], ◌∷◌, ◌++◌, length, get_or, drop, Some, None, Ok, Err, Option, Result, unwrap_or, sym, refl, ap, ◌∙◌, subst, arith}
use Rattle.std.specs.Result.{result_err}
use Rattle.std.specs.Char.{digit_value}
use Rattle.std.proofs.lemmas.List.{append-nil, append_assoc, at_drop_more, at_drop_all}
use Rattle.lines.specs.declared.fault.Fault.{Fault}
use Rattle.lines.specs.declared.fault.Fault.TheVariants.{Malformed}
use Rattle.lines.specs.declared.line.Ending.{Ending}
use Rattle.lines.specs.declared.line.Ending.TheVariants.{Whole, Damaged}
use Rattle.lines.specs.declared.line.Symbol.{Symbol}
use Rattle.lines.specs.declared.line.Symbol.TheVariants.{Digit, Blank, Comment, Stray}
use Rattle.lines.specs.declared.read_error.ReadError.{ReadError}
use Rattle.lines.specs.declared.read_error.ReadError.TheVariants.{Refused, Memory}
use Rattle.lines.specs.Checks.{first_fault}
use Rattle.lines.specs.Units.{Field, Laid, unit_checks}
use Rattle.lines.specs.Hex.{Line, is_whole, symbol_of, nothing, prepended, on_symbol, reading, line_checks, settled}
use Rattle.lines.specs.Refusals.{refusal}
use Rattle.lines.proofs.Reading.{stray_first}

-- the first fault of a unit on a line is that of its bytes, or else the damage
line_fault_lem : (e : Ending) (bs : List ℕ) (fs : List Field) (o : Option Fault) → Laid fs → o ≡ first_fault (unit_checks bs fs) →
    cond (is_whole e) o (Some (unwrap_or o Malformed)) ≡ first_fault (line_checks record { bytes = bs; ending = e } fs)
line_fault_lem Whole bs fs o h e = e ∙ ap first_fault (sym (append-nil (unit_checks bs fs)))
line_fault_lem Damaged bs fs o h e = sym (stray_first bs fs h ∙ ap (λ x. Some (unwrap_or x Malformed)) (sym e))

pub settled_fault : {X : Type 0} (e : Ending) (answer : Result X Fault) (bs : List ℕ) (fs : List Field) → Laid fs →
    result_err answer ≡ first_fault (unit_checks bs fs) →
    result_err (settled Malformed e answer) ≡ first_fault (line_checks record { bytes = bs; ending = e } fs)
settled_fault Whole answer bs fs h e = line_fault_lem Whole bs fs (result_err answer) h e
settled_fault Damaged (Ok x) bs fs h e = line_fault_lem Damaged bs fs None h e
settled_fault Damaged (Err f) bs fs h e = line_fault_lem Damaged bs fs (Some f) h e

pub settled_refusal : {X : Type 0} (e : Ending) (answer : Result X ReadError) (bs : List ℕ) (fs : List Field) → Laid fs →
    (answer ≡ Err Memory → ⊥) → refusal answer ≡ first_fault (unit_checks bs fs) →
    refusal (settled (Refused Malformed) e answer) ≡ first_fault (line_checks record { bytes = bs; ending = e } fs)
settled_refusal Whole answer bs fs h m e = line_fault_lem Whole bs fs (refusal answer) h e
settled_refusal Damaged (Ok x) bs fs h m e = line_fault_lem Damaged bs fs None h e
settled_refusal Damaged (Err (Refused f)) bs fs h m e = line_fault_lem Damaged bs fs (Some f) h e
settled_refusal Damaged (Err Memory) bs fs h m e = absurd (m refl)

-- a reader holds the first bytes of a line, and `left` is what it has yet to read
pub record Remains (line : Line) (held : List ℕ) (left : Line) : Type 0 where
  pub bytes : held ++ left.bytes ≡ line.bytes
  pub ending : left.ending ≡ line.ending

-- one character more
pub one_character : (line : Line) (held cs : List ℕ) (i : ℕ) (pending p : Option ℕ) (s : Symbol) → i < length cs → pending ≡ p →
    s ≡ symbol_of (get_or cs i 0) → Remains line held (reading (drop i cs) pending) →
    Remains line held (on_symbol s p (reading (drop (i + 1) cs)))
one_character line held cs i pending p s h same e r =
    let rest : Option ℕ → Line = reading (drop (i + 1) cs) in
    subst (Remains line held)
    (at_drop_more (λ left. reading left pending) cs i 0 h ∙ ap (λ x. on_symbol x pending rest) (sym e) ∙ ap (λ o. on_symbol s o rest) same) r

pub pushed_byte : (line : Line) (held : List ℕ) (b : ℕ) (left : Line) → Remains line held (prepended b left) → Remains line (held ++ b ∷ []) left
pushed_byte line held b left r = record { bytes = append_assoc held (b ∷ []) left.bytes ∙ r.bytes; ending = r.ending }

pub done : (line : Line) (held : List ℕ) (e : Ending) → Remains line held (nothing e) → (held ≡ line.bytes) × (e ≡ line.ending)
done line held e r = (sym (append-nil held) ∙ r.bytes, r.ending)

-- a high digit that no digit follows is damage
pub cut_byte : (high : ℕ) (s : Symbol) (rest : Option ℕ → Line) → ((d : ℕ) → s ≡ Digit d → ⊥) → on_symbol s (Some high) rest ≡ nothing Damaged
cut_byte high (Digit d) rest h = absurd (h d refl)
cut_byte high Blank rest h = refl
cut_byte high Comment rest h = refl
cut_byte high Stray rest h = refl

-- a digit has its value, which is below 16, and no other character has such a value
is_digit : (d v : ℕ) (p q r : Bool) → Digit d ≡ cond p (Digit v) (cond q Blank (cond r Comment Stray)) → (p ≡ true) × (d ≡ v)
is_digit d v true q r e = (refl, cc)
is_digit d v false true r e = let z : ◌≡◌ {A = ℕ} 0 1 = cc in absurd (omega arith)
is_digit d v false false true e = let z : ◌≡◌ {A = ℕ} 0 1 = cc in absurd (omega arith)
is_digit d v false false false e = let z : ◌≡◌ {A = ℕ} 0 1 = cc in absurd (omega arith)

pub digit_is : (c d : ℕ) → Digit d ≡ symbol_of c → (ltb (digit_value c) 16 ≡ true) × (d ≡ digit_value c)
digit_is c d e = is_digit d (digit_value c) (ltb (digit_value c) 16) (eqb c 32 || eqb c 9) (eqb c 35) e

-- at the end of the text
pub all_read : (line : Line) (held cs : List ℕ) (i : ℕ) (pending p : Option ℕ) → length cs ≤ i → pending ≡ p →
    Remains line held (reading (drop i cs) pending) → Remains line held (reading [] p)
all_read line held cs i pending p h same r =
    subst (Remains line held) (at_drop_all (λ left. reading left pending) cs i h ∙ ap (reading []) same) r

-- a value of a line is the value that was read of its bytes
pub was_read : {X E : Type 0} (f : E) (e : Ending) (answer : Result X E) (v : X) → Ok v ≡ settled f e answer → answer ≡ Ok v
was_read f Whole answer v q = sym q
was_read f Damaged (Ok x) v q = cc
was_read f Damaged (Err y) v q = cc
