-- Reading numbers of two bytes, one after the other. Assumes nothing.
use Rattle.std.proofs.Common.{◌≡◌, ℕ, zero, suc, ◌+◌, ◌-◌, ◌*◌, ◌/◌, ◌%◌, ◌<◌, ◌≤◌, leb, List, [], ◌∷◌, ◌++◌, length, get_or, take, drop, set, replicate, Some, None, sym, refl, ap, ◌∙◌, append_assoc, arith}
use Rattle.std.specs.List.{AllByRecursion}
use Rattle.std.proofs.ByRecursion.{All-push}
use Rattle.std.proofs.lemmas.List.{take_more_set, take_all, drop-drop, drop-set-lt, get_or-drop, length-set, flat_map_more, nil_from_length, append-nil}
use Rattle.std.proofs.lemmas.Bool.{le-leb, lt-leb}
use Rattle.lines.specs.declared.fault.Fault.{Fault}
use Rattle.lines.specs.declared.fault.Fault.TheVariants.{Malformed}
use Rattle.lines.specs.Units.{Laid, reading_fault}
use Rattle.lines.proofs.Reading.{field_missing, word_fails, word_passes}
use Rattle.lines.specs.Words.{word_up_to, word_bytes, words_bytes}

-- the bytes of a number that was read are those that it was read from
pub word_back : (bs : List ℕ) (v : ℕ) → 2 ≤ length bs → ((j : ℕ) → get_or bs j 0 < 256) → v ≡ get_or bs 0 0 * 256 + get_or bs 1 0 →
    word_bytes v ++ drop 2 bs ≡ bs
word_back [] v h o e = absurd (omega arith)
word_back (a ∷ []) v h o e = absurd (omega arith)
word_back (a ∷ b ∷ bs) v h o e =
    let low : b < 256 = o 1 in
    let high : v / 256 ≡ a = omega arith in
    let rest : v % 256 ≡ b = omega arith in
    rw (high, rest)

-- where a reader of numbers stands: i of them are read, and what is left of the bytes decides the fault
pub record Progress (bytes old words rest : List ℕ) (i : ℕ) (f : Fault) (largest : ℕ) : Type 0 where
  pub so_far : words_bytes (take i words) ++ rest ≡ bytes
  pub untouched : drop i words ≡ drop i old
  pub bounded : AllByRecursion (λ x. x ≤ largest) (take i words)
  pub same_fault :
      reading_fault (replicate (length words - i) (word_up_to f largest)) rest ≡ reading_fault (replicate (length words) (word_up_to f largest)) bytes
  pub octets : (j : ℕ) → get_or rest j 0 < 256

words_push : (vs : List ℕ) (v : ℕ) → words_bytes (vs ++ v ∷ []) ≡ words_bytes vs ++ word_bytes v
words_push vs v = sym (flat_map_more word_bytes [] vs v)

replicate_minus : {X : Type 0} (n i : ℕ) (x : X) → i < n → replicate (n - i) x ≡ x ∷ replicate (n - (i + 1)) x
replicate_minus n i x h = let e : n - i ≡ suc (n - (i + 1)) = omega arith in ap (λ k. replicate k x) e

module _ {bytes old words rest : List ℕ} {i : ℕ} {f : Fault} {largest : ℕ} (at : Progress bytes old words rest i f largest) (more : i < length words) where
  pub short_fault : length rest < 2 → Some Malformed ≡ reading_fault (replicate (length words) (word_up_to f largest)) bytes
  short_fault h =
      sym (field_missing (word_up_to f largest) (replicate (length words - (i + 1)) (word_up_to f largest)) rest h)
      ∙ ap (λ fs. reading_fault fs rest) (sym (replicate_minus (length words) i (word_up_to f largest) more)) ∙ at.same_fault

  module _ (v : ℕ) (there : 2 ≤ length rest) (is : v ≡ get_or rest 0 0 * 256 + get_or rest 1 0) where
    pub large_fault : largest < v → Some f ≡ reading_fault (replicate (length words) (word_up_to f largest)) bytes
    large_fault h =
        sym (word_fails f (λ x. leb x largest) (replicate (length words - (i + 1)) (word_up_to f largest)) rest v there is (lt-leb v largest h))
        ∙ ap (λ fs. reading_fault fs rest) (sym (replicate_minus (length words) i (word_up_to f largest) more)) ∙ at.same_fault

    pub next : v ≤ largest → Progress bytes old (set words i v) (drop 2 rest) (i + 1) f largest
    next h =
        let n : length (set words i v) ≡ length words = length-set words i v in
        record {
          so_far =
              ap (λ vs. words_bytes vs ++ drop 2 rest) (take_more_set words i v more)
              ∙ ap (λ bs. bs ++ drop 2 rest) (words_push (take i words) v)
              ∙ append_assoc (words_bytes (take i words)) (word_bytes v) (drop 2 rest)
              ∙ ap (λ bs. words_bytes (take i words) ++ bs) (word_back rest v there at.octets is)
              ∙ at.so_far;
          untouched =
              drop-set-lt (i + 1) words i v (omega arith) ∙ sym (drop-drop 1 i words) ∙ ap (drop 1) at.untouched ∙ drop-drop 1 i old;
          bounded = rw (take_more_set words i v more) (All-push (λ x. x ≤ largest) (take i words) v at.bounded h);
          same_fault =
              rw n
              (sym (word_passes f (λ x. leb x largest) (replicate (length words - (i + 1)) (word_up_to f largest)) rest v there is (le-leb v largest h))
              ∙ ap (λ fs. reading_fault fs rest) (sym (replicate_minus (length words) i (word_up_to f largest) more)) ∙ at.same_fault);
          octets = λ j. rw (get_or-drop 2 rest j 0) (at.octets (2 + j));
        }

module _ {bytes old words rest : List ℕ} {i : ℕ} {f : Fault} {largest : ℕ} (at : Progress bytes old words rest i f largest) (all : length words ≤ i) where
  ended : reading_fault [] rest ≡ reading_fault (replicate (length words) (word_up_to f largest)) bytes
  ended = let e : 0 ≡ length words - i = omega arith in ap (λ n. reading_fault (replicate n (word_up_to f largest)) rest) e ∙ at.same_fault

  module _ (none : length rest ≡ 0) where
    pub whole : words_bytes words ≡ bytes
    whole =
        ap words_bytes (sym (take_all i words all)) ∙ sym (append-nil (words_bytes (take i words)))
        ∙ ap (λ bs. words_bytes (take i words) ++ bs) (sym (nil_from_length rest none)) ∙ at.so_far

pub words_laid : (f : Fault) (largest n : ℕ) → Laid (replicate n (word_up_to f largest))
words_laid f largest zero = tt
words_laid f largest (suc n) = ((omega arith, (tt, tt)), words_laid f largest n)

-- the bytes of numbers that are small enough are read with no fault
pub words_accepted : (f : Fault) (largest : ℕ) (vs : List ℕ) → AllByRecursion (λ v. v ≤ largest) vs →
    reading_fault (replicate (length vs) (word_up_to f largest)) (words_bytes vs) ≡ None
words_accepted f largest [] h = refl
words_accepted f largest (v ∷ vs) h =
    word_passes f (λ x. leb x largest) (replicate (length vs) (word_up_to f largest)) (word_bytes v ++ words_bytes vs) v (omega arith) (omega arith) (le-leb v largest h.0)
    ∙ words_accepted f largest vs h.1
