-- Laws of the first fault: it is there where a check is broken, no broken check counts before it, and in a list in
-- rising order it is that of the first broken check. Assumes nothing.
use Rattle.std.proofs.Common.{◌≡◌, ℕ, suc, true, false, cond, eqb, List, [], ◌∷◌, ◌++◌, Some, None, Option, unwrap_or, sym, refl, ap, ◌∙◌, subst, inl, inr, arith}
use Rattle.std.specs.Option.{option_map}
use Rattle.std.specs.List.{ContainsAt, AllByRecursion}
use Rattle.std.proofs.ByRecursion.{All-weaker, all-has, All-append, has_push, has_append_left}
use Rattle.std.proofs.lemmas.Bool.{cases_Bool, both_ways, cond-true, cond-false}
use Rattle.std.proofs.lemmas.Bool.Decides.{nat_tests}
use Rattle.lines.specs.declared.fault.Fault.{Fault}
use Rattle.lines.specs.declared.fault.Fault.TheVariants.{Malformed, OutOfRange, WrongSum, WrongSender, NumberTooLarge}
use Rattle.lines.specs.Faults.{number_of}
use Rattle.lines.specs.Checks.{Check, before, earlier, first_broken, first_fault, Unbroken, Earliest, IsFirstFault}

-- the first broken check as the list stands
abbrev pub head_broken : List Check → Option Check
head_broken [] = None
head_broken (c ∷ cs) = cond c.broken (Some c) (head_broken cs)

-- each check is followed by none that counts before it
abbrev pub InOrder : List Check → Type 0
InOrder [] = Unit {0}
InOrder (c ∷ cs) = AllByRecursion (λ d. before d c ≡ false) cs × InOrder cs

none_earlier : (c : Check) (cs : List Check) → AllByRecursion (λ d. before d c ≡ false) cs → earlier c (head_broken cs) ≡ c
none_earlier c [] h = refl
none_earlier c (d ∷ cs) h =
    let e = none_earlier c cs h.1 in
    elim (cases_Bool d.broken) [ inl b ↦ simp (b, h.0) | inr b ↦ simp b e ]

pub first_broken_in_order : (cs : List Check) → InOrder cs → first_broken cs ≡ head_broken cs
first_broken_in_order [] h = refl
first_broken_in_order (c ∷ cs) h = rw (first_broken_in_order cs h.1, none_earlier c cs h.0)

-- the order of checks
before_itself : (c : Check) → before c c ≡ false
before_itself c = grind (arith, nat_tests)

before_one_way : (c d : Check) → before c d ≡ true → before d c ≡ false
before_one_way c d h = grind (arith, nat_tests)

not_before : (a b c : Check) → before a b ≡ false → before b c ≡ false → before a c ≡ false
not_before a b c h k = grind (arith, nat_tests)

pub some_none : {X : Type 0} (x : X) → Some x ≡ None → ⊥
some_none x e = let z : ◌≡◌ {A = ℕ} 0 1 = cc in omega arith

-- what a list's first broken check is, where its first check is broken and where it is not
first_broken_lem : (c : Check) (cs : List Check) → c.broken ≡ true → first_broken (c ∷ cs) ≡ Some (earlier c (first_broken cs))
first_broken_lem c cs b = cond-true c.broken (Some (earlier c (first_broken cs))) (first_broken cs) b

first_whole : (c : Check) (cs : List Check) → c.broken ≡ false → first_broken (c ∷ cs) ≡ first_broken cs
first_whole c cs b = cond-false c.broken (Some (earlier c (first_broken cs))) (first_broken cs) b

no_broken : (cs : List Check) → first_broken cs ≡ None → Unbroken cs
no_broken [] e = tt
no_broken (c ∷ cs) e =
    elim (cases_Bool c.broken) [
      | inl b ↦ absurd (some_none _ (sym (first_broken_lem c cs b) ∙ e))
      | inr b ↦ (b, no_broken cs (sym (first_whole c cs b) ∙ e))
    ]

none_broken : (cs : List Check) → Unbroken cs → first_broken cs ≡ None
none_broken [] h = refl
none_broken (c ∷ cs) h = first_whole c cs h.0 ∙ none_broken cs h.1

-- c is the broken check that counts first
Least : List Check → Check → Type 0
Least cs c = ContainsAt cs c × (c.broken ≡ true) × AllByRecursion (λ d. d.broken ≡ true → before d c ≡ false) cs

has_more : (cs : List Check) (c d : Check) → ContainsAt cs c → ContainsAt (d ∷ cs) c
has_more cs c d h = (suc h.0, omega (arith, h.1), λ e. h.2 e)

least_at : (d : Check) (cs : List Check) (o : Option Check) → d.broken ≡ true → first_broken cs ≡ o →
    ((x : Check) → o ≡ Some x → Least cs x) → Least (d ∷ cs) (earlier d o)
unfolding Least
least_at d cs None b e more = (
  (0, omega arith, λ _. refl),
  b,
  ((λ _. before_itself d), All-weaker _ _ (λ x u t. absurd (both_ways x.broken u t)) cs (no_broken cs e)),
)
least_at d cs (Some x) b e more =
    let l = more x refl in
    elim (cases_Bool (before x d)) [
      | inl t ↦ subst (Least (d ∷ cs)) (sym (cond-true (before x d) x d t)) (has_more cs x d l.0, l.1, ((λ _. before_one_way x d t), l.2))
      | inr t ↦ subst (Least (d ∷ cs)) (sym (cond-false (before x d) x d t))
          ((0, omega arith, λ _. refl), b, ((λ _. before_itself d), All-weaker _ _ (λ y u v. not_before y x d (u v) t) cs l.2))
    ]

least : (cs : List Check) (c : Check) → first_broken cs ≡ Some c → Least cs c
unfolding Least
least [] c e = absurd (some_none c (sym e))
least (d ∷ cs) c e =
    elim (cases_Bool d.broken) [
      | inl b ↦ let k = first_broken_lem d cs b in let same : earlier d (first_broken cs) ≡ c = cc in
          subst (Least (d ∷ cs)) same (least_at d cs (first_broken cs) b refl (least cs))
      | inr b ↦ let l = least cs c (sym (first_whole d cs b) ∙ e) in
          (has_more cs c d l.0, l.1, ((λ t. absurd (both_ways d.broken b t)), l.2))
    ]

unmapped : (o : Option Check) → option_map (λ c. c.fault) o ≡ None → o ≡ None
unmapped None e = refl
unmapped (Some c) e = absurd (some_none c.fault e)

mapped_some : (o : Option Check) (f : Fault) → option_map (λ c. c.fault) o ≡ Some f → (c : Check) × (o ≡ Some c) × (c.fault ≡ f)
mapped_some None f e = absurd (some_none f (sym e))
mapped_some (Some c) f e = (c, refl, cc)

pub unbroken_from_none : (cs : List Check) → first_fault cs ≡ None → Unbroken cs
unfolding first_fault
unbroken_from_none cs e = no_broken cs (unmapped (first_broken cs) e)

pub none_from_unbroken : (cs : List Check) → Unbroken cs → first_fault cs ≡ None
unfolding first_fault
none_from_unbroken cs h = ap (option_map (λ c. c.fault)) (none_broken cs h)

pub earliest_from_some : (cs : List Check) (f : Fault) → first_fault cs ≡ Some f → Earliest cs f
unfolding first_fault Least
earliest_from_some cs f e =
    let (c, is, same) = mapped_some (first_broken cs) f e in
    let l = least cs c is in (c, l.0, l.1, same, l.2)

pub is_first : (cs : List Check) (o : Option Fault) → o ≡ first_fault cs → IsFirstFault cs o
is_first cs None e = unbroken_from_none cs (sym e)
is_first cs (Some f) e = earliest_from_some cs f (sym e)

-- a fault by its number
fault_of : ℕ → Fault
fault_of n =
    cond (eqb n 1) Malformed (cond (eqb n 2) OutOfRange (cond (eqb n 3) WrongSum (cond (eqb n 4) WrongSender NumberTooLarge)))

fault_of_number : (f : Fault) → fault_of (number_of f) ≡ f
unfolding fault_of
fault_of_number Malformed = refl
fault_of_number OutOfRange = refl
fault_of_number WrongSum = refl
fault_of_number WrongSender = refl
fault_of_number NumberTooLarge = refl

same_fault : (f g : Fault) → number_of f ≡ number_of g → f ≡ g
same_fault f g e = sym (fault_of_number f) ∙ ap fault_of e ∙ fault_of_number g

-- two checks of which neither counts before the other have one fault
pub tied_fault : (c d : Check) → before c d ≡ false → before d c ≡ false → c.fault ≡ d.fault
tied_fault c d h k = same_fault c.fault d.fault (grind (arith, nat_tests))

-- the relation has no other solution
pub some_from_earliest : (cs : List Check) (f : Fault) → Earliest cs f → first_fault cs ≡ Some f
some_from_earliest cs f h = go (first_fault cs) refl
  where
    go : (o : Option Fault) → first_fault cs ≡ o → o ≡ Some f
    go None e =
        absurd (both_ways _ (all-has _ cs h.0 (unbroken_from_none cs e) h.1) h.2)
    go (Some g) e =
        let k = earliest_from_some cs g e in
        let left = all-has _ cs h.0 k.4 h.1 h.2 in
        let right = all-has _ cs k.0 h.4 k.1 k.2 in
        ap Some (sym k.3 ∙ sym (tied_fault h.0 k.0 left right) ∙ h.3)

-- one broken check more, after a list whose first broken one, if any, it does not count before
pub first_with_last : (cs : List Check) (s : Check) → s.broken ≡ true →
    ((c : Check) → first_broken cs ≡ Some c → before s c ≡ false) →
    first_fault (cs ++ s ∷ []) ≡ Some (unwrap_or (first_fault cs) s.fault)
unfolding first_fault Least
first_with_last cs s b last = go (first_broken cs) refl
  where
    go : (o : Option Check) → first_broken cs ≡ o →
        first_fault (cs ++ s ∷ []) ≡ Some (unwrap_or (first_fault cs) s.fault)
    go None e =
        simp e (some_from_earliest (cs ++ s ∷ []) s.fault (
          s,
          has_push cs s,
          b,
          refl,
          All-append _ cs (s ∷ []) (All-weaker _ _ (λ d u t. absurd (both_ways d.broken u t)) cs (no_broken cs e)) ((λ _. before_itself s), tt),
        ))
    go (Some c) e =
        let l = least cs c e in
        simp e (some_from_earliest (cs ++ s ∷ []) c.fault
        (c, has_append_left cs (s ∷ []) c l.0, l.1, refl, All-append _ cs (s ∷ []) l.2 ((λ _. last c e), tt)))
