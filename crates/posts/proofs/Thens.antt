-- What `then` of a `bool` gives. Assumes nothing.
use Rattle.std.proofs.Common.{◌≡◌, Bool, true, false, is_some, Some, None, Option, IfSome, MatchOption, refl}
use Rattle.std.proofs.lemmas.Bool.{false≢true, true≢false}

-- a fact for each case
pub then_cases : {A : Type 0} (b : Bool) (o : Option A) (P Q : A → Type 0) (R : Type 0) → is_some o ≡ b → IfSome o P → (b ≡ false → R) → (b ≡ true → (x : A) → P x → Q x) → MatchOption o R Q
then_cases true (Some x) P Q R e h n f = f refl x h
then_cases true None P Q R e h n f = absurd (false≢true e)
then_cases false (Some x) P Q R e h n f = absurd (true≢false e)
then_cases false None P Q R e h n f = n refl
