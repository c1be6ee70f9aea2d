-- What a line of a script does, by what is read of it. Assumes nothing.
use Rattle.std.proofs.Common.{◌≡◌, ℕ, suc, ◌+◌, ◌<◌, true, false, List, [], ◌∷◌, ◌++◌, length, IfOk, Some, None, Ok, Err, Result, sym, refl, ap, ◌∙◌, subst, append_assoc, append-nil, add-zero, add-suc, arith}
use Rattle.std.proofs.lemmas.Bool.{cond-true, cond-false}
use Rattle.std.specs.Result.{result_err}
use Rattle.lines.specs.declared.fault.Fault.{Fault}
use Rattle.lines.specs.declared.fault.Fault.TheVariants.{Malformed}
use Rattle.lines.specs.declared.line.Ending.{Ending}
use Rattle.lines.specs.declared.line.Ending.TheVariants.{Whole, Damaged}
use Rattle.commands.specs.declared.order.Command.{Command}
use Rattle.commands.specs.declared.order.Order.{Order}
use Rattle.commands.specs.declared.order.Order.TheVariants.{Tick, Hear, Lose, Memory, Frame, ButtonDown, ButtonUp, Show}
use Rattle.frames.specs.declared.settings.Settings.{Settings}
use Rattle.lines.specs.Checks.{first_fault}
use Rattle.lines.specs.Hex.{Line, line_of, is_blank, settled, line_checks}
use Rattle.commands.specs.OrderUnit.{what_of, content_of, order_bytes, order_checks, order_fields}
use Rattle.commands.proofs.OrderLaws.{order_laid}
use Rattle.lines.specs.Units.{Field, Laid, unit_checks}
use Rattle.ring.specs.Machine.{Machine}
use Rattle.ring.specs.Plays.{Stage, refused, obeyed, answered, order_of, line_fault, stage_by, says_by, stage_of_line, says_of_line, line_stage, line_says, played, sayings}

pub line_is : (l : Line) (bs : List ℕ) (e : Ending) → bs ≡ l.bytes → e ≡ l.ending → record { bytes = bs; ending = e } ≡ l
line_is l bs e p q = ap (λ b. record { bytes = b; ending = e }) p ∙ ap (λ z. record { bytes = l.bytes; ending = z }) q

-- the order that its bytes stand for
order_back : (e : Order) → order_of (what_of e) (content_of e) ≡ e
order_back Tick = refl
order_back Hear = refl
order_back Lose = refl
order_back (Memory bs) = refl
order_back (Frame bs) = refl
order_back ButtonDown = refl
order_back ButtonUp = refl
order_back Show = refl

-- an answer that a damaged line would hide
not_hidden : {X : Type 0} (e : Ending) (a : Result X Fault) (x : X) → settled Malformed e a ≡ Ok x → a ≡ Ok x
not_hidden Whole a x q = q
not_hidden Damaged (Ok y) x q = cc
not_hidden Damaged (Err f) x q = cc

-- a line that holds this order to a post that is there
pub record Commands (o : Settings) (l : Line) (e : Command) : Type 0 where
  pub faultless : None ≡ line_fault o l
  pub written : order_bytes e ≡ l.bytes
  pub below : e.post < o.posts

-- what a reader of orders found on a line, and what it is settled to
module _ (o : Settings) (l : Line) (a r : Result Command Fault) (e : result_err a ≡ first_fault (order_checks o.posts l.bytes))
    (f : (bs : List ℕ) (fs : List Field) → Laid fs → result_err a ≡ first_fault (unit_checks bs fs) → result_err r ≡ first_fault (line_checks (record { bytes = bs; ending = l.ending }) fs)) where
  pub fault_found : result_err r ≡ line_fault o l
  unfolding order_checks line_fault
  fault_found = f l.bytes (order_fields o.posts l.bytes) (order_laid o.posts l.bytes) e

  pub order_found : r ≡ settled Malformed l.ending a → IfOk a (λ z. order_bytes z ≡ l.bytes) → IfOk a (λ z. z.post < o.posts) → (c : Command) → r ≡ Ok c → Commands o l c
  order_found s w b c q =
      let k = not_hidden l.ending a c (sym s ∙ q) in
      record {
        faultless = sym (ap result_err q) ∙ fault_found;
        written = subst (λ z. IfOk z (λ y. order_bytes y ≡ l.bytes)) k w;
        below = subst (λ z. IfOk z (λ y. y.post < o.posts)) k b;
      }

module _ (o : Settings) (l : Line) (x : Stage) (n : ℕ) where
  pub blank_stage : is_blank l ≡ true → stage_of_line o l x ≡ x
  unfolding stage_of_line
  blank_stage b = cond-true _ _ _ b

  pub blank_says : is_blank l ≡ true → says_of_line o n l x.machine ≡ []
  unfolding says_of_line
  blank_says b = cond-true _ _ _ b

  module _ (b : is_blank l ≡ false) where
    pub refused_stage : (f : Fault) → Some f ≡ line_fault o l → stage_of_line o l x ≡ x
    unfolding stage_of_line
    refused_stage f e = cond-false _ _ _ b ∙ ap (λ z. stage_by z o l.bytes x) (sym e)

    pub refused_says : (f : Fault) → Some f ≡ line_fault o l → says_of_line o n l x.machine ≡ refused n f ∷ []
    unfolding says_of_line
    refused_says f e = cond-false _ _ _ b ∙ ap (λ z. says_by z o n l.bytes x.machine) (sym e)

    module _ (c : Command) (e : None ≡ line_fault o l) (q : order_bytes c ≡ l.bytes) where
      pub order_stage : stage_of_line o l x ≡ obeyed o c.post c.order x
      unfolding stage_of_line
      order_stage =
          cond-false _ _ _ b ∙ (ap (λ z. stage_by z o l.bytes x) (sym e) ∙
          (ap (λ bs. stage_by None o bs x) (sym q) ∙ ap (λ z. obeyed o c.post z x) (order_back c.order)))

      pub order_says : says_of_line o n l x.machine ≡ answered o c.post c.order x.machine
      unfolding says_of_line
      order_says =
          cond-false _ _ _ b ∙ (ap (λ z. says_by z o n l.bytes x.machine) (sym e) ∙
          (ap (λ bs. says_by None o n bs x.machine) (sym q) ∙ ap (λ z. answered o c.post z x.machine) (order_back c.order)))

-- a line of a script is what is read of it
pub stage_read : (o : Settings) (text : List ℕ) (x : Stage) → stage_of_line o (line_of text) x ≡ line_stage o text x
unfolding line_stage
stage_read o text x = refl

pub says_read : (o : Settings) (n : ℕ) (text : List ℕ) (m : Machine) → says_of_line o n (line_of text) m ≡ line_says o n text m
unfolding line_says
says_read o n text m = refl

-- one line more
pub played_more : (o : Settings) (done : List (List ℕ)) (l : List ℕ) (x : Stage) → played o (done ++ l ∷ []) x ≡ line_stage o l (played o done x)
unfolding played
played_more o [] l x = refl
played_more o (d ∷ ds) l x = played_more o ds l (line_stage o d x)

pub sayings_more : (o : Settings) (n : ℕ) (done : List (List ℕ)) (l : List ℕ) (x : Stage) →
    sayings o n (done ++ l ∷ []) x ≡ sayings o n done x ++ line_says o (suc (n + length done)) l (played o done x).machine
unfolding played sayings
sayings_more o n [] l x = ap (λ k. line_says o (suc k) l x.machine ++ []) (sym (add-zero n)) ∙ append-nil (line_says o (suc (n + 0)) l x.machine)
sayings_more o n (d ∷ ds) l x =
    let k = add-suc n (length ds) in
    ap (λ z. line_says o (suc n) d x.machine ++ z) (sayings_more o (suc n) ds l (line_stage o d x)) ∙
    (sym (append_assoc (line_says o (suc n) d x.machine) (sayings o (suc n) ds (line_stage o d x)) (line_says o (suc (suc n + length ds)) l (played o ds (line_stage o d x)).machine)) ∙
    ap (λ z. (line_says o (suc n) d x.machine ++ sayings o (suc n) ds (line_stage o d x)) ++ line_says o (suc z) l (played o ds (line_stage o d x)).machine) (omega arith))
