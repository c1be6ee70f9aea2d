-- The three ways that a line is answered. Assumes nothing.
use Rattle.std.proofs.Common.{◌≡◌, ℕ, List, get_or, Some, None, Ok, Err, Option, Result, sym, ap, ◌∙◌, arith}
use Rattle.std.proofs.lemmas.Bool.{eq-eqb, ne_eqb}
use Rattle.lines.specs.declared.fault.Fault.{Fault}
use Rattle.frames.specs.declared.settings.Settings.{Settings}
use Rattle.lines.specs.Hex.{Line, line_checks}
use Rattle.posts.specs.declared.post.Post.{Post}
use Rattle.posts.specs.Steps.{after_frame, quiet}
use Rattle.post.specs.declared.reply.Reply.{Reply}
use Rattle.post.specs.declared.reply.Reply.TheVariants.{Acted}
use Rattle.lines.specs.declared.line.Ending.{Ending}
use Rattle.lines.specs.Checks.{first_fault}
use Rattle.frames.specs.FrameUnit.{frame_checks, frame_fields}
use Rattle.commands.specs.PostUnit.{post_order_checks, post_order_fields}
use Rattle.lines.specs.Units.{Field, Laid, unit_checks}
use Rattle.frames.proofs.FrameLaws.{frame_laid}
use Rattle.post.specs.Replies.{fields_of, line_fault, obeyed, brought_by}

pub refuses : (o : Settings) (p : Post) (l : Line) (f : Fault) → Some f ≡ line_fault o p l → ◌≡◌ {A = Result (Post × Reply) Fault} (Err f) (brought_by o p l)
unfolding brought_by
refuses o p l f e = rw (← e)

pub hears : (o : Settings) (p : Post) (l : Line) → None ≡ line_fault o p l → get_or l.bytes 0 0 ≡ 1 → ◌≡◌ {A = Result (Post × Reply) Fault} (Ok (after_frame o l.bytes p, Acted quiet)) (brought_by o p l)
unfolding brought_by
hears o p l e b = rw (← e, eq-eqb (get_or l.bytes 0 0) 1 b)

pub obeys : (o : Settings) (p : Post) (l : Line) → None ≡ line_fault o p l → (get_or l.bytes 0 0 ≡ 1 → ⊥) → Ok (obeyed o p (get_or l.bytes 2 0)) ≡ brought_by o p l
unfolding brought_by
obeys o p l e b = rw (← e, ne_eqb (get_or l.bytes 0 0) 1 b)

-- a frame, and an order, as the unit of a line
pub frame_fields_lem : (o : Settings) (p : Post) (bs : List ℕ) → get_or bs 0 0 ≡ 1 → fields_of o p bs ≡ frame_fields o.posts o.k p.place bs
frame_fields_lem o p bs e = rw (eq-eqb (get_or bs 0 0) 1 e)

pub order_fields_lem : (o : Settings) (p : Post) (bs : List ℕ) → (get_or bs 0 0 ≡ 1 → ⊥) → fields_of o p bs ≡ post_order_fields p.place
order_fields_lem o p bs d = rw (ne_eqb (get_or bs 0 0) 1 d)

pub order_laid : (place : ℕ) → Laid (post_order_fields place)
order_laid place = ((omega arith, (tt, tt)), ((omega arith, (tt, tt)), ((omega arith, (tt, tt)), tt)))

-- the fault of a line with a frame, and with an order, from what the reader and the line's ending say
abbrev pub SettlesAs : Ending → Option Fault → Option Fault → Type 0
SettlesAs e read settled = (bs : List ℕ) (fs : List Field) → Laid fs → read ≡ first_fault (unit_checks bs fs) → settled ≡ first_fault (line_checks record { bytes = bs; ending = e } fs)

pub frame_fault : (o : Settings) (p : Post) (bs : List ℕ) (e : Ending) (a b : Option Fault) → get_or bs 0 0 ≡ 1 → a ≡ first_fault (frame_checks o.posts o.k p.place bs) → SettlesAs e a b →
    b ≡ line_fault o p record { bytes = bs; ending = e }
unfolding frame_checks
frame_fault o p bs e a b q r s =
    s bs (frame_fields o.posts o.k p.place bs) (frame_laid o.posts o.k p.place bs) r ∙
    ap (λ fs. first_fault (line_checks record { bytes = bs; ending = e } fs)) (sym (frame_fields_lem o p bs q))

pub order_fault : (o : Settings) (p : Post) (bs : List ℕ) (e : Ending) (a b : Option Fault) → (get_or bs 0 0 ≡ 1 → ⊥) → a ≡ first_fault (post_order_checks p.place bs) → SettlesAs e a b →
    b ≡ line_fault o p record { bytes = bs; ending = e }
unfolding post_order_checks
order_fault o p bs e a b q r s =
    s bs (post_order_fields p.place) (order_laid p.place) r ∙
    ap (λ fs. first_fault (line_checks record { bytes = bs; ending = e } fs)) (sym (order_fields_lem o p bs q))
