-- What a post does with a line that comes to it: a frame is heard, an order to it is obeyed, anything else is refused. Assumes nothing.
use Rattle.std.specs.Prelude.{ℕ, true, false, cond, List, Some, None, Ok, Err, Option, Result, ◌==◌, slice_index}
use Rattle.lines.specs.declared.fault.Fault.{Fault}
use Rattle.frames.specs.declared.settings.Settings.{Settings}
use Rattle.lines.specs.Checks.{first_fault}
use Rattle.frames.specs.FrameUnit.{frame_fields}
use Rattle.lines.specs.Hex.{Line, line_checks}
use Rattle.commands.specs.PostUnit.{post_order_fields}
use Rattle.lines.specs.Units.{Field}
use Rattle.posts.specs.declared.post.Post.{Post}
use Rattle.posts.specs.CountsText.{counts_of}
use Rattle.posts.specs.Steps.{tick_step, after_frame, quiet, with_button}
use Rattle.post.specs.declared.reply.Reply.{Reply}
use Rattle.post.specs.declared.reply.Reply.TheVariants.{Acted, Shown}

-- the fields of the unit on a line, by its first byte: a frame, else an order
abbrev pub fields_of : Settings → Post → List ℕ → List Field
fields_of o p bs = cond (slice_index bs 0 == 1) (frame_fields o.posts o.k p.place bs) (post_order_fields p.place)

abbrev pub line_fault : Settings → Post → Line → Option Fault
line_fault o p l = first_fault (line_checks l (fields_of o p l.bytes))

-- an order to a post, by its number: a tick, the button down, the button up, and else a show
abbrev pub obeyed : Settings → Post → ℕ → Post × Reply
obeyed o p what =
    cond (what == 1) ((tick_step o p).0, Acted (tick_step o p).1)
    (cond (what == 6) (with_button true p, Acted quiet)
    (cond (what == 7) (with_button false p, Acted quiet) (p, Shown (counts_of p))))

-- a line that has a fault is refused for it, and nothing is done
abbrev pub unless_refused : Option Fault → Post × Reply → Result (Post × Reply) Fault
unless_refused (Some f) done = Err f
unless_refused None done = Ok done

-- what a line brings, the post after it and what it answers, or else its fault: a frame is heard, an order obeyed, anything else is refused for its first fault
unfoldable pub brought_by : Settings → Post → Line → Result (Post × Reply) Fault
brought_by o p l =
    unless_refused (line_fault o p l)
    (cond (slice_index l.bytes 0 == 1) (after_frame o l.bytes p, Acted quiet) (obeyed o p (slice_index l.bytes 2)))

-- what is brought to post p: where that is a fault, p is left as it was
abbrev pub left_to : Post → Result (Post × Reply) Fault → Post × Result Reply Fault
left_to p (Ok done) = (done.0, Ok done.1)
left_to p (Err f) = (p, Err f)

-- the post after a line, and what it answers or why it refuses it
abbrev pub reply_to : Settings → Post → Line → Post × Result Reply Fault
reply_to o p l = left_to p (brought_by o p l)
