-- The number that the reader gives is the one in the frame.
use Rattle.std.proofs.Common.{◌≡◌, false, None, unwrap_or, ap, ◌∙◌}
use Rattle.posts.specs.Rule.{heard_from}
use Rattle.posts.specs.Steps.{quiet, turn_set}
use Rattle.posts.specs.declared.act.Act.{Act}
use Rattle.posts.specs.declared.seat.Seat.{Seat}
use Rattle.posts.proofs.Hearing.{heard_frame}
use Rattle.posts.proofs.post.Post.hear.Goals as goal

quiet_is : (a : Act) → (a.speaks ≡ false) × ((a.moves ≡ false) × ((a.sends ≡ None) × (a.refuses ≡ None))) → a ≡ quiet
quiet_is a e = rw (e.0, e.1.0, e.1.1.0, e.1.1.1)

pub returns-in-Ok : goal.returns-in-Ok
returns-in-Ok c =
    let s = c.args.settings.now in
    let p = c.args.self in
    let read = c.in-Ok.ensures in
    let set : c.unwrap_or-ticks.result ≡ turn_set s p.place = c.unwrap_or-ticks.ensures ∙ ap (λ o. unwrap_or o 0) c.turn.ensures in
    let heard = c.hear-memory.ensures ∙ ap (λ (t : Seat). heard_from t.k t.place c.unwrap_or-ticks.result c.in-Ok.number p.memory) c.seat.ensures in
    let does = quiet_is _ c.default.ensures in
    let h = heard_frame s c.args.bytes.now p _ _ _ _ _ _ read.fault read.value.0 read.value.1 set heard does in
    record { value = h.value; refreshed = h.refreshed; again = h.again }
