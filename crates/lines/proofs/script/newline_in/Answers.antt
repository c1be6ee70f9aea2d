-- The place that the search gives is the first one. Assumes nothing.
use Rattle.lines.proofs.ScriptLaws.{newline_place}
use Rattle.lines.proofs.script.newline_in.Goals as goal

pub returns-in_default : goal.returns-in_default
returns-in_default c = newline_place c.args.text.now c.memchr.result c.memchr.ensures
