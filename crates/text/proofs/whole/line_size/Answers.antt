-- `whole::line_size`: the size of the line that is made of the record.
use native.Mathlib.Omega.{arith}
use mathlib.Core.Path.{sym, ap, ◌∙◌}
use lib.ListN.{length}
use Rattle.record.specs.Answers.{told}
use Rattle.record.specs.Record.{decoded}
use Rattle.text.specs.Line.{line_of}
use Rattle.text.proofs.Wholes.{part-good, part_none}
use Rattle.text.proofs.whole.line_size.Goals as goal

pub returns-in-Ok : goal.returns-in-Ok
returns-in-Ok c = (
  c.len.ensures.size ∙ ap length (c.line_of.ensures ∙ sym (part-good line_of (decoded c.args.bytes.now) c.in-Ok.e (sym c.decode.ensures ∙ ap told c.in-Ok.is))),
  c.len.ensures.within,
)

pub returns-in-Err : goal.returns-in-Err
returns-in-Err c =
    (sym (ap length (part_none line_of (decoded c.args.bytes.now) _ (sym c.decode.ensures ∙ ap told c.in-Err.is))), omega arith)
