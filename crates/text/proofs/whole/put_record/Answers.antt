-- `whole::put_record`: the record of a line that reads, and nothing for another.
use mathlib.Core.Path.{sym, ap, ◌∙◌}
use lib.ListN.{length}
use Rattle.record.specs.Answers.{told}
use Rattle.record.specs.Record.{encoded}
use Rattle.text.specs.Line.{line_read}
use Rattle.text.proofs.Wholes.{part-fits, part-empty, record-fits, record-room}
use Rattle.text.proofs.whole.put_record.Goals as goal

pub returns-in-Ok : goal.returns-in-Ok
returns-in-Ok c =
    let a = c.args in
    let d = sym c.read_line.ensures ∙ ap told c.in-Ok.is in
    let w = record-fits c.in-Ok.e a.out.now (record-room (line_read a.line.now) c.in-Ok.e (length a.out.now) d c.requires) in
    part-fits encoded (line_read a.line.now) c.in-Ok.e c.encode.result a.out.now _ d (c.encode.ensures.0 ∙ w.0) (c.encode.ensures.1 ∙ w.1)

pub returns-in-Err : goal.returns-in-Err
returns-in-Err c = part-empty encoded (line_read c.args.line.now) _ c.args.out.now (sym c.read_line.ensures ∙ ap told c.in-Err.is)
