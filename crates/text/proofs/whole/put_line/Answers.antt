-- `whole::put_line`: the line of a record, and nothing where there is none.
use native.Mathlib.Omega.{arith}
use mathlib.Core.Path.{sym, ap, ◌∙◌}
use lib.ListN.{length}
use Rattle.record.specs.Answers.{told}
use Rattle.record.specs.Record.{decoded}
use Rattle.text.specs.Line.{line_of}
use Rattle.text.proofs.Wholes.{line-fits, part-good, part-fits, part-empty}
use Rattle.text.proofs.whole.put_line.Goals as goal

pub returns-in-Ok : goal.returns-in-Ok
returns-in-Ok c =
    let a = c.args in
    let d = sym c.decode.ensures ∙ ap told c.in-Ok.is in
    let w = line-fits c.in-Ok.e a.out.now (omega (arith, c.requires, ap length (part-good line_of (decoded a.bytes.now) c.in-Ok.e d))) in
    part-fits line_of (decoded a.bytes.now) c.in-Ok.e c.write_line.result a.out.now _ d (c.write_line.ensures.0 ∙ w.0) (c.write_line.ensures.1 ∙ w.1)

pub returns-in-Err : goal.returns-in-Err
returns-in-Err c = part-empty line_of (decoded c.args.bytes.now) _ c.args.out.now (sym c.decode.ensures ∙ ap told c.in-Err.is)
