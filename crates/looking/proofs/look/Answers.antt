-- `looking::look` meets its contract: 1 and 2, or all records.
use mathlib.Core.Path.{sym}
use Rattle.record.specs.Answers.{number}
use Rattle.record.proofs.Laws.{number-some}
use Rattle.looking.proofs.Scanned.{looked-unfit}
use Rattle.looking.proofs.look.Goals as goal

pub returns-in-Err : goal.returns-in-Err
returns-in-Err c = rw c.from.ensures (looked-unfit c.args.input.now c.args.records.now (number c.in-Err.fault) (sym c.in-Err.ensures) (number-some c.in-Err.fault))
