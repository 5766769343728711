-- `checker::look` meets its contract: the sizes, then all records.
use mathlib.Core.Path.{sym}
use Rattle.checker.specs.Judged.{size_checks}
use Rattle.checker.proofs.Judging.{looked-sizes, looked_some, looked_ok}
use Rattle.checker.proofs.look.Goals as goal

pub returns-in_err-check_room : goal.returns-in_err-check_room
unfolding size_checks
returns-in_err-check_room c =
    let a = c.args in
    looked-sizes a.input.now a.out.now a.work.now a.records.now c.from_residual.result c.in_err-check_room.field-0.0 c.from_residual.ensures.1 c.in_err-check_room.ensures

pub returns-in-Some : goal.returns-in-Some
unfolding size_checks
returns-in-Some c =
    let a = c.args in
    looked_some a.input.now a.out.now a.work.now (sym c.in_ok-check_room.ensures) a.records.now c.look-looked.result _ c.look-looked.ensures c.in-Some.refusal c.in-Some.is

pub returns-in-None : goal.returns-in-None
unfolding size_checks
returns-in-None c =
    let a = c.args in
    looked_ok a.input.now a.out.now a.work.now (sym c.in_ok-check_room.ensures) a.records.now c.look-looked.result _ c.look-looked.ensures c.in-None.is
