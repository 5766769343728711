-- `looking::check_room` meets its contract: 1 and 2 as for any input, then at each `return` the tests that led there say which check fails.
use native.Mathlib.Omega.{arith}
use mathlib.Core.Path.{sym, ap, ◌∙◌}
use lib.ListN.{length}
use borrow.Author.Tests.{le-leb, lt-leb}
use Rattle.std.proofs.lemmas.Result.{err_from_is_err_and}
use Rattle.record.specs.declared.Fault.{Fault}
use Rattle.record.specs.Faults.{first_fault}
use Rattle.record.specs.Answers.{number, number_in}
use Rattle.record.proofs.Laws.{number-some}
use Rattle.looking.proofs.Refusing.{inputs-first, inputs-next}
use Rattle.looking.proofs.check_room.Goals as goal

pub returns-in_err-check_input : goal.returns-in_err-check_input
unfolding first_fault
returns-in_err-check_input c =
    let f : Fault = c.in_err-check_input.field-0.0 in
    let p = err_from_is_err_and c.from_residual.result c.from_residual.ensures.1 in
    ap number_in p.1 ∙ ap number p.2 ∙ inputs-first c.args.input.now _ (number f) c.in_err-check_input.ensures (number-some f)

pub returns-then-out-room : goal.returns-then-out-room
unfolding first_fault
returns-then-out-room c = let a = c.args in sym (inputs-next a.input.now _ (sym c.in_ok-check_input.ensures) ∙ simp (lt-leb a.room (length a.out.now) (omega arith)))

pub returns-then-work-lt4096 : goal.returns-then-work-lt4096
unfolding first_fault
returns-then-work-lt4096 c = let a = c.args in sym (inputs-next a.input.now _ (sym c.in_ok-check_input.ensures) ∙ simp (le-leb a.room (length a.out.now) (omega arith), lt-leb 4096 (length a.work.now) (omega arith)))

pub returns : goal.returns
unfolding first_fault
returns c = let a = c.args in sym (inputs-next a.input.now _ (sym c.in_ok-check_input.ensures) ∙ simp (le-leb a.room (length a.out.now) (omega arith), le-leb 4096 (length a.work.now) (omega arith)))
