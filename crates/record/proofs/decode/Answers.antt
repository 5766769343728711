-- `record::decode` meets its contract: the fault found, or the event.
use Rattle.std.proofs.Common.{◌≡◌, ◌≢◌, ℕ, List, sym, ap, ◌∙◌, Ok, Err}
use Rattle.record.specs.declared.Fault.{Fault}
use Rattle.record.specs.Answers.{number}
use Rattle.record.proofs.Laws.{decoded-passed, decoded-number, passed-on, number-some}
use Rattle.record.proofs.decode.Goals as goal

pub returns-in_err-check : goal.returns-in_err-check
returns-in_err-check c =
    let f : Fault = c.in_err-check.field-0.0 in
    passed-on c.from_residual.result f c.from_residual.ensures.1
    ∙ sym (decoded-number c.args.src.now (number f) (sym c.in_err-check.ensures) (number-some f))

pub returns : goal.returns
returns c = ap Ok c.event_of.ensures ∙ sym (decoded-passed c.args.src.now (sym c.in_ok-check.ensures))
