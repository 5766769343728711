-- `looking::seeing::Run::see` meets its contract: each way through says which check is the first to fail, or that none does.
use mathlib.Core.Path.{refl, sym, ◌∙◌}
use Rattle.looking.proofs.Seen.{seen-err, no-number, saw-form, saw-event, saw-full, saw-sound}
use Rattle.looking.proofs.seeing.Run.see.Goals as goal

pub returns-in-Err : goal.returns-in-Err
returns-in-Err c = saw-form c.args.self.now c.args.bytes.now c.requires _ _ (sym c.in-Err.ensures) refl

pub returns-in_err-step : goal.returns-in_err-step
returns-in_err-step c =
    rw (seen-err c.from_residual.result c.in_err-step.field-0.0 c.from_residual.ensures.1)
    (saw-event c.args.self.now c.args.bytes.now c.requires _ c.in-Ok.event c.in_err-step.field-0.0 (sym c.in-Ok.ensures) c.in_err-step.ensures.0 refl)

pub returns-in_err-transaction : goal.returns-in_err-transaction
returns-in_err-transaction c =
    let n = no-number c.number.result c.in_err-transaction.field-0.0 c.in_err-transaction.ensures.value in
    rw (seen-err c.from_residual-in_err-transaction.result c.in_err-transaction.field-0.0 c.from_residual-in_err-transaction.ensures.1, n.1)
    (saw-full c.args.self.now c.args.bytes.now c.requires _ c.in-Ok.event (sym c.in-Ok.ensures) (sym c.in_ok-step.ensures.0) (sym c.number.ensures.0 ∙ n.0) c.number.ensures.1)

pub returns : goal.returns
returns c =
    saw-sound c.args.self.now c.args.bytes.now c.requires _ _ c.in-Ok.event c.in_ok-transaction.transaction (sym c.in-Ok.ensures) (sym c.in_ok-step.ensures.0) c.in_ok-step.ensures.1
    (sym c.number.ensures.0 ∙ c.in_ok-transaction.ensures.ok_part) c.number.ensures.1
