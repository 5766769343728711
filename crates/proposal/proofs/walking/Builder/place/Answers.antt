-- `proposal::walking::Builder::place` meets its contract: there is no room, or there is and the event is put.
use mathlib.Core.Path.{refl, ap, ◌∙◌}
use Rattle.std.proofs.lemmas.Result.{err_from_is_err_and}
use Rattle.std.proofs.Common.{Err}
use Rattle.record.specs.Answers.{number}
use Rattle.record.proofs.Laws.{number-some}
use Rattle.proposal.specs.Keeping.{kept_of, marked_as, step_as}
use Rattle.proposal.proofs.Putting.{step-stop, step-put, step-full}
use Rattle.proposal.proofs.walking.Builder.place.Goals as goal

pub returns-in_err-mark-clause-steps : goal.returns-in_err-mark-clause-steps
returns-in_err-mark-clause-steps c =
    let p = err_from_is_err_and c.from_residual.result c.from_residual.ensures.1 in
    let k = kept_of c.make_room.new.self in
    ap (λ r. step_as (marked_as r) k) p.1 ∙ ap (λ f. step_as (Err (number f)) k) p.2
    ∙ step-stop _ _ _ _ c.in_err-mark.ensures.readies (number c.in_err-mark.field-0.0) refl

pub returns-in_err-put-clause-steps : goal.returns-in_err-put-clause-steps
returns-in_err-put-clause-steps c =
    let p = err_from_is_err_and c.from_residual-in_err-put.result c.from_residual-in_err-put.ensures.1 in
    let f = c.in_err-put.field-0.0 in
    let k = kept_of c.put.new.self in
    ap (λ r. step_as (marked_as r) k) p.1 ∙ ap (λ f. step_as (Err (number f)) k) p.2
    ∙ step-full _ _ _ _ c.in_ok-mark.ensures.readies _ _ (number f) refl c.in_err-put.ensures.puts.0 (number-some f) c.in_err-put.ensures.puts.1

pub returns-clause-steps : goal.returns-clause-steps
returns-clause-steps c = step-put _ _ _ _ c.in_ok-mark.ensures.readies _ _ refl c.in_ok-put.ensures.puts.0 c.in_ok-put.ensures.puts.1
