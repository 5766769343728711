-- `proposal::report` meets its contract: the sizes, then all records, then the walk, then what is written.
use mathlib.Core.Path.{◌≡◌, refl, sym, ap, ◌∙◌}
use lib.ListN.{length}
use Rattle.std.proofs.Common.{Err}
use Rattle.std.proofs.lemmas.Result.{err_from_is_err_and}
use Rattle.record.specs.Answers.{number, refusal_of}
use Rattle.record.proofs.Laws.{number-some}
use Rattle.looking.specs.Refusals.{no_refusal}
use Rattle.proposal.specs.Proposed.{size_checks, numbers}
use Rattle.proposal.proofs.Proposing.{ends-as, refused-sizes, refused-record, walk-ready, refused-room, out-fits, proposed-whole}
use Rattle.proposal.proofs.report.Goals as goal

pub returns-in_err-check_room : goal.returns-in_err-check_room
unfolding size_checks
returns-in_err-check_room c =
    let a = c.args in
    let f = c.in_err-check_room.field-0.0 in
    let p = err_from_is_err_and c.from_residual.result c.from_residual.ensures.1 in
    ends-as a.input.now a.out.now a.work.now a.lines.now _ _ _ _ _ (ap numbers p.1 ∙ ap (λ r. numbers (Err r)) p.2)
    (refused-sizes a.input.now a.out.now a.work.now a.lines.now (number f) c.in_err-check_room.ensures (number-some f))

pub returns-in-Some : goal.returns-in-Some
unfolding size_checks
returns-in-Some c =
    let a = c.args in
    let r = c.in-Some.refusal in
    refused-record a.input.now a.out.now a.work.now a.lines.now (sym c.in_ok-check_room.ensures) (refusal_of r) c.in-Some.ensures (number-some r.fault)

pub walk-walked-requires : goal.walk-walked-requires
unfolding size_checks
walk-walked-requires c =
    let a = c.args in
    walk-ready a.input.now a.out.now a.work.now a.lines.now (sym c.in_ok-check_room.ensures) no_refusal c.in_default.ensures refl

pub returns-in_err-walked : goal.returns-in_err-walked
unfolding size_checks
returns-in_err-walked c =
    let a = c.args in
    let r = c.in_err-walked.field-0.0 in
    let p = err_from_is_err_and c.from_residual-in_err-walked.result c.from_residual-in_err-walked.ensures.1 in
    let size : length c.walk-walked.new.work ≡ length a.work.now = c.walk-walked.auto.work in
    ends-as a.input.now a.out.now a.work.now a.lines.now _ _ _ _ _ (ap numbers p.1 ∙ ap (λ r. numbers (Err r)) p.2)
    (refused-room a.input.now a.out.now a.work.now a.lines.now (sym c.in_ok-check_room.ensures) no_refusal c.in_default.ensures refl
    c.walk-walked.new.marks c.walk-walked.new.work _ (refusal_of r) c.in_err-walked.ensures size c.clear.ensures (number-some r.fault))

pub write_records-bytes-requires : goal.write_records-bytes-requires
unfolding size_checks
write_records-bytes-requires c =
    let a = c.args in
    let size : length c.walk-walked.new.work ≡ length a.work.now = c.walk-walked.auto.work in (
      (walk-ready a.input.now a.out.now a.work.now a.lines.now (sym c.in_ok-check_room.ensures) no_refusal c.in_default.ensures refl).0,
      out-fits a.input.now a.out.now a.work.now a.lines.now (sym c.in_ok-check_room.ensures) no_refusal c.in_default.ensures refl
          c.walk-walked.new.marks c.walk-walked.new.work _ no_refusal c.in_ok-walked.ensures size c.clear.ensures refl,
    )

pub write_lines-yields-requires : goal.write_lines-yields-requires
unfolding size_checks
write_lines-yields-requires c =
    let a = c.args in
    (walk-ready a.input.now a.out.now a.work.now a.lines.now (sym c.in_ok-check_room.ensures) no_refusal c.in_default.ensures refl).0

pub returns : goal.returns
unfolding size_checks
returns c =
    let a = c.args in
    let size : length c.walk-walked.new.work ≡ length a.work.now = c.walk-walked.auto.work in
    let records = c.write_records-bytes.ensures in
    let lines = c.write_lines-yields.ensures in
    proposed-whole a.input.now a.out.now a.work.now a.lines.now (sym c.in_ok-check_room.ensures) no_refusal c.in_default.ensures refl
    c.walk-walked.new.marks c.walk-walked.new.work _ no_refusal c.in_ok-walked.ensures size c.clear.ensures refl _ _ _ _ records.0 records.1 lines.0 lines.1
