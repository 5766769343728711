-- `checker::report` meets its contract: judging, then a line for each transaction that the answer names.
use native.Mathlib.Omega.{arith}
use mathlib.Core.Path.{◌≡◌, sym, ◌∙◌}
use mathlib.Core.List.{List}
use lib.ListN.{length, replicate}
use Rattle.record.specs.declared.Event.{Event}
use Rattle.graph.specs.Violation.{shortest}
use Rattle.graph.specs.Named.{named}
use Rattle.looking.specs.Refusals.{events}
use Rattle.looking.specs.Looked.{looked}
use Rattle.looking.proofs.Laws.{Noted}
use Rattle.checker.specs.Judged.{refusal}
use Rattle.checker.proofs.Demand3.{passed}
use Rattle.checker.proofs.Reporting.{told_none, told-some, named_count, left-noted, left-long, left-size, noted-size, noted-front, reported-some}
use Rattle.checker.proofs.report.Goals.{Then-named-gt0}
use Rattle.checker.proofs.report.Goals as goal

-- the recording isn't refused
fine : (c : Then-named-gt0) →
    let a = c.args in
    (refusal a.input.now a.out.now a.work.now).number ≡ 0
fine c =
    let a = c.args in
    told-some a.input.now a.out.now a.work.now c.judge_into-answer.result _ _ c.judge_into-answer.ensures.0 (λ z. omega (arith, c.if-named-gt0.true, c.named-named.ensures ∙ z))

-- as many are named
count : (c : Then-named-gt0) →
    let es : List Event = events c.args.input.now in
    c.named-named.result ≡ length (named es (shortest es))
count c =
    let a = c.args in
    c.named-named.ensures ∙ named_count a.input.now a.out.now a.work.now (fine c) c.judge_into-answer.result _ _ c.judge_into-answer.ensures.0

-- and the array holds it
noted : (c : Then-named-gt0) → Noted c.args.input.now c.judge_into-answer.new.records (looked c.args.input.now (replicate 1024 c.unseen-records.result)).transactions
noted c =
    let a = c.args in
    left-noted a.input.now a.out.now a.work.now (fine c) _ _ c.judge_into-answer.ensures.1

pub slice_bounds-records-end : goal.slice_bounds-records-end
slice_bounds-records-end c =
    let a = c.args in
    omega (arith, (passed a.input.now a.out.now a.work.now (fine c)).most, c.type_inv.records)

pub slice_bounds-write_lines-end : goal.slice_bounds-write_lines-end
slice_bounds-write_lines-end c =
    let a = c.args in
    let w = (goal.at.slice_bounds-write_lines-end c).Then-named-gt0 in
    noted-size a.input.now a.out.now a.work.now (fine w) _ _ (noted w)

pub slice_bounds-order-end : goal.slice_bounds-order-end
slice_bounds-order-end c =
    let a = c.args in
    let w = (goal.at.slice_bounds-order-end c).Then-named-gt0 in
    omega (arith, count w, left-long a.input.now a.out.now a.work.now (fine w) _ _ c.judge_into-answer.ensures.2)

pub slice_bounds-write_lines-end-then-named-gt0 : goal.slice_bounds-write_lines-end-then-named-gt0
slice_bounds-write_lines-end-then-named-gt0 c =
    let a = c.args in
    let w = (goal.at.slice_bounds-write_lines-end-then-named-gt0 c).Then-named-gt0 in
    left-size a.input.now a.out.now a.work.now (fine w) _ _ c.judge_into-answer.ensures.2 _ (count w)

pub write_lines-requires-clause-few : goal.write_lines-requires-clause-few
write_lines-requires-clause-few c =
    let a = c.args in
    let w = (goal.at.write_lines-requires-clause-few c).Then-named-gt0 in
    noted-front a.input.now a.out.now a.work.now (fine w) _ _ (noted w)

pub returns-then-named-gt0 : goal.returns-then-named-gt0
returns-then-named-gt0 c =
    let a = c.args in
    let w = (goal.at.returns-then-named-gt0 c).Then-named-gt0 in
    (c.judge_into-answer.ensures.0, reported-some a.input.now a.out.now a.work.now (fine w) _ _ (noted w) _ _ c.judge_into-answer.ensures.2 _ (count w) a.lines.now _ c.write_lines.ensures)

pub returns-else-named-gt0 : goal.returns-else-named-gt0
returns-else-named-gt0 c =
    let a = c.args in
    let none = sym c.named-named.ensures ∙ omega (arith, c.if-named-gt0.false) in
    (c.judge_into-answer.ensures.0, told_none a.input.now a.out.now a.work.now c.judge_into-answer.result _ _ c.judge_into-answer.ensures.0 none a.lines.now)
