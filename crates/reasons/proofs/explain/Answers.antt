-- `reasons::explain` meets its contract: the checker's answer, then what makes each edge, from the records that the judgement left.
use native.Mathlib.Omega.{arith}
use Rattle.reasons.proofs.Asking.{Violates, judged-as, violated, lines-violation, lines_none}
use Rattle.reasons.proofs.explain.Goals.{In-Violation}
use Rattle.reasons.proofs.explain.Goals as goal

-- what the violation says, where its numbers are known
found : (c : In-Violation) →
    let a = c.args in
    Violates a.input.now a.out.now a.work.now c.judge_into-answer.new.records c.judge_into-answer.new.order c.in-Violation.«record» c.in-Violation.length
found c =
    let a = c.args in
    violated a.input.now a.out.now a.work.now c.judge_into-answer.result _ _ c.judge_into-answer.ensures.0 _ _ c.in-Violation.is _ _ _ _ c.judge_into-answer.ensures.1 c.judge_into-answer.ensures.2

pub overflow_add-records : goal.overflow_add-records
overflow_add-records c = omega (arith, (found (goal.at.overflow_add-records c).In-Violation).most)

pub slice_bounds-records-end : goal.slice_bounds-records-end
slice_bounds-records-end c = omega (arith, (found (goal.at.slice_bounds-records-end c).In-Violation).most)

pub slice_bounds-write_lines-end : goal.slice_bounds-write_lines-end
slice_bounds-write_lines-end c = (found (goal.at.slice_bounds-write_lines-end c).In-Violation).prefix-size

pub slice_bounds-order-end : goal.slice_bounds-order-end
slice_bounds-order-end c = (found (goal.at.slice_bounds-order-end c).In-Violation).room

pub slice_bounds-write_lines-end-in-Violation : goal.slice_bounds-write_lines-end-in-Violation
slice_bounds-write_lines-end-in-Violation c = (found (goal.at.slice_bounds-write_lines-end-in-Violation c).In-Violation).front

pub write_lines-requires : goal.write_lines-requires
write_lines-requires c =
    let v = found (goal.at.write_lines-requires c).In-Violation in
    (omega (arith, v.prefix-size), omega (arith, v.prefix-size, v.most), omega (arith, v.front, v.few))

pub returns-in-Violation : goal.returns-in-Violation
returns-in-Violation c =
    let a = c.args in
    let r = c.in-Violation.is in (
      judged-as a.input.now a.out.now a.work.now c.judge_into-answer.result _ _ c.judge_into-answer.ensures.0 _ r,
      lines-violation a.input.now a.out.now a.work.now c.judge_into-answer.result _ _ c.judge_into-answer.ensures.0 _ _ r _ _ _ _ c.judge_into-answer.ensures.1 c.judge_into-answer.ensures.2 a.lines.now _ c.write_lines.ensures,
    )

pub returns-in_default : goal.returns-in_default
returns-in_default c =
    let a = c.args in
    (c.judge_into-answer.ensures.0, lines_none a.input.now a.out.now a.work.now c.judge_into-answer.result _ _ c.judge_into-answer.ensures.0 c.in_default.not-Violation a.lines.now)
