-- `reasons::why` meets its contract: the checker's answer, then a search through the records that the judgement left.
use native.Mathlib.Omega.{arith}
use Rattle.reasons.proofs.Asking.{Violates, says-refused, says-cooperable, says_past, violated, says-because}
use Rattle.reasons.proofs.why.Goals.{In-Violation}
use Rattle.reasons.proofs.why.Goals as goal

-- what the violation says, where its numbers are known
found : (c : In-Violation) → let a = c.args in Violates a.input.now a.out.now a.work.now c.judge_into.new.records c.judge_into.new.order c.in-Violation.«record» c.in-Violation.length
found c =
    let a = c.args in
    violated a.input.now a.out.now a.work.now c.judge_into.result _ _ c.judge_into.ensures.0 _ _ c.in-Violation.is _ _ _ _ c.judge_into.ensures.1 c.judge_into.ensures.2

pub overflow_add-records : goal.overflow_add-records
overflow_add-records c = omega (arith, (found (goal.at.overflow_add-records c).In-Violation).most)

pub slice_bounds-records-end : goal.slice_bounds-records-end
slice_bounds-records-end c = omega (arith, (found (goal.at.slice_bounds-records-end c).In-Violation).most)

pub slice_bounds-cause_at-end : goal.slice_bounds-cause_at-end
slice_bounds-cause_at-end c = (found (goal.at.slice_bounds-cause_at-end c).In-Violation).prefix-size

pub slice_bounds-order-end : goal.slice_bounds-order-end
slice_bounds-order-end c = (found (goal.at.slice_bounds-order-end c).In-Violation).room

pub slice_bounds-cause_at-end-then-place-length : goal.slice_bounds-cause_at-end-then-place-length
slice_bounds-cause_at-end-then-place-length c = (found (goal.at.slice_bounds-cause_at-end-then-place-length c).In-Violation).front

pub cause_at-cause-requires : goal.cause_at-cause-requires
cause_at-cause-requires c =
    let v = found (goal.at.cause_at-cause-requires c).In-Violation in
    (omega (arith, v.prefix-size), omega (arith, v.prefix-size, v.most), omega (arith, v.front, c.if-place-length.true))

pub returns-in-Refused : goal.returns-in-Refused
returns-in-Refused c =
    let a = c.args in
    says-refused a.input.now a.out.now a.work.now c.judge_into.result _ _ c.judge_into.ensures.0 a.place c.in-Refused.refusal c.in-Refused.is

pub returns-in-Cooperable : goal.returns-in-Cooperable
returns-in-Cooperable c =
    let a = c.args in
    says-cooperable a.input.now a.out.now a.work.now c.judge_into.result _ _ c.judge_into.ensures.0 a.place _ _ c.in-Cooperable.is

pub returns-then-place-length : goal.returns-then-place-length
returns-then-place-length c =
    let a = c.args in
    says-because a.input.now a.out.now a.work.now c.judge_into.result _ _ c.judge_into.ensures.0 _ _ c.in-Violation.is _ _ _ _ c.judge_into.ensures.1 c.judge_into.ensures.2 a.place c.if-place-length.true c.cause_at-cause.result c.cause_at-cause.ensures

pub returns-else-place-length : goal.returns-else-place-length
returns-else-place-length c =
    let a = c.args in
    says_past a.input.now a.out.now a.work.now c.judge_into.result _ _ c.judge_into.ensures.0 _ _ c.in-Violation.is a.place c.if-place-length.false
