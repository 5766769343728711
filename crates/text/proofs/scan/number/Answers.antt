-- `scan::number`: a run of digits without a leading zero.
use Prim.Native.Nat.{◌+◌, ◌-◌, ◌*◌, ◌<◌}
use native.Mathlib.Omega.{arith}
use mathlib.Core.Path.{◌≡◌, sym, ap, ◌∙◌}
use lib.ListN.{length, get_or, drop, drop_of_length-le}
use borrow.Author.Tests.{eqb-true, eqb-false}
use Rattle.text.specs.Steps.{run_in}
use Rattle.text.proofs.Scans.{number-empty, number-led, number-run, run_on, run-bad, run-over, run_end}
use Rattle.text.proofs.scan.number.Goals.{else-word-gt1-via-then-word-gt1+else-word-eq48, else-word-gt1-via-else-word-gt1}
use Rattle.text.proofs.scan.number.Goals as goal

pub returns-then-is_empty : goal.returns-then-is_empty
returns-then-is_empty c =
    let none : length c.args.word.now ≡ 0 = eqb-true (length c.args.word.now) 0 (sym c.is_empty.ensures ∙ c.if-is_empty.true) in
    sym (number-empty c.args.limit c.args.word.now (omega arith))

pub returns-then-word-eq48 : goal.returns-then-word-eq48
returns-then-word-eq48 c = sym (number-led c.args.limit c.args.word.now (omega arith) (omega arith))

pub returns-then-not-is_ascii_digit : goal.returns-then-not-is_ascii_digit
returns-then-not-is_ascii_digit c =
    let a = c.args in
    let led : get_or a.word.now 0 0 ≡ 48 → length a.word.now < 2 = elim c.else-word-gt1.branch [
      | else-word-gt1-via-then-word-gt1+else-word-eq48 w ↦ λ z. absurd (w.if-word-eq48.false z)
      | else-word-gt1-via-else-word-gt1 w ↦ λ z. omega arith
    ] in
    sym (number-run a.limit a.word.now (omega arith) led ∙ c.loop-c.invariant.1 ∙ run-bad a.limit c.loop-c.value a.word.now c.loop-c.c-index (omega arith) (λ l h. omega (arith, c.if-not-is_ascii_digit.ensures.cases)))

pub returns-then-limit-value : goal.returns-then-limit-value
returns-then-limit-value c =
    let a = c.args in
    let led : get_or a.word.now 0 0 ≡ 48 → length a.word.now < 2 = elim c.else-word-gt1.branch [
      | else-word-gt1-via-then-word-gt1+else-word-eq48 w ↦ λ z. absurd (w.if-word-eq48.false z)
      | else-word-gt1-via-else-word-gt1 w ↦ λ z. omega arith
    ] in
    sym (number-run a.limit a.word.now (omega arith) led ∙ c.loop-c.invariant.1
    ∙ run_on a.limit c.loop-c.value a.word.now c.loop-c.c-index (omega arith) c.if-not-is_ascii_digit.ensures.cases.0 c.if-not-is_ascii_digit.ensures.cases.1
    ∙ run-over a.limit (10 * c.loop-c.value + (get_or a.word.now c.loop-c.c-index 0 - 48)) (drop (c.loop-c.c-index + 1) a.word.now) (omega arith))

pub loop-c-preserved : goal.loop-c-preserved
loop-c-preserved c =
    let a = c.args in
    (omega arith, c.loop-c.invariant.1 ∙ run_on a.limit c.loop-c.value a.word.now c.loop-c.c-index (omega arith) c.if-not-is_ascii_digit.ensures.cases.0 c.if-not-is_ascii_digit.ensures.cases.1)

pub returns : goal.returns
returns c =
    let a = c.args in
    let some = eqb-false (length a.word.now) 0 (sym c.is_empty.ensures ∙ c.if-is_empty.false) in
    let led : get_or a.word.now 0 0 ≡ 48 → length a.word.now < 2 = elim c.else-word-gt1.branch [
      | else-word-gt1-via-then-word-gt1+else-word-eq48 w ↦ λ z. absurd (w.if-word-eq48.false z)
      | else-word-gt1-via-else-word-gt1 w ↦ λ z. omega arith
    ] in
    sym (number-run a.limit a.word.now (omega (arith, some)) led ∙ c.loop-c.invariant.1
    ∙ ap (run_in a.limit c.loop-c.value) (drop_of_length-le a.word.now (omega arith)) ∙ run_end a.limit c.loop-c.value c.loop-c.invariant.0)
