-- `picture::check_sizes` meets its contract: 1 and 2 as for any input, then at each `return` the tests that led there say which check fails.
use native.Mathlib.Omega.{arith}
use mathlib.Core.Path.{◌≡◌, sym, ap, ◌∙◌}
use lib.ListN.{length}
use borrow.Author.Tests.{le-leb, lt-leb}
use Rattle.std.specs.Prelude.{Result, Ok, Err}
use Rattle.std.specs.Result.{IsErrAnd}
use Rattle.record.specs.declared.Fault.{Fault}
use Rattle.record.specs.Faults.{first_fault}
use Rattle.record.specs.Answers.{number, number_in}
use Rattle.record.proofs.Laws.{number-some}
use Rattle.looking.proofs.Refusing.{inputs-first, inputs-next}
use Rattle.picture.specs.Drawn.{size_checks}
use Rattle.picture.proofs.check_sizes.Goals as goal

same-number : (r : Result Unit Fault) (f : Fault) → IsErrAnd r (λ e. e ≡ f) → number_in r ≡ number f
same-number (Ok x) f h = absurd h
same-number (Err e) f h = ap number h

pub returns-in_err-check_input : goal.returns-in_err-check_input
unfolding first_fault size_checks
returns-in_err-check_input c =
    let a = c.args in
    let f : Fault = c.in_err-check_input.field-0.0 in
    same-number c.from_residual.result f c.from_residual.ensures.1 ∙ inputs-first a.input.now _ (number f) c.in_err-check_input.ensures (number-some f)

pub returns-then-work-lt4096 : goal.returns-then-work-lt4096
unfolding first_fault size_checks
returns-then-work-lt4096 c =
    let a = c.args in
    sym (inputs-next a.input.now _ (sym c.in_ok-check_input.ensures) ∙ simp (lt-leb 4096 (length a.work.now) (omega arith)))

pub returns : goal.returns
unfolding first_fault size_checks
returns c =
    let a = c.args in
    sym (inputs-next a.input.now _ (sym c.in_ok-check_input.ensures) ∙ simp (le-leb 4096 (length a.work.now) (omega arith)))
