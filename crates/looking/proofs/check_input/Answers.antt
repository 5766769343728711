-- `looking::check_input` meets its contract: at each `return` the tests that led there say which check is the first to fail.
use Prim.Native.Nat.{ℕ, ◌%◌}
use native.Mathlib.Omega.{arith}
use mathlib.Core.List.{List}
use lib.ListN.{length}
use borrow.Author.Tests.{eq-eqb, ne_eqb, le-leb, lt-leb}
use Rattle.record.specs.Faults.{first_fault}
use Rattle.looking.specs.Refusals.{input_checks}
use Rattle.looking.proofs.check_input.Goals as goal

pub returns-then-input-ne0 : goal.returns-then-input-ne0
unfolding first_fault input_checks
returns-then-input-ne0 c =
    let i : List ℕ = c.args.input.now in
    simp (ne_eqb (length i % 8) 0 c.if-input-ne0.true)

pub returns-then-input-gt8192 : goal.returns-then-input-gt8192
unfolding first_fault input_checks
returns-then-input-gt8192 c =
    let i : List ℕ = c.args.input.now in
    simp (eq-eqb (length i % 8) 0 (omega arith), lt-leb (length i) 8192 (omega arith))

pub returns : goal.returns
unfolding first_fault input_checks
returns c =
    let i : List ℕ = c.args.input.now in
    simp (eq-eqb (length i % 8) 0 (omega arith), le-leb (length i) 8192 (omega arith))
