-- `record::operation_of` meets its contract: each arm's number says which of the ten operations it is.
use Prim.Native.Nat.{ℕ, ◌+◌, ◌≤◌}
use native.Mathlib.Omega.{arith}
use mathlib.Core.Path.{sym}
use mathlib.Core.Logic.{◌≢◌}
use Rattle.record.specs.Record.{operation}
use Rattle.record.proofs.Laws.{operation-low, operation-high}
use Rattle.record.proofs.operation_of.Goals as goal

-- a number that is none of four in a row is past them
past-four : (n k : ℕ) → n ≤ k → k ≢ n → k ≢ n + 1 → k ≢ n + 2 → k ≢ n + 3 → n + 4 ≤ k
past-four n k h p q r s = omega arith

pub returns-in-2 : goal.returns-in-2
unfolding operation
returns-in-2 c = rw c.in-2.is

pub returns-in-3 : goal.returns-in-3
unfolding operation
returns-in-3 c = rw c.in-3.is

pub returns-in-4 : goal.returns-in-4
unfolding operation
returns-in-4 c = rw c.in-4.is

pub returns-in-5 : goal.returns-in-5
unfolding operation
returns-in-5 c = rw c.in-5.is

pub returns-in-6 : goal.returns-in-6
unfolding operation
returns-in-6 c = rw c.in-6.is

pub returns-in-7 : goal.returns-in-7
unfolding operation
returns-in-7 c = rw c.in-7.is

pub returns-in-8 : goal.returns-in-8
unfolding operation
returns-in-8 c = rw c.in-8.is

pub returns-in-9 : goal.returns-in-9
unfolding operation
returns-in-9 c = rw c.in-9.is

pub returns-in-0-to-1 : goal.returns-in-0-to-1
returns-in-0-to-1 c = let a = c.args in sym (operation-low a.kind a.target a.value (omega arith))

pub returns-in_default : goal.returns-in_default
returns-in_default c =
    let a = c.args in
    let ten : 10 ≤ a.kind = omega arith in
    sym (operation-high a.kind a.target a.value ten)
