-- `naming::cycle::Walk::meets` meets its contract.
use Prim.Native.Nat.{ℕ, ◌-◌, ◌<◌}
use mathlib.Core.Path.{◌≡◌}
use mathlib.Core.Bool.{false}
use lib.ListN.{length}
use Rattle.naming.specs.Naming.{transaction_at}
use Rattle.naming.proofs.Lowest.{meets_at}
use Rattle.naming.proofs.cycle.Walk.meets.Given as goal

abbrev pub invariant-loop-j : goal.invariant-loop-j
invariant-loop-j l =
    (l.j < length l.self.records.now → transaction_at l.self.records.now l.j ≡ l.self.t)
    × ((k : ℕ) → l.i < k → k < l.j → k < length l.self.records.now → meets_at l.self.records.now l.self.t l.i k ≡ false)

abbrev pub decreases-loop-j : goal.decreases-loop-j
decreases-loop-j l = length l.self.records.now - l.j
