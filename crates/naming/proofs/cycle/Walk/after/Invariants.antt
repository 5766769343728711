-- `naming::cycle::Walk::after` meets its contract.
use Prim.Native.Nat.{suc, ◌-◌, ◌≤◌, ◌<◌}
use mathlib.Core.Path.{◌≡◌}
use lib.ListN.{length}
use Rattle.naming.specs.Naming.{transaction_at}
use Rattle.naming.proofs.Lowest.{lowest_from}
use Rattle.naming.proofs.cycle.Walk.after.Given as goal

abbrev pub invariant-loop-i : goal.invariant-loop-i
invariant-loop-i l =
    (l.i < length l.self.records.now → transaction_at l.self.records.now l.i ≡ l.a) × (l.lowest ≤ 512)
    × (lowest_from l.self.records.now l.self.work.now l.self.t l.a l.i (suc l.lowest) ≡ lowest_from l.self.records.now l.self.work.now l.self.t l.a 0 513)

abbrev pub decreases-loop-i : goal.decreases-loop-i
decreases-loop-i l = length l.self.records.now - l.i
