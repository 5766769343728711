-- `naming::cycle::Walk::lowest_from` meets its contract.
use Prim.Native.Nat.{suc, ◌≤◌}
use mathlib.Core.Path.{◌≡◌}
use Rattle.naming.proofs.Lowest.{lowest_after}
use Rattle.naming.proofs.cycle.Walk.lowest_from.Given as goal

abbrev pub invariant-loop-j : goal.invariant-loop-j
invariant-loop-j l =
    (l.lowest ≤ l.best) × (lowest_after l.self.records.now l.self.work.now l.self.t l.i l.j (suc l.lowest) ≡ lowest_after l.self.records.now l.self.work.now l.self.t l.i (suc l.i) (suc l.best))
