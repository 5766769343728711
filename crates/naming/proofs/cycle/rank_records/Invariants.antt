-- `naming::cycle::rank_records` meets its contract.
use Prim.Native.Nat.{ℕ, ◌≤◌, ◌<◌}
use lib.ListN.{length}
use Rattle.naming.specs.Naming.{transaction_at, candidate, Ranked}
use Rattle.naming.proofs.cycle.rank_records.Given as goal

abbrev pub invariant-loop-i : goal.invariant-loop-i
invariant-loop-i l =
    Ranked l.records l.work l.t l.i l.candidates l.lowest × ((j : ℕ) → l.i ≤ j → j < length l.records → l.low ≤ candidate l.work l.t (transaction_at l.records j))
