-- `checker::writing::write_chain` meets its contract: what is written and the rest of the chain make the whole.
use Prim.Native.Nat.{ℕ, ◌-◌, ◌≤◌}
use mathlib.Core.Path.{◌≡◌}
use lib.ListN.{length, drop}
use Rattle.record.specs.Record.{encoded}
use Rattle.lists.specs.Lists.{each}
use Rattle.graph.specs.Serial.{events_of}
use Rattle.checker.specs.Writing.{bytes_of}
use Rattle.naming.specs.Chains.{first_from}
use Rattle.checker.proofs.Written.{Left}
use Rattle.checker.proofs.writing.write_chain.Given as goal

abbrev pub invariant-loop-i : goal.invariant-loop-i
invariant-loop-i l =
    (j : ℕ) × (j ≤ 1024) × (l.i ≡ first_from l.records l.a j)
    × Left l.initial.out l.n (bytes_of l.records l.a) l.out l.end (each encoded (events_of (drop j l.records) l.a))

abbrev pub decreases-loop-i : goal.decreases-loop-i
decreases-loop-i l = length l.records - l.i
