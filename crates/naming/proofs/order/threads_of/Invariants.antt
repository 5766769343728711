-- `naming::order::threads_of` meets its contract.
use mathlib.Core.Path.{◌≡◌}
use lib.ListN.{length}
use Rattle.naming.proofs.Picked.{Threads}
use Rattle.naming.proofs.order.threads_of.Given as goal

abbrev pub invariant-loop-i : goal.invariant-loop-i
invariant-loop-i l = (length l.threads ≡ 512) × Threads l.records l.i l.threads
