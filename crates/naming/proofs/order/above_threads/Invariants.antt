-- `naming::order::above_threads` meets its contract.
use Prim.Native.Nat.{◌≤◌}
use mathlib.Core.Path.{◌≡◌}
use lib.ListN.{get_or}
use Rattle.naming.specs.Naming as Naming
use Rattle.naming.proofs.order.above_threads.Given as goal

abbrev pub invariant-loop-a : goal.invariant-loop-a
invariant-loop-a l = (l.above ≤ 256) × (l.above ≡ Naming.above (λ b. get_or l.threads b 0) l.a)
