-- `naming::order::lower` meets its contract.
use Prim.Native.Nat.{◌-◌}
use mathlib.Core.Bool.{cond}
use lib.ListN.{get_or}
use Rattle.rows.specs.Bits.{has}
use Rattle.naming.proofs.Picked.{Rewritten}
use Rattle.naming.proofs.order.lower.Given as goal

abbrev pub invariant-loop-t : goal.invariant-loop-t
invariant-loop-t l =
    Rewritten (λ u. get_or l.initial.lefts u 0 - cond (has l.work (get_or l.nexts u 0) l.c) 1 0) l.initial.lefts l.t l.lefts
