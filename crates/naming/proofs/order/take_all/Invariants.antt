-- `naming::order::take_all` meets its contract.
use mathlib.Core.Path.{◌≡◌}
use lib.ListN.{get_or, replicate}
use Rattle.naming.specs.Naming.{Counts}
use Rattle.naming.proofs.Taken.{writes, places}
use Rattle.naming.proofs.order.take_all.Given as goal

abbrev pub invariant-loop-i : goal.invariant-loop-i
invariant-loop-i l =
    Counts l.all.work.now (λ a. get_or l.all.threads a 0) l.all.n l.all.above l.waiting.taken l.waiting.nexts l.waiting.lefts
    × (writes l.all.work.now (λ a. get_or l.all.threads a 0) l.all.n l.all.above l.i l.waiting.taken l.order ≡ writes l.all.work.now (λ a. get_or l.all.threads a 0) l.all.n l.all.above 0 (replicate 8 0) l.initial.order)
    × (places l.all.work.now (λ a. get_or l.all.threads a 0) l.all.n l.all.above l.i l.waiting.taken ≡ places l.all.work.now (λ a. get_or l.all.threads a 0) l.all.n l.all.above 0 (replicate 8 0))
