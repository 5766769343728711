-- `naming::order::Waiting::count_all` meets its contract.
use mathlib.Core.Path.{◌≡◌}
use lib.ListN.{length, get_or, replicate}
use Rattle.naming.specs.Naming.{Counts}
use Rattle.naming.proofs.order.Waiting.count_all.Given as goal

abbrev pub invariant-loop-t : goal.invariant-loop-t
invariant-loop-t l =
    (l.self.taken ≡ replicate 8 0) × (length l.self.nexts ≡ 256) × (length l.self.lefts ≡ 256) × Counts l.all.work.now (λ a. get_or l.all.threads a 0) l.all.n l.t (replicate 8 0) l.self.nexts l.self.lefts
