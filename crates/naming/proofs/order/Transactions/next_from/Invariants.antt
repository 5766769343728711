-- `naming::order::Transactions::next_from` meets its contract.
use Prim.Native.Nat.{◌-◌}
use mathlib.Core.Path.{◌≡◌}
use lib.ListN.{get_or}
use Rattle.lists.specs.Lists.{first_of, from}
use Rattle.naming.specs.Naming.{next_from}
use Rattle.naming.proofs.Picked.{waits}
use Rattle.naming.proofs.order.Transactions.next_from.Given as goal

abbrev pub invariant-loop-b : goal.invariant-loop-b
invariant-loop-b l =
    next_from (λ d. get_or l.self.threads d 0) l.self.n l.taken l.t l.a ≡ first_of (waits (λ d. get_or l.self.threads d 0) l.self.n l.taken l.t) l.self.n (from l.b (l.self.n - l.b))
