-- `naming::cycle::follow` meets its contract.
use Prim.Native.Nat.{◌<◌}
use mathlib.Core.Path.{◌≡◌}
use Rattle.graph.specs.Edges.{edges}
use Rattle.naming.proofs.Followed.{writes, places}
use Rattle.naming.proofs.cycle.follow.Given as goal

abbrev pub invariant-loop-written : goal.invariant-loop-written
invariant-loop-written l =
    (l.a < 512)
    × (writes l.n (edges l.records) l.work l.t l.written l.a l.order ≡ writes l.n (edges l.records) l.work l.t 0 l.t l.initial.order)
    × (places l.n (edges l.records) l.work l.t l.written l.a ≡ places l.n (edges l.records) l.work l.t 0 l.t)
