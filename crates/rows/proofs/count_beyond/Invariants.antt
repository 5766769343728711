-- `rows::count_beyond` meets its contract: after k turns the bits of the first k numbers are counted.
use mathlib.Core.Path.{◌≡◌}
use Rattle.rows.specs.Bits.{beyond_to}
use Rattle.rows.proofs.count_beyond.Given as goal

abbrev pub invariant-loop-k : goal.invariant-loop-k
invariant-loop-k l = l.count ≡ beyond_to l.k l.w l.a l.v l.b
