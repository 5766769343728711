-- `rows::begin` meets its contract: after a turns the first a bits of the diagonal are set.
use mathlib.Core.Path.{◌≡◌}
use Rattle.rows.specs.Bits.{diagonal_to}
use Rattle.rows.proofs.begin.Given as goal

abbrev pub invariant-loop-a : goal.invariant-loop-a
invariant-loop-a l = l.w ≡ diagonal_to l.a l.initial.w
