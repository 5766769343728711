-- `rows::join` meets its contract: after n turns the first n numbers are joined.
use mathlib.Core.Path.{◌≡◌}
use Rattle.rows.specs.Bits.{joined_to}
use Rattle.rows.proofs.join.Given as goal

abbrev pub invariant-loop-n : goal.invariant-loop-n
invariant-loop-n l = l.w ≡ joined_to l.n l.initial.w l.x l.y
