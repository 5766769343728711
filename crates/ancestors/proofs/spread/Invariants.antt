-- `ancestors::spread` meets its contract: after d turns the first d rows are seen to.
use mathlib.Core.Path.{◌≡◌}
use Rattle.ancestors.specs.Sources.{spread_to}
use Rattle.ancestors.proofs.spread.Given as goal

abbrev pub invariant-loop-d : goal.invariant-loop-d
invariant-loop-d l = l.work ≡ spread_to l.d l.initial.work l.a
