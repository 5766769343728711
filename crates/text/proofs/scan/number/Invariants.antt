-- `scan::number`: the digits so far are worth `value`, which is within the limit.
use Prim.Native.Nat.{◌≤◌}
use mathlib.Core.Path.{◌≡◌}
use lib.ListN.{drop}
use Rattle.text.specs.Steps.{run_in}
use Rattle.text.proofs.scan.number.Given as goal

abbrev pub invariant-loop-c : goal.invariant-loop-c
invariant-loop-c l = (l.value ≤ l.limit) × (run_in l.limit 0 l.word ≡ run_in l.limit l.value (drop l.c-index l.word))
