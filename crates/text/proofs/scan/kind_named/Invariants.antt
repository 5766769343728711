-- `scan::kind_named`: the word is no name of a kind below `kind`.
use Prim.Native.Nat.{◌-◌}
use mathlib.Core.Path.{◌≡◌}
use lib.ListN.{drop}
use Rattle.text.specs.Line.{names, place_from, kind_named}
use Rattle.text.proofs.scan.kind_named.Given as goal

abbrev pub invariant-loop-kind : goal.invariant-loop-kind
invariant-loop-kind l = kind_named l.word ≡ place_from l.kind l.word (drop (l.kind - 1) names)
