-- The records before this one have been compared.
use lib.ListN.{take}
use Rattle.ancestors.specs.Sources.{Joins, code}
use Rattle.plain.specs.Plain.{sources, few}
use Rattle.plain.proofs.comparing.join_earlier.Given as goal

abbrev pub invariant-loop-y : goal.invariant-loop-y
invariant-loop-y l = Joins l.initial.work l.x.transaction (sources (few (take l.y-index l.earlier)) l.x) (code l.found) l.work
