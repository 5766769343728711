-- The search from record i on finds what all find.
use mathlib.Core.Path.{◌≡◌}
use mathlib.Core.List.{[]}
use Rattle.ancestors.specs.Search.{searched}
use Rattle.plain.specs.Plain.{sources, next}
use Rattle.plain.proofs.Seeking.{from_here}
use Rattle.plain.proofs.search.Given as goal

abbrev pub invariant-loop-i : goal.invariant-loop-i
invariant-loop-i l = searched sources next [] l.initial.work l.records ≡ from_here l.records l.i l.begun l.work
