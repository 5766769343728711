-- The readers before this one have come in.
use Rattle.std.proofs.Common.{take}
use Rattle.ancestors.specs.Others.{others}
use Rattle.ancestors.specs.Sources.{Joins, code}
use Rattle.second.proofs.Cells.join_readers.Given as goal

abbrev pub invariant-loop-held : goal.invariant-loop-held
invariant-loop-held l = Joins l.initial.work l.a (others l.a (take l.held-index l.held-items)) (code l.found) l.work
