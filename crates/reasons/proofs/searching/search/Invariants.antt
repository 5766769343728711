-- `reasons::searching::search` meets its contract: no pair that was passed makes the edge, and the loops are left at the first that does.
use Rattle.reasons.proofs.Hits.{NoneBelow, NoneAt}
use Rattle.reasons.proofs.searching.search.Given as goal

abbrev pub invariant-loop-first : goal.invariant-loop-first
invariant-loop-first l = NoneBelow l.records l.a l.b l.first

abbrev pub invariant-loop-k : goal.invariant-loop-k
invariant-loop-k l = NoneAt l.records l.a l.b l.first l.k
