-- i records are behind the search, and what is left gives what all give.
use Rattle.second.proofs.Seeking.{Seeking}
use Rattle.second.proofs.search.Given as goal

abbrev pub invariant-loop-i : goal.invariant-loop-i
invariant-loop-i l = Seeking l.records l.initial.work l.i l.begun l.cells l.work
