-- `picture::linking::link_record` meets its contract: after i turns the edges with the first i records are marked.
use lib.ListN.{take}
use Rattle.picture.proofs.Marks.{Partly}
use Rattle.picture.proofs.linking.link_record.Given as goal

abbrev pub invariant-loop-first : goal.invariant-loop-first
invariant-loop-first l = Partly l.before l.later (take l.first-index l.before) l.initial.work l.work
