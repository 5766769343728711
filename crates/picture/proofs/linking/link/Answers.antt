-- `picture::linking::link` meets its contract: an edge is made by a record of another transaction that conflicts.
use mathlib.Core.Path.{◌∙◌}
use mathlib.Core.Bool.{true, false}
use Rattle.picture.proofs.Marks.{linked-own, linked-by}
use Rattle.picture.proofs.linking.link.Goals.{else-s-t-via-then-s-t+else-conflicts, else-s-t-via-else-s-t}
use Rattle.picture.proofs.linking.link.Goals as goal

pub returns-then-conflicts : goal.returns-then-conflicts
returns-then-conflicts c =
    let a = c.args in
    c.mark.ensures ∙ linked-by a.first a.second a.work.now c.if-s-t.true c.conflicts.result true c.conflicts.ensures c.if-conflicts.true

pub returns-else-s-t : goal.returns-else-s-t
returns-else-s-t c =
    let a = c.args in
    elim c.else-s-t.branch [
      | else-s-t-via-then-s-t+else-conflicts w ↦ linked-by a.first a.second a.work.now w.if-s-t.true w.conflicts.result false w.conflicts.ensures w.if-conflicts.false
      | else-s-t-via-else-s-t w ↦ linked-own a.first a.second a.work.now w.if-s-t.false
    ]
