use native.Mathlib.Omega.{arith}
use mathlib.Core.Path.{sym, ◌∙◌}
use Rattle.second.proofs.Seeking.{seeking-all, seeking-hit, seeking-more}
use Rattle.second.proofs.search.Goals as goal

pub returns-then-take : goal.returns-then-take
returns-then-take c =
    let a = c.args in
    seeking-hit a.records.now a.work.now c.loop-i.i c.loop-i.begun c.loop-i.cells c.loop-i.work c.loop-i.invariant _ (omega arith) c.take.new.self c.take.new.work c.rows_to_look-n.result c.rows_to_look-n.ensures c.take.ensures.1
    (sym c.if-take.true ∙ c.take.ensures.0)

pub loop-i-preserved : goal.loop-i-preserved
loop-i-preserved c =
    let a = c.args in
    seeking-more a.records.now a.work.now c.loop-i.i c.loop-i.begun c.loop-i.cells c.loop-i.work c.loop-i.invariant _ (omega arith) c.take.new.self c.take.new.work c.rows_to_look-n.result c.rows_to_look-n.ensures c.take.ensures.1
    (sym c.if-take.false ∙ c.take.ensures.0) c.begun_with-begun.result c.begun_with-begun.ensures

pub returns : goal.returns
returns c =
    let a = c.args in
    seeking-all a.records.now a.work.now c.loop-i.i c.loop-i.begun c.loop-i.cells c.loop-i.work c.loop-i.invariant (omega arith)
