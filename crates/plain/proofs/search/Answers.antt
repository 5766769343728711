use native.Mathlib.Omega.{arith}
use mathlib.Core.Path.{sym, ◌∙◌}
use Rattle.plain.proofs.Seeking.{seeking-first, seeking-last, seeking-hit, seeking-more}
use Rattle.plain.proofs.search.Goals as goal

pub loop-i-init : goal.loop-i-init
loop-i-init c = seeking-first c.args.records.now c.args.work.now

pub returns-then-take : goal.returns-then-take
returns-then-take c =
    sym (c.loop-i.invariant
    ∙ seeking-hit c.args.records.now c.loop-i.i c.loop-i.begun c.loop-i.work _ (omega arith) c.rows_to_look-to_look.result c.rows_to_look-to_look.ensures c.take.new.work c.take.ensures.1 (sym c.if-take.true ∙ c.take.ensures.0))

pub loop-i-preserved : goal.loop-i-preserved
loop-i-preserved c =
    c.loop-i.invariant
    ∙ seeking-more c.args.records.now c.loop-i.i c.loop-i.begun c.loop-i.work _ (omega arith) c.rows_to_look-to_look.result c.rows_to_look-to_look.ensures c.take.new.work c.take.ensures.1 (sym c.if-take.false ∙ c.take.ensures.0)
    c.begun_with-begun.result c.begun_with-begun.ensures

pub returns : goal.returns
returns c = sym (c.loop-i.invariant ∙ seeking-last c.args.records.now c.loop-i.i c.loop-i.begun c.loop-i.work (omega arith))
