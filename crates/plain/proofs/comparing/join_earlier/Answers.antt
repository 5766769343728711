use mathlib.Core.Path.{sym, subst}
use lib.ListN.{take}
use Rattle.lists.proofs.Places.{take-one-more}
use Rattle.ancestors.specs.Sources.{Joins, code}
use Rattle.plain.specs.Plain.{sources, few}
use Rattle.plain.proofs.Pairs.{joins-first, joins-next}
use Rattle.plain.proofs.comparing.join_earlier.Goals as goal

pub loop-y-init : goal.loop-y-init
loop-y-init c = joins-first c.args.x c.args.work.now

pub loop-y-preserved : goal.loop-y-preserved
loop-y-preserved c =
    let a = c.args in
    let ys = a.earlier.now in
    let i = c.loop-y.y-index in
    subst (λ l. Joins a.work.now a.x.transaction (sources (few l) a.x) (code c.and-found.result) c.join_edge.new.work) (sym (take-one-more ys i _ c.loop-y-test.true))
    (joins-next (take i ys) _ a.x _ _ _ _ _ _ c.loop-y.invariant c.join_edge.ensures c.and-found.ensures)
