use mathlib.Core.List.{[], ◌∷◌}
use mathlib.Core.Path.{sym, ◌∙◌, subst}
use lib.ListN.{get_or, take}
use lib.Seq.{take_all}
use Rattle.lists.proofs.Places.{take-one-more}
use Rattle.ancestors.specs.Others.{others}
use Rattle.ancestors.specs.Sources.{Joins, code}
use Rattle.second.proofs.ByKind.{joins-cells, joins-nothing}
use Rattle.second.proofs.Cells.join_readers.Goals as goal

pub loop-held-init : goal.loop-held-init
loop-held-init c = joins-nothing c.args.work.now c.args.a

pub loop-held-preserved : goal.loop-held-preserved
loop-held-preserved c =
    let a = c.args in
    let row = c.last_readers-held-items.result.now in
    let i = c.loop-held.held-index in
    subst (λ l. Joins a.work.now a.a (others a.a l) (code c.and-found.result) c.join_one.new.work) (sym (take-one-more row i 0 c.loop-held-test.true))
    (joins-cells _ _ _ _ (take i row) (get_or row i 0 ∷ []) _ _ _ c.loop-held.invariant c.join_one.ensures c.and-found.ensures)

pub returns : goal.returns
returns c =
    let a = c.args in
    let row = c.last_readers-held-items in
    subst (λ l. Joins a.work.now a.a (others a.a l) (code c.loop-held.found) c.loop-held.work) (take_all c.loop-held.held-index row.result.now c.loop-held-test.false ∙ row.ensures) c.loop-held.invariant
