-- `checker::judge_by` meets its contract: looking, the rows begun, the engine's search, and the end.
use Rattle.ancestors.specs.Search.{prefix_of}
use Rattle.checker.proofs.Judging.{judged-refused, order-refused, seen-most, found, ready, judged-whole, order-whole}
use Rattle.checker.proofs.judge_by.Goals as goal

pub returns-in-Err : goal.returns-in-Err
returns-in-Err g c =
    let a = c.args in (
      judged-refused a.input.now a.out.now a.work.now a.records.now c.look.result _ c.look.ensures c.in-Err.refusal c.in-Err.is,
      c.look.ensures.records-are,
      order-refused a.input.now a.out.now a.work.now a.records.now c.look.result _ c.look.ensures c.in-Err.refusal c.in-Err.is a.order.now,
    )

pub shared_ref_as_front-seen : goal.shared_ref_as_front-seen
shared_ref_as_front-seen g c =
    let a = c.args in
    seen-most a.input.now a.out.now a.work.now a.records.now c.look.result _ c.look.ensures c.in-Ok.n c.in-Ok.is

pub conclude-requires : goal.conclude-requires
conclude-requires g c =
    let a = c.args in
    let find = found a.input.now a.out.now a.work.now a.records.now c.look.result _ c.look.ensures c.in-Ok.n c.in-Ok.is _ c.begin.ensures
    g.E.Engine.finds g.met.E.Engine.right (prefix_of c.search-closing.result) _ c.search-closing.ensures in
    ready a.input.now a.out.now a.work.now a.records.now c.look.result _ c.look.ensures c.in-Ok.n c.in-Ok.is _ c.begin.ensures _ _ find

pub returns : goal.returns
returns g c =
    let a = c.args in
    let find = found a.input.now a.out.now a.work.now a.records.now c.look.result _ c.look.ensures c.in-Ok.n c.in-Ok.is _ c.begin.ensures
    g.E.Engine.finds g.met.E.Engine.right (prefix_of c.search-closing.result) _ c.search-closing.ensures in
    let end = c.conclude.ensures in (
      judged-whole a.input.now a.out.now a.work.now a.records.now c.look.result _ c.look.ensures c.in-Ok.n c.in-Ok.is _ c.begin.ensures _ _ find a.order.now _ _ _ _ end,
      c.look.ensures.records-are,
      order-whole a.input.now a.out.now a.work.now a.records.now c.look.result _ c.look.ensures c.in-Ok.n c.in-Ok.is _ c.begin.ensures _ _ find a.order.now _ _ _ _ end,
    )
