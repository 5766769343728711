-- `naming::cycle::follow` meets its contract.
use native.Mathlib.Omega.{arith}
use mathlib.Core.Path.{◌≡◌, sym, ◌∙◌}
use Rattle.std.specs.Prelude.{None, Some}
use Rattle.graph.specs.Edges.{edges}
use Rattle.naming.specs.Naming.{next_by}
use Rattle.naming.proofs.Followed.{next-few, write_goes, write-ends, write-none, write-all, place-goes, place-ends, place_none, place-all}
use Rattle.naming.proofs.Linking.{linked-all}
use Rattle.naming.proofs.cycle.follow.Goals as goal

pub invariant_of-walk-clause-linked : goal.invariant_of-walk-clause-linked
invariant_of-walk-clause-linked c = linked-all c.args.records.now c.requires.0 c.link-chains.result.firsts c.link-chains.result.nexts c.link-chains.ensures

pub returns-in_default : goal.returns-in_default
returns-in_default c =
    let n = c.args.n in
    let t = c.args.t in
    let rows = c.args.work.now in
    let g = edges c.args.records.now in
    let w = c.loop-written.written in
    let a = c.loop-written.a in
    let l = c.loop-written.order in
    let told : next_by g rows t a ≡ None = sym c.after.ensures ∙ c.in_default.is in (
      place-ends n g rows t w a l c.loop-written-test.true told ∙ c.loop-written.invariant.2 ∙ place-all n g rows t,
      write-ends n g rows t w a l c.loop-written-test.true told ∙ c.loop-written.invariant.1 ∙ write-all n g rows t c.args.order.now c.requires.3,
    )

pub loop-written-preserved : goal.loop-written-preserved
loop-written-preserved c =
    let n = c.args.n in
    let t = c.args.t in
    let rows = c.args.work.now in
    let g = edges c.args.records.now in
    let w = c.loop-written.written in
    let a = c.loop-written.a in
    let l = c.loop-written.order in
    let b = c.in-Some.next in
    let told : next_by g rows t a ≡ Some b = sym c.after.ensures ∙ c.in-Some.is in (
      next-few g rows t a b told,
      write_goes n g rows t w a l c.loop-written-test.true b told ∙ c.loop-written.invariant.1,
      place-goes n g rows t w a l c.loop-written-test.true b told ∙ c.loop-written.invariant.2,
    )

pub returns : goal.returns
returns c =
    let n = c.args.n in
    let t = c.args.t in
    let rows = c.args.work.now in
    let g = edges c.args.records.now in
    let w = c.loop-written.written in
    let a = c.loop-written.a in
    let l = c.loop-written.order in (
      omega (arith, place_none n g rows t w a l (omega arith), c.loop-written.invariant.2, place-all n g rows t, c.loop-written.auto.written-end),
      write-none n g rows t w a l (omega arith) ∙ c.loop-written.invariant.1 ∙ write-all n g rows t c.args.order.now c.requires.3,
    )
