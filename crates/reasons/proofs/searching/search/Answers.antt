-- `reasons::searching::search` meets its contract: no pair that was passed makes the edge, and the loops are left at the first that does.
use native.Mathlib.Omega.{arith}
use mathlib.Core.Path.{sym, ◌∙◌}
use Rattle.reasons.proofs.Hits.{none_behind, passed_over, passed_other, passed_apart, found_behind, hit-none}
use Rattle.reasons.proofs.searching.search.Goals.{else-y-b-via-then-y-b+else-conflicts, else-y-b-via-else-y-b, then-x-a+else-loop-k-test, else-x-a}
use Rattle.reasons.proofs.searching.search.Goals as goal

pub loop-k-preserved : goal.loop-k-preserved
loop-k-preserved c =
    let r = c.args in
    let i = c.loop-first.first in
    let k = c.loop-k.k in
    elim c.else-y-b.branch [
      | else-y-b-via-then-y-b+else-conflicts w ↦ passed_apart r.records.now r.a r.b i (omega arith) _ c.if-x-a.true k _ c.loop-k-test.true w.if-y-b.true (sym w.conflicts.ensures ∙ w.if-conflicts.false) c.loop-k.invariant
      | else-y-b-via-else-y-b w ↦ passed_other r.records.now r.a r.b i (omega arith) _ c.if-x-a.true k _ c.loop-k-test.true w.if-y-b.false c.loop-k.invariant
    ]

pub loop-first-preserved : goal.loop-first-preserved
loop-first-preserved c =
    let r = c.args in
    let i = c.loop-first.first in
    elim c.if-x-a.branch [
      | then-x-a+else-loop-k-test w ↦ none_behind r.records.now r.a r.b i (omega arith) w.loop-k.k w.loop-k-test.false w.loop-k.invariant c.loop-first.invariant
      | else-x-a w ↦ passed_over r.records.now r.a r.b i (omega arith) _ w.if-x-a.false c.loop-first.invariant
    ]

pub returns-then-conflicts : goal.returns-then-conflicts
returns-then-conflicts c =
    let r = c.args in
    found_behind r.records.now r.a r.b c.loop-first.first (omega arith) _ c.if-x-a.true c.loop-k.k _ c.loop-k-test.true c.if-y-b.true (sym c.conflicts.ensures ∙ c.if-conflicts.true) c.loop-first.invariant c.loop-k.invariant

pub returns-after-loop-first : goal.returns-after-loop-first
returns-after-loop-first c = let r = c.args in hit-none r.records.now r.a r.b c.loop-first.first (omega arith) c.loop-first.invariant
