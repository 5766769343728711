-- `picture::linking::link_record` meets its contract: after i turns the edges with the first i records are marked.
use native.Mathlib.Omega.{arith}
use mathlib.Core.Path.{sym, subst}
use mathlib.Core.List.{List}
use lib.ListN.{take}
use lib.Seq.{take_all}
use Rattle.lists.proofs.Places.{take-one-more}
use Rattle.graph.specs.declared.Labelled.{Labelled}
use Rattle.picture.proofs.Marks.{Partly, partly_none, partly_more, partly-all}
use Rattle.picture.proofs.linking.link_record.Goals as goal

pub loop-first-init : goal.loop-first-init
loop-first-init c = let a = c.args in partly_none a.before.now a.later a.work.now c.requires.links

pub loop-first-preserved : goal.loop-first-preserved
loop-first-preserved c =
    let a = c.args in
    let xs : List Labelled = a.before.now in
    let i = c.loop-first.first-index in
    subst (λ ys. Partly xs a.later ys a.work.now c.link.new.work) (sym (take-one-more xs i _ (omega arith)))
    (partly_more xs a.later (take i xs) a.work.now c.loop-first.work _ c.requires.links.long (c.requires.few.0 i _ (omega arith)) c.requires.few.1 c.loop-first.invariant c.link.new.work c.link.ensures)

pub returns : goal.returns
returns c =
    let a = c.args in
    let xs : List Labelled = a.before.now in
    let all : Partly xs a.later xs a.work.now c.loop-first.work = subst (λ ys. Partly xs a.later ys a.work.now c.loop-first.work) (take_all c.loop-first.first-index xs (omega arith)) c.loop-first.invariant in
    (partly-all xs a.later a.work.now c.loop-first.work c.requires.links.long all, all.rest)
