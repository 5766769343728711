-- `checker::writing::write_lines` meets its contract: a store for each transaction.
use native.Mathlib.Omega.{arith}
use native.Mathlib.Numerals.{add-one}
use mathlib.Core.Path.{refl, sym, ap, ap₂, ◌∙◌}
use mathlib.Core.List.{List, map}
use lib.ListN.{take, set, length-map}
use Rattle.lists.specs.Lists.{over}
use Rattle.lists.proofs.Lists.{map_at, over-next}
use Rattle.checker.specs.declared.Line.{Line}
use Rattle.naming.proofs.Linking.{linked-all}
use Rattle.checker.specs.Writing.{line_of}
use Rattle.checker.proofs.Linking.{line}
use Rattle.checker.proofs.writing.write_lines.Goals as goal

pub loop-k-init : goal.loop-k-init
unfolding over
loop-k-init c = refl

pub line-requires : goal.line-requires
line-requires c =
    let few = c.requires.few in
    let chains = c.link-chains in
    (few.0, few.1, linked-all c.args.records.now few.0 chains.result.firsts chains.result.nexts chains.ensures)

pub loop-k-preserved : goal.loop-k-preserved
loop-k-preserved c =
    let a = c.args in
    let k = c.loop-k.k in
    let all : List Line = map (line_of a.records.now) a.order.now in
    ap₂ (λ l x. set l k x) c.loop-k.invariant (c.line.ensures ∙ sym (map_at (line_of a.records.now) a.order.now k 0 (line 0 0 0) (omega arith)))
    ∙ over-next all a.lines.now k (line 0 0 0) (omega (arith, length-map a.order.now (line_of a.records.now))) (omega (arith, c.requires.room))
    ∙ ap (λ j. over (take j all) a.lines.now) (sym (add-one k))
