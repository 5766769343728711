-- `graph::conflicts` meets its contract. Assumes nothing.
use mathlib.Core.Path.{sym, ◌∙◌}
use borrow.Author.Tests.{eq-eqb}
use Rattle.lists.proofs.Tests.{T-is}
use Rattle.graph.proofs.Clash.{conflict-own, unequal-right}
use Rattle.graph.proofs.conflicts.Goals as goal

pub returns-then-a-b : goal.returns-then-a-b
returns-then-a-b c = eq-eqb _ _ c.if-a-b.true ∙ sym (T-is _ (conflict-own c.args.a c.args.b c.if-a-b.true))

pub returns-else-some_equal : goal.returns-else-some_equal
returns-else-some_equal c =
    c.if-some_equal.false ∙ sym (unequal-right c.args.a c.args.b c.if-a-b.false (rw (← c.target.ensures, ← c.target-else-a-b.ensures) (sym c.some_equal.ensures ∙ c.if-some_equal.false)))
