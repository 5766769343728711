-- `naming::cycle::makes_edge` meets its contract.
use mathlib.Core.Path.{sym, ap, ◌∙◌}
use mathlib.Core.Bool.{not}
use borrow.Author.Tests.{eq-eqb}
use Rattle.graph.proofs.Steps.{makes-own, makes-by}
use Rattle.naming.proofs.cycle.makes_edge.Goals as goal

pub returns-then-x-y : goal.returns-then-x-y
returns-then-x-y c = sym (makes-by c.args.y c.args.x c.conflicts.result c.if-x-y.true c.conflicts.ensures)

pub returns-else-x-y : goal.returns-else-x-y
returns-else-x-y c = ap not (eq-eqb c.args.x.transaction c.args.y.transaction c.if-x-y.false) ∙ sym (makes-own c.args.y c.args.x c.if-x-y.false)
