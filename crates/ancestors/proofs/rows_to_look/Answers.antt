-- `ancestors::rows_to_look` meets its contract.
use borrow.Author.Tests.{eq-eqb, ne_eqb}
use Rattle.ancestors.specs.Sources.{looked}
use Rattle.ancestors.proofs.rows_to_look.Goals as goal

pub returns-then-a-n : goal.returns-then-a-n
unfolding looked
returns-then-a-n c = rw (eq-eqb _ _ c.if-a-n.true)

pub returns-else-a-n : goal.returns-else-a-n
unfolding looked
returns-else-a-n c = rw (ne_eqb _ _ c.if-a-n.false)
