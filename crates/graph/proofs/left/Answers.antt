-- `graph::left` meets its contract. Assumes nothing.
use mathlib.Core.Logic.{⊎_elim}
use Rattle.graph.specs.Transactions.{ends}
use Rattle.graph.proofs.Numbering.{no-end}
use Rattle.graph.proofs.left.Goals as goal

pub returns-in-Prewait : goal.returns-in-Prewait
unfolding ends
returns-in-Prewait c = ⊎_elim (λ e. rw e.1) (λ e. rw e) c.in-Prewait.is

pub returns-in_default : goal.returns-in_default
returns-in_default c = rw (no-end c.args.e c.in_default.not-Prewait c.in_default.not-Yield)
