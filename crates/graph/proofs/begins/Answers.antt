-- `graph::begins` meets its contract. Assumes nothing.
use borrow.Author.Tests.{ne_eqb}
use Rattle.graph.specs.Conflict.{joins}
use Rattle.graph.proofs.Numbering.{no_join}
use Rattle.graph.proofs.begins.Goals as goal

pub returns-in-Join : goal.returns-in-Join
unfolding joins
returns-in-Join c = rw c.in-Join.is

pub returns-in_default : goal.returns-in_default
returns-in_default c = rw (no_join c.args.e.op c.in_default.not-Join, ne_eqb _ _ c.if-own-eq0.false)
