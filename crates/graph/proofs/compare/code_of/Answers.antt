-- `graph::compare::code_of` meets its contract. Assumes nothing.
use mathlib.Core.Path.{refl}
use Rattle.graph.specs.Conflict.{code, table}
use Rattle.graph.proofs.compare.code_of.Goals as goal

pub returns : goal.returns
unfolding code table
returns c = refl
