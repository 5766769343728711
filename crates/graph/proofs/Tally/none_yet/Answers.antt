-- `graph::Tally::none_yet` meets its contract. Assumes nothing.
use mathlib.Core.Path.{refl}
use Rattle.graph.specs.Transactions.{none_yet}
use Rattle.graph.proofs.Tally.none_yet.Goals as goal

pub returns : goal.returns
unfolding none_yet
returns c = refl
