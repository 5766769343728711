-- `replay::State::fresh` meets its contract. Assumes nothing.
use Rattle.replay.specs.Machine.{fresh}
use borrow.Author.Rules.{rules}
use Rattle.replay.proofs.State.fresh.Goals as goal

pub returns : goal.returns
unfolding fresh
returns c = search rules
