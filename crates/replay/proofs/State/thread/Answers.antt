-- `replay::State::thread` meets its contract: a fork and a join do what they say. Assumes nothing.
use Rattle.replay.specs.Machine.{finds, act}
use Rattle.replay.proofs.State.thread.Goals as goal

pub returns-in-Fork : goal.returns-in-Fork
unfolding finds act
returns-in-Fork c = rw c.in-Fork.is c.fork.ensures

pub returns-in-Join : goal.returns-in-Join
unfolding finds act
returns-in-Join c = rw c.in-Join.is c.join.ensures
