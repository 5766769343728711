-- `replay::steps::wait_before` meets its contract. Assumes nothing.
use native.Mathlib.Numerals.{add-one}
use Rattle.replay.specs.Machine.{wait_before}
use Rattle.replay.proofs.Laws.{waitless-before}
use Rattle.replay.proofs.steps.wait_before.Goals as goal

pub returns-in-Postwait : goal.returns-in-Postwait
unfolding wait_before
returns-in-Postwait c = rw (c.in-Postwait.is, add-one)

pub returns-in_default : goal.returns-in_default
returns-in_default c = waitless-before _ c.in_default.not-Postwait
