-- `replay::State::access` meets its contract: a read and a write do what they say. Assumes nothing.
use mathlib.Core.Path.{refl}
use native.Mathlib.Numerals.{add-one}
use Rattle.record.specs.Faults.{first_fault}
use Rattle.replay.specs.Machine.{finds, act}
use Rattle.replay.proofs.State.access.Goals as goal

pub returns-in-Read : goal.returns-in-Read
unfolding finds act
returns-in-Read c t = rw c.in-Read.is c.read.ensures

pub returns-in-Write : goal.returns-in-Write
unfolding finds act first_fault
returns-in-Write c t = rw (c.in-Write.is, add-one) (refl, refl)
