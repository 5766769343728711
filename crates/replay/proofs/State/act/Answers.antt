-- `replay::State::act` meets its contract: each kind's part of the machine does what it says. Assumes nothing.
use native.Mathlib.Omega.{arith}
use Rattle.replay.proofs.Laws.{nothing-asked}
use Rattle.replay.proofs.State.act.Goals as goal

pub returns-in-1-to-2 : goal.returns-in-1-to-2
returns-in-1-to-2 c = c.access.ensures c.args.t

pub returns-in_default-2 : goal.returns-in_default-2
returns-in_default-2 c = nothing-asked c.args.self.now c.args.t c.args.op (omega (arith, c.kind.ensures))
