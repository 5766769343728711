-- The closure in `naming::order::Waiting::first_ready` meets its contract.
use mathlib.Core.Path.{refl}
use Rattle.naming.proofs.order.fn.Waiting.first_ready.position.Goals as goal

pub returns : goal.returns
returns c = refl
