-- `graph::store` meets its contract. Assumes nothing.
use mathlib.Core.Path.{sym}
use native.Mathlib.Omega.{arith}
use lib.Seq.{set_out}
use Rattle.graph.proofs.store.Goals as goal

pub returns-else-at-lt16 : goal.returns-else-at-lt16
returns-else-at-lt16 c = sym (set_out c.args.current.now _ _ (omega arith))
