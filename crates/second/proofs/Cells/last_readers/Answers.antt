use native.Mathlib.Omega.{arith}
use Rattle.second.proofs.ByKind.{readers_are}
use Rattle.second.proofs.Cells.last_readers.Goals as goal

pub returns : goal.returns
returns c = readers_are c.args.self.now.readers c.args.x (omega arith) (omega arith)
