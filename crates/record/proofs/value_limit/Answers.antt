-- `record::value_limit` meets its contract: each arm's test says which case of `value_limit` holds.
use native.Mathlib.Omega.{arith}
use borrow.Author.Tests.{le-leb, lt-leb}
use Rattle.record.specs.Record.{value_limit}
use Rattle.record.proofs.value_limit.Goals as goal

pub returns-in-0-to-2 : goal.returns-in-0-to-2
unfolding value_limit
returns-in-0-to-2 c = let k = c.args.kind in simp (le-leb k 2 (omega arith))

pub returns-in_default : goal.returns-in_default
unfolding value_limit
returns-in_default c = let k = c.args.kind in simp (lt-leb k 2 (omega arith))
