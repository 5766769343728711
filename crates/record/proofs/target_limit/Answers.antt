-- `record::target_limit` meets its contract: each arm's tests say which case of `target_limit` holds.
use native.Mathlib.Omega.{arith}
use borrow.Author.Tests.{le-leb, lt-leb}
use Rattle.record.specs.Record.{target_limit}
use Rattle.record.proofs.target_limit.Goals as goal

pub returns-in-0-to-2 : goal.returns-in-0-to-2
unfolding target_limit
returns-in-0-to-2 c = let k = c.args.kind in simp (le-leb k 2 (omega arith))

pub returns-in-3-to-7 : goal.returns-in-3-to-7
unfolding target_limit
returns-in-3-to-7 c = let k = c.args.kind in simp (lt-leb k 2 (omega arith), le-leb k 7 (omega arith))

pub returns-in-8-to-9 : goal.returns-in-8-to-9
unfolding target_limit
returns-in-8-to-9 c =
    let k = c.args.kind in
    simp (lt-leb k 2 (omega arith), lt-leb k 7 (omega arith), le-leb k 9 (omega arith))

pub returns-in_default : goal.returns-in_default
unfolding target_limit
returns-in_default c =
    let k = c.args.kind in
    simp (lt-leb k 2 (omega arith), lt-leb k 7 (omega arith), lt-leb k 9 (omega arith))
