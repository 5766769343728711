-- `rows::test` meets its contract: past the end every bit is 0.
use mathlib.Core.Path.{◌≡◌}
use borrow.Author.Rules.{rules}
use lib.ListN.{get_or}
use Rattle.rows.specs.Bits.{word_at, has}
use Rattle.rows.proofs.test.Goals as goal

pub returns : goal.returns
unfolding has
returns c = let e : c.unwrap_or.result ≡ get_or c.args.w.now (word_at c.args.a c.args.b) 0 = search rules in rw e
