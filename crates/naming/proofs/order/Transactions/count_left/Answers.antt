-- `naming::order::Transactions::count_left` meets its contract.
use mathlib.Core.Path.{sym, ◌∙◌}
use Rattle.naming.proofs.Picked.{left-none, left-some}
use Rattle.naming.proofs.order.Transactions.count_left.Goals as goal

pub returns-then-a-self : goal.returns-then-a-self
returns-then-a-self c = c.count_beyond.ensures ∙ sym (left-some c.args.self.now.work.now c.args.self.now.n c.args.taken.now c.args.a c.if-a-self.true)

pub returns-else-a-self : goal.returns-else-a-self
returns-else-a-self c = sym (left-none c.args.self.now.work.now c.args.self.now.n c.args.taken.now c.args.a c.if-a-self.false)
