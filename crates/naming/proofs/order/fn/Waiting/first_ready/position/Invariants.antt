-- What the closure in `naming::order::Waiting::first_ready` answers.
use mathlib.Core.Path.{◌≡◌}
use Rattle.std.specs.Prelude.{◌==◌}
use Rattle.naming.proofs.order.fn.Waiting.first_ready.position.Given as goal

abbrev pub ensures : goal.ensures
ensures l r = r ≡ (l.left.entry.now == 1)
