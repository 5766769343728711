-- `short::Short::push` meets its contract.
use native.Mathlib.Omega.{arith}
use Rattle.short.proofs.Filling.{filled-set}
use Rattle.short.proofs.Short.push.Goals as goal

pub invariant_of-self : goal.invariant_of-self
invariant_of-self g c = filled-set g.row.N c.self.inside.bytes c.self.inside.len c.args.b c.self.invariant (omega (arith, c.if-self.true))
