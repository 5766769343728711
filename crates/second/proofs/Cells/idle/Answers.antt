use mathlib.Core.Path.{refl}
use Rattle.second.specs.Cells.{idle}
use Rattle.second.proofs.Cells.idle.Goals as goal

pub returns : goal.returns
unfolding idle
returns c = refl
