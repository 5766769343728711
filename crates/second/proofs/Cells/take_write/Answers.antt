use mathlib.Core.Path.{refl}
use mathlib.Core.List.{[], ◌∷◌}
use lib.ListN.{get_or}
use Rattle.second.specs.Taken.{readers_in}
use Rattle.second.proofs.ByKind.{joins-cells}
use Rattle.second.proofs.Cells.take_write.Goals as goal

pub returns : goal.returns
returns c =
    let a = c.args in (
      joins-cells _ _ _ _ (get_or a.self.now.writers a.x 0 ∷ []) (readers_in a.self.now.readers a.x 16) _ _ _ c.join_one-written.ensures c.join_readers-read.ensures c.and.ensures,
      refl,
    )
