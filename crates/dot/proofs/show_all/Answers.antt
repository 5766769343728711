-- `dot::show_all` lends an output that is as long as it says. Stated by a law, since computing the length of so long a list goes too deep.
use Rattle.std.proofs.Common.{ℕ, sym}
use lib.ListN.{length-replicate}
use Rattle.dot.proofs.show_all.Goals as goal

pub slice_bounds-show-end : goal.slice_bounds-show-end
slice_bounds-show-end g c =
    let n : ℕ = 3148300 in
    let z : ℕ = 0 in
    sym (length-replicate n z)
