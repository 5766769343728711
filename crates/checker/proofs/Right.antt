-- The second engine's paths are those of 01's edges, of every recording that isn't refused.
use Rattle.second.proofs.Right as Second
use Rattle.looking.specs.Refusals.{events}
use Rattle.checker.specs.Meaning.{Right}
use Rattle.checker.proofs.Demand3.{passed}

pub right : Right
right input out work fine k = let p = passed input out work fine in Second.right (events input) p.can-be p.in-range k
