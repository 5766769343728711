-- `rows::clear` meets its contract: what is filled is 0, and the rest stays.
use Rattle.rows.proofs.Laws.{filled}
use Rattle.rows.proofs.clear.Goals as goal

pub returns : goal.returns
returns c = filled _ _ _ c.min-n.ensures (c.fill.ensures.after (λ y h. h))
