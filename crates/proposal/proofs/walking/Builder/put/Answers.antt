-- `proposal::walking::Builder::put` meets its contract: counted and taken in, or full.
use mathlib.Core.Path.{sym}
use Rattle.proposal.proofs.Putting.{put-taken, put_full}
use Rattle.proposal.proofs.walking.Builder.put.Goals as goal

pub returns-in_default-clause-puts : goal.returns-in_default-clause-puts
returns-in_default-clause-puts c = put_full _ _ _ (sym c.in_default.ensures.0) c.number.ensures.1

pub returns-clause-puts : goal.returns-clause-puts
returns-clause-puts c = put-taken _ _ _ _ _ _ (sym c.in-Some.ensures.0) c.number.ensures.1 c.take.ensures.1
