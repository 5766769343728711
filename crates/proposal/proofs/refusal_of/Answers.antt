-- `proposal::refusal_of` meets its contract: the refusal that looking through the recording finds.
use mathlib.Core.Path.{sym}
use Rattle.looking.proofs.Laws.{looked-refusal}
use Rattle.proposal.proofs.refusal_of.Goals as goal

pub returns : goal.returns
returns c = sym (looked-refusal _ _ _ c.look.ensures)
