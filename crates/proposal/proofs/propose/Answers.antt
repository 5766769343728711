-- `proposal::propose` meets its contract: as `report`, without the lines.
use Rattle.proposal.proofs.propose.Goals as goal

pub returns : goal.returns
returns c = c.report.ensures.0
