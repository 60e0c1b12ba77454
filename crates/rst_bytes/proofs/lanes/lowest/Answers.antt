-- `lanes::lowest` meets its contract: bit n is set beside the others, and the lowest one is told.
-- Assumes nothing.
use Rattle.rst_bytes.proofs.LanesLaws.{lowest-set}
use Rattle.rst_bytes.proofs.lanes.lowest.Goals as goal

pub returns-clause-within : goal.returns-clause-within
returns-clause-within c = (lowest-set c.args.bits c.args.n c.ranges.bits.fits c.requires).0

pub returns-clause-below : goal.returns-clause-below
returns-clause-below c = (lowest-set c.args.bits c.args.n c.ranges.bits.fits c.requires).1

pub returns-clause-at : goal.returns-clause-at
returns-clause-at c = (lowest-set c.args.bits c.args.n c.ranges.bits.fits c.requires).2
