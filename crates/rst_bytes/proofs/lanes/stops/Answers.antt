-- `lanes::stops` meets its contract: a bit of two numbers joined.
-- Assumes nothing.
use Rattle.std.proofs.Common.{◌||◌, ap₂, ◌∙◌}
use Rattle.rst_bytes.specs.Escaped.{is_stop}
use Rattle.rst_bytes.proofs.LanesLaws.{test-or}
use Rattle.rst_bytes.proofs.lanes.stops.Goals as goal

pub returns : goal.returns
unfolding is_stop
returns c k h = test-or c.equal_to.result c.equal_to-2.result k ∙ ap₂ ◌||◌ (c.equal_to.ensures k h) (c.equal_to-2.ensures k h)
