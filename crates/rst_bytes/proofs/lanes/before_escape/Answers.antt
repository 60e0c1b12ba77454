-- `lanes::before_escape` meets its contract: one bit is taken off.
-- Assumes nothing.
use Rattle.rst_bytes.proofs.LanesLaws.{bit-before, bit-off}
use Rattle.rst_bytes.proofs.lanes.before_escape.Goals as goal

pub overflow_sub-result : goal.overflow_sub-result
overflow_sub-result c = bit-before c.args.escaped c.args.k c.requires.first

pub returns : goal.returns
returns c = bit-off c.args.escaped c.args.k
