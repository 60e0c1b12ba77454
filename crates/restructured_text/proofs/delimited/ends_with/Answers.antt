-- `delimited::ends_with` meets its contract: the library's compares byte by byte, and a text that is shorter has fewer.
-- Assumes nothing.
use Rattle.std.proofs.Common.{◌∙◌}
use Rattle.restructured_text.proofs.DelimitedLaws.{ends-pointwise}
use Rattle.restructured_text.proofs.delimited.ends_with.Goals as goal

pub returns : goal.returns
returns c = c.ends_with.ensures.value ∙ ends-pointwise c.args.t.now c.args.s.now
