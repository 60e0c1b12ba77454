-- `Known::mark` meets its contract: where marks are written no target starts at a place that is marked, so no block begins there.
-- Assumes nothing.
use Rattle.parse.proofs.BarredLaws.{marks-barred}
use Rattle.parse.proofs.Known.mark.Goals as goal

pub returns-then-self-i : goal.returns-then-self-i
returns-then-self-i c i h = (h.0, h.1, h.2, marks-barred c.mark.new.marks _ c.mark.ensures)
