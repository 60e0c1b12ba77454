-- Only blank characters stand behind what is left.
-- Assumes nothing.
use Rattle.std.proofs.Common.{length}
use Rattle.rst_bytes.proofs.TrimLaws.{Trimmed}
use Rattle.rst_bytes.proofs.trim.trim_end.Given as goal

abbrev pub invariant-loop-text : goal.invariant-loop-text
invariant-loop-text l = Trimmed l.s l.text

abbrev pub decreases-loop-text : goal.decreases-loop-text
decreases-loop-text l = length l.text
