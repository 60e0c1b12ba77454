-- `block::join_lines` meets its contract. The loop's invariant: what stands at the front of d with the lines that are left are all
-- lines, and what is left fits. A further line writes a space and its text, and reads more bytes than
-- that. The measure is what is left.
-- Assumes nothing.
use lib.ListN.{length}
use Rattle.restructured_text.proofs.JoinLaws.{Joins}
use Rattle.restructured_text.proofs.block.join_lines.Given as goal

abbrev pub invariant-loop-a : goal.invariant-loop-a
invariant-loop-a l = Joins l.indent l.s l.d l.rest l.n

abbrev pub decreases-loop-a : goal.decreases-loop-a
decreases-loop-a l = length l.rest
