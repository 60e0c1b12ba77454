-- `backtick::part_end` meets its contract. The loop's invariant: a part from behind a backtick before i runs on to i. One law for each way
-- through the body and for each end of a part. The measure is what is left.
-- Assumes nothing.
use Rattle.std.proofs.Common.{◌-◌, ◌<◌, length}
use Rattle.parse.proofs.BacktickLaws.{Runs}
use Rattle.parse.proofs.backtick.part_end.Given as goal

abbrev pub invariant-loop-i : goal.invariant-loop-i
invariant-loop-i l = (0 < l.i) × Runs l.s l.i

abbrev pub decreases-loop-i : goal.decreases-loop-i
decreases-loop-i l = length l.s - l.i
