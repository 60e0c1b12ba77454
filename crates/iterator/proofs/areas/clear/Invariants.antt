-- `areas::clear` meets its contract: after i turns the first i places are zero.
-- Assumes nothing.
use Rattle.std.proofs.Common.{◌≡◌, length, take, replicate}
use Rattle.iterator.proofs.areas.clear.Given as goal

abbrev pub invariant-loop-i : goal.invariant-loop-i
invariant-loop-i g l =
    (l.i-end ≡ length l.initial.area) × (length l.area ≡ length l.initial.area) × (take l.i l.area ≡ replicate l.i l.zero)
