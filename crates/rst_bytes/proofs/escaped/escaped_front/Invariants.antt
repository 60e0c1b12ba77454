-- `escaped::escaped_front` meets its contract. The loop's invariant: i bytes are taken as a whole.
-- Assumes nothing.
use Rattle.std.proofs.Common.{◌≡◌, ◌≤◌, ◌-◌, Some, false, length, take}
use Rattle.rst_bytes.specs.Escaped.{taking}
use Rattle.rst_bytes.proofs.escaped.escaped_front.Given as goal

abbrev pub invariant-loop-chunk : goal.invariant-loop-chunk
invariant-loop-chunk l = (l.i ≤ length l.s) × (taking l.p l.q false 0 (take l.i l.s) ≡ Some l.i)

abbrev pub decreases-loop-chunk : goal.decreases-loop-chunk
decreases-loop-chunk l = length l.s - l.i
