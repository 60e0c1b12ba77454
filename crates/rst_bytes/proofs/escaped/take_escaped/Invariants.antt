-- `escaped::take_escaped` meets its contract. The loop's invariant: i is at most the length, and what is taken in all is what is taken from i
-- on, i bytes being taken.
-- Assumes nothing.
use Rattle.std.proofs.Common.{◌≡◌, ◌≤◌, ◌-◌, false, length, drop}
use Rattle.rst_bytes.specs.Escaped.{taking}
use Rattle.rst_bytes.proofs.escaped.take_escaped.Given as goal

abbrev pub invariant-loop-n : goal.invariant-loop-n
invariant-loop-n l = (l.i ≤ length l.s) × (taking l.p l.q false 0 l.s ≡ taking l.p l.q false l.i (drop l.i l.s))

abbrev pub decreases-loop-n : goal.decreases-loop-n
decreases-loop-n l = length l.s - l.i
