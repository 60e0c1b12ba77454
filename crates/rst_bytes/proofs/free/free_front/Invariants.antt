-- `free::free_front` meets its contract. The loop's invariant: i bytes were passed, and those that are passed in all are i and those from i on.
-- Assumes nothing.
use Rattle.std.proofs.Common.{◌≡◌, ◌≤◌, ◌+◌, ◌-◌, length, drop}
use Rattle.rst_bytes.specs.Free.{free_front_of}
use Rattle.rst_bytes.proofs.free.free_front.Given as goal

abbrev pub invariant-loop-chunk : goal.invariant-loop-chunk
invariant-loop-chunk l = (l.i ≤ length l.s) × (free_front_of l.p l.q l.x l.s ≡ l.i + free_front_of l.p l.q l.x (drop l.i l.s))

abbrev pub decreases-loop-chunk : goal.decreases-loop-chunk
decreases-loop-chunk l = length l.s - l.i
