-- `barren::unbracketed` meets its contract. The loop's invariant: i is at most the length, and no embedded link begins before it; the
-- measure is what is left. A part that has one < before its close is left undecided.
-- Assumes nothing.
use Prim.Native.Nat.{◌-◌, ◌≤◌}
use lib.ListN.{length}
use Rattle.parse.specs.Inner.{Barren}
use Rattle.parse.proofs.barren.unbracketed.Given as goal

abbrev pub invariant-loop-i : goal.invariant-loop-i
invariant-loop-i l = (l.i ≤ length l.s) × Barren 0 l.i l.s

abbrev pub decreases-loop-i : goal.decreases-loop-i
decreases-loop-i l = length l.s - l.i
