-- What is kept at each place is true, and where a mark is set no target starts.
use Rattle.std.proofs.Common.{◌≤◌, length, drop}
use Rattle.targetless.specs.Targetless.{Marks}
use Rattle.targetless.specs.Walk.{Walked}
use Rattle.targetless.proofs.mark.Given as goal

abbrev pub invariant-loop-i : goal.invariant-loop-i
invariant-loop-i l = record { walked : Walked l.walk (drop l.i l.s); marked : Marks l.marks l.s; room : length l.s ≤ length l.marks }
