-- `first_outside` meets its contract: where every byte is below 80 each is a character. Else the loop's invariant: the characters up to
-- i are passed, and the run goes on at i.
-- Assumes nothing.
use Prim.Native.Nat.{◌≤◌, ◌-◌}
use mathlib.Core.Path.{◌≡◌}
use lib.ListN.{length, drop}
use Rattle.rst_bytes.specs.Domain.{run, any}
use Rattle.rst_bytes.proofs.domain.first_outside.Given as goal

abbrev pub invariant-loop-i : goal.invariant-loop-i
invariant-loop-i l = (l.i ≤ length l.s) × (run any 0 0 l.s ≡ run any 0 l.i (drop l.i l.s))

abbrev pub decreases-loop-i : goal.decreases-loop-i
decreases-loop-i l = length l.s - l.i
