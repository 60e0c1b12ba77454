-- `scan_link` meets its contract. The loop's invariant: the scan from the front is that from i on, i bytes being skipped, and what is
-- known holds from i on, with the marks as they are. Calm text is passed; the marks may be written, and what is known holds then too; a
-- round ends the scan, or passes some bytes: the measure is what is left.
-- Where it ends with a link, what was known in front of it is true behind it, and what is told of blocks there is true.
-- Assumes nothing.
use Prim.Native.Nat.{◌-◌, ◌≤◌}
use mathlib.Core.Path.{◌≡◌}
use lib.ListN.{length, drop}
use Rattle.parse.specs.Forms.{rst}
use Rattle.parse.specs.Scan.{rounds, scan_of}
use Rattle.parse.specs.Inner.{Holds}
use Rattle.parse.proofs.scan_link.Given as goal

abbrev pub invariant-loop-i : goal.invariant-loop-i
invariant-loop-i l =
    record {
      inside : l.i ≤ length l.s;
      room : length l.scratch ≡ length l.initial.scratch;
      scan : scan_of l.s ≡ rounds rst 0 l.input_start l.i (drop l.i l.s);
      known : Holds l.i l.known l.marks l.s;
      marks : length l.marks ≡ length l.initial.marks;
    }

abbrev pub decreases-loop-i : goal.decreases-loop-i
decreases-loop-i l = length l.s - l.i
