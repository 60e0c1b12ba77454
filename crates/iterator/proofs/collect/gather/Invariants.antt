-- `collect::gather` meets its contract: the loop's invariant: the document is read up to a place, and what is known is true of what stands behind it,
-- with the marks from there on. The measure is what is left of the document; each link found has at least one byte (ReadingLaws).
-- Assumes nothing.
use Rattle.std.proofs.Common.{length, drop, ◌-◌, ◌≤◌}
use Rattle.parse.specs.Inner.{Holds}
use Rattle.iterator.specs.Render.{render_number}
use Rattle.iterator.proofs.ReadingLaws.{Reading}
use Rattle.iterator.proofs.collect.gather.Given as goal

abbrev pub invariant-loop-c : goal.invariant-loop-c
invariant-loop-c l =
    record {
      reading : Reading (render_number l.render) l.document l.numbers l.bytes l.c;
      known : Holds 0 l.known (drop l.c.at l.marks) (drop l.c.at l.document);
      marked : length l.document ≤ length l.marks;
    }

abbrev pub decreases-loop-c : goal.decreases-loop-c
decreases-loop-c l = length l.document - l.c.at
