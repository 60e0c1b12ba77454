-- `transform::unescape` meets its contract. The loop's invariant is `At`: i bytes are read and n written, from n on the text is as
-- it was, and what was written stands before what the rest gives. One law of the definition at i for each way through the body.
-- The measure is what is left to read.
-- Assumes nothing.
use Prim.Native.Nat.{◌-◌}
use lib.ListN.{length}
use Rattle.restructured_text.specs.Transform.{unescaped_of}
use Rattle.restructured_text.proofs.TransformLaws.{At}
use Rattle.restructured_text.proofs.transform.unescape.Given as goal

abbrev pub invariant-loop-i : goal.invariant-loop-i
invariant-loop-i l = At (unescaped_of l.keep) l.initial.d l.d l.i l.n

abbrev pub decreases-loop-i : goal.decreases-loop-i
decreases-loop-i l = length l.initial.d - l.i
