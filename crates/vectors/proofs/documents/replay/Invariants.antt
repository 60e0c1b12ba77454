-- `replay` ends: a document and each of its calls leave fewer bytes.
use Rattle.std.proofs.Common.{◌≤◌, length}
use Rattle.vectors.proofs.documents.replay.Given as goal

abbrev pub invariant-loop : goal.invariant-loop
invariant-loop l = length l.rest.left.now ≤ length l.initial.rest.left.now

abbrev pub decreases-loop-document : goal.decreases-loop-document
decreases-loop-document l = length l.rest.left.now
