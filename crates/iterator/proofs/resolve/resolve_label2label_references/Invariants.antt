-- `resolve::resolve_label2label_references` meets its contract. The loop's invariant: the walk from here on gives what the whole walk
-- gives, and the table of the links is as it was. The measure is how much of the walk is left.
-- Assumes nothing.
use Rattle.iterator.specs.Inner.{steps_left}
use Rattle.iterator.proofs.WalkLaws.{Walked}
use Rattle.iterator.proofs.resolve.resolve_label2label_references.Given as goal

abbrev pub invariant-loop-walk : goal.invariant-loop-walk
invariant-loop-walk l = Walked l.aliases l.destinations l.initial.numbers l.numbers l.bytes l.walk

abbrev pub decreases-loop-walk : goal.decreases-loop-walk
decreases-loop-walk l = steps_left l.walk
