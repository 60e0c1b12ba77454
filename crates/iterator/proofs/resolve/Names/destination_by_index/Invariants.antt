-- `resolve::Names::destination_by_index` meets its contract. The loop's invariant, `Seeking`: the name has in all rows what it has in those up to
-- the next, since none of the others has it; the next is of the name's bucket. The measure is the next row, counted from 1: the row before it
-- in its bucket is an earlier one.
-- Assumes nothing.
use Rattle.iterator.proofs.IndexLaws.{counted, Seeking}
use Rattle.iterator.proofs.resolve.Names.destination_by_index.Given as goal

abbrev pub invariant-loop-next : goal.invariant-loop-next
invariant-loop-next l = Seeking l.name l.self.n l.self.numbers.now l.self.bytes.now (counted l.next)

abbrev pub decreases-loop-next : goal.decreases-loop-next
decreases-loop-next l = counted l.next
