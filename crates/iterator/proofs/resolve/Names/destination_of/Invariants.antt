-- `resolve::Names::destination_of` meets its contract. The loop's invariant: the name has in all rows what it has in the first `i`, since none of
-- the others has it. At the end these are rows in which it has nothing.
-- Assumes nothing.
use Rattle.std.proofs.Common.{◌≡◌}
use Rattle.iterator.specs.Rows.{pairs_of, destinations_at}
use Rattle.iterator.specs.Resolve.{lookup}
use Rattle.iterator.proofs.resolve.Names.destination_of.Given as goal

abbrev pub invariant-loop-i : goal.invariant-loop-i
invariant-loop-i l =
    lookup l.name (pairs_of l.self.n destinations_at l.self.numbers.now l.self.bytes.now) ≡ lookup l.name (pairs_of l.i destinations_at l.self.numbers.now l.self.bytes.now)
