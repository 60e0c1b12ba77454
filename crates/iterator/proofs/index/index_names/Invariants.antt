-- `index::index_names` meets its contract. The loop's invariant, `Indexing`: the first i rows are in the index, and the tables are as they
-- were.
-- Assumes nothing.
use Rattle.iterator.proofs.IndexLaws.{Indexing}
use Rattle.iterator.proofs.index.index_names.Given as goal

abbrev pub invariant-loop-i : goal.invariant-loop-i
invariant-loop-i l = Indexing l.n l.fn.numbers l.numbers l.bytes l.i
