-- `index::index_names` meets its contract. The loop's invariant, `Indexing`: the first i rows are in the index, and the tables are as they
-- were.
-- Assumes nothing.
use Rattle.std.proofs.Common.{refl}
use Rattle.iterator.proofs.IndexLaws.{indexing-start, can-index, indexing-more}
use Rattle.iterator.proofs.index.index_names.Goals as goal

pub loop-i-init : goal.loop-i-init
loop-i-init c = indexing-start _ _ _ _ _ c.requires refl (c.fill.ensures.after (λ y e. e))

pub index_row-requires : goal.index_row-requires
index_row-requires c = can-index _ _ _ _ _ c.loop-i.invariant c.loop-i-test.true

pub loop-i-preserved : goal.loop-i-preserved
loop-i-preserved c =
    indexing-more _ _ _ _ _ c.loop-i.invariant _ c.index_row.auto.numbers c.loop-i-test.true c.index_row.ensures
