-- `records::write_head` meets its contract: the fields are put together by shifts, and the copied bytes are those of the number.
-- Assumes nothing.
use Rattle.iterator.proofs.RecordLaws.{head-written}
use Rattle.iterator.proofs.records.write_head.Goals as goal

pub returns : goal.returns
returns c =
    let a = c.args in
    head-written a.skipped a.consumed a.text a.dest _ _ _ c.requires.fields c.to_be_bytes.ensures c.copy.ensures
