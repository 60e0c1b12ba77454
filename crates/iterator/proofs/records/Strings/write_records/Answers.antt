-- `records::Strings::write_records` meets its contract. The loop's invariant, `Emitted`: what is written so far is the front of all records, and the
-- records of the links ahead are the rest of them.
-- Assumes nothing.
use Rattle.iterator.proofs.RecordLaws.{can-emit, emit-turn, emit-done}
use Rattle.iterator.proofs.records.Strings.write_records.Goals as goal

pub write_record-at-requires : goal.write_record-at-requires
write_record-at-requires c = can-emit _ _ _ _ _ _ _ _ _ c.loop-i.invariant _ c.link_at-x.ensures c.loop-i-test.true

pub loop-i-preserved : goal.loop-i-preserved
loop-i-preserved c =
    emit-turn _ _ _ _ _ _ _ _ _ c.loop-i.invariant _ c.link_at-x.ensures c.loop-i-test.true _ _ c.write_record-at.ensures.written c.write_record-at.ensures.size

pub returns : goal.returns
returns c = emit-done _ _ _ _ _ _ _ _ _ c.loop-i.invariant c.loop-i-test.false
