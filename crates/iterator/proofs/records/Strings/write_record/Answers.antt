-- `records::Strings::write_record` meets its contract: the head, the text behind it, and the destination behind both.
-- Assumes nothing.
use Rattle.iterator.proofs.RecordLaws.{record-written}
use Rattle.iterator.proofs.records.Strings.write_record.Goals as goal

pub returns-clause-written : goal.returns-clause-written
returns-clause-written c =
    let a = c.args in
    record-written a.self.document.now a.self.bytes.now a.x a.end _ _ _ _ _ _ c.text_of-text.ensures c.of-dest.ensures c.requires.room c.write_head.ensures c.copy.ensures c.copy-2.ensures
