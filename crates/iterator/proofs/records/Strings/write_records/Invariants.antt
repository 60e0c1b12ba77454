-- `records::Strings::write_records` meets its contract. The loop's invariant, `Emitted`: what is written so far is the front of all records, and the
-- records of the links ahead are the rest of them.
-- Assumes nothing.
use Rattle.iterator.proofs.RecordLaws.{Emitted}
use Rattle.iterator.proofs.records.Strings.write_records.Given as goal

abbrev pub invariant-loop-i : goal.invariant-loop-i
invariant-loop-i l = Emitted l.n l.self.document.now l.numbers l.self.bytes.now l.initial.output l.output l.i l.end l.at
