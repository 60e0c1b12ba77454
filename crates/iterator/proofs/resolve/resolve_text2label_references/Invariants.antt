-- `resolve::resolve_text2label_references` meets its contract. The loop's invariant, `References`: the links that are kept, and those ahead
-- once they are resolved, are the links of the rows that were lent.
-- Assumes nothing.
use Rattle.iterator.proofs.ReferenceLaws.{References}
use Rattle.iterator.proofs.resolve.resolve_text2label_references.Given as goal

abbrev pub invariant-loop-i : goal.invariant-loop-i
invariant-loop-i l = References l.n l.destinations l.strings.document.now l.fn.numbers l.numbers l.strings.bytes.now l.i l.r
