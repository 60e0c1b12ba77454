-- `work` meets its contract: the place that comes with a refusal stands in the document, so it fits into 32 bits.
-- Assumes nothing.
use Rattle.std.proofs.Common.{sym, ◌∙◌, arith, rules}
use Rattle.rst_bytes.proofs.DomainLaws.{outside-within}
use Rattle.iterator.specs.Document.{verdict_of}
use Rattle.iterator.proofs.work.Goals as goal

pub returns-in-Some : goal.returns-in-Some
unfolding verdict_of
returns-in-Some c =
    record {
      verdict = search rules;
      links-small = omega arith;
      bytes-small = omega (arith, c.if-document-gt-DOCUMENT_LEN_MAX.false, outside-within _ _ (sym c.first_outside.ensures ∙ c.in-Some.is));
    }
