-- `collect::MarkupLinkCollection::label` meets its contract: a label or name that is _ is the number that was written behind the taken bytes (LabelLaws).
-- Assumes nothing.
use Rattle.std.proofs.Common.{sym, ap, ◌∙◌, arith}
use Rattle.iterator.specs.Collect.{is_anonymous}
use Rattle.iterator.proofs.LabelLaws.{numbered-label}
use Rattle.iterator.proofs.collect.MarkupLinkCollection.label.Goals as goal

pub returns : goal.returns
returns c =
    let w = c.args in
    let e = ap is_anonymous (sym c.of.ensures) ∙ sym c.is_anonymous.ensures ∙ c.if-not-is_anonymous.false in
    numbered-label w.a w.next w.self.now w.bytes.now _ _ _ e c.write_numbered-len.ensures.size c.write_numbered-len.ensures.written (omega (arith, c.requires))
