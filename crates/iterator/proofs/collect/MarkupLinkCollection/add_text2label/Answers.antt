-- `collect::MarkupLinkCollection::add_text2label` meets its contract: the reference's label is numbered or stays, and its row is added (AddLaws).
-- Assumes nothing.
use Rattle.iterator.proofs.AddLaws.{reference-adds}
use Rattle.iterator.proofs.collect.MarkupLinkCollection.add_text2label.Goals as goal

pub returns : goal.returns
returns c =
    reference-adds _ _ _ _ _ _ _ _ c.requires c.label-goal.ensures c.next_reference.ensures _ _ c.add_link.ensures.row c.add_link.ensures.step
