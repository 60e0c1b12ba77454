-- `collect::MarkupLinkCollection::add_label2label` meets its contract: the block's name is numbered or stays, and its row is added (AddLaws).
-- Assumes nothing.
use Rattle.iterator.proofs.AddLaws.{alias-adds}
use Rattle.iterator.proofs.collect.MarkupLinkCollection.add_label2label.Goals as goal

pub returns : goal.returns
returns c =
    alias-adds _ _ _ _ _ _ _ _ c.requires c.label-name.ensures c.next_target.ensures _ _ c.add_name.ensures.row c.add_name.ensures.step
