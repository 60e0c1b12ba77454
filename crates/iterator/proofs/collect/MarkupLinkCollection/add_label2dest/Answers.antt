-- `collect::MarkupLinkCollection::add_label2dest` meets its contract: the block's name is numbered or stays, and its row, with the rendered link's where render is on, is added (AddLaws).
-- Assumes nothing.
use Rattle.iterator.proofs.AddLaws.{destination-adds, rendered-adds}
use Rattle.iterator.proofs.collect.MarkupLinkCollection.add_label2dest.Goals as goal

pub returns-in-On : goal.returns-in-On
returns-in-On c =
    rw c.in-On.is (rendered-adds _ _ _ _ _ _ _ _ c.requires c.label-name.ensures c.next_target.ensures _ _ c.add_both.ensures.rows c.add_both.ensures.step)

pub returns-in-Off : goal.returns-in-Off
returns-in-Off c =
    rw c.in-Off.is (destination-adds _ _ _ _ _ _ _ _ c.requires c.label-name.ensures c.next_target.ensures _ _ c.add_name.ensures.row c.add_name.ensures.step)
