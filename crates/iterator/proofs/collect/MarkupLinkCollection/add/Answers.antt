-- `collect::MarkupLinkCollection::add` meets its contract: the row is that of the link that was found, and adding the row is adding the link (ScannedLaws).
-- Assumes nothing.
use Rattle.std.proofs.Common.{ap}
use Rattle.iterator.specs.Inner.{kind_of}
use Rattle.iterator.proofs.ScannedLaws.{addable, text2dest-scanned, text-label2dest-scanned}
use Rattle.iterator.proofs.collect.MarkupLinkCollection.add.Goals as goal

pub add_text2label-requires : goal.add_text2label-requires
add_text2label-requires c = addable _ _ _ _ c.requires _ _ c.take_row-row.ensures.row c.take_row-row.ensures.read

pub add_label2dest-requires : goal.add_label2dest-requires
add_label2dest-requires c = addable _ _ _ _ c.requires _ _ c.take_row-row.ensures.row c.take_row-row.ensures.read

pub add_label2label-requires : goal.add_label2label-requires
add_label2label-requires c = addable _ _ _ _ c.requires _ _ c.take_row-row.ensures.row c.take_row-row.ensures.read

pub returns-in-Text2Dest : goal.returns-in-Text2Dest
returns-in-Text2Dest c =
    text2dest-scanned _ _ _ _ c.requires _ _ c.take_row-row.ensures.row c.take_row-row.ensures.read _ _ _ (ap kind_of c.in-Text2Dest.is) c.add_link.ensures.row c.add_link.ensures.step

pub returns-in-TextLabel2Dest : goal.returns-in-TextLabel2Dest
returns-in-TextLabel2Dest c =
    text-label2dest-scanned _ _ _ _ c.requires _ _ c.take_row-row.ensures.row c.take_row-row.ensures.read _ _ _ (ap kind_of c.in-TextLabel2Dest.is) c.add_both.ensures.rows c.add_both.ensures.step
