-- What the document reader promises: document 01, "`iterator.rs`", "Records" and "What comes out of a refusal".
--
-- The definition, and the public function whose contract is an equation with it, on every document, option, work areas and output:
--   Document    document_of    document    number, links and bytes, the output, and both work areas
-- It is made of, in 01's order: Collect (collect_all: what all links of the document give, numbered, or 5 or 6), Resolve (hyperlinks_of:
-- aliases, then references), Records (records_of). What the links of a document are, one after the other, is `parse`'s Links links_of.
-- Rows, Index, Render and Inner are what the contracts of private functions speak of: how lists stand in the work areas, and the option. Cases
-- gathers worked cases, which proofs/CasesHold.antt computes.
--
-- Laws, proved in the file of proofs/ that is named, for the layers above; ReadBack, Laws and Reach define what they speak of:
--   in order           OrderLaws collected-apart, collected-standing: each link starts at or after the end of the one before, all end
--                      within the document, and no string is longer than it; collected-in-order: the same of the order alone;
--                      items-end, ReadBackLaws standing-end: such a list ends not before it starts
--   sizes              RecordLaws records-size: the records take 8 bytes a link and its strings
--   reading back       ReadBackLaws links-held: the records of links in order, with fields of 15 bits, hold those links; spare-bits:
--                      the four bits behind the fields are zero
--   accepted           AcceptedLaws accepted: an accepted document is collected, and its output begins with the records of its links;
--                      accepted-held: those records hold these links
--   the work areas     that those of 4,096 numbers and 49,152 bytes suffice is no law but part of the proofs: no function
--                      here tests for room in them, and each asks for it (Inner Held: at most 18,432 bytes are taken, and the scanner
--                      is lent the rest, which is proved to be enough for it, ReadingLaws room-always)
--   collecting         CollectingLaws collect-append: collecting two lists of links is collecting the first and then the second;
--                      AppendingLaws collect-grows: what is collected stays, and what links add to it follows, in their order
--   which names        Reach defines when a name reaches a destination (it has it, or its alias's target reaches it). ReachLaws sound:
--                      a name that ends with a destination reaches it; complete: a name that reaches one ends with one; left_over_lem:
--                      the target of an alias that is left over has none. OnceLaws unique: a name reaches one only, where no name is
--                      defined twice; resolved-grows: then more names and aliases leave what was resolved as it was
--   computing          CasesHold outcomes: to unfold it is to unfold all that computing a document's answer goes through
--   appending          on s ++ 10 ∷ t, for `Tail t` and `Body s`: AppendingLaws collect-lf, collected-lf: the document collects what s
--                      does and then what the links past the LF add. What that says of two calls is the crate `appending`.
pub mod Collect
pub mod Resolve
pub mod Records
pub mod Document
pub mod ReadBack
pub mod Laws
pub mod Reach
pub mod Render
pub mod Rows
pub mod Index
pub mod Inner
pub mod Cases
