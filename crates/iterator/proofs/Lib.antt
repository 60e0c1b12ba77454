-- The laws that the layers above use; specs/Lib.antt lists them. `Named` holds laws that docs/ names and that no other proof uses now. The
-- others serve the proofs here.
pub mod RowsLaws
pub mod NamesLaws
pub mod CollectLaws
pub mod LabelLaws
pub mod AddLaws
pub mod ScannedLaws
pub mod ReadingLaws
pub mod ResolveLaws
pub mod LookupLaws
pub mod TriedLaws
pub mod WalkLaws
pub mod RecordLaws
pub mod IndexLaws
pub mod ReferenceLaws
pub mod ReadBackLaws
pub mod CollectingLaws
pub mod AppendingLaws
pub mod ReachLaws
pub mod OnceLaws
pub mod OrderLaws
pub mod DocumentLaws
pub mod AcceptedLaws
pub mod Named
pub mod CasesHold
mod AreaLaws
