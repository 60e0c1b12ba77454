-- `CasesHold` computes the worked cases; `Named` holds laws that docs/ names and that no other proof uses now; the others are the laws that
-- specs/Lib.antt lists, and what they need.
pub mod ScanLaws
pub mod LinksLaws
pub mod AppendingLaws
pub mod FormsLaws
pub mod BacktickLaws
pub mod BarrenLaws
pub mod BarredLaws
pub mod RoundLaws
pub mod CalmLaws
pub mod DullLaws
mod StartsLaws
pub mod OnwardLaws
pub mod SingleLaws
pub mod SizeLaws
pub mod Named
pub mod CasesHold
