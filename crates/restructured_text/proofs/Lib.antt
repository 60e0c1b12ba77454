-- `Cases` computes worked examples; `Named` holds laws that docs/ names and that no other proof uses now; the others are the laws that
-- specs/Lib.antt lists, and what they need.
pub mod TransformLaws
pub mod PartLaws
pub mod DelimitedLaws
pub mod Bounds
pub mod Text2targetLaws
pub mod LabelLaws
pub mod StringsLaws
pub mod InlineLaws
pub mod JoinLaws
pub mod BlockLaws
pub mod TargetLaws
pub mod CalmLaws
pub mod Named
mod Cases
