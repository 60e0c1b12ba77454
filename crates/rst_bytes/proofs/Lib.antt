-- `Cases` computes worked examples, `FreeLaws` and `LanesLaws` are for the modules `free` and `lanes`; `Named` holds laws that docs/ names and that no
-- other proof uses now; the others are the laws that specs/Lib.antt lists.
pub mod Variants
pub mod Lists
pub mod TestLaws
pub mod DomainLaws
pub mod WordLaws
pub mod TrimLaws
pub mod EscapedLaws
mod FreeLaws
mod LanesLaws
pub mod LineLaws
pub mod TagLaws
pub mod Named
mod Cases
