-- `LinkLaws`: the link of a record; `QuoteLaws`: strings in quotes, by bytes and by parts; `Named`: laws that docs/
-- names and that no other proof uses now.
mod LinkLaws
mod QuoteLaws
pub mod Named
