-- The laws of Verdict, Runs and Walk, which the proofs of the functions need; `Named` holds laws that docs/ names and that no other proof
-- uses now.
pub mod BitLaws
pub mod TextLaws
pub mod BlankLaws
pub mod IndentsLaws
pub mod VerdictLaws
pub mod RunLaws
pub mod SizeLaws
pub mod NameLaws
pub mod WordLaws
pub mod TargetLaws
pub mod LineTargetLaws
pub mod StateLaws
pub mod EscapeLaws
pub mod WalkLaws
pub mod CandidateLaws
pub mod Named
