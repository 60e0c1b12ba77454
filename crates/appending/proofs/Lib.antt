-- `Theorem` proves the claim; `RemainingLaws` says it of what is collected. `ExamplesHold` computes the examples.
pub mod RemainingLaws
pub mod Theorem
mod ExamplesHold
