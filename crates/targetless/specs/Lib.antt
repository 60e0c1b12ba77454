-- What is promised of places at which no target starts, for the scanner, which then tries none there: no answer of a call comes from here.
--
--   Targetless  Marks  mark  where 1 is marked no target starts, on every text and with any number of marks
-- Indents, Verdict, Runs and Walk are what the contracts of private functions speak of.
--
-- Laws, proved in the file of proofs/ that is named, for the layers above:
--   WalkLaws marks-none: nothing is claimed where nothing is marked
pub mod Targetless
pub mod Indents
pub mod Verdict
pub mod Runs
pub mod Walk
