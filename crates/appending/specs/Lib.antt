-- What appending promises: Claim is the theorem, to be read first; `append_keeps` of src/lib.rt is any two calls of `iterator::document`, and
-- promises it. Examples has pairs of documents that show that the claim is not empty and that each premise is needed;
-- proofs/ExamplesHold.antt computes them.
--
-- The proof, in the order of its argument (docs/ARCHITECTURE.md tells it): the links of the longer text are those of the first and then some
-- that start in the tail (parse, AppendingLaws links-lf, from the parsers' laws); so it is with what is collected (iterator, AppendingLaws
-- collected-lf), and what was resolved stays (OnceLaws resolved-grows); hence the links of what is collected are kept (RemainingLaws
-- appended-keeps); the records of an accepted call hold these (iterator, AcceptedLaws accepted-held), which is the theorem (Theorem
-- appending-keeps).
pub mod Claim
pub mod Examples
