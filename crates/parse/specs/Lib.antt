-- What the scanner promises: document 01, "`parse.rs`: `take_link`", and its table of refusals for the single-link call.
--
-- Each definition, and the public function whose contract is an equation with it, on every input, place, scratch and buffer:
--   Scan      scan_of      take_link, next_link    the first link of a text: rounds (a) to (f)
--   Single    single_of    single_link             number and values, and both buffers
--   Refusal   number_of    Refusal::number         a refusal's number in 01's table
--             bytes_of     Refusal::bytes          the place or size that comes with it, or 0
-- Link says what an answer means with the scratch as the scanner left it, that a scratch as long as the text is enough and is asked
-- for, and that the strings end within as many bytes of it as are consumed (Ends, part of the contract). Forms lists the parsers that
-- are tried, and where. Single gives 01's number and values for each case of the single-link answer (outcome_of); its strings stand at
-- the front of the buffers (Fronts, part of the contract). Links says what all links of a text are, one after the other. Inner and Place are
-- what the contracts of private functions speak of, and Inner also what is known of backticks and blocks: `next_link` is handed such
-- knowledge and the marks that go with it, asks that it is true (Holds), and leaves there what is true behind the link with the marks
-- from there on (TrueBehind). Cases gathers worked cases, which proofs/CasesHold.antt computes.
--
-- Laws, proved in the file of proofs/ that is named, for the layers above; Laws defines what they speak of. Those marked * hold for any
-- forms that consume at least one byte and no more than there are (`Forms.Consuming`), and reStructuredText's do (ScanLaws
-- rst-consuming):
--   progress           ScanLaws round-inside *: a round ends the scan within the text or passes at least one byte of it; later-stops *,
--                      later-passes *: the scan is that round's link, or goes on behind what it passed
--   scanning ends      ScanLaws scan-inside *, scan-within *, scan-of-within: with a link of at least one byte within the text, or
--                      with none; scan-room *, scan-of-room: and never for want of room; LinksLaws links-equation *, links-found *,
--                      links-none *: the links of a text are its first and those of what is behind it
--   scratch            RoundLaws lent-enough, lent-short: a scratch as long as the text is enough, and is asked for
--   sizes              SizeLaws scan-of-sized: the strings of a link are no longer than what it consumed; links-of-measured: so are those of
--                      each link of a text, which has at least one byte; single-small: the lengths and places of the single-link
--                      answer are at most that of the longest document (Small)
--   calm               CalmLaws calm-skips: the rounds from a place on are those from a later one on, where no _ and no backtick stands
--                      between and (f) ends there, before LF or the end; gap-skips: or before a blank, where no line starts
--   handing on         OnwardLaws found-holds, behind-holds: what is known where a link is found is true of the text behind it, which
--                      the next scan reads, with the marks from there on; holds-nothing: nothing known is true of every text
--   computing          CasesHold outcomes: to unfold it is to unfold all that computing a scan goes through
--   in order and apart LinksLaws links-apart *, links-of-apart: each link starts at or after the end of the one before
--   appending          on s ++ 10 ∷ t, for `Tail t` and `Body s`: AppendingLaws scan-lf: a link found in s is found alike; scan-none-lf:
--                      where none is, whatever is found starts past the LF; links-lf: the links are those of s and then some that start
--                      past the LF; scan-stays *: the first two for any forms that find the same there (`Keeping`)
pub mod Link
pub mod Forms
pub mod Scan
pub mod Links
pub mod Laws
pub mod Refusal
pub mod Single
pub mod Inner
pub mod Place
pub mod Cases
