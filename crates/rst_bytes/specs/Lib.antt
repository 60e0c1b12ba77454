-- What the bytes layer promises: document 01, "Bytes and the `nom` pieces".
--
-- Each definition, and the public function whose contract is an equation with it, on every input:
--   Domain     char_of             domain::char_at        the character that starts at a place
--              outside_of          domain::first_outside  the first byte that starts no character
--   Word       is_word             word::is_word          a word character
--              word_of             word::word_run         the maximal run of word characters
--   Trim       trim_of             trim::trim_end         the front part up to the last character that is not blank
--   Escaped    is_escapable        escaped::is_escapable  ESCAPABLE
--              escaped_of          escaped::escaped       a part up to a stop byte
--              taking              escaped::escaped_front so many bytes at the front, taken as a whole; no equation
--              is_stop             free::is_stop          one of two bytes
--   Line       newline_of          line::newline          LF
--              line_ending_of      line::line_ending      LF or CR LF
--              not_line_ending_of  line::not_line_ending  the rest of the line
--              is_space            line::is_space         space, tab
--              space0_of           line::space0           spaces and tabs
--              space1_of           line::space1           the same, at least one
--              is_multispace       line::is_multispace    space, tab, CR, LF
--              multispace0_of      line::multispace0      a run of these
--   Tag        starts_with         tag::tag               given bytes at the front
--   Free       free_front_of       free::free_front       the bytes at the front that are none of three
--   Appending  free, Body, Tail                           what the laws on appended text speak of
-- Inner and Lanes are what the contracts of private functions speak of. `copy::copy`, which puts bytes at the front of others that have room
-- for them, cites no definition.
--
-- Laws, proved in the file of proofs/ that is named, for the layers above:
--   within the input   DomainLaws char-within, char-at-within, run-within, outside-within; WordLaws word-within; TrimLaws
--                      trim-within; EscapedLaws taken-le, taking-le; LineLaws bytes-within, newline-le, line-ending-le, not-line-ending-le, space0-le,
--                      space1-le, multispace0-le; TagLaws starts-le
--   progress           DomainLaws char-within; EscapedLaws taken-pos; LineLaws newline-pos, line-ending-pos, space1-pos
--   what follows       DomainLaws char-inside, inside-at: no character starts inside another; EscapedLaws taken-stop, taking-stop: a part
--                      ends before a stop byte, stop_is: which is one of two, taken-from, taken-later, taken_back: it is the same counted from any number;
--                      taking-front: it is taken as a whole; taking-over, escaped-over: what stands behind a text that is taken as a
--                      whole is read as if it stood alone, taking-fewer: such a text is taken with fewer stop bytes too; cut-front,
--                      cut-rest: so are the two parts, up to an escaped stop byte and behind it; whole-over: what stands behind a part that is
--                      taken as a whole; front-within, front-taken: such a part by what the code has; TrimLaws trim-behind: what is trimmed
--                      behind a backtick;
--                      LineLaws not-line-ending-end: a line ends before a line ending, space0-starts, space0-free: what spaces and
--                      tabs at the front begin with and lack; TagLaws starts-append, starts-shorter, starts-space
--   at a place         by the code's tests: EscapedLaws at-end, at_plain, at-stop, at-alone, at_pair, at-wrong: one step of `taking`;
--                      first-other, first-stop: where `escaped_of` begins; LineLaws bytes-end, bytes-pass, bytes-stop: one step of a run of bytes,
--                      which bytes_count says is the same counted from any number; bytes-prefix_len: the run in the library's words,
--                      bytes-take_while: what `take_while` and `count` answer is that run; bytes_is: it is as many as pass;
--                      bytes_each: each of them passes; bytes-both: of bytes that pass one test those that pass another; bytes-same: by a test
--                      that says the same; space1-none, space1-some: there is no space or tab, or one; ending-lf, ending-crlf, ending-none: a line ending, or none; multispace-cases: which bytes are white space
--   answers            EscapedLaws taken_is: equal answers take as many bytes; refused-taken: none is both taken and refused
--   without two bytes  where a text has neither: EscapedLaws free-next: its first byte is neither, nor has the rest one; free_more:
--                      nor has it with such a byte in front; free-drop, free-take: nor have its parts; no_slash: a byte that is neither
--                      of two backslashes is none; TagLaws starts-free: nor what it begins with
--   lists and tests    Lists part-from, drop-end, drop-next, drop-two, drop-last, as-front: parts of a list; TestLaws picks_first,
--                      picks_second, by-test, by-test₂, lt-or-le, or_cases, neither: what a test picks
--   appending          LineLaws body-drop; bytes-append: a run is the same with a byte behind it that does not pass; on s ++ 10 ∷ t:
--                      DomainLaws outside-lf; WordLaws word-lf; EscapedLaws refused-lf, taken-lf, open-lf; LineLaws newline-lf,
--                      line-ending-lf, not-line-ending-lf, space0-lf, space1-lf; TagLaws starts-lf; with another byte than LF between:
--                      DomainLaws char-low, run-low; WordLaws word-ended; TagLaws starts-byte
pub mod Tests
pub mod Domain
pub mod Word
pub mod Trim
pub mod Escaped
pub mod Line
pub mod Free
pub mod Tag
pub mod Appending
pub mod Inner
pub mod Lanes
