-- Worked examples of the definitions, one list for each, checked by computation.
-- Assumes nothing.
use Rattle.std.proofs.Common.{Some, None}
use mathlib.Core.Path.{◌≡◌, refl}
use mathlib.Core.List.{[], ◌∷◌, ◌++◌, map}
use mathlib.Core.Bool.{true, false}
use lib.ListN.{replicate}
use Rattle.rst_bytes.specs.Domain.{is_pair, char_of, run, outside_of}
use Rattle.rst_bytes.specs.Word.{is_ascii_word, is_word, in_ranges, word_ranges, word_of}
use Rattle.rst_bytes.specs.Trim.{is_blank, blanks, trim_of}
use Rattle.rst_bytes.specs.Escaped.{is_escapable, is_stop, taking, escaped_of}
use Rattle.rst_bytes.specs.Line.{newline_of, line_ending_of, line_from, not_line_ending_of, is_space, is_multispace, bytes_from, space0_of, space1_of, multispace0_of}
use Rattle.rst_bytes.specs.Tag.{starts_with}

-- U+0041, U+00E9, U+024F; C9 90 and C0 80 are none, nor is a second byte
characters :
    map char_of
    ((0x41 ∷ [])
    ∷ (0xC3 ∷ 0xA9 ∷ [])
    ∷ (0xC9 ∷ 0x8F ∷ [])
    ∷ (0xC9 ∷ 0x90 ∷ [])
    ∷ (0xC0 ∷ 0x80 ∷ [])
    ∷ (0xA9 ∷ 0x41 ∷ [])
    ∷ [])
    ≡ Some (1, 0x41) ∷ Some (2, 0xE9) ∷ Some (2, 0x24F) ∷ None ∷ None ∷ None ∷ []
unfolding char_of is_pair
characters = refl

-- the first byte that starts no character is found by reading from the start: it is not the second byte of a character, but
-- the first byte of one that is not whole or not of the domain
outside :
    map outside_of
    ([]
    ∷ (0x61 ∷ 0xC9 ∷ 0x90 ∷ [])
    ∷ (0x61 ∷ 0xC9 ∷ 0x8F ∷ [])
    ∷ (0x61 ∷ 0xC2 ∷ [])
    ∷ (0x61 ∷ 0xC2 ∷ 0x41 ∷ [])
    ∷ (0xC3 ∷ 0xA9 ∷ 0xA9 ∷ [])
    ∷ (0xC0 ∷ 0x80 ∷ [])
    ∷ [])
    ≡ None ∷ Some 1 ∷ None ∷ Some 1 ∷ Some 1 ∷ Some 2 ∷ Some 0 ∷ []
unfolding outside_of run char_of is_pair
outside = refl

-- a document of the greatest length
long : map outside_of (replicate 16384 0x61 ∷ (replicate 16383 0x61 ++ 0xC3 ∷ []) ∷ []) ≡ None ∷ Some 16383 ∷ []
unfolding outside_of run char_of is_pair
long = refl

-- a word goes on over '-', '_' and U+00E9, and ends before '.', U+00D7, a blank and a byte that starts no character
words :
    map word_of
    ((0x61 ∷ 0x2D ∷ 0x5F ∷ 0xC3 ∷ 0xA9 ∷ 0x39 ∷ 0x2E ∷ 0x61 ∷ [])
    ∷ (0x5A ∷ 0xC3 ∷ 0x97 ∷ [])
    ∷ (0x20 ∷ 0x61 ∷ [])
    ∷ (0x61 ∷ 0xC3 ∷ [])
    ∷ [])
    ≡ 6 ∷ 1 ∷ 0 ∷ 1 ∷ []
unfolding word_of run char_of is_pair is_word is_ascii_word in_ranges word_ranges
words = refl

-- a, U+0085, b, blank, U+00A0, tab keeps up to b; U+00A1 is no blank; blanks alone leave nothing
trimmed :
    map trim_of
    ((0x61 ∷ 0xC2 ∷ 0x85 ∷ 0x62 ∷ 0x20 ∷ 0xC2 ∷ 0xA0 ∷ 0x09 ∷ [])
    ∷ (0x61 ∷ 0x20 ∷ 0xC2 ∷ 0xA1 ∷ [])
    ∷ (0x20 ∷ 0x0D ∷ 0x0A ∷ [])
    ∷ [])
    ≡ 4 ∷ 4 ∷ 0 ∷ []
unfolding trim_of blanks run char_of is_pair is_blank
trimmed = refl

-- up to a backtick: none is there, an escaped one, one that is the first, a backslash before 'b', a last backslash
parts :
    map (escaped_of 0x60 0x60)
    ([]
    ∷ (0x61 ∷ 0x62 ∷ [])
    ∷ (0x5C ∷ 0x60 ∷ 0x61 ∷ 0x60 ∷ 0x5F ∷ [])
    ∷ (0x60 ∷ 0x61 ∷ [])
    ∷ (0x61 ∷ 0x5C ∷ 0x62 ∷ 0x60 ∷ [])
    ∷ (0x61 ∷ 0x5C ∷ [])
    ∷ [])
    ≡ Some 0 ∷ Some 2 ∷ Some 3 ∷ None ∷ None ∷ None ∷ []
unfolding escaped_of taking is_stop is_escapable
parts = refl

-- LF, CR LF, another byte, nothing
newlines : map newline_of ((0x0A ∷ []) ∷ (0x0D ∷ 0x0A ∷ []) ∷ (0x61 ∷ []) ∷ [] ∷ []) ≡ Some 1 ∷ None ∷ None ∷ None ∷ []
unfolding newline_of
newlines = refl

-- LF, CR LF, CR alone, CR and another byte, another byte, nothing
ends :
    map line_ending_of ((0x0A ∷ []) ∷ (0x0D ∷ 0x0A ∷ []) ∷ (0x0D ∷ []) ∷ (0x0D ∷ 0x0D ∷ []) ∷ (0x61 ∷ 0x0A ∷ []) ∷ [] ∷ [])
    ≡ Some 1 ∷ Some 2 ∷ None ∷ None ∷ None ∷ None ∷ []
unfolding line_ending_of
ends = refl

-- up to LF, up to CR LF, to the end; a CR without LF refuses, wherever LF stands
lines :
    map not_line_ending_of
    ((0x61 ∷ 0x0A ∷ 0x62 ∷ [])
    ∷ (0x61 ∷ 0x62 ∷ 0x0D ∷ 0x0A ∷ [])
    ∷ (0x61 ∷ 0x62 ∷ 0x63 ∷ [])
    ∷ (0x61 ∷ 0x0D ∷ [])
    ∷ (0x61 ∷ 0x0D ∷ 0x62 ∷ 0x0A ∷ [])
    ∷ [])
    ≡ Some 1 ∷ Some 2 ∷ Some 3 ∷ None ∷ None ∷ []
unfolding line_from
lines = refl

-- spaces and tabs up to CR; none; the same with CR and LF
spaces : map space0_of ((0x20 ∷ 0x09 ∷ 0x0D ∷ []) ∷ (0x61 ∷ []) ∷ []) ≡ 2 ∷ 0 ∷ []
unfolding bytes_from is_space
spaces = refl

some-spaces : map space1_of ((0x20 ∷ 0x09 ∷ 0x0D ∷ []) ∷ (0x61 ∷ []) ∷ []) ≡ Some 2 ∷ None ∷ []
unfolding space1_of bytes_from is_space
some-spaces = refl

all-spaces : map multispace0_of ((0x20 ∷ 0x09 ∷ 0x0D ∷ 0x0A ∷ 0x61 ∷ []) ∷ (0x61 ∷ []) ∷ []) ≡ 4 ∷ 0 ∷ []
unfolding bytes_from is_multispace
all-spaces = refl

-- a text with two bytes at its front, one of them, another one, none; and the empty tag
tags :
    map (starts_with (0x2E ∷ 0x20 ∷ [])) ((0x2E ∷ 0x20 ∷ 0x61 ∷ []) ∷ (0x2E ∷ []) ∷ (0x2E ∷ 0x2E ∷ []) ∷ [] ∷ [])
    ++ map (starts_with []) ([] ∷ (0x61 ∷ []) ∷ [])
    ≡ true ∷ false ∷ false ∷ false ∷ true ∷ true ∷ []
unfolding starts_with
tags = refl
