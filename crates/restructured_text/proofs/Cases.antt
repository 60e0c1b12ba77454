-- Worked examples of the definitions, gathered as lists and checked by computation: 01's notes that speak of one form, and the
-- readings of 01 that docs/DECISIONS.md gives.
-- Assumes nothing.
use Rattle.std.proofs.Common.{Some, None}
use Prim.Native.Nat.{ℕ}
use Prim.Native.Char.{code}
use Prim.Native.String.{String}
use mathlib.Core.Path.{◌≡◌, refl}
use mathlib.Core.List.{List, [], ◌∷◌, ◌++◌, map}
use lib.ListN.{replicate}
use Rattle.rst_bytes.specs.Domain.{is_pair, char_of, run}
use Rattle.rst_bytes.specs.Word.{is_ascii_word, is_word, in_ranges, word_ranges, word_of}
use Rattle.rst_bytes.specs.Trim.{is_blank, blanks, trim_of}
use Rattle.rst_bytes.specs.Escaped.{is_escapable, is_stop, taking, escaped_of}
use Rattle.rst_bytes.specs.Line.{line_ending_of, line_from, is_space, is_multispace, bytes_from}
use Rattle.rst_bytes.specs.Tag.{starts_with}
use Rattle.restructured_text.specs.Transform.{whole, refused, reading, gives, is_destination_escapable, unblank, text_of, destination_of}
use Rattle.restructured_text.specs.Delimited.{delimited_of, ends_with}
use Rattle.restructured_text.specs.Text2target.{target_of, inside_of, text2target_of}
use Rattle.restructured_text.specs.Label.{word_label_of, raw_label_of, simple_label_of, form_of, parse_text2label_of}
use Rattle.restructured_text.specs.Strings.{Link, link, none}
use Rattle.restructured_text.specs.Inline.{text2dest_of, text_label2dest_of, text2label_of}
use Rattle.restructured_text.specs.Block.{start_of, cut_of, further_of, lines_of, block_of}
use Rattle.restructured_text.specs.Target.{plain_name_of, name_of, rest_of, excluded, parse_label2target_of, named_of, anonymous_of, label2target_of, label2dest_of, label2label_of}

-- the bytes of an ASCII text
abbrev ascii : String → List ℕ
ascii String.[] = []
ascii (String.◌∷◌ c s) = code c ∷ ascii s

-- a form, an input, and what the form finds there
record Case : Type 0 where
  form : List ℕ → Link
  given : String
  answer : Link

abbrev found : String → String → ℕ → Link
found x y n = link (ascii x) (ascii y) n

-- Embedded links and references.
abbrev inline : List Case
inline =
    -- 01's notes
    record { form = text2label_of; given = "abc__"; answer = found "abc" "_" 5 }
    ∷ record { form = text2label_of; given = "__"; answer = found "_" "_" 2 }
    ∷ record { form = text2label_of; given = "_"; answer = none }
    ∷ record { form = text_label2dest_of; given = "`a <u>`_"; answer = found "a" "u" 8 }
    ∷ record { form = text_label2dest_of; given = "`<u>`_"; answer = none }
    ∷ record { form = text2label_of; given = "`<u>`_"; answer = found "<u>" "<u>" 6 }
    ∷ record { form = text_label2dest_of; given = "`a\\ <u>`_"; answer = none }
    ∷ record { form = text2label_of; given = "`a\\ <u>`_"; answer = found "a<u>" "a<u>" 9 }
    ∷ record { form = text2label_of; given = "`x <_>`_"; answer = found "x" "" 8 }
    -- an escape in front is no stop
    ∷ record { form = text2label_of; given = "`\\`a`_"; answer = found "`a" "`a" 6 }
    -- a label form that a transform refuses is not tried again as a simple label
    ∷ record { form = text2label_of; given = "`a\\ <b_>`_"; answer = none }
    ∷ record { form = text2label_of; given = "`x <u\\_>`_"; answer = none }
    ∷ record { form = text2label_of; given = "b_>`_"; answer = found "b" "b" 2 }
    -- only the text is trimmed, at its end; the '_' is looked for in the raw target
    ∷ record { form = text2label_of; given = "`x < a _>`_"; answer = found "x" " a " 11 }
    ∷ record { form = text_label2dest_of; given = "`x <u_ >`_"; answer = found "x" "u_" 10 }
    ∷ record { form = text_label2dest_of; given = "`  x \t<u>`_"; answer = found "  x" "u" 11 }
    ∷ record { form = text_label2dest_of; given = "` <u>`_"; answer = found "" "u" 7 }
    ∷ record { form = text_label2dest_of; given = "`x < >`_"; answer = found "x" "" 8 }
    -- the label form has one '_'; what is no embedded link is a reference
    ∷ record { form = text2label_of; given = "`x <a_>`__"; answer = found "x <a_>" "_" 10 }
    ∷ record { form = text2dest_of; given = "`a <u>`___"; answer = none }
    ∷ record { form = text2label_of; given = "`a <u>`___"; answer = found "a <u>" "_" 9 }
    ∷ record { form = text_label2dest_of; given = "`a <b> <u>`_"; answer = none }
    ∷ record { form = text2label_of; given = "`a <b> <u>`_"; answer = found "a <b> <u>" "a <b> <u>" 12 }
    ∷ record { form = text_label2dest_of; given = "`a <u> `_"; answer = none }
    ∷ record { form = text2label_of; given = "`a <u> `_"; answer = found "a <u> " "a <u> " 9 }
    ∷ record { form = text_label2dest_of; given = "`a <>`_"; answer = none }
    ∷ record { form = text2label_of; given = "`a <>`_"; answer = found "a <>" "a <>" 7 }
    ∷ record { form = text2dest_of; given = "`a <u>`__b"; answer = found "a" "u" 9 }
    ∷ record { form = text2dest_of; given = "`a <u>`_"; answer = none }
    ∷ record { form = text_label2dest_of; given = "`a <u>`__"; answer = none }
    -- a label is empty if its raw bytes are none
    ∷ record { form = text2label_of; given = "`\\ `_"; answer = found "" "" 5 }
    ∷ record { form = text2label_of; given = "``_"; answer = none }
    -- underscores
    ∷ record { form = text2label_of; given = "___"; answer = found "_" "_" 3 }
    ∷ record { form = text2label_of; given = "____"; answer = found "__" "_" 4 }
    ∷ record { form = text2label_of; given = "`a`___"; answer = found "a" "_" 5 }
    ∷ record { form = text2label_of; given = "-_"; answer = found "-" "-" 2 }
    ∷ record { form = text2label_of; given = "`_`_"; answer = found "_" "_" 4 }
    ∷ record { form = text2label_of; given = "`a_`_"; answer = found "a_" "a_" 5 }
    -- what is tried behind a skipped bracket is a reference; a second bracket is none
    ∷ record { form = text2label_of; given = "`a <u>`_"; answer = found "a <u>" "a <u>" 8 }
    ∷ record { form = text2label_of; given = "(a_"; answer = none }
    -- labels and alias targets go through different transforms
    ∷ record { form = text2label_of; given = "`a b`_"; answer = found "a b" "a b" 6 }
    ∷ record { form = text2label_of; given = "`a\\ b`_"; answer = found "ab" "ab" 7 }
    -- line ends in a target are dropped
    ∷ record { form = text_label2dest_of; given = "`a <u\nv>`_"; answer = found "a" "uv" 10 }
    ∷ []

inline-cases : map (λ c. c.form (ascii c.given)) inline ≡ map (λ c. c.answer) inline
unfolding text2dest_of text_label2dest_of text2label_of parse_text2label_of form_of simple_label_of raw_label_of word_label_of text2target_of inside_of target_of delimited_of ends_with starts_with escaped_of taking is_stop is_escapable trim_of blanks run char_of is_pair is_blank word_of is_word is_ascii_word in_ranges word_ranges text_of destination_of reading gives is_destination_escapable unblank is_multispace
inline-cases = refl

-- Target blocks.
abbrev targets : List Case
targets =
    -- 01's notes
    record { form = label2dest_of; given = ".. _a: u\n   v"; answer = found "a" "uv" 13 }
    ∷ record { form = label2dest_of; given = ".. __1: u"; answer = found "_1" "u" 9 }
    ∷ record { form = label2label_of; given = ".. _x: `my label`_"; answer = found "x" "mylabel" 18 }
    ∷ record { form = label2dest_of; given = " .. _b: c"; answer = found "b" "c" 9 }
    -- a backslash at a line's end escapes the joining space; an escaped '_' refuses
    ∷ record { form = label2dest_of; given = ".. _a: u\\\n   v"; answer = found "a" "u v" 14 }
    ∷ record { form = label2dest_of; given = ".. _a: u\\_v"; answer = none }
    -- the last line's ending is not consumed
    ∷ record { form = label2dest_of; given = ".. _a: u\n"; answer = found "a" "u" 8 }
    ∷ record { form = label2dest_of; given = ".. _a: u\n   v\r"; answer = found "a" "u" 8 }
    ∷ record { form = label2dest_of; given = ".. _a: u\r\n   v\r\n"; answer = found "a" "uv" 14 }
    ∷ record { form = label2dest_of; given = ".. _a: u\r"; answer = none }
    -- further lines
    ∷ record { form = label2dest_of; given = ".. _a: u\n   "; answer = found "a" "u" 12 }
    ∷ record { form = label2dest_of; given = ".. _a: u\n\n   v"; answer = found "a" "u" 8 }
    ∷ record { form = label2dest_of; given = ".. _a: u\n  v"; answer = found "a" "u" 8 }
    ∷ record { form = label2dest_of; given = " .. _a: u\n    v"; answer = found "a" "uv" 15 }
    ∷ record { form = label2dest_of; given = " .. _a: u\n\t   v"; answer = found "a" "u" 9 }
    ∷ record { form = label2dest_of; given = ".. _a\n    b: u"; answer = found "a  b" "u" 14 }
    -- the text begins right behind the header's one space
    ∷ record { form = label2dest_of; given = "..  _a: u"; answer = none }
    ∷ record { form = label2dest_of; given = ".. \n   _a: u"; answer = none }
    ∷ record { form = label2dest_of; given = "..\n   _a: u"; answer = none }
    -- empty destinations; the joining space serves as the one behind the colon
    ∷ record { form = label2dest_of; given = "__ "; answer = found "_" "" 3 }
    ∷ record { form = label2dest_of; given = ".. _a: "; answer = found "a" "" 7 }
    ∷ record { form = label2dest_of; given = ".. _a:"; answer = none }
    ∷ record { form = label2dest_of; given = ".. _a:\n   u"; answer = found "a" "u" 11 }
    -- names
    ∷ record { form = label2dest_of; given = ".. _a`b: u"; answer = found "a`b" "u" 10 }
    ∷ record { form = label2dest_of; given = ".. _`a:b`: u"; answer = found "a:b" "u" 12 }
    ∷ record { form = label2dest_of; given = ".. _`a: u"; answer = found "`a" "u" 9 }
    ∷ record { form = label2dest_of; given = ".. _`a` : u"; answer = found "`a` " "u" 11 }
    ∷ record { form = label2dest_of; given = ".. _a:b: u"; answer = none }
    ∷ record { form = label2dest_of; given = ".. __: u"; answer = found "_" "u" 8 }
    ∷ record { form = label2dest_of; given = ".. _\\ : u"; answer = found "" "u" 9 }
    -- alias or destination
    ∷ record { form = label2dest_of; given = ".. _a:  b_"; answer = found "a" "b_" 10 }
    ∷ record { form = label2label_of; given = ".. _a:  b_"; answer = none }
    ∷ record { form = label2dest_of; given = ".. _a: \n   b_"; answer = found "a" "b_" 13 }
    ∷ record { form = label2label_of; given = ".. _a:\n   b_"; answer = found "a" "b" 12 }
    ∷ record { form = label2label_of; given = ".. _a: b_/c"; answer = found "a" "b" 11 }
    ∷ record { form = label2dest_of; given = ".. _a: b_/c"; answer = none }
    ∷ record { form = label2dest_of; given = ".. _a: _"; answer = found "a" "_" 8 }
    ∷ record { form = label2label_of; given = ".. _a: __"; answer = found "a" "_" 9 }
    ∷ record { form = label2label_of; given = ".. _a: b__"; answer = found "a" "b" 10 }
    ∷ record { form = label2label_of; given = ".. _a: `b\\_`_"; answer = none }
    ∷ record { form = label2dest_of; given = ".. _a: `b\\_`_"; answer = none }
    ∷ record { form = label2label_of; given = ".. _x: `a b`_"; answer = found "x" "ab" 13 }
    ∷ record { form = label2label_of; given = ".. _x: `a\\ b`_"; answer = found "x" "a b" 14 }
    -- anonymous blocks
    ∷ record { form = label2dest_of; given = "__ u"; answer = found "_" "u" 4 }
    ∷ record { form = label2label_of; given = "__ b_ c"; answer = found "_" "b" 7 }
    ∷ record { form = label2dest_of; given = "__ \\"; answer = none }
    ∷ []

target-cases : map (λ c. c.form (ascii c.given)) targets ≡ map (λ c. c.answer) targets
unfolding label2dest_of label2label_of label2target_of named_of anonymous_of parse_label2target_of excluded rest_of name_of plain_name_of block_of lines_of further_of cut_of start_of line_ending_of line_from bytes_from is_space is_multispace simple_label_of raw_label_of word_label_of delimited_of ends_with starts_with escaped_of taking is_stop is_escapable run char_of is_pair word_of is_word is_ascii_word in_ranges word_ranges text_of destination_of reading gives is_destination_escapable unblank
target-cases = refl

-- The transforms: what an escape gives, what is dropped, what refuses and what is left then.
transforms :
    map text_of (ascii "a\\:\\_b\\ c" ∷ ascii "a\\" ∷ ascii "ab\\c" ∷ ascii " a\n" ∷ [])
    ≡ whole (ascii "a:_bc") ∷ refused (ascii "a") ∷ refused (ascii "ab") ∷ whole (ascii " a\n") ∷ []
unfolding text_of reading gives is_escapable
transforms = refl

destinations :
    map destination_of (ascii "u v\tw\r\n" ∷ ascii "u\\ v\\:" ∷ ascii "u\\" ∷ ascii "u v\\_" ∷ (0x75 ∷ 0xC2 ∷ 0xA0 ∷ []) ∷ [])
    ≡ whole (ascii "uvw") ∷ whole (ascii "u v:") ∷ refused (ascii "u") ∷ refused (ascii "uv") ∷ whole (0x75 ∷ 0xC2 ∷ 0xA0 ∷ []) ∷ []
unfolding destination_of reading gives is_escapable is_destination_escapable unblank is_multispace
destinations = refl

-- The limit on a simple label counts its raw bytes, in backticks or not; a label in brackets has none.
abbrev letters : ℕ → List ℕ
letters n = replicate n 0x61

-- U+00E9, and an escaped colon, for each byte of a list
abbrev accents : List ℕ → List ℕ
accents [] = []
accents (b ∷ s) = 0xC3 ∷ 0xA9 ∷ accents s

abbrev escapes : List ℕ → List ℕ
escapes [] = []
escapes (b ∷ s) = 0x5C ∷ 0x3A ∷ escapes s

limits :
    map simple_label_of
    ((letters 999 ++ ascii "_")
    ∷ (letters 1000 ++ ascii "_")
    ∷ (letters 999 ++ ascii "__")
    ∷ (accents (letters 500) ++ ascii "_")
    ∷ (ascii "`" ++ letters 999 ++ ascii "`_")
    ∷ (ascii "`" ++ letters 1000 ++ ascii "`_")
    ∷ (ascii "`" ++ escapes (letters 499) ++ ascii "`_")
    ∷ (ascii "`" ++ escapes (letters 500) ++ ascii "`_")
    ∷ [])
    ≡ Some ((record { start = 0; len = 999 }), 1000)
    ∷ None
    ∷ Some ((record { start = 0; len = 999 }), 1000)
    ∷ None
    ∷ Some ((record { start = 1; len = 999 }), 1002)
    ∷ None
    ∷ Some ((record { start = 1; len = 998 }), 1001)
    ∷ None
    ∷ []
unfolding simple_label_of raw_label_of word_label_of delimited_of ends_with starts_with escaped_of taking is_stop is_escapable run char_of is_pair word_of is_word is_ascii_word in_ranges word_ranges
limits = refl

no-limit : map text2label_of ((ascii "`x <" ++ letters 1000 ++ ascii "_>`_") ∷ []) ≡ link (ascii "x") (letters 1000) 1008 ∷ []
unfolding text2label_of parse_text2label_of form_of simple_label_of raw_label_of word_label_of text2target_of inside_of target_of delimited_of ends_with starts_with escaped_of taking is_stop is_escapable trim_of blanks run char_of is_pair is_blank text_of reading gives
no-limit = refl
