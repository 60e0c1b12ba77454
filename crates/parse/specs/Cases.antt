-- Worked cases of the single-link call: calls, and what comes back. `worked` are the cases that 01 gives, in its order; `readings`
-- are inputs that show how its sentences are read. proofs/CasesHold.antt computes that all of them hold.
-- Assumes nothing.
use Rattle.std.specs.Prelude.{ℕ, zero, suc, ◌-◌, List, [], ◌∷◌, ◌++◌, length, replicate}
use Prim.Native.Char.{code}
use Prim.Native.String.{String}
use Rattle.parse.specs.Link.{Kind, text2dest, text-label2dest, text2label, label2dest, label2label}
use Rattle.parse.specs.Single.{Outcome, refusal, acceptance, single_of}

-- the bytes of an ASCII text
abbrev pub ascii : String → List ℕ
ascii String.[] = []
ascii (String.◌∷◌ c s) = code c ∷ ascii s

-- n letters
abbrev pub letters : ℕ → List ℕ
letters n = replicate n 0x61

-- n times these bytes
unfoldable pub times : ℕ → List ℕ → List ℕ
times zero s = []
times (suc n) s = s ++ times n s

-- a call: the document, the place, and the lengths of the two buffers
pub record Call : Type 0 where
  pub document : List ℕ
  pub place : ℕ
  pub first : ℕ
  pub second : ℕ

-- place, lengths of the buffers, document
abbrev pub call : ℕ → ℕ → ℕ → List ℕ → Call
call place first second s = record { document = s; place = place; first = first; second = second }

-- with two buffers of 12 bytes: at a place
abbrev pub bytes_at : ℕ → List ℕ → Call
bytes_at place s = call place 12 12 s

-- at place 0
abbrev pub bytes : List ℕ → Call
bytes s = bytes_at 0 s

-- at a place of a text
abbrev pub from : ℕ → String → Call
from place s = bytes_at place (ascii s)

-- at place 0 of a text
abbrev pub one : String → Call
one s = from 0 s

-- what comes back: a link's case, first and second string, skipped and consumed; or a refusal's number and bytes
pub data Answer : Type 0 where
  found : Kind → List ℕ → List ℕ → ℕ → ℕ → Answer
  refused : ℕ → ℕ → Answer

-- a link whose strings are texts
abbrev pub link : Kind → String → String → ℕ → ℕ → Answer
link kind x y skipped consumed = found kind (ascii x) (ascii y) skipped consumed

-- a call and its answer
pub record Case : Type 0 where
  pub given : Call
  pub answer : Answer

infix 68 ◌⟶◌
abbrev pub ◌⟶◌ : Call → Answer → Case
c ⟶ a = record { given = c; answer = a }

-- the two buffers hold these bytes when they are lent
abbrev pub first_byte : ℕ
first_byte = 0x2E

abbrev pub second_byte : ℕ
second_byte = 0x2D

-- what the call returns, and how it leaves the buffers
abbrev pub returned : Call → Outcome
returned c = single_of c.document c.place (replicate c.first first_byte) (replicate c.second second_byte)

-- the answer, with the buffers as they should be: "Bytes past each string keep what they held"; "Refused, .. string buffers keep
-- their bytes"
abbrev pub answered : Call → Answer → Outcome
answered c (found kind x y skipped consumed) =
    acceptance
    kind
    (length x)
    (length y)
    skipped
    consumed
    (x ++ replicate (c.first - length x) first_byte)
    (y ++ replicate (c.second - length y) second_byte)
answered c (refused number n) = refusal number n (replicate c.first first_byte) (replicate c.second second_byte)

abbrev pub outcome : Case → Outcome
outcome c = returned c.given

abbrev pub expected : Case → Outcome
expected c = answered c.given c.answer

-- "Cases from the notes"
abbrev pub worked : List Case
worked =
    -- "abc and two underscores → text abc, label _"
    one "abc__" ⟶ link text2label "abc" "_" 0 5
    -- "__ → text _, label _"
    ∷ one "__" ⟶ link text2label "_" "_" 0 2
    -- "_ → 9"
    ∷ one "_" ⟶ refused 9 0
    -- "→ TextLabel2Dest"
    ∷ one "`a <u>`_" ⟶ link text-label2dest "a" "u" 0 8
    -- "→ Text2Label, both <u>"
    ∷ one "`<u>`_" ⟶ link text2label "<u>" "<u>" 0 6
    -- "→ Text2Label, both a<u>"
    ∷ one "`a\\ <u>`_" ⟶ link text2label "a<u>" "a<u>" 0 9
    -- "→ label empty"
    ∷ one "`x <_>`_" ⟶ link text2label "x" "" 0 8
    -- "x, LF, .. → Label2Dest, skipped 2"
    ∷ one "x\n.. _b: c" ⟶ link label2dest "b" "c" 2 8
    -- "x, space, LF, .. → 9"
    ∷ one "x \n.. _b: c" ⟶ refused 9 0
    -- "→ consumed 11"
    ∷ one "a_ .. _b: c" ⟶ link text2label "a" "a" 0 11
    -- "→ consumed 2, next an alias of 10"
    ∷ one "a_ .. _b: c_" ⟶ link text2label "a" "a" 0 2
    ∷ from 2 "a_ .. _b: c_" ⟶ link label2label "b" "c" 0 10
    -- ".., LF, three spaces, v → destination uv"
    ∷ one ".. _a: u\n   v" ⟶ link label2dest "a" "uv" 0 13
    -- "→ name _1"
    ∷ one ".. __1: u" ⟶ link label2dest "_1" "u" 0 9
    -- "→ alias of mylabel"
    ∷ one ".. _x: `my label`_" ⟶ link label2label "x" "mylabel" 0 18
    ∷ []

-- "What comes out of a refusal": numbers, their order, and the domain
abbrev pub refusals : List Case
refusals =
    -- 4: the place where no character starts, reading from the start character by character; not that of a byte inside one
    bytes (0x61 ∷ 0xC9 ∷ 0x90 ∷ []) ⟶ refused 4 1
    ∷ bytes (0x61 ∷ 0xC2 ∷ []) ⟶ refused 4 1
    ∷ bytes (0x61 ∷ 0xC2 ∷ 0x41 ∷ []) ⟶ refused 4 1
    ∷ bytes (0xC3 ∷ 0xA9 ∷ 0xA9 ∷ []) ⟶ refused 4 2
    ∷ bytes (0xC0 ∷ 0x80 ∷ []) ⟶ refused 4 0
    -- C9 8F is the last character of the domain
    ∷ bytes (0xC9 ∷ 0x8F ∷ 0x5F ∷ []) ⟶ found text2label (0xC9 ∷ 0x8F ∷ []) (0xC9 ∷ 0x8F ∷ []) 0 3
    ∷ bytes (0xC9 ∷ 0x90 ∷ 0x5F ∷ []) ⟶ refused 4 0
    -- 2 comes before 4 and 8
    ∷ bytes_at 99999 (replicate 16385 0xFF) ⟶ refused 2 0
    -- 16,384 bytes are not too long, and the skipped length may be all but the link; 16,385 are
    ∷ bytes (replicate 16382 0x20 ++ ascii "a_") ⟶ link text2label "a" "a" 16382 2
    ∷ bytes (replicate 16383 0x20 ++ ascii "a_") ⟶ refused 2 0
    -- 4 comes before 8, 9 and 7: for a place past the document, and for a byte before the place or after a link
    ∷ bytes_at 99999 (0xFF ∷ []) ⟶ refused 4 0
    ∷ bytes_at 1 (0xFF ∷ ascii "a_") ⟶ refused 4 0
    ∷ bytes (ascii "a_" ++ 0xFF ∷ []) ⟶ refused 4 2
    ∷ bytes (0x5F ∷ 0xFF ∷ []) ⟶ refused 4 1
    ∷ call 0 0 0 (ascii "a_" ++ 0xFF ∷ []) ⟶ refused 4 2
    -- 8: the document's length is a place in it, at which no link is; one more is past it; any number may be asked for
    ∷ from 2 "a_" ⟶ refused 9 0
    ∷ from 3 "a_" ⟶ refused 8 0
    ∷ from 18446744073709551615 "a_" ⟶ refused 8 0
    ∷ from 0 "" ⟶ refused 9 0
    ∷ from 1 "" ⟶ refused 8 0
    -- 8: inside a character; between CR and LF is not inside one
    ∷ bytes_at 0 (0xC3 ∷ 0xA9 ∷ 0x5F ∷ []) ⟶ found text2label (0xC3 ∷ 0xA9 ∷ []) (0xC3 ∷ 0xA9 ∷ []) 0 3
    ∷ bytes_at 1 (0xC3 ∷ 0xA9 ∷ 0x5F ∷ []) ⟶ refused 8 0
    ∷ bytes_at 2 (0xC3 ∷ 0xA9 ∷ 0x5F ∷ []) ⟶ refused 9 0
    ∷ from 2 "x\r\na_" ⟶ link text2label "a" "a" 1 2
    -- 7: the size of the one string that does not fit, the first one's if both do not; not their sum
    ∷ call 0 3 2 (ascii "`abc <de>`_") ⟶ link text-label2dest "abc" "de" 0 11
    ∷ call 0 2 2 (ascii "`abc <de>`_") ⟶ refused 7 3
    ∷ call 0 3 1 (ascii "`abc <de>`_") ⟶ refused 7 2
    ∷ call 0 2 1 (ascii "`abc <de>`_") ⟶ refused 7 3
    -- 9 and 8 come before 7
    ∷ call 0 0 0 (ascii "_") ⟶ refused 9 0
    ∷ call 3 0 0 (ascii "a_") ⟶ refused 8 0
    ∷ []

-- `escaped`, the transforms, trimming
abbrev pub transforms : List Case
transforms =
    -- `escaped` refuses a stop as its first character; an escape in front is none
    one "`\\`a`_" ⟶ link text2label "`a" "`a" 0 6
    ∷ one "``_" ⟶ refused 9 0
    -- a label form that a transform refuses is not tried again as a simple label: in the first the trimmed blank was escaped, and the
    -- link is the one behind <; in the second the dropped _ was
    ∷ one "`a\\ <b_>`_" ⟶ link text2label "b" "b" 5 2
    ∷ one "`x <u\\_>`_" ⟶ refused 9 0
    -- destination transform: a last backslash, and an escaped _, refuse
    ∷ one ".. _a: u\\" ⟶ refused 9 0
    ∷ one ".. _a: u\\_" ⟶ refused 9 0
    -- a backslash at a line's end escapes the space that joins the lines
    ∷ one ".. _a: u\\\n   v" ⟶ link label2dest "a" "u v" 0 14
    -- only space, tab, CR, LF are dropped: U+00A0 stays, though it is trimmed from a text
    ∷ one "`a <u\n\r\t v>`_" ⟶ link text-label2dest "a" "uv" 0 13
    ∷ bytes (ascii ".. _a: u" ++ 0xC2 ∷ 0xA0 ∷ []) ⟶ found label2dest (ascii "a") (ascii "u" ++ 0xC2 ∷ 0xA0 ∷ []) 0 10
    ∷ bytes (ascii "`a" ++ 0xC2 ∷ 0xA0 ∷ ascii "<u>`_") ⟶ link text-label2dest "a" "u" 0 9
    -- only the embedded text is trimmed, at its end; a label target is not
    ∷ one "` x <u>`_" ⟶ link text-label2dest " x" "u" 0 9
    ∷ one "`x < a _>`_" ⟶ link text2label "x" " a " 0 11
    -- whether a target ends in _ is asked before the transform
    ∷ one "`x <u_ >`_" ⟶ link text-label2dest "x" "u_" 0 10
    -- a text trimmed to nothing is accepted; an all-blank target is an empty destination
    ∷ one "` <u>`_" ⟶ link text-label2dest "" "u" 0 7
    ∷ one "`x < >`_" ⟶ link text-label2dest "x" "" 0 8
    ∷ []

-- Embedded links and labels
abbrev pub labels : List Case
labels =
    -- an embedded link with one _ more is anonymous; with two more, and a label form with one, it is a reference by a simple label
    one "`a <u>`__" ⟶ link text2dest "a" "u" 0 9
    ∷ one "`x <a_>`_" ⟶ link text2label "x" "a" 0 9
    ∷ one "`x <a_>`__" ⟶ link text2label "x <a_>" "_" 0 10
    ∷ one "`a <u>`___" ⟶ link text2label "a <u>" "_" 0 9
    -- so are these: a second target, a blank behind the target, an empty one
    ∷ one "`a <b> <u>`_" ⟶ link text2label "a <b> <u>" "a <b> <u>" 0 12
    ∷ one "`a <u> `_" ⟶ link text2label "a <u> " "a <u> " 0 9
    ∷ one "`a <>`_" ⟶ link text2label "a <>" "a <>" 0 7
    -- the label that must not be empty is the raw one; strings may be, and need no buffers then
    ∷ call 0 0 0 (ascii "`\\ `_") ⟶ link text2label "" "" 0 5
    ∷ one ".. _\\ : u" ⟶ link label2dest "" "u" 0 9
    -- a simple label has at most 999 bytes, not characters: those left when _ are dropped, without backticks, with backslashes
    ∷ call 0 999 999 (letters 999 ++ ascii "_") ⟶ found text2label (letters 999) (letters 999) 0 1000
    ∷ call 0 999 999 (letters 999 ++ ascii "__") ⟶ found text2label (letters 999) (ascii "_") 0 1001
    ∷ bytes (letters 1000 ++ ascii "_") ⟶ refused 9 0
    ∷ bytes (times 500 (0xC3 ∷ 0xA9 ∷ []) ++ ascii "_") ⟶ refused 9 0
    ∷ call 0 999 999 (ascii "`" ++ letters 999 ++ ascii "`_") ⟶ found text2label (letters 999) (letters 999) 0 1002
    ∷ bytes (ascii "`" ++ letters 1000 ++ ascii "`_") ⟶ refused 9 0
    ∷ bytes (ascii "`" ++ times 500 (ascii "\\:") ++ ascii "`_") ⟶ refused 9 0
    -- 999 letters as a target make an alias; 1,000 become a destination
    ∷ call 0 12 999 (ascii ".. _b: " ++ letters 999 ++ ascii "_") ⟶ found label2label (ascii "b") (letters 999) 0 1007
    ∷ call 0 12 1001 (ascii ".. _b: " ++ letters 1000 ++ ascii "_") ⟶ found label2dest (ascii "b") (letters 1000 ++ ascii "_") 0 1008
    -- no limit on the label of a label form, on texts, destinations and names
    ∷ call 0 12 1000 (ascii "`x <" ++ letters 1000 ++ ascii "_>`_") ⟶ found text2label (ascii "x") (letters 1000) 0 1008
    ∷ call 0 1000 12 (ascii "`" ++ letters 1000 ++ ascii "<u>`_") ⟶ found text-label2dest (letters 1000) (ascii "u") 0 1006
    ∷ call 0 1000 12 (ascii ".. _" ++ letters 1000 ++ ascii ": u") ⟶ found label2dest (letters 1000) (ascii "u") 0 1007
    -- of a run of 3 bytes or more the last two _ are dropped, one of them unread, which then makes the label _; so does one behind `_
    ∷ one "___" ⟶ link text2label "_" "_" 0 3
    ∷ one "____" ⟶ link text2label "__" "_" 0 4
    ∷ one "`a`___" ⟶ link text2label "a" "_" 0 5
    ∷ one "-_" ⟶ link text2label "-" "-" 0 2
    -- this is about runs of word characters, not about backticked ones
    ∷ one "`_`_" ⟶ link text2label "_" "_" 0 4
    ∷ one "`a_`_" ⟶ link text2label "a_" "a_" 0 5
    -- an escaped _ is _, as text, label and name; _ is no special text or name here, nor is _1 a special label
    ∷ one "`\\_`_" ⟶ link text2label "_" "_" 0 5
    ∷ one "`x <\\__>`_" ⟶ link text2label "x" "_" 0 10
    ∷ one ".. _\\_: u" ⟶ link label2dest "_" "u" 0 9
    ∷ one "`_ <u>`_" ⟶ link text-label2dest "_" "u" 0 8
    ∷ one "_1_" ⟶ link text2label "_1" "_1" 0 3
    ∷ []

-- Blocks and targets
abbrev pub blocks : List Case
blocks =
    -- the ending of a block's last line is not consumed, nor is that of the line before a CR without LF
    one ".. _a: u\n" ⟶ link label2dest "a" "u" 0 8
    ∷ one ".. _a: u\n   v\r" ⟶ link label2dest "a" "u" 0 8
    -- in the first line such a CR refuses the block
    ∷ one ".. _a: u\rv" ⟶ refused 9 0
    ∷ one ".. _a: u\r\n   v" ⟶ link label2dest "a" "uv" 0 14
    -- a line of exactly the indent and three spaces belongs to the block, an empty line ends it
    ∷ one ".. _a: u\n   " ⟶ link label2dest "a" "u" 0 12
    ∷ one ".. _a: u\n\n   v" ⟶ link label2dest "a" "u" 0 8
    -- the indent is compared byte for byte, and the three must be spaces
    ∷ one "\t.. _a: u\n\t   v" ⟶ link label2dest "a" "uv" 0 15
    ∷ one "\t.. _a: u\n    v" ⟶ link label2dest "a" "u" 0 9
    ∷ one ".. _a: u\n  \tv" ⟶ link label2dest "a" "u" 0 8
    -- more blanks than are cut stay
    ∷ one ".. _a\n    b: u" ⟶ link label2dest "a  b" "u" 0 14
    -- no targets: the text of the first two blocks begins with a blank, and the third has none in its first line
    ∷ one "..  _a: u" ⟶ refused 9 0
    ∷ one ".. \n   _a: u" ⟶ refused 9 0
    ∷ one "..\n   _a: u" ⟶ refused 9 0
    -- empty destinations
    ∷ one "__ " ⟶ link label2dest "_" "" 0 3
    ∷ one ".. _a: " ⟶ link label2dest "a" "" 0 7
    -- the space behind the colon must stand there; the one that joins lines will do
    ∷ one ".. _a:" ⟶ refused 9 0
    ∷ one ".. _a:\n   u" ⟶ link label2dest "a" "u" 0 11
    -- a name is read up to a backtick in the quoted form, to a colon in the plain one, not to either in both
    ∷ one ".. _a`b: u" ⟶ link label2dest "a`b" "u" 0 10
    ∷ one ".. _`a:b`: u" ⟶ link label2dest "a:b" "u" 0 12
    -- where the quoted form refuses for any reason, the plain one is tried
    ∷ one ".. _`a: u" ⟶ link label2dest "`a" "u" 0 9
    ∷ one ".. _`a` : u" ⟶ link label2dest "`a` " "u" 0 11
    -- a plain name ends at its first colon; a name may be _
    ∷ one ".. _a:b: u" ⟶ refused 9 0
    ∷ one ".. __: u" ⟶ link label2dest "_" "u" 0 8
    -- a last backslash refuses the block; what it begins with is a reference
    ∷ one "__ \\" ⟶ link text2label "_" "_" 0 2
    -- a blank before what would be a label makes a destination; the joining space behind the colon is no such blank
    ∷ one ".. _a:  b_" ⟶ link label2dest "a" "b_" 0 10
    ∷ one ".. _a: \n   b_" ⟶ link label2dest "a" "b_" 0 13
    ∷ one ".. _a:\n   b_" ⟶ link label2label "a" "b" 0 12
    -- what follows the label is ignored, one more _ too
    ∷ one ".. _a: b_/c" ⟶ link label2label "a" "b" 0 11
    ∷ one ".. _a: b__" ⟶ link label2label "a" "b" 0 10
    -- _ is no label, and __ is the label _
    ∷ one ".. _a: _" ⟶ link label2dest "a" "_" 0 8
    ∷ one ".. _a: __" ⟶ link label2label "a" "_" 0 9
    -- an alias that its transform refuses is no destination either; the link is the reference inside it
    ∷ one ".. _a: `b\\_`_" ⟶ link text2label "b_" "b_" 7 6
    -- blanks of labels and of alias targets go crosswise
    ∷ one ".. _x: `a b`_" ⟶ link label2label "x" "ab" 0 13
    ∷ one ".. _x: `a\\ b`_" ⟶ link label2label "x" "a b" 0 14
    ∷ one "`a b`_" ⟶ link text2label "a b" "a b" 0 6
    ∷ one "`a\\ b`_" ⟶ link text2label "ab" "ab" 0 7
    ∷ []

-- `take_link`: its rounds, and what follows a link
abbrev pub scans : List Case
scans =
    -- behind a bracket that is skipped, at input or line start or after a blank, only a reference is tried
    one "(`a <u>`_" ⟶ link text2label "a <u>" "a <u>" 1 8
    ∷ one "x (`a <u>`_" ⟶ link text2label "a <u>" "a <u>" 3 8
    ∷ one "x\n(`a <u>`_" ⟶ link text2label "a <u>" "a <u>" 3 8
    ∷ one "x(`a <u>`_" ⟶ link text-label2dest "a" "u" 2 8
    -- only one byte is skipped
    ∷ one "((a_" ⟶ refused 9 0
    ∷ one "((`a <u>`_" ⟶ link text-label2dest "a" "u" 2 8
    -- the bytes that are skipped
    ∷ one "(a_" ⟶ link text2label "a" "a" 1 2
    ∷ one "[a_" ⟶ link text2label "a" "a" 1 2
    ∷ one "<a_" ⟶ link text2label "a" "a" 1 2
    ∷ one "'a_" ⟶ link text2label "a" "a" 1 2
    ∷ one "\"a_" ⟶ link text2label "a" "a" 1 2
    ∷ one "{a_" ⟶ refused 9 0
    -- input start lasts to the first (f), a line start to the end of its round
    ∷ one " .. _b: c" ⟶ link label2dest "b" "c" 0 9
    ∷ one "x .. _b: c" ⟶ refused 9 0
    ∷ one "x\na_" ⟶ link text2label "a" "a" 2 2
    ∷ one "\nx .. _b: c" ⟶ refused 9 0
    -- behind a trailing blank (f) takes the LF, which then makes no line start; it takes a CR in its place, and one LF of two
    ∷ one "x \r\n.. _b: c" ⟶ link label2dest "b" "c" 4 8
    ∷ one " \na_" ⟶ refused 9 0
    ∷ one " \n\na_" ⟶ link text2label "a" "a" 3 2
    -- a CR alone starts no line
    ∷ one "x\ra_" ⟶ refused 9 0
    ∷ one "x\r.. _b: c" ⟶ refused 9 0
    -- at (f)'s stops !, [, {, < nothing is found
    ∷ one "x!a_" ⟶ refused 9 0
    ∷ one "x[a_" ⟶ refused 9 0
    ∷ one "x{a_" ⟶ refused 9 0
    ∷ one "x<a_" ⟶ refused 9 0
    -- a stray backtick pairs with a later one, over empty lines and blocks
    ∷ one "`\n\n.. _a: u`_" ⟶ link text2label "\n\n.. _a: u" "\n\n.. _a: u" 0 13
    -- the place behind a link is an input start
    ∷ one "`a`_b_" ⟶ link text2label "a" "a" 0 4
    ∷ from 4 "`a`_b_" ⟶ link text2label "b" "b" 0 2
    -- the unreported block needs no blank, may be a __ block, may have further lines
    ∷ one "a_.. _b: c" ⟶ link text2label "a" "a" 0 10
    ∷ one "a_ __ u" ⟶ link text2label "a" "a" 0 7
    ∷ one "a_ .. _b: c\n    d" ⟶ link text2label "a" "a" 0 17
    -- what stands on the next line is reported
    ∷ one "a_ .. _b: c\n .. _d: e" ⟶ link text2label "a" "a" 0 11
    ∷ from 11 "a_ .. _b: c\n .. _d: e" ⟶ link label2dest "d" "e" 1 9
    ∷ one "a_ .. _a: u" ⟶ link text2label "a" "a" 0 11
    ∷ from 11 "a_ .. _a: u" ⟶ refused 9 0
    ∷ one "a_\n .. _a: u" ⟶ link text2label "a" "a" 0 2
    ∷ from 2 "a_\n .. _a: u" ⟶ link label2dest "a" "u" 1 9
    ∷ []

-- how 01's sentences are read
abbrev pub readings : List Case
readings = refusals ++ transforms ++ labels ++ blocks ++ scans
