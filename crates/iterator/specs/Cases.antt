-- Worked cases of the document call: calls, and what comes back. `worked` are those that 01 gives; `refusals`, `shown`, `numbering`,
-- `storing`, `rendering` and `limits` are documents that show how its sentences are read; `longest` fill the fields of records; `endings`
-- show the work areas. proofs/CasesHold.antt computes that all of them hold.
-- Assumes nothing.
use Rattle.std.specs.Prelude.{ℕ, ◌-◌, List, [], ◌∷◌, ◌++◌, length, replicate}
use Prim.Native.String.{String}
use Rattle.parse.specs.Cases.{ascii, letters, times}
use Rattle.iterator.specs.Resolve.{Hyperlink}
use Rattle.iterator.specs.Records.{records_of}
use Rattle.iterator.specs.Document.{Verdict, refusal, numbers_min, bytes_min, verdict_of, Answer, answer_of, document_of}

-- a call: the document, render, and how many work numbers, work bytes and bytes of output are lent
pub record Call : Type 0 where
  pub document : List ℕ
  pub render : ℕ
  pub numbers : ℕ
  pub bytes : ℕ
  pub output : ℕ

-- render, how many work numbers and work bytes, document
abbrev pub areas_of : ℕ → ℕ → ℕ → List ℕ → Call
areas_of render numbers bytes s = record { document = s; render = render; numbers = numbers; bytes = bytes; output = 64 }

-- with the least work areas: render, bytes of output, document
abbrev pub output_of : ℕ → ℕ → List ℕ → Call
output_of render output s = record { document = s; render = render; numbers = numbers_min; bytes = bytes_min; output = output }

-- with 64 bytes of output: bytes or a text, with render 0 and with render 1
abbrev pub bytes : List ℕ → Call
bytes s = output_of 0 64 s

abbrev pub text : String → Call
text s = bytes (ascii s)

abbrev pub rendered : String → Call
rendered s = output_of 1 64 (ascii s)

-- what comes back: how many links and their records, or a refusal's number and bytes
pub data Back : Type 0 where
  written : ℕ → List ℕ → Back
  refused : ℕ → ℕ → Back

-- a link whose strings are texts: place, consumed, text, destination
abbrev pub link : ℕ → ℕ → String → String → Hyperlink
link place consumed x y = record { place = place; consumed = consumed; text = ascii x; dest = ascii y }

-- the records of links
abbrev pub links : List Hyperlink → Back
links xs = written (length xs) (records_of xs)

-- a call and its answer
pub record Case : Type 0 where
  pub given : Call
  pub back : Back

infix 68 ◌⟶◌
abbrev pub ◌⟶◌ : Call → Back → Case
c ⟶ b = record { given = c; back = b }

-- the output holds these bytes when it is lent
abbrev pub output_byte : ℕ
output_byte = 0x2E

abbrev pub lent : Call → List ℕ
lent c = replicate c.output output_byte

-- what the call returns, and how it leaves the output
abbrev pub returned : Call → Verdict
returned c = verdict_of c.document c.render c.numbers c.bytes (lent c)

-- the answer, with the output as it should be: "An accepted output holds the records, old bytes after them"; "Refused, output .. keep
-- their bytes"; "Fields not named are 0"
abbrev pub answered : Call → Back → Verdict
answered c (written n records) =
    record {
      number = 0;
      links = n;
      bytes = length records;
      output = records ++ replicate (c.output - length records) output_byte;
    }
answered c (refused number n) = refusal number n (lent c)

abbrev pub outcome : Case → Verdict
outcome c = returned c.given

abbrev pub expected : Case → Verdict
expected c = answered c.given c.back

-- 01's example
abbrev pub example : List ℕ
example = ascii "a_ and b_\n\n.. _a: u/1\n.. _b: a_\n"

abbrev pub example_records : List ℕ
example_records =
    0x00 ∷ 0x00 ∷ 0x00 ∷ 0x08 ∷ 0x00 ∷ 0x08 ∷ 0x00 ∷ 0x30 ∷ 0x61 ∷ 0x75 ∷ 0x2F ∷ 0x31 ∷
    0x00 ∷ 0x0A ∷ 0x00 ∷ 0x08 ∷ 0x00 ∷ 0x08 ∷ 0x00 ∷ 0x30 ∷ 0x62 ∷ 0x75 ∷ 0x2F ∷ 0x31 ∷ []

abbrev pub worked : List Case
worked =
    bytes example ⟶ written 2 example_records
    ∷ bytes example ⟶ links (link 0 2 "a" "u/1" ∷ link 7 2 "b" "u/1" ∷ [])
    -- an output that it fills, and one that is too short by a byte
    ∷ output_of 0 24 example ⟶ written 2 example_records
    ∷ output_of 0 23 example ⟶ refused 7 24
    -- "256 and 257 links"
    ∷ output_of 0 2559 (times 256 (ascii "`a <u>`__\n")) ⟶ refused 7 2560
    ∷ output_of 0 0 (times 257 (ascii "`a <u>`__\n")) ⟶ refused 5 0
    -- "16,384 and 16,385 bytes"
    ∷ bytes (letters 16384) ⟶ links []
    ∷ bytes (letters 16385) ⟶ refused 2 0
    -- "C9 8F and C9 90"
    ∷ bytes (0xC9 ∷ 0x8F ∷ []) ⟶ links []
    ∷ bytes (0xC9 ∷ 0x90 ∷ []) ⟶ refused 4 0
    ∷ []

-- "What comes out of a refusal": numbers and their order
abbrev pub refusals : List Case
refusals =
    -- 4: the place where no character starts, reading from the start character by character
    bytes (0x61 ∷ 0xC9 ∷ 0x90 ∷ []) ⟶ refused 4 1
    ∷ bytes (0x61 ∷ 0xC2 ∷ []) ⟶ refused 4 1
    ∷ bytes (0x61 ∷ 0xC2 ∷ 0x41 ∷ []) ⟶ refused 4 1
    ∷ bytes (0xC3 ∷ 0xA9 ∷ 0xA9 ∷ []) ⟶ refused 4 2
    ∷ bytes (0xC0 ∷ 0x80 ∷ []) ⟶ refused 4 0
    -- 1 comes before 2, 2 before 3, 3 before 4
    ∷ areas_of 2 4095 49151 (replicate 16385 0xFF) ⟶ refused 1 0
    ∷ areas_of 4294967295 4096 49152 [] ⟶ refused 1 0
    ∷ areas_of 1 4095 49151 (replicate 16385 0xFF) ⟶ refused 2 0
    ∷ areas_of 1 4095 49152 (0xFF ∷ []) ⟶ refused 3 0
    ∷ areas_of 0 4096 49151 (0xFF ∷ []) ⟶ refused 3 0
    ∷ areas_of 0 0 0 [] ⟶ refused 3 0
    ∷ areas_of 1 5000 50000 (0xFF ∷ []) ⟶ refused 4 0
    -- 4 comes before 5, 6 and 7 wherever the byte stands
    ∷ bytes (times 257 (ascii "a_\n") ++ 0xFF ∷ []) ⟶ refused 4 771
    ∷ bytes (times 257 (ascii "__ u\n") ++ 0xFF ∷ []) ⟶ refused 4 1285
    ∷ output_of 0 0 (ascii "`a <u>`_" ++ 0xFF ∷ []) ⟶ refused 4 8
    -- 7: the size, and no links; a document without links needs no output
    ∷ output_of 0 9 (ascii "a_\n.. _a: u") ⟶ refused 7 10
    ∷ output_of 0 10 (ascii "a_\n.. _a: u") ⟶ links (link 0 2 "a" "u" ∷ [])
    ∷ output_of 0 0 (ascii "a") ⟶ links []
    ∷ output_of 0 0 [] ⟶ links []
    -- dropped references need no output; render 1's text is a copy
    ∷ output_of 0 0 (ascii "a_") ⟶ links []
    ∷ output_of 1 16 (ascii ".. _a: u") ⟶ refused 7 17
    ∷ output_of 1 17 (ascii ".. _a: u") ⟶ links (link 0 8 ".. _a: u" "u" ∷ [])
    -- an embedded link's strings stand in its record as they are, and are counted after the transforms
    ∷ output_of 0 10 (ascii "`\\: <u\\ >`_") ⟶ refused 7 11
    ∷ output_of 0 11 (ascii "`\\: <u\\ >`_") ⟶ links (link 0 11 ":" "u " ∷ [])
    ∷ []

-- Places, what was consumed, shown texts
abbrev pub shown : List Case
shown =
    -- unreported bytes belong to what was consumed; an unreported block defines nothing
    text "`a <u>`_ .. _b: c" ⟶ links (link 0 17 "a" "u" ∷ [])
    ∷ text "a_ .. _a: u" ⟶ links []
    ∷ text "a_\n .. _a: u" ⟶ links (link 0 2 "a" "u" ∷ [])
    -- the place behind a link is an input start
    ∷ text "`a`_b_\n.. _a: u\n.. _b: v" ⟶ links (link 0 4 "a" "u" ∷ link 4 2 "b" "v" ∷ [])
    -- references without a destination are dropped, and the next record's skipped bytes count from the one before
    ∷ text "a_ b_ c_\n.. _a: u\n.. _c: v" ⟶ links (link 0 2 "a" "u" ∷ link 6 2 "c" "v" ∷ [])
    -- a reference's shown text, where it is empty, is its destination
    ∷ text "`\\ `_\n.. _\\ : u" ⟶ links (link 0 5 "u" "u" ∷ [])
    ∷ text "`\\ `_\n.. _\\ : " ⟶ links (link 0 5 "" "" ∷ [])
    -- an embedded link's text stays, empty or not; it defines the empty name
    ∷ text "` <u>`_" ⟶ links (link 0 7 "" "u" ∷ [])
    ∷ text "` <u>`_\n`x <_>`_" ⟶ links (link 0 7 "" "u" ∷ link 8 8 "x" "u" ∷ [])
    ∷ text "` <u>`__\n`x <_>`_" ⟶ links (link 0 8 "" "u" ∷ [])
    -- names are compared as the transforms leave them
    ∷ text "`a\\ b`_\n.. _a\\ b: u" ⟶ links (link 0 7 "ab" "u" ∷ [])
    ∷ text "`a b`_\n.. _a\\ b: u" ⟶ links []
    ∷ text "A_\n.. _a: u" ⟶ links []
    ∷ []

-- "references labelled _ become _1, _2, ..; blocks named _ are numbered likewise by a second counter"
abbrev pub numbering : List Case
numbering =
    -- each reference has the block of its number, wherever the blocks stand
    text "__\n__ u" ⟶ links (link 0 2 "_" "u" ∷ [])
    ∷ text "__ u\n__ v\na__\nb__" ⟶ links (link 10 3 "a" "u" ∷ link 14 3 "b" "v" ∷ [])
    -- a reference that is dropped is counted; so is an alias block
    ∷ text "a__ b__\n.. __2: u" ⟶ links (link 4 3 "b" "u" ∷ [])
    ∷ text ".. _c: u\n.. __: c_\n__ v\na__ b__" ⟶ links (link 24 3 "a" "u" ∷ link 28 3 "b" "v" ∷ [])
    -- embedded anonymous links are not counted
    ∷ text "`x <v>`__ a__\n__ u" ⟶ links (link 0 9 "x" "v" ∷ link 10 3 "a" "u" ∷ [])
    -- what was escaped is _ too
    ∷ text "`\\_`_\n`x <\\__>`_\n.. _\\_: u\n.. __: v" ⟶ links (link 0 5 "_" "u" ∷ link 6 10 "x" "v" ∷ [])
    -- numbered names are plain names
    ∷ text "_1_\n__ u" ⟶ links (link 0 3 "_1" "u" ∷ [])
    ∷ text "_1_\n__ u\n.. __1: v" ⟶ links (link 0 3 "_1" "v" ∷ [])
    ∷ text "_1_\n.. __1: v\n__ u" ⟶ links (link 0 3 "_1" "u" ∷ [])
    -- not numbered: an embedded link's name, and an alias's target
    ∷ text "a_\n.. _a: __\n`_ <u>`_" ⟶ links (link 0 2 "a" "u" ∷ link 13 8 "_" "u" ∷ [])
    ∷ text "a_\n.. _a: __\n__ v" ⟶ links []
    ∷ text "`_ <u>`_\n__" ⟶ links (link 0 8 "_" "u" ∷ [])
    -- numbers of two and of three digits
    ∷ bytes (times 10 (ascii "__\n") ++ ascii ".. __10: u") ⟶ links (link 27 2 "_" "u" ∷ [])
    ∷ bytes (times 100 (ascii "__\n") ++ ascii ".. __100: u") ⟶ links (link 297 2 "_" "u" ∷ [])
    ∷ bytes (times 256 (ascii "__\n") ++ ascii ".. __256: u") ⟶ links (link 765 2 "_" "u" ∷ [])
    ∷ bytes (times 256 (ascii "__ v\n") ++ ascii "_256_") ⟶ links (link 1280 5 "_256" "v" ∷ [])
    ∷ []

-- "A later destination of a name replaces the earlier." Aliases
abbrev pub storing : List Case
storing =
    text ".. _a: u\na_\n.. _a: v" ⟶ links (link 9 2 "a" "v" ∷ [])
    ∷ text "`a <u>`_\n`a <v>`_\na_" ⟶ links (link 0 8 "a" "u" ∷ link 9 8 "a" "v" ∷ link 18 2 "a" "v" ∷ [])
    -- embedded links keep their own destination
    ∷ text "`a <u>`_\n.. _a: v\na_" ⟶ links (link 0 8 "a" "u" ∷ link 18 2 "a" "v" ∷ [])
    -- a resolved alias replaces even a destination that stands later
    ∷ text ".. _a: b_\n.. _b: v\n.. _a: u\na_" ⟶ links (link 28 2 "a" "v" ∷ [])
    -- what an alias got is not changed by later replacing
    ∷ text "a_\nb_\n.. _a: b_\n.. _b: c_\n.. _b: u\n.. _c: v" ⟶ links (link 0 2 "a" "u" ∷ link 3 2 "b" "v" ∷ [])
    -- aliases of aliases, in any order
    ∷ text "a_\n.. _a: b_\n.. _b: c_\n.. _c: d_\n.. _d: u" ⟶ links (link 0 2 "a" "u" ∷ [])
    ∷ text "a_\n.. _d: u\n.. _c: d_\n.. _b: c_\n.. _a: b_" ⟶ links (link 0 2 "a" "u" ∷ [])
    -- after an alias is resolved the walk stays at its place, so the one behind it comes next, not the first
    ∷ text "c_\n.. _c: a_\n.. _a: x_\n.. _c: b_\n.. _x: u\n.. _b: v" ⟶ links (link 0 2 "c" "u" ∷ [])
    -- misses in a row are counted anew after a hit
    ∷ text "a_\n.. _a: b_\n.. _b: c_\n.. _z: y_\n.. _c: u" ⟶ links (link 0 2 "a" "u" ∷ [])
    -- rings, and aliases of nothing, are not resolved
    ∷ text "a_\n.. _a: b_\n.. _b: a_" ⟶ links []
    ∷ text "a_ b_\n.. _a: a_\n.. _b: u" ⟶ links (link 3 2 "b" "u" ∷ [])
    ∷ text "a_ b_\n.. _a: c_\n.. _b: u" ⟶ links (link 3 2 "b" "u" ∷ [])
    -- an alias whose name has a destination all the same
    ∷ text "a_\n.. _a: u\n.. _a: a_" ⟶ links (link 0 2 "a" "u" ∷ [])
    -- an alias of an embedded link's text
    ∷ text "b_ `a <u>`_\n.. _b: a_" ⟶ links (link 0 2 "b" "u" ∷ link 3 8 "a" "u" ∷ [])
    -- blanks of labels and of alias targets go crosswise
    ∷ text "x_\n.. _x: `a b`_\n.. _ab: u" ⟶ links (link 0 2 "x" "u" ∷ [])
    ∷ text "x_\n.. _x: `a\\ b`_\n.. _a b: u" ⟶ links (link 0 2 "x" "u" ∷ [])
    ∷ []

-- "With render 1, a destination block is also a link whose text is its consumed bytes."
abbrev pub rendering : List Case
rendering =
    -- its bytes as they stand, without the last line's end; the destination is its own, also when it is replaced later
    rendered ".. _a: u\n" ⟶ links (link 0 8 ".. _a: u" "u" ∷ [])
    ∷ rendered " .. _a: u\\ v " ⟶ links (link 0 13 " .. _a: u\\ v " "u v" ∷ [])
    ∷ rendered ".. _a: u\n   v" ⟶ links (link 0 13 ".. _a: u\n   v" "uv" ∷ [])
    ∷ rendered ".. _a: u\n.. _a: v" ⟶ links (link 0 8 ".. _a: u" "u" ∷ link 9 8 ".. _a: v" "v" ∷ [])
    ∷ rendered "x_\n__ u" ⟶ links (link 3 4 "__ u" "u" ∷ [])
    -- aliases and unreported blocks are no links
    ∷ rendered ".. _a: b_" ⟶ links []
    ∷ rendered "`x <u>`__ .. _a: v" ⟶ links (link 0 18 "x" "u" ∷ [])
    -- the others are as with render 0
    ∷ rendered "a_ `b <v>`_\n.. _a: u" ⟶ links (link 0 2 "a" "u" ∷ link 3 8 "b" "v" ∷ link 12 8 ".. _a: u" "u" ∷ [])
    ∷ []

-- 5 and 6, "as reading meets them (5 first where one link meets both)"
abbrev pub limits : List Case
limits =
    -- dropped links count; so do replaced definitions, and aliases
    output_of 0 0 (times 256 (ascii "a_\n")) ⟶ links []
    ∷ output_of 0 0 (times 257 (ascii "a_\n")) ⟶ refused 5 0
    ∷ bytes (times 257 (ascii "__ u\n")) ⟶ refused 6 0
    ∷ bytes (times 255 (ascii ".. _b: c_\n") ++ ascii "__ u\n_1_") ⟶ links (link 2555 3 "_1" "u" ∷ [])
    ∷ bytes (times 256 (ascii ".. _b: c_\n") ++ ascii "__ u") ⟶ refused 6 0
    -- storing an alias's destination adds none
    ∷ bytes (times 255 (ascii "__ u\n") ++ ascii ".. _d: _1_\nd_") ⟶ links (link 1286 2 "d" "u" ∷ [])
    -- an unreported block counts for neither
    ∷ bytes (times 256 (ascii "__ u\n") ++ ascii "a_ __ v") ⟶ links []
    ∷ bytes (times 256 (ascii "__ u\n") ++ ascii "a_\n__ v") ⟶ refused 6 0
    -- with render 1 a block meets both
    ∷ output_of 1 0 (times 257 (ascii "__ u\n")) ⟶ refused 5 0
    ∷ output_of 1 0 (times 256 (ascii "a_\n") ++ ascii "__ u") ⟶ refused 5 0
    -- embedded named links meet both
    ∷ bytes (times 257 (ascii "`a <u>`_\n")) ⟶ refused 5 0
    ∷ bytes (ascii "__ u\n" ++ times 256 (ascii "`a <u>`_\n")) ⟶ refused 6 0
    -- the one that is met first; nothing after it is looked at
    ∷ bytes (times 257 (ascii "__ u\n") ++ times 257 (ascii "a_\n")) ⟶ refused 6 0
    ∷ bytes (times 257 (ascii "a_\n") ++ times 257 (ascii "__ u\n")) ⟶ refused 5 0
    ∷ []

-- a block of 16,384 bytes, and its destination
abbrev pub long_destination : List ℕ
long_destination = replicate 16377 0x75

abbrev pub long_block : List ℕ
long_block = ascii ".. _a: " ++ long_destination

-- its record: fields 0, 16384, 16384, 16377
abbrev pub long_record : List ℕ
long_record = 0x00 ∷ 0x01 ∷ 0x00 ∷ 0x02 ∷ 0x00 ∷ 0x03 ∷ 0xFF ∷ 0x90 ∷ long_block ++ long_destination

-- the longest consumed part and text, and the most bytes skipped
abbrev pub longest : List Case
longest =
    output_of 1 32769 long_block ⟶ written 1 long_record
    ∷ bytes (ascii ".. _a: u\n" ++ replicate 16372 0x78 ++ ascii " a_") ⟶ links (link 16382 2 "a" "u" ∷ [])
    ∷ []

-- "Accepted or refused, work areas of every length end zero": how a call should leave everything, and how it does
pub record Ending : Type 0 where
  pub is : Answer
  pub should : Answer

-- document, render, both work areas as they are lent; the answer
abbrev pub ends : List ℕ → ℕ → List ℕ → List ℕ → Back → Ending
ends s render numbers bytes b =
    record {
      is = document_of s render numbers bytes (lent (areas_of render (length numbers) (length bytes) s));
      should =
          answer_of
          (answered (areas_of render (length numbers) (length bytes) s) b)
          (replicate (length numbers) 0)
          (replicate (length bytes) 0);
    }

abbrev pub endings : List Ending
endings =
    ends [] 2 (1 ∷ 2 ∷ 3 ∷ []) (4 ∷ 5 ∷ []) (refused 1 0)
    ∷ ends (letters 16385) 0 (1 ∷ 2 ∷ 3 ∷ []) [] (refused 2 0)
    ∷ ends [] 0 [] (4 ∷ 5 ∷ []) (refused 3 0)
    ∷ ends (0xFF ∷ []) 0 (replicate 4096 7) (replicate 49152 9) (refused 4 0)
    ∷ ends (times 257 (ascii "a_\n")) 0 (replicate 4097 7) (replicate 49153 9) (refused 5 0)
    ∷ ends example 0 (replicate 4096 7) (replicate 49152 9) (written 2 example_records)
    ∷ []
