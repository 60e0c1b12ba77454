-- "Block: `space0` (the indent), `.. ` or `__ `, the rest of the line. A further line belongs to it if it starts with the indent
-- and three spaces; those are cut and lines are joined by one space. A CR without LF in the first line refuses the block; in a
-- further line it ends the block before that line." The last line's ending is not consumed.
-- Assumes nothing.
use Rattle.std.specs.Prelude.{Option, Some, None, Result, Ok, Err}
use Rattle.restructured_text.specs.declared.ParseError.{ParseError}
use Rattle.restructured_text.specs.declared.ParseError.TheVariants.{NotFound, NoRoom}
use Rattle.std.specs.Prelude.{ℕ, zero, suc, ◌+◌, ◌-◌, List, [], ◌∷◌, ◌++◌, true, false, ◌&&◌, ltb, length, drop, take}
use Rattle.rst_bytes.specs.Line.{line_ending_of, not_line_ending_of, space0_of}
use Rattle.rst_bytes.specs.Tag.{starts_with}

-- "`space0` (the indent), `.. ` or `__ `": how many bytes both take
unfoldable pub start_of : List ℕ → List ℕ → Option ℕ
start_of header s =
    elim (starts_with header (drop (space0_of s) s)) [ true ↦ Some (space0_of s + length header) | false ↦ None ]

-- three spaces
abbrev pub three : List ℕ
three = 0x20 ∷ 0x20 ∷ 0x20 ∷ []

-- "starts with the indent and three spaces": how many bytes the end of the line before, the indent and the spaces take
unfoldable pub cut_of : List ℕ → List ℕ → Option ℕ
cut_of indent s =
    elim (line_ending_of s) [
      | Some k ↦ elim (starts_with indent (drop k s) && starts_with three (drop (length indent) (drop k s))) [
        | true ↦ Some (k + length indent + 3)
        | false ↦ None
      ]
      | None ↦ None
    ]

-- the text of the line behind a bytes; "A CR without LF .. in a further line .. ends the block before that line"
abbrev pub line_at : ℕ → Option ℕ → Option (ℕ × ℕ)
line_at a (Some n) = Some (a, n)
line_at a None = None

-- the further line that stands behind a line's text: the bytes that are cut, and the length of its text
unfoldable pub further_of : List ℕ → List ℕ → Option (ℕ × ℕ)
further_of indent s = elim (cut_of indent s) [ Some a ↦ line_at a (not_line_ending_of (drop a s)) | None ↦ None ]

-- joined further lines, and how many bytes they take
pub record Joining : Type 0 where
  pub text : List ℕ
  pub read : ℕ

-- one more line in front, of n bytes behind a bytes
abbrev pub joined : ℕ → ℕ → List ℕ → Joining → Joining
joined a n s more = record { text = 0x20 ∷ (take n (drop a s) ++ more.text); read = a + n + more.read }

-- "lines are joined by one space": the further lines behind a line's text, when k more bytes of it are passed
unfoldable pub lines_of : List ℕ → ℕ → List ℕ → Joining
lines_of indent k [] = record { text = []; read = 0 }
lines_of indent (suc k) (b ∷ rest) = lines_of indent k rest
lines_of indent zero (b ∷ rest) =
    elim (further_of indent (b ∷ rest)) [
      | Some (a, n) ↦ joined a n (b ∷ rest) (lines_of indent (a + n - 1) rest)
      | None ↦ record { text = []; read = 0 }
    ]

-- a block's text and how many bytes it consumes; or that there is no block; or that the scratch is too short to look
pub data BlockText : Type 0 where
  block : List ℕ → ℕ → BlockText
  no_block : BlockText
  no-scratch : BlockText

-- the first line's n bytes behind a bytes, and the further lines
abbrev pub with_lines : ℕ → List ℕ → ℕ → Joining → BlockText
with_lines a s n more = block (take n (drop a s) ++ more.text) (a + n + more.read)

-- "the rest of the line", behind a bytes; "A CR without LF in the first line refuses the block"
abbrev pub first_line_of : ℕ → List ℕ → Option ℕ → BlockText
first_line_of a s (Some n) = with_lines a s n (lines_of (take (space0_of s) s) 0 (drop n (drop a s)))
first_line_of a s None = no_block

unfoldable pub block_of : List ℕ → List ℕ → BlockText
block_of header s =
    elim (start_of header s) [ Some a ↦ first_line_of a s (not_line_ending_of (drop a s)) | None ↦ no_block ]

-- what an answer says, with the scratch as the reader left it
abbrev pub block_in : Result (ℕ × ℕ) ParseError → List ℕ → BlockText
block_in (Ok (len, n)) scratch = block (take len scratch) n
block_in (Err NotFound) scratch = no_block
block_in (Err NoRoom) scratch = no-scratch

-- a scratch as long as the input is enough, and is asked for
abbrev pub lent_block : List ℕ → List ℕ → BlockText → BlockText
lent_block s scratch x = elim (ltb (length scratch) (length s)) [ true ↦ no-scratch | false ↦ x ]
