-- `take_link`: "The place given counts as input start. One round: (a) consume LFs, any make a line start; (b) at line or input
-- start try alias block, then destination block; (c) consume `space1`; (d) try embedded anonymous, then embedded named; (e) after
-- (c) took blanks, or at line or input start, skip one of ([<'" if present and try `rst_text2label`, its skip undone on refusal;
-- (f) consume one character and then up to LF, space, tab, backtick, !, [, { or <; input start ends. At the end of input (f) finds
-- no link. After a link that is no block, a destination block standing directly there is consumed unreported."
-- Assumes nothing.
use Rattle.std.specs.Prelude.{Some, None}
use Rattle.std.specs.Prelude.{ℕ, zero, suc, ◌+◌, ◌-◌, List, [], ◌∷◌, Bool, true, false, ◌||◌, not, ltb, eqb, drop}
use Rattle.rst_bytes.specs.Tests.{one_of}
use Rattle.rst_bytes.specs.Line.{bytes_from, space1_of}
use Rattle.parse.specs.Link.{Scanned, found, nothing, no_room, behind, or_else}
use Rattle.parse.specs.Forms.{Forms, tried, rst}

-- a round ends the scan, or passes so many bytes
pub data Round : Type 0 where
  ends : Scanned → Round
  passes : ℕ → Round

-- a round's answer with n bytes before it
abbrev pub later : ℕ → Round → Round
later n (ends x) = ends (behind n x)
later n (passes m) = passes (n + m)

abbrev pub is_lf : ℕ → Bool
is_lf b = eqb b 10

-- (a) "consume LFs"
abbrev pub lfs_of : List ℕ → ℕ
lfs_of s = bytes_from is_lf 0 s

-- (b) "at line or input start try alias block, then destination block"
abbrev pub block_at : Forms → Bool → List ℕ → Scanned
block_at forms true s = tried forms.blocks s
block_at forms false s = nothing

-- (e) "skip one of ([<'" if present"
unfoldable pub is_opening : ℕ → Bool
is_opening b = one_of b (0x28 ∷ 0x5B ∷ 0x3C ∷ 0x27 ∷ 0x22 ∷ [])

unfoldable pub opening_of : List ℕ → ℕ
opening_of [] = 0
opening_of (b ∷ rest) = elim (is_opening b) [ true ↦ 1 | false ↦ 0 ]

-- (e) "after (c) took blanks, or at line or input start, skip .. and try `rst_text2label`, its skip undone on refusal"
abbrev pub reference_at : Forms → Bool → List ℕ → Scanned
reference_at forms true s = behind (opening_of s) (tried forms.references (drop (opening_of s) s))
reference_at forms false s = nothing

-- how many bytes are consumed by what was tried
abbrev pub consumed_of : Scanned → ℕ
consumed_of (found k x y m n) = n
consumed_of nothing = 0
consumed_of no_room = 0

-- "After a link that is no block, a destination block standing directly there is consumed unreported": the link stands in s
abbrev pub followed : Forms → List ℕ → Scanned → Scanned
followed forms s (found k x y m n) = found k x y m (n + consumed_of (tried forms.unreported (drop (m + n) s)))
followed forms s nothing = nothing
followed forms s no_room = no_room

-- (d) and (e): links that are no blocks
unfoldable pub inline_at : Forms → Bool → List ℕ → Scanned
inline_at forms spaced s = followed forms s (or_else (tried forms.embedded s) (reference_at forms spaced s))

-- (f) "LF, space, tab, backtick, !, [, { or <"
unfoldable pub is_start : ℕ → Bool
is_start b = one_of b (0x0A ∷ 0x20 ∷ 0x09 ∷ 0x60 ∷ 0x21 ∷ 0x5B ∷ 0x7B ∷ 0x3C ∷ [])

abbrev pub is_plain : ℕ → Bool
is_plain b = not (is_start b)

-- (f) "consume one character and then up to .."; "at the end of input (f) finds no link". The other bytes of a character stop nothing.
-- Behind the blanks of (c) that one character may be an LF, and then what stands behind it is at no line start.
unfoldable pub passed_of : List ℕ → Round
passed_of [] = ends nothing
passed_of (b ∷ rest) = passes (1 + bytes_from is_plain 0 rest)

-- (d) to (f)
unfoldable pub text_round : Forms → Bool → List ℕ → Round
text_round forms spaced s =
    elim (inline_at forms spaced s) [ found k x y m n ↦ ends (found k x y m n) | nothing ↦ passed_of s | no_room ↦ ends no_room ]

-- (c) to (f): "consume `space1`"; "(e) after (c) took blanks, or at line or input start"
unfoldable pub blank_round : Forms → Bool → List ℕ → Round
blank_round forms line s =
    elim (space1_of s) [ Some n ↦ later n (text_round forms true (drop n s)) | None ↦ text_round forms line s ]

-- (b) to (f)
unfoldable pub line_round : Forms → Bool → List ℕ → Round
line_round forms line s =
    elim (block_at forms line s) [ found k x y m n ↦ ends (found k x y m n) | nothing ↦ blank_round forms line s | no_room ↦ ends no_room ]

-- (a) to (f): "consume LFs, any make a line start"
unfoldable pub round_of : Forms → Bool → List ℕ → Round
round_of forms start s = later (lfs_of s) (line_round forms (start || ltb 0 (lfs_of s)) (drop (lfs_of s) s))

-- Round after round: n bytes are skipped, and k more are those that the last round passes. "input start ends"
unfoldable pub rounds : Forms → ℕ → Bool → ℕ → List ℕ → Scanned
rounds forms k start n [] = nothing
rounds forms (suc k) start n (b ∷ rest) = rounds forms k start (n + 1) rest
rounds forms zero start n (b ∷ rest) =
    elim (round_of forms start (b ∷ rest)) [ ends x ↦ behind n x | passes m ↦ rounds forms (m - 1) false (n + 1) rest ]

-- "The place given counts as input start."
unfoldable pub scan_with : Forms → List ℕ → Scanned
scan_with forms s = rounds forms 0 true 0 s

unfoldable pub scan_of : List ℕ → Scanned
scan_of s = scan_with rst s
