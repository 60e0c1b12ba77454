-- "`newline` is LF. `line_ending` is LF or CR LF. `not_line_ending` runs to the first CR or LF or the end; if that is a CR
-- without LF it refuses. `space0`, `space1`: spaces and tabs, none or more, one or more. `multispace0`: also CR, LF."
-- Assumes nothing.
use Rattle.std.specs.Prelude.{Option, Some, None}
use Rattle.std.specs.Prelude.{ℕ, ◌+◌, List, [], ◌∷◌, Bool, true, false, eqb}
use Rattle.rst_bytes.specs.Tests.{one_of}

-- LF stands at the front
abbrev pub starts_lf : List ℕ → Bool
starts_lf [] = false
starts_lf (b ∷ rest) = eqb b 10

-- "LF"
unfoldable pub newline_of : List ℕ → Option ℕ
newline_of s = elim (starts_lf s) [ true ↦ Some 1 | false ↦ None ]

-- "LF or CR LF"
unfoldable pub line_ending_of : List ℕ → Option ℕ
line_ending_of [] = None
line_ending_of (b ∷ rest) =
    elim (eqb b 10) [
      | true ↦ Some 1
      | false ↦ elim (eqb b 13) [ true ↦ elim (starts_lf rest) [ true ↦ Some 2 | false ↦ None ] | false ↦ None ]
    ]

-- "runs to the first CR or LF or the end; if that is a CR without LF it refuses"; n bytes are passed
unfoldable pub line_from : ℕ → List ℕ → Option ℕ
line_from n [] = Some n
line_from n (b ∷ rest) =
    elim (eqb b 10) [
      | true ↦ Some n
      | false ↦ elim (eqb b 13) [
        | true ↦ elim (starts_lf rest) [ true ↦ Some n | false ↦ None ]
        | false ↦ line_from (n + 1) rest
      ]
    ]

abbrev pub not_line_ending_of : List ℕ → Option ℕ
not_line_ending_of s = line_from 0 s

-- "spaces and tabs"
unfoldable pub is_space : ℕ → Bool
is_space b = one_of b (32 ∷ 9 ∷ [])

-- "also CR, LF"
unfoldable pub is_multispace : ℕ → Bool
is_multispace b = one_of b (32 ∷ 9 ∷ 13 ∷ 10 ∷ [])

-- how many bytes at the front pass a test; n bytes are counted
unfoldable pub bytes_from : (ℕ → Bool) → ℕ → List ℕ → ℕ
bytes_from f n [] = n
bytes_from f n (b ∷ rest) = elim (f b) [ true ↦ bytes_from f (n + 1) rest | false ↦ n ]

-- "none or more"
abbrev pub space0_of : List ℕ → ℕ
space0_of s = bytes_from is_space 0 s

-- "one or more"
unfoldable pub space1_of : List ℕ → Option ℕ
space1_of s = elim (eqb (space0_of s) 0) [ true ↦ None | false ↦ Some (space0_of s) ]

abbrev pub multispace0_of : List ℕ → ℕ
multispace0_of s = bytes_from is_multispace 0 s
