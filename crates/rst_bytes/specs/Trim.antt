-- "`trim_end` drops U+0009–000D, 0020, 0085, 00A0; the trimmed text is a part of the caller's bytes."
-- Assumes nothing.
use Rattle.std.specs.Prelude.{Some, None}
use Rattle.std.specs.Prelude.{ℕ, suc, List, [], ◌∷◌, Bool, true, false, ◌||◌, eqb, length}
use Rattle.rst_bytes.specs.Tests.{between}
use Rattle.rst_bytes.specs.Domain.{char_of, run}

-- "U+0009–000D, 0020, 0085, 00A0"
unfoldable pub is_blank : ℕ → Bool
is_blank c = between 9 0xD c || eqb c 0x20 || eqb c 0x85 || eqb c 0xA0

-- the length of the blank character at the front, 0 if there is none
unfoldable pub blank_of : List ℕ → ℕ
blank_of s =
    elim (char_of s) [ Some (len, point) ↦ elim (is_blank point) [ true ↦ len | false ↦ 0 ] | None ↦ 0 ]

-- nothing but blank characters
unfoldable pub blanks : List ℕ → Bool
blanks s = eqb (run is_blank 0 0 s) (length s)

-- the length of the trimmed text: that of the shortest front after which nothing but blank characters stands
unfoldable pub trim_of : List ℕ → ℕ
trim_of [] = 0
trim_of (b ∷ rest) = elim (blanks (b ∷ rest)) [ true ↦ 0 | false ↦ suc (trim_of rest) ]
