-- "In quotes, bytes below 20, above 7E, `"` and backslash are a backslash and two uppercase hex digits."
-- Assumes nothing.
use Rattle.std.specs.Prelude.{ℕ, ◌+◌, ◌-◌, ◌/◌, ◌%◌, List, [], ◌∷◌, ◌++◌, Bool, true, false, ◌&&◌, not, ltb, eqb}

-- whether a byte stands in quotes as it is
unfoldable pub is_plain : ℕ → Bool
is_plain b = not (ltb b 0x20) && (not (ltb 0x7E b) && (not (eqb b 0x22) && not (eqb b 0x5C)))

-- a digit below 16
unfoldable pub hex_digit : ℕ → ℕ
hex_digit n = elim (ltb n 10) [ true ↦ 0x30 + n | false ↦ n - 10 + 0x41 ]

-- a byte as it stands in quotes
abbrev pub shown_byte : ℕ → List ℕ
shown_byte b = elim (is_plain b) [ true ↦ b ∷ [] | false ↦ 0x5C ∷ hex_digit (b / 16) ∷ hex_digit (b % 16) ∷ [] ]

unfoldable pub shown_bytes : List ℕ → List ℕ
shown_bytes [] = []
shown_bytes (b ∷ rest) = shown_byte b ++ shown_bytes rest

abbrev pub quoted : List ℕ → List ℕ
quoted s = 0x22 ∷ (shown_bytes s ++ 0x22 ∷ [])
