-- "`escaped`, with stop set S and escapable set E: takes characters not in S, and a backslash with a following character of E.
-- A backslash before anything else, or last, refuses. It ends before another character of S, and refuses if that is its first.
-- Empty input gives the empty part."
-- Assumes nothing.
use Rattle.std.specs.Prelude.{Option, Some, None}
use Rattle.std.specs.Prelude.{ℕ, ◌+◌, List, [], ◌∷◌, Bool, true, false, ◌||◌, eqb}
use Rattle.rst_bytes.specs.Tests.{one_of}

-- "ESCAPABLE, the set E of every parser below, is space, backtick, :, <, >, _, backslash."
unfoldable pub is_escapable : ℕ → Bool
is_escapable b = one_of b (0x20 ∷ 0x60 ∷ 0x3A ∷ 0x3C ∷ 0x3E ∷ 0x5F ∷ 0x5C ∷ [])

-- S, but for the backslash: the two bytes p and q
unfoldable pub is_stop : ℕ → ℕ → ℕ → Bool
is_stop p q b = eqb b p || eqb b q

-- n bytes are taken, the last of which is a backslash that takes the next byte along, or is not
unfoldable pub taking : ℕ → ℕ → Bool → ℕ → List ℕ → Option ℕ
taking p q true n [] = None
taking p q true n (b ∷ rest) = elim (is_escapable b) [ true ↦ taking p q false (n + 1) rest | false ↦ None ]
taking p q false n [] = Some n
taking p q false n (b ∷ rest) =
    elim (eqb b 0x5C) [
      | true ↦ taking p q true (n + 1) rest
      | false ↦ elim (is_stop p q b) [ true ↦ Some n | false ↦ taking p q false (n + 1) rest ]
    ]

unfoldable pub escaped_of : ℕ → ℕ → List ℕ → Option ℕ
escaped_of p q [] = Some 0
escaped_of p q (b ∷ rest) = elim (is_stop p q b) [ true ↦ None | false ↦ taking p q false 0 (b ∷ rest) ]
