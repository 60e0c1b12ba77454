-- What the contracts of private functions speak of: tables that can be searched by halves, and how taking goes on behind a byte.
-- Assumes nothing.
use Rattle.std.specs.Prelude.{Option, Some, None, ℕ, zero, suc, ◌+◌, List, [], ◌∷◌, Bool, true, false, ◌&&◌, leb, ltb, drop}
use Rattle.rst_bytes.specs.Escaped.{taking}

-- of ranges, each given by its first and its last: each is in order, and ends below the next
unfoldable pub apart : List (ℕ × ℕ) → Bool
apart [] = true
apart ((a, z) ∷ []) = leb a z
apart ((a, z) ∷ (b, y) ∷ rest) = leb a z && (ltb z b && apart ((b, y) ∷ rest))

-- what is taken of s, n bytes being taken before it, if r says how many bytes are taken at its front: none at a wrong escape, 0 at the part's
-- end
abbrev pub taken_on : ℕ → ℕ → ℕ → List ℕ → Option ℕ → Option ℕ
taken_on p q n s None = None
taken_on p q n s (Some zero) = Some n
taken_on p q n s (Some (suc k)) = taking p q false (n + suc k) (drop (suc k) s)
