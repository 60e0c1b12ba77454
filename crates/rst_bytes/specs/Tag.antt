-- `tag`: "`.. ` or `__ `", "starts with the indent and three spaces", and wherever else 01 names bytes that must stand at a place.
-- Assumes nothing.
use Rattle.std.specs.Prelude.{ℕ, List, [], ◌∷◌, Bool, true, false, eqb}

-- the second list begins with the first
unfoldable pub starts_with : List ℕ → List ℕ → Bool
starts_with [] s = true
starts_with (c ∷ t) [] = false
starts_with (c ∷ t) (b ∷ s) = elim (eqb b c) [ true ↦ starts_with t s | false ↦ false ]
