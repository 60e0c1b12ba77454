-- Tests on numbers.
-- Assumes nothing.
use Rattle.std.specs.Prelude.{ℕ, List, [], ◌∷◌, Bool, false, ◌&&◌, ◌||◌, leb, eqb}

-- n is one of a to z
abbrev pub between : ℕ → ℕ → ℕ → Bool
between a z n = leb a n && leb n z

-- n is one of the list
abbrev pub one_of : ℕ → List ℕ → Bool
one_of n [] = false
one_of n (x ∷ xs) = eqb n x || one_of n xs
