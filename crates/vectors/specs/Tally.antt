-- A tally as it is printed: `N recorded, M agree`.
-- Assumes nothing.
use Rattle.std.specs.Prelude.{ℕ, List, [], ◌∷◌, ◌++◌}
use Rattle.std.specs.Fmt.{decimal}
use Rattle.vectors.specs.declared.tally.Tally.{Tally}

abbrev recorded : List ℕ
recorded = 0x20 ∷ 0x72 ∷ 0x65 ∷ 0x63 ∷ 0x6F ∷ 0x72 ∷ 0x64 ∷ 0x65 ∷ 0x64 ∷ 0x2C ∷ 0x20 ∷ []

abbrev agree : List ℕ
agree = 0x20 ∷ 0x61 ∷ 0x67 ∷ 0x72 ∷ 0x65 ∷ 0x65 ∷ []

-- how many are recorded, and how many agree
abbrev pub counts : Tally → List ℕ
counts t = decimal t.recorded ++ (recorded ++ (decimal t.agree ++ agree))
