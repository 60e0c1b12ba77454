-- All links of a text, one after the other: each is scanned for from where the one before ended, and that place counts as input start.
-- Assumes nothing.
use Rattle.std.specs.Prelude.{ℕ, zero, suc, ◌+◌, ◌-◌, List, [], ◌∷◌, drop}
use Rattle.parse.specs.Link.{Kind, Scanned, found, nothing, no_room}
use Rattle.parse.specs.Forms.{Forms, rst}
use Rattle.parse.specs.Scan.{scan_with}

-- a link with the place where it starts
pub record Placed : Type 0 where
  pub place : ℕ
  pub kind : Kind
  pub first : List ℕ
  pub second : List ℕ
  pub consumed : ℕ

-- a link that was found from place n on
abbrev pub placed : ℕ → Kind → List ℕ → List ℕ → ℕ → ℕ → Placed
placed n kind x y skipped consumed = record { place = n + skipped; kind = kind; first = x; second = y; consumed = consumed }

-- from place n on; k more bytes belong to the link before
unfoldable pub links_from : Forms → ℕ → ℕ → List ℕ → List Placed
links_from forms k n [] = []
links_from forms (suc k) n (b ∷ rest) = links_from forms k (n + 1) rest
links_from forms zero n (b ∷ rest) =
    elim (scan_with forms (b ∷ rest)) [
      | found kind x y skipped consumed ↦
          placed n kind x y skipped consumed ∷ links_from forms (skipped + consumed - 1) (n + 1) rest
      | nothing ↦ []
      | no_room ↦ []
    ]

unfoldable pub links_of : List ℕ → List Placed
links_of s = links_from rst 0 0 s

-- the links of s by its first one, z: it and those of what is left behind it, or none
abbrev pub links_by : Forms → ℕ → List ℕ → Scanned → List Placed
links_by forms n s (found kind x y skipped consumed) =
    placed n kind x y skipped consumed ∷ links_from forms 0 (n + (skipped + consumed)) (drop (skipped + consumed) s)
links_by forms n s nothing = []
links_by forms n s no_room = []
