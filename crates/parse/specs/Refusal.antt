-- The table of refusals: "number", and "bytes, or the answer".
-- Assumes nothing.
use Rattle.std.specs.Prelude.{ℕ}
use Rattle.parse.specs.declared.refusal.Refusal.{Refusal}
use Rattle.parse.specs.declared.refusal.Refusal.TheVariants.{Render, DocumentLen, WorkLen, Character, Links, Names, OutputLen, Place, NoLink}

-- the number of a refusal
abbrev pub number_of : Refusal → ℕ
number_of Render = 1
number_of DocumentLen = 2
number_of WorkLen = 3
number_of (Character n) = 4
number_of Links = 5
number_of Names = 6
number_of (OutputLen n) = 7
number_of Place = 8
number_of NoLink = 9

-- "fields not named are 0": the place or size that comes with it
abbrev pub bytes_of : Refusal → ℕ
bytes_of (Character n) = n
bytes_of (OutputLen n) = n
bytes_of _ = 0
