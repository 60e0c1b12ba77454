-- What the contracts of private functions speak of: the indents that verdicts tell of, by how many of them are shorter than each length.
-- Assumes nothing.
use Rattle.std.specs.Prelude.{ℕ, ◌+◌, ◌-◌, ◌≤◌, List, Bool, ◌&&◌, ltb, min, get_or}

-- longer ones are not listed
abbrev pub longest : ℕ
longest = 1024

-- how many of those that are listed are shorter than k bytes
unfoldable pub rank_of : List ℕ → ℕ → ℕ
rank_of ranks k = get_or ranks (min k longest) 0

-- an indent of k bytes is listed, among the first 127
unfoldable pub is_listed : List ℕ → ℕ → Bool
is_listed ranks k = ltb k longest && (ltb (rank_of ranks k) 127 && ltb (rank_of ranks k) (rank_of ranks (k + 1)))

-- how many have at most m bytes with three spaces
abbrev pub within_of : List ℕ → ℕ → ℕ
within_of ranks m = rank_of ranks (m - 2)

-- of a longer length none fewer are shorter
abbrev pub Rising : List ℕ → Type 0
Rising ranks = (j k : ℕ) → j ≤ k → rank_of ranks j ≤ rank_of ranks k
