-- Where no target starts, and how it is marked: for the contract of `mark`.
-- Assumes nothing.
use Rattle.std.specs.Prelude.{ℕ, ◌≡◌, List, Bool, get_or, drop}
use Rattle.restructured_text.specs.Strings.{none}
use Rattle.restructured_text.specs.Target.{label2target_of}

-- no target is found
abbrev pub NoTarget : List ℕ → Type 0
NoTarget s = (label : Bool) → label2target_of label s ≡ none

-- where 1 is marked none is found
abbrev pub Marks : List ℕ → List ℕ → Type 0
Marks marks s = (k : ℕ) → get_or marks k 0 ≡ 1 → NoTarget (drop k s)
