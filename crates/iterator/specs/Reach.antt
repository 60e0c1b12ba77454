-- Which names get a destination, and which: what resolving aliases comes to, with no order of tries.
-- Assumes nothing.
use Rattle.std.specs.Prelude.{ℕ, zero, suc, ◌≡◌, Bool, true, false, length}
use mathlib.Core.List.{List, [], ◌∷◌, ◌++◌, Memᴰ}
use Rattle.iterator.specs.Collect.{Pair, pair}
use Rattle.iterator.specs.Resolve.{has, none, lookup, hit, missed, search}

-- a name has some destination
abbrev pub Has : List ℕ → List Pair → Type 0
Has name stored = (d : List ℕ) × (lookup name stored ≡ has d)

-- a name reaches a destination: it had it before aliases are resolved, or one of its aliases has a target that reaches it
pub data Reaches (aliases stored : List Pair) : List ℕ → List ℕ → Type 0 where
  stands : {name d : List ℕ} → lookup name stored ≡ has d → Reaches aliases stored name d
  follows :
      {name target d : List ℕ} → Memᴰ (pair name target) aliases → Reaches aliases stored target d
      → Reaches aliases stored name d

-- the aliases that are left over: `resolve_from` stores, and this says what it does not remove
unfoldable pub left_from : ℕ → List Pair → List Pair → List Pair
left_from zero aliases stored = aliases
left_from (suc n) aliases stored =
    elim (search stored [] aliases) [ hit name d left ↦ left_from n left (stored ++ pair name d ∷ []) | missed ↦ aliases ]

abbrev pub left_over : List Pair → List Pair → List Pair
left_over aliases stored = left_from (length aliases) aliases stored

-- whether no name stands twice
unfoldable pub once : List Pair → Bool
once [] = true
once (x ∷ rest) = elim (lookup x.name rest) [ has d ↦ false | none ↦ once rest ]
