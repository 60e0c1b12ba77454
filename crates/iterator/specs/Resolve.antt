-- Resolving: "if its target has a destination, store that under the alias's name (replacing) .."; "references without a destination are
-- dropped. An embedded link's text stays, empty or not. A reference's shown text is the text part, or the destination part if that is
-- empty."
-- Assumes nothing.
use Rattle.std.specs.Prelude.{ℕ, zero, suc, List, [], ◌∷◌, ◌++◌, Bool, true, false, ◌&&◌, eqb, length}
use Rattle.iterator.specs.Collect.{Pair, pair, Goal, destination, label, Item, Collection}

-- whether two names are the same
unfoldable pub same : List ℕ → List ℕ → Bool
same [] [] = true
same [] (c ∷ y) = false
same (b ∷ x) [] = false
same (b ∷ x) (c ∷ y) = eqb b c && same x y

-- what a name has
pub data Destination : Type 0 where
  has : List ℕ → Destination
  none : Destination

-- "A later destination of a name replaces the earlier": the last that was stored under the name
unfoldable pub lookup : List ℕ → List Pair → Destination
lookup name [] = none
lookup name (x ∷ rest) =
    elim (lookup name rest) [ has d ↦ has d | none ↦ elim (same x.name name) [ true ↦ has x.to | false ↦ none ] ]

-- a search through the aliases: one whose target has a destination, with that, and the aliases that are left; or none is such
pub data Search : Type 0 where
  hit : List ℕ → List ℕ → List Pair → Search
  missed : Search

-- The aliases from the present place on, wrapped at the end, are those ahead and then those that were missed since the last hit.
-- "if its target has a destination .. remove the alias and stay at that place, else move on; wrap at the end; stop when none are left
-- or as many misses in a row as aliases are left"
unfoldable pub search : List Pair → List Pair → List Pair → Search
search stored misses [] = missed
search stored misses (x ∷ ahead) =
    elim (lookup x.to stored) [ has d ↦ hit x.name d (ahead ++ misses) | none ↦ search stored (misses ++ x ∷ []) ahead ]

-- "if its target has a destination, store that under the alias's name (replacing), remove the alias": at most n of them
unfoldable pub resolve_from : ℕ → List Pair → List Pair → List Pair
resolve_from zero aliases stored = stored
resolve_from (suc n) aliases stored =
    elim (search stored [] aliases) [ hit name d left ↦ resolve_from n left (stored ++ pair name d ∷ []) | missed ↦ stored ]

-- "start at the first"
abbrev pub resolve_aliases : List Pair → List Pair → List Pair
resolve_aliases aliases stored = resolve_from (length aliases) aliases stored

-- a link with its destination
pub record Hyperlink : Type 0 where
  pub place : ℕ
  pub consumed : ℕ
  pub text : List ℕ
  pub dest : List ℕ

-- "A reference's shown text is the text part, or the destination part if that is empty."
abbrev pub shown_of : List ℕ → List ℕ → List ℕ
shown_of text dest = elim (eqb (length text) 0) [ true ↦ dest | false ↦ text ]

abbrev pub hyperlink : Item → List ℕ → List ℕ → Hyperlink
hyperlink x text dest = record { place = x.place; consumed = x.consumed; text = text; dest = dest }

-- a reference's link, if its label has a destination, and the others
abbrev pub resolved_by : Item → Destination → List Hyperlink → List Hyperlink
resolved_by x (has d) rest = hyperlink x (shown_of x.text d) d ∷ rest
resolved_by x none rest = rest

abbrev pub resolved_item : List Pair → Item → Goal → List Hyperlink → List Hyperlink
resolved_item stored x (destination d) rest = hyperlink x x.text d ∷ rest
resolved_item stored x (label name) rest = resolved_by x (lookup name stored) rest

-- "References without a destination are dropped. An embedded link's text stays, empty or not."
unfoldable pub resolve_references : List Pair → List Item → List Hyperlink
resolve_references stored [] = []
resolve_references stored (x ∷ rest) = resolved_item stored x x.goal (resolve_references stored rest)

-- the links of what was collected
abbrev pub hyperlinks_of : Collection → List Hyperlink
hyperlinks_of c = resolve_references (resolve_aliases c.label2label c.label2dest) c.links
