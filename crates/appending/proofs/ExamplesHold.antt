-- The examples hold: both sides of each fact compute to the same list. And what remains of those that break a premise is not the list of
-- the first document's links.
-- Assumes nothing.
use Prim.Native.Nat.{ℕ, ◌+◌}
use mathlib.Core.Path.{◌≡◌, refl, ap}
use mathlib.Core.List.{List, [], ◌∷◌, map}
use native.Mathlib.Omega.{arith}
use lib.ListN.{length}
use Rattle.iterator.proofs.CasesHold as reading
use Rattle.iterator.specs.ReadBack.{links_read}
use Rattle.iterator.specs.Reach.{once}
use Rattle.appending.specs.Claim.{holds, begins_with, ends_with, dropped_in, remaining, Seen}
use Rattle.appending.specs.Examples.{Told, told, Case, kept, AllDiffer, needed}

-- what is told of a list's pairs; its line names all that computing it goes through
tolds : List Case → List Told
unfolding reading.outcomes links_read once holds begins_with ends_with dropped_in remaining
tolds cases = map (λ (c : Case). told c.given) cases

kept-hold : tolds kept ≡ map (λ (c : Case). c.should) kept
unfolding tolds
kept-hold = refl

needed-hold : tolds needed ≡ map (λ (c : Case). c.should) needed
unfolding tolds
needed-hold = refl

-- how many links, and bytes of destinations
abbrev weight : List Seen → ℕ
weight [] = 0
weight (x ∷ xs) = 1 + length x.dest + weight xs

needed-differ : AllDiffer needed
needed-differ = (
  λ e. omega (arith, ap weight e),
  (
    λ e. omega (arith, ap weight e),
    (
      λ e. omega (arith, ap weight e),
      (
        λ e. omega (arith, ap weight e),
        (λ e. omega (arith, ap weight e), tt),
      ),
    ),
  ),
)
