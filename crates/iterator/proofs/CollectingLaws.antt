-- A law of `specs/Collect.antt`: collecting the links of two lists is collecting those of the first and going on with the second's.
-- Assumes nothing.
use Prim.Native.Nat.{ℕ}
use mathlib.Core.Path.{◌≡◌, refl}
use mathlib.Core.List.{List, [], ◌∷◌, ◌++◌}
use Rattle.parse.specs.Links.{Placed}
use Rattle.iterator.specs.Collect.{Collection, Collected, collected, refused, and_then, add, collect_from}

pub collect-append :
    (render : ℕ) (s : List ℕ) (c : Collection) (xs ys : List Placed)
    → collect_from render s c (xs ++ ys) ≡ and_then (collect_from render s c xs) (λ d. collect_from render s d ys)
unfolding collect_from
collect-append render s c [] ys = refl
collect-append render s c (p ∷ xs) ys = go (add render s p c) (λ d. collect-append render s d xs ys)
  where
    go :
        (z : Collected)
        → ((d : Collection) → collect_from render s d (xs ++ ys) ≡ and_then (collect_from render s d xs) (λ e. collect_from render s e ys))
        → elim z [ collected d ↦ collect_from render s d (xs ++ ys) | refused number ↦ refused number ]
        ≡ and_then
        (elim z [ collected d ↦ collect_from render s d xs | refused number ↦ refused number ])
        (λ e. collect_from render s e ys)
    go (collected d) ih = ih d
    go (refused number) ih = refl
