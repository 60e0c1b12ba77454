-- The laws of looking up and of the walk through the aliases: what one more stored destination changes, and what a hit, a miss and the end
-- of the walk do.
-- Assumes nothing.
use Prim.Native.Nat.{ℕ, suc, ◌+◌, ◌-◌, ◌<◌, ◌≤◌}
use native.Mathlib.Omega.{arith}
use mathlib.Core.Path.{◌≡◌, refl, ap, sym, ◌∙◌}
use mathlib.Core.List.{List, [], ◌∷◌, ◌++◌}
use mathlib.Core.Bool.{Bool, true, false}
use lib.ListN.{length, take, drop, length-append, take-append-drop}
use lib.Seq.{take-length, drop-length, take-append-le, drop-append-le}
use Rattle.iterator.specs.Collect.{Pair, pair}
use Rattle.iterator.specs.Resolve.{same, has, none, lookup, search, resolve_from, resolve_aliases}
use Rattle.iterator.specs.Inner.{resumed, goes_on}

has-not-none : {d : List ℕ} → has d ≡ none → ⊥
has-not-none e = let z : ◌≡◌ {A = ℕ} 0 1 = cc in omega arith

-- Looking up: the last that was stored is seen first
module _ (name : List ℕ) (x : Pair) where
  pub lookup-here : (xs : List Pair) → same x.name name ≡ true → lookup name (xs ++ x ∷ []) ≡ has x.to
  unfolding lookup
  lookup-here [] e = rw (e, lookup)
  lookup-here (y ∷ xs) e = rw (lookup-here xs e)

  pub lookup-past : (xs : List Pair) → same x.name name ≡ false → lookup name (xs ++ x ∷ []) ≡ lookup name xs
  unfolding lookup
  lookup-past [] e = rw (e, lookup)
  lookup-past (y ∷ xs) e = rw (lookup-past xs e)

  -- a name that has nothing has nothing without the last
  pub lookup-fewer : (xs : List Pair) → lookup name (xs ++ x ∷ []) ≡ none → lookup name xs ≡ none
  lookup-fewer xs e = by (same x.name name) (lookup-here xs) (lookup-past xs)
    where
      by :
          (t : Bool) → (t ≡ true → lookup name (xs ++ x ∷ []) ≡ has x.to)
          → (t ≡ false → lookup name (xs ++ x ∷ []) ≡ lookup name xs) → lookup name xs ≡ none
      by true f g = absurd (has-not-none (sym (f refl) ∙ e))
      by false f g = sym (g refl) ∙ e

-- The walk: with the next alias x, those ahead of it, and those that were missed
module _ (stored : List Pair) where
  resumed-miss :
      (n : ℕ) (misses : List Pair) (x : Pair) (ahead : List Pair) → lookup x.to stored ≡ none
      → resumed n misses (x ∷ ahead) stored ≡ resumed n (misses ++ x ∷ []) ahead stored
  unfolding search
  resumed-miss n misses x ahead e = rw (e, resumed)

  resumed-hit :
      (n : ℕ) (misses : List Pair) (x : Pair) (ahead : List Pair) (d : List ℕ) → lookup x.to stored ≡ has d
      → resumed n misses (x ∷ ahead) stored ≡ resolve_from n (ahead ++ misses) (stored ++ pair x.name d ∷ [])
  unfolding search
  resumed-hit n misses x ahead d e = rw (e, resumed)

  -- after k misses: those ahead are the first of the queue, those missed the last k
  unrolled :
      (k : ℕ) (x : Pair) (q : List Pair) → k < length (x ∷ q)
      → goes_on k (x ∷ q) stored ≡ resumed (length q) (drop (length q - k) q) (x ∷ take (length q - k) q) stored
  unfolding goes_on
  unrolled k x q h =
      let e : suc (length q) - k ≡ suc (length q - k) = omega arith in
      let f : suc (length q) - 1 ≡ length q = omega arith in
      rw (e, f)

  -- one more missed
  rolled :
      (k : ℕ) (x : Pair) (q : List Pair) → k ≤ length q
      → resumed (length q) (drop (length q - k) q ++ x ∷ []) (take (length q - k) q) stored ≡ goes_on (k + 1) (q ++ x ∷ []) stored
  unfolding goes_on
  rolled k x q h =
      let e : length (q ++ x ∷ []) - (k + 1) ≡ length q - k = omega (arith, length-append q (x ∷ [])) in
      let f : length (q ++ x ∷ []) - 1 ≡ length q = omega (arith, length-append q (x ∷ [])) in
      let g : length q - k ≤ length q = omega arith in
      rw (e, f, take-append-le (length q - k) q (x ∷ []) g, drop-append-le (length q - k) q (x ∷ []) g)

  start_none : resolve_aliases [] stored ≡ goes_on 0 [] stored
  unfolding goes_on search resolve_from
  start_none = refl

  start-some : (x : Pair) (q : List Pair) → goes_on 0 (x ∷ q) stored ≡ resolve_aliases (x ∷ q) stored
  unfolding resolve_from
  start-some x q =
      let e : length q - 0 ≡ length q = omega arith in
      unrolled 0 x q (omega arith) ∙ rw (e, take-length q, drop-length q)

  -- the walk starts with no miss
  pub goes-start : (q : List Pair) → resolve_aliases q stored ≡ goes_on 0 q stored
  goes-start [] = start_none
  goes-start (x ∷ q) = sym (start-some x q)

  -- as many misses as aliases are left
  pub goes-stop : (k : ℕ) (q : List Pair) → length q ≤ k → goes_on k q stored ≡ stored
  unfolding goes_on search
  goes-stop k q h = let e : length q - k ≡ 0 = omega arith in rw e

module _ (stored : List Pair) (k : ℕ) (x : Pair) (q : List Pair) (h : k < length (x ∷ q)) where
  pub goes-miss : lookup x.to stored ≡ none → goes_on k (x ∷ q) stored ≡ goes_on (k + 1) (q ++ x ∷ []) stored
  goes-miss e =
      unrolled stored k x q h
      ∙ resumed-miss stored (length q) (drop (length q - k) q) x (take (length q - k) q) e
      ∙ rolled stored k x q (omega arith)

  pub goes-hit :
      (d : List ℕ) → lookup x.to stored ≡ has d
      → goes_on k (x ∷ q) stored ≡ goes_on 0 q (stored ++ pair x.name d ∷ [])
  goes-hit d e =
      unrolled stored k x q h
      ∙ resumed-hit stored (length q) (drop (length q - k) q) x (take (length q - k) q) d e
      ∙ ap (λ (l : List Pair). resolve_from (length q) l (stored ++ pair x.name d ∷ [])) (take-append-drop (length q - k) q)
      ∙ goes-start (stored ++ pair x.name d ∷ []) q
