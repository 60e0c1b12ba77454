-- The laws of `specs/Reach.antt` where no name is defined twice: a name reaches one destination only, and more names and aliases change
-- none that was reached. So what was resolved is resolved alike.
-- Assumes nothing.
use Prim.Native.Nat.{ℕ}
use native.Mathlib.Omega.{arith}
use mathlib.Core.Path.{◌≡◌, refl, ap, sym, ◌∙◌}
use mathlib.Core.List.Memᴰ
use mathlib.Core.List.{
  List,
  [],
  ◌∷◌,
  ◌++◌,
  Memᴰ,
}
use mathlib.Core.Bool.{Bool, true, false}
use mathlib.Core.Logic.{◌⊎◌, inl, inr}
use Rattle.iterator.specs.Collect.{Pair, pair}
use Rattle.iterator.specs.Resolve.{same, Destination, has, none, lookup, resolve_aliases}
use Rattle.iterator.specs.Reach.{Has, Reaches, stands, follows, once}
use Rattle.iterator.proofs.NamesLaws.{same_refl, same-equal}
use Rattle.iterator.proofs.ReachLaws.{has_one, not_none, sound, complete}

-- What a name has, of one pair and the rest
module _ (name : List ℕ) (x : Pair) (rest : List Pair) where
  lookup-rest : (d : List ℕ) → lookup name rest ≡ has d → lookup name (x ∷ rest) ≡ has d
  unfolding lookup
  lookup-rest d e = rw e

  lookup_first : lookup name rest ≡ none → same x.name name ≡ true → lookup name (x ∷ rest) ≡ has x.to
  unfolding lookup
  lookup_first e f = rw (e, f)

  lookup-neither : lookup name rest ≡ none → same x.name name ≡ false → lookup name (x ∷ rest) ≡ none
  unfolding lookup
  lookup-neither e f = rw (e, f)

-- one or none
has-or-not : (name : List ℕ) (xs : List Pair) → Has name xs ⊎ (lookup name xs ≡ none)
has-or-not name xs = go (lookup name xs) refl
  where
    go : (z : Destination) → lookup name xs ≡ z → Has name xs ⊎ (lookup name xs ≡ none)
    go (has d) e = inl (d, e)
    go none e = inr e

same_or_not : (x y : List ℕ) → (same x y ≡ true) ⊎ (same x y ≡ false)
same_or_not x y = go (same x y) refl
  where
    go : (t : Bool) → same x y ≡ t → (same x y ≡ true) ⊎ (same x y ≡ false)
    go true e = inl e
    go false e = inr e

-- one, where a pair has the name
mem-has : (name t : List ℕ) (xs : List Pair) → Memᴰ (pair name t) xs → Has name xs
mem-has name t [] m = absurd (Memᴰ.not-nil m)
mem-has name t (x ∷ xs) m = go (has-or-not name xs) (Memᴰ.cases_cons m) (mem-has name t xs)
  where
    go :
        Has name xs ⊎ (lookup name xs ≡ none) → (pair name t ≡ x) ⊎ Memᴰ (pair name t) xs
        → (Memᴰ (pair name t) xs → Has name xs) → Has name (x ∷ xs)
    go (inl h) i ih = (h.0, lookup-rest name x xs h.0 h.1)
    go (inr e) (inl f) ih = (x.to, lookup_first name x xs e (rw (← ap (λ (y : Pair). y.name) f) (same_refl name)))
    go (inr e) (inr j) ih = not_none (sym (ih j).1 ∙ e)

-- which is what some pair says
lookup-mem : (name d : List ℕ) (xs : List Pair) → lookup name xs ≡ has d → Memᴰ (pair name d) xs
unfolding lookup
lookup-mem name d [] e = not_none (sym e)
lookup-mem name d (x ∷ xs) e = go (has-or-not name xs) (same_or_not x.name name) (λ f. lookup-mem name d xs f)
  where
    go :
        Has name xs ⊎ (lookup name xs ≡ none) → (same x.name name ≡ true) ⊎ (same x.name name ≡ false)
        → (lookup name xs ≡ has d → Memᴰ (pair name d) xs) → Memᴰ (pair name d) (x ∷ xs)
    go (inl h) i ih = Memᴰ.tail (ih (h.1 ∙ sym (lookup-rest name x xs h.0 h.1) ∙ e))
    go (inr f) (inl g) ih =
        let n : x.name ≡ name = same-equal x.name name g in
        let i : d ≡ x.to = has_one (sym e ∙ lookup_first name x xs f g) in
        Memᴰ.head {x = x} (rw (← n, i))
    go (inr f) (inr g) ih = not_none (sym e ∙ lookup-neither name x xs f g)

has-front : (name : List ℕ) (xs ys : List Pair) → Has name xs → Has name (xs ++ ys)
has-front name xs ys h = mem-has name h.0 (xs ++ ys) (Memᴰ.append_left ys (lookup-mem name h.0 xs h.1))

-- No name stands twice: not the first, and none of the others.
once-first : (x : Pair) (xs : List Pair) → once (x ∷ xs) ≡ true → (lookup x.name xs ≡ none) × (once xs ≡ true)
unfolding once
once-first x xs e = go (lookup x.name xs) refl e
  where
    go :
        (z : Destination) → lookup x.name xs ≡ z → elim z [ has d ↦ false | none ↦ once xs ] ≡ true
        → (lookup x.name xs ≡ none) × (once xs ≡ true)
    go (has d) f g = absurd (let z : ◌≡◌ {A = ℕ} 0 1 = cc in omega arith)
    go none f g = (f, g)

once-from : (x : Pair) (xs : List Pair) → lookup x.name xs ≡ none → once xs ≡ true → once (x ∷ xs) ≡ true
unfolding once
once-from x xs e f = rw (e, once) f

-- nor in the first part
once-front : (xs ys : List Pair) → once (xs ++ ys) ≡ true → once xs ≡ true
unfolding once
once-front [] ys e = refl
once-front (x ∷ xs) ys e =
    let w = once-first x (xs ++ ys) e in
    once-from x xs (go (has-or-not x.name xs) w.0) (once-front xs ys w.1)
  where
    go :
        Has x.name xs ⊎ (lookup x.name xs ≡ none) → lookup x.name (xs ++ ys) ≡ none → lookup x.name xs ≡ none
    go (inl h) f = not_none (sym (has-front x.name xs ys h).1 ∙ f)
    go (inr g) f = g

-- nor in the second
once-back : (xs ys : List Pair) → once (xs ++ ys) ≡ true → once ys ≡ true
once-back [] ys e = e
once-back (x ∷ xs) ys e = once-back xs ys (once-first x (xs ++ ys) e).1

-- so each pair says what its name has
once-lookup : (name t : List ℕ) (xs : List Pair) → once xs ≡ true → Memᴰ (pair name t) xs → lookup name xs ≡ has t
once-lookup name t [] e m = absurd (Memᴰ.not-nil m)
once-lookup name t (x ∷ xs) e m =
    go (once-first x xs e) (Memᴰ.cases_cons m) (λ f j. once-lookup name t xs f j)
  where
    go :
        (lookup x.name xs ≡ none) × (once xs ≡ true) → (pair name t ≡ x) ⊎ Memᴰ (pair name t) xs
        → (once xs ≡ true → Memᴰ (pair name t) xs → lookup name xs ≡ has t)
        → lookup name (x ∷ xs) ≡ has t
    go w (inl f) ih =
        let n : x.name ≡ name = ap (λ (y : Pair). y.name) (sym f) in
        let d : x.to ≡ t = ap (λ (y : Pair). y.to) (sym f) in
        rw (← n, ← d) (lookup_first x.name x xs w.0 (same_refl x.name))
    go w (inr j) ih = lookup-rest name x xs t (ih w.1 j)

-- and the names of the second part have nothing in the first
once-apart :
    (name t : List ℕ) (xs ys : List Pair) → once (xs ++ ys) ≡ true → Memᴰ (pair name t) ys → lookup name xs ≡ none
unfolding lookup
once-apart name t [] ys e m = refl
once-apart name t (x ∷ xs) ys e m =
    let w = once-first x (xs ++ ys) e in
    go w.0 (same_or_not x.name name) (once-apart name t xs ys w.1 m)
  where
    go :
        lookup x.name (xs ++ ys) ≡ none → (same x.name name ≡ true) ⊎ (same x.name name ≡ false)
        → lookup name xs ≡ none → lookup name (x ∷ xs) ≡ none
    go f (inl g) ih =
        not_none
        (sym (mem-has name t (xs ++ ys) (Memᴰ.append_right xs m)).1 ∙ (rw (same-equal x.name name g) at f))
    go f (inr g) ih = lookup-neither name x xs ih g

-- A name reaches one destination only.
pub unique :
    (aliases stored : List Pair) → once (stored ++ aliases) ≡ true → {name d e : List ℕ} → Reaches aliases stored name d
    → Reaches aliases stored name e → d ≡ e
unique aliases stored o (stands f) (stands g) = has_one (sym f ∙ g)
unique aliases stored o {name} (stands f) (follows {target = t} m r) =
    not_none (sym f ∙ once-apart name t stored aliases o m)
unique aliases stored o {name} (follows {target = t} m r) (stands g) =
    not_none (sym g ∙ once-apart name t stored aliases o m)
unique aliases stored o {name} {d} {e} (follows {target = t} m r) (follows {target = u} n q) =
    let p = once-back stored aliases o in
    let f : t ≡ u = has_one (sym (once-lookup name t aliases p m) ∙ once-lookup name u aliases p n) in
    unique aliases stored o r (rw f q)

-- With more names and aliases it reaches what it reached.
reaches-grows :
    (aliases stored zs ys : List Pair) → once ((stored ++ ys) ++ (aliases ++ zs)) ≡ true → {name d : List ℕ}
    → Reaches aliases stored name d → Reaches (aliases ++ zs) (stored ++ ys) name d
reaches-grows aliases stored zs ys o {name} {d} (stands e) =
    stands
    (once-lookup
    name
    d
    (stored ++ ys)
    (once-front (stored ++ ys) (aliases ++ zs) o)
    (Memᴰ.append_left ys (lookup-mem name d stored e)))
reaches-grows aliases stored zs ys o (follows m r) =
    follows (Memᴰ.append_left zs m) (reaches-grows aliases stored zs ys o r)

-- So what was resolved is resolved to the same destination.
pub resolved-grows :
    (aliases stored zs ys : List Pair) → once ((stored ++ ys) ++ (aliases ++ zs)) ≡ true → (name d : List ℕ)
    → lookup name (resolve_aliases aliases stored) ≡ has d
    → lookup name (resolve_aliases (aliases ++ zs) (stored ++ ys)) ≡ has d
resolved-grows aliases stored zs ys o name d e =
    let r = reaches-grows aliases stored zs ys o (sound aliases stored name d e) in
    let h = complete (aliases ++ zs) (stored ++ ys) r in
    h.1 ∙ ap has (unique (aliases ++ zs) (stored ++ ys) o (sound (aliases ++ zs) (stored ++ ys) name h.0 h.1) r)
