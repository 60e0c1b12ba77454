-- The laws of `specs/Reach.antt`: resolving aliases stores only what names reach, every name that reaches a destination gets one, and an
-- alias is left over only if its target gets none.
-- Assumes nothing.
use Prim.Native.Nat.{ℕ, zero, suc, ◌≤◌}
use native.Mathlib.Omega.{arith}
use mathlib.Core.Path.{◌≡◌, refl, ap, sym, ◌∙◌}
use mathlib.Core.List.Memᴰ
use mathlib.Core.List.{
  List,
  [],
  ◌∷◌,
  ◌++◌,
  append-nil,
  append_assoc,
  Memᴰ,
}
use mathlib.Core.Bool.{Bool, true, false}
use mathlib.Core.Logic.{◌⊎◌, inl, inr, ⊎_elim}
use lib.ListN.{length, length-append}
use Rattle.iterator.specs.Collect.{Pair, pair}
use Rattle.iterator.specs.Resolve.{
  same,
  Destination,
  has,
  none,
  lookup,
  Search,
  hit,
  missed,
  search,
  resolve_from,
  resolve_aliases,
}
use Rattle.iterator.specs.Reach.{Has, Reaches, stands, follows, left_from, left_over}
use Rattle.iterator.proofs.NamesLaws.{same_refl, same-equal}
use Rattle.iterator.proofs.ResolveLaws.{lookup-here, lookup-past}

-- a name has one destination, or none
pub has_one : {d e : List ℕ} → has d ≡ has e → d ≡ e
has_one e = cc

pub not_none : {A : Type 0} {d : List ℕ} → has d ≡ none → A
not_none e = absurd (let z : ◌≡◌ {A = ℕ} 0 1 = cc in omega arith)

-- it has one still when one more is stored
has_more : (name : List ℕ) (stored : List Pair) (x : Pair) → Has name stored → Has name (stored ++ x ∷ [])
has_more name stored x h = go (same x.name name) refl
  where
    go : (t : Bool) → same x.name name ≡ t → Has name (stored ++ x ∷ [])
    go true e = (x.to, lookup-here name x stored e)
    go false e = (h.0, lookup-past name x stored e ∙ h.1)

-- What a search comes to: an alias whose target has a destination, and those behind it, those missed and those before it are left; or no
-- target has one
abbrev Result : List Pair → List Pair → List Pair → Search → Type 0
Result stored misses ahead (hit name d left) =
    (before : List Pair) × (target : List ℕ) × (after : List Pair) × (ahead ≡ before ++ pair name target ∷ after)
    × (left ≡ after ++ (misses ++ before)) × (lookup target stored ≡ has d)
Result stored misses ahead missed = (x : Pair) → Memᴰ x ahead → lookup x.to stored ≡ none

searched : (stored ahead misses : List Pair) → Result stored misses ahead (search stored misses ahead)
unfolding search
searched stored [] misses = λ x m. absurd (Memᴰ.not-nil m)
searched stored (x ∷ ahead) misses = go (lookup x.to stored) refl (searched stored ahead (misses ++ x ∷ []))
  where
    further :
        (z : Search) → lookup x.to stored ≡ none → Result stored (misses ++ x ∷ []) ahead z → Result stored misses (x ∷ ahead) z
    further (hit name d left) e w = (
      x ∷ w.0,
      w.1,
      w.2,
      ap (λ (l : List Pair). x ∷ l) w.3,
      w.4 ∙ ap (λ (l : List Pair). w.2 ++ l) (append_assoc misses (x ∷ []) w.0),
      w.5,
    )
    further missed e w = λ y m. ⊎_elim (λ (f : y ≡ x). rw f e) (λ (n : Memᴰ y ahead). w y n) (Memᴰ.cases_cons m)

    go :
        (z : Destination) → lookup x.to stored ≡ z → Result stored (misses ++ x ∷ []) ahead (search stored (misses ++ x ∷ []) ahead)
        → Result
        stored
        misses
        (x ∷ ahead)
        (elim z [ has d ↦ hit x.name d (ahead ++ misses) | none ↦ search stored (misses ++ x ∷ []) ahead ])
    go (has d) e w = ([], x.to, ahead, refl, ap (λ (l : List Pair). ahead ++ l) (sym (append-nil misses)), e)
    go none e w = further (search stored (misses ++ x ∷ []) ahead) e w

-- One alias is resolved: with the others, and with what is stored then, a name reaches only what it reached.
module _
    (aliases stored left : List Pair)
    (name target d : List ℕ)
    (here : Memᴰ (pair name target) aliases)
    (had : lookup target stored ≡ has d)
    (among : (x : Pair) → Memᴰ x left → Memᴰ x aliases) where
  reached-stands : (n e : List ℕ) → lookup n (stored ++ pair name d ∷ []) ≡ has e → Reaches aliases stored n e
  reached-stands n e g = go (same name n) refl
    where
      go : (t : Bool) → same name n ≡ t → Reaches aliases stored n e
      go true f =
          rw (← same-equal name n f, has_one (sym g ∙ lookup-here n (pair name d) stored f)) (follows here (stands had))
      go false f = stands (sym (lookup-past n (pair name d) stored f) ∙ g)

  reached-before : {n e : List ℕ} → Reaches left (stored ++ pair name d ∷ []) n e → Reaches aliases stored n e
  reached-before {n} {e} (stands g) = reached-stands n e g
  reached-before (follows m r) = follows (among _ m) (reached-before r)

-- the aliases that are left are aliases
left-among :
    (before after : List Pair) (a : Pair) (x : Pair) → Memᴰ x (after ++ before) → Memᴰ x (before ++ a ∷ after)
left-among before after a x m =
    ⊎_elim
    (λ (n : Memᴰ x after). Memᴰ.append_right before (Memᴰ.tail n))
    (λ (n : Memᴰ x before). Memᴰ.append_left (a ∷ after) n)
    (Memᴰ.append_cases after m)

sound-from :
    (n : ℕ) (aliases stored : List Pair) (name d : List ℕ) → lookup name (resolve_from n aliases stored) ≡ has d
    → Reaches aliases stored name d
unfolding resolve_from
sound-from zero aliases stored name d e = stands e
sound-from (suc n) aliases stored name d e =
    go (search stored [] aliases) (searched stored aliases []) e (λ l s. sound-from n l s name d)
  where
    go :
        (z : Search) → Result stored [] aliases z
        → lookup name (elim z [ hit m t left ↦ resolve_from n left (stored ++ pair m t ∷ []) | missed ↦ stored ]) ≡ has d
        → ((l s : List Pair) → lookup name (resolve_from n l s) ≡ has d → Reaches l s name d)
        → Reaches aliases stored name d
    go (hit m t left) w f ih =
        reached-before
        aliases
        stored
        left
        m
        w.1
        t
        (rw w.3 (Memᴰ.append_right w.0 (Memᴰ.head refl)))
        w.5
        (λ x k. rw w.3 (left-among w.0 w.2 (pair m w.1) x (rw w.4 at k)))
        (ih left (stored ++ pair m t ∷ []) f)
    go missed w f ih = stands f

-- sound: whatever has a destination reaches it
pub sound :
    (aliases stored : List Pair) (name d : List ℕ) → lookup name (resolve_aliases aliases stored) ≡ has d
    → Reaches aliases stored name d
sound aliases stored name d e = sound-from (length aliases) aliases stored name d e

-- what has a destination keeps one
kept_from :
    (n : ℕ) (aliases stored : List Pair) (name : List ℕ) → Has name stored → Has name (resolve_from n aliases stored)
unfolding resolve_from
kept_from zero aliases stored name h = h
kept_from (suc n) aliases stored name h = go (search stored [] aliases) (λ l s. kept_from n l s name)
  where
    go :
        (z : Search) → ((l s : List Pair) → Has name s → Has name (resolve_from n l s))
        → Has name (elim z [ hit m t left ↦ resolve_from n left (stored ++ pair m t ∷ []) | missed ↦ stored ])
    go (hit m t left) ih = ih left (stored ++ pair m t ∷ []) (has_more name stored (pair m t) h)
    go missed ih = h

-- an alias is left over, or its name has a destination
split_from :
    (n : ℕ) (aliases stored : List Pair) (x : Pair) → Memᴰ x aliases
    → Memᴰ x (left_from n aliases stored) ⊎ Has x.name (resolve_from n aliases stored)
unfolding resolve_from left_from
split_from zero aliases stored x m = inl m
split_from (suc n) aliases stored x m =
    go (search stored [] aliases) (searched stored aliases []) (λ l s. split_from n l s x)
  where
    go :
        (z : Search) → Result stored [] aliases z
        → ((l s : List Pair) → Memᴰ x l → Memᴰ x (left_from n l s) ⊎ Has x.name (resolve_from n l s))
        → Memᴰ x (elim z [ hit k d left ↦ left_from n left (stored ++ pair k d ∷ []) | missed ↦ aliases ])
        ⊎ Has x.name (elim z [ hit k d left ↦ resolve_from n left (stored ++ pair k d ∷ []) | missed ↦ stored ])
    go missed w ih = inl m
    go (hit k d left) w ih =
        ⊎_elim
        (λ (i : Memᴰ x w.0). ih left more (rw w.4 (Memᴰ.append_right w.2 i)))
        (λ (i : Memᴰ x (pair k w.1 ∷ w.2)).
        ⊎_elim
        (λ (f : x ≡ pair k w.1). inr (rw f (kept_from n left more k (d, lookup-here k (pair k d) stored (same_refl k)))))
        (λ (j : Memᴰ x w.2). ih left more (rw w.4 (Memᴰ.append_left w.0 j)))
        (Memᴰ.cases_cons i))
        (Memᴰ.append_cases w.0 (rw w.3 at m))
      where
        more : List Pair
        more = stored ++ pair k d ∷ []

-- of n or fewer aliases, no target of one that is left over has a destination
left-from :
    (n : ℕ) (aliases stored : List Pair) → length aliases ≤ n → (x : Pair) → Memᴰ x (left_from n aliases stored)
    → lookup x.to (resolve_from n aliases stored) ≡ none
unfolding resolve_from left_from
left-from zero [] stored h x m = absurd (Memᴰ.not-nil m)
left-from zero (y ∷ aliases) stored h x m = absurd (omega arith)
left-from (suc n) aliases stored h x m =
    go (search stored [] aliases) (searched stored aliases []) m (λ l s k. left-from n l s k x)
  where
    go :
        (z : Search) → Result stored [] aliases z
        → Memᴰ x (elim z [ hit k d left ↦ left_from n left (stored ++ pair k d ∷ []) | missed ↦ aliases ])
        → ((l s : List Pair) → length l ≤ n → Memᴰ x (left_from n l s) → lookup x.to (resolve_from n l s) ≡ none)
        → lookup x.to (elim z [ hit k d left ↦ resolve_from n left (stored ++ pair k d ∷ []) | missed ↦ stored ]) ≡ none
    go (hit k d left) w i ih =
        ih
        left
        (stored ++ pair k d ∷ [])
        (omega (arith, ap length w.3, ap length w.4, length-append w.0 (pair k w.1 ∷ w.2), length-append w.2 w.0))
        i
    go missed w i ih = w x i

-- All aliases
module _ (aliases stored : List Pair) where
  -- a name that has a destination before has one after
  resolve-keeps : (name : List ℕ) → Has name stored → Has name (resolve_aliases aliases stored)
  resolve-keeps name h = kept_from (length aliases) aliases stored name h

  -- every alias left over targets a name without a destination
  pub left_over_lem : (x : Pair) → Memᴰ x (left_over aliases stored) → lookup x.to (resolve_aliases aliases stored) ≡ none
  left_over_lem x m = left-from (length aliases) aliases stored (omega arith) x m

  -- an alias is left over, or its name has a destination
  left-or-stored :
      (x : Pair) → Memᴰ x aliases
      → Memᴰ x (left_over aliases stored) ⊎ Has x.name (resolve_aliases aliases stored)
  left-or-stored x m = split_from (length aliases) aliases stored x m

  -- an alias whose target has a destination has one
  resolve-follows :
      (name target : List ℕ) → Memᴰ (pair name target) aliases → Has target (resolve_aliases aliases stored)
      → Has name (resolve_aliases aliases stored)
  resolve-follows name target m h =
      ⊎_elim
      (λ (i : Memᴰ (pair name target) (left_over aliases stored)). not_none (sym h.1 ∙ left_over_lem (pair name target) i))
      (λ (k : Has name (resolve_aliases aliases stored)). k)
      (left-or-stored (pair name target) m)

  -- complete: whatever reaches a destination has one
  pub complete : {name d : List ℕ} → Reaches aliases stored name d → Has name (resolve_aliases aliases stored)
  complete {name} {d} (stands e) = resolve-keeps name (d, e)
  complete {name} (follows {target = target} m r) = resolve-follows name target m (complete r)
