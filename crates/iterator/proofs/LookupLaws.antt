-- The rows of looking up a name, from the last row back: what the rows up to one say goes by that row and by those before it.
-- Assumes nothing.
use Rattle.std.proofs.lemmas.List.{map_push}
use Rattle.std.proofs.Common.{ℕ, zero, suc, ◌+◌, ◌*◌, ◌≤◌, ◌≡◌, refl, ap, sym, subst, ◌∙◌, arith, List, [], ◌∷◌, ◌++◌, map, length}
use mathlib.Core.Path.{subst⁻¹}
use Rattle.restructured_text.specs.Strings.{part}
use Rattle.iterator.specs.declared.rows.PairRow.{PairRow}
use Rattle.iterator.specs.Resolve.{same, has, none, lookup}
use Rattle.iterator.specs.Rows.{pair_at, pair_rows, pair_of, pairs_of, destinations_at, room, SpanWithin, PairWithin}
use Rattle.iterator.specs.Inner.{NamesHeld}
use Rattle.iterator.proofs.RowsLaws.{pairs-snoc, pairs-within-at}
use Rattle.iterator.proofs.NamesLaws.{same_refl, same-other}
use Rattle.iterator.proofs.ResolveLaws.{lookup-here, lookup-past, lookup-fewer}

-- one row more that is stored
one_more :
    (t w : List ℕ) (n : ℕ)
    → pairs_of (n + 1) destinations_at t w
    ≡ pairs_of n destinations_at t w ++ pair_of w (pair_at t (destinations_at + 4 * n)) ∷ []
one_more t w n =
    ap (map (pair_of w)) (pairs-snoc n destinations_at t)
    ∙ map_push (pair_of w) (pair_rows n destinations_at t) (pair_at t (destinations_at + 4 * n))

-- Looking up, from the last row back: of the first i rows the last is row j, which is r
module _ (t w : List ℕ) (i j : ℕ) (r : PairRow) (e : r ≡ pair_at t (destinations_at + 4 * j)) (h : i ≡ j + 1) where
  last_row : pairs_of i destinations_at t w ≡ pairs_of j destinations_at t w ++ pair_of w r ∷ []
  last_row =
      ap (λ (n : ℕ). pairs_of n destinations_at t w) h
      ∙ one_more t w j
      ∙ ap (λ (x : PairRow). pairs_of j destinations_at t w ++ pair_of w x ∷ []) (sym e)

  row_same : (name : List ℕ) → part r.name w ≡ name → lookup name (pairs_of i destinations_at t w) ≡ has (part r.to w)
  row_same name f =
      ap (lookup name) last_row
      ∙ lookup-here name (pair_of w r) (pairs_of j destinations_at t w) (ap (λ (x : List ℕ). same x name) f ∙ same_refl name)

  pub row_other :
      (name : List ℕ) → (part r.name w ≡ name → ⊥)
      → lookup name (pairs_of i destinations_at t w) ≡ lookup name (pairs_of j destinations_at t w)
  row_other name f =
      ap (lookup name) last_row ∙ lookup-past name (pair_of w r) (pairs_of j destinations_at t w) (same-other _ _ f)

  -- n rows are held
  module _ (n : ℕ) (held : NamesHeld n t w) (inside : i ≤ n) where
    row_within : PairWithin room r
    row_within = subst⁻¹ (PairWithin room) e (pairs-within-at room n destinations_at j t (omega arith) held.within)

    -- the name of the row stands in the work bytes
    pub row-inside : r.name.start + r.name.len ≤ length w
    row-inside = omega (arith, row_within.0.0, held.roomy.1)

    -- it is the name that is looked up, and no row behind it has that
    pub row-found :
        (name : List ℕ) → part r.name w ≡ name
        → lookup name (pairs_of n destinations_at t w) ≡ lookup name (pairs_of i destinations_at t w)
        → record { found : has (part r.to w) ≡ lookup name (pairs_of n destinations_at t w); within : SpanWithin room r.to }
    row-found name f g = record { found = sym (g ∙ row_same name f); within = row_within.1 }

-- a name that none of n rows has, none of the first m has, where the others are k
pub none-fewer :
    (t w name : List ℕ) (m k n : ℕ) → n ≡ m + k → lookup name (pairs_of n destinations_at t w) ≡ none
    → lookup name (pairs_of m destinations_at t w) ≡ none
none-fewer t w name m zero n h e =
    let f : n ≡ m = omega arith in
    subst (λ i. lookup name (pairs_of i destinations_at t w) ≡ none) f e
none-fewer t w name m (suc k) n h e =
    let f : n ≡ m + k + 1 = omega arith in
    let g = ap (λ i. pairs_of i destinations_at t w) f ∙ one_more t w (m + k) in
    let x = pair_of w (pair_at t (destinations_at + 4 * (m + k))) in
    none-fewer t w name m k (m + k) refl (lookup-fewer name x (pairs_of (m + k) destinations_at t w) (ap (lookup name) (sym g) ∙ e))
