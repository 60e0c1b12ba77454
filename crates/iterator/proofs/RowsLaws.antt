-- The laws of specs/Rows.antt: a row that is put at a place stands there, and the numbers before and behind it stay; so tables grow by a
-- row, and a row put beside a table leaves it. What rows say stays while the bytes that their strings stand in do.
-- Assumes nothing.
use Prim.Native.Nat.{ℕ, zero, suc, ◌+◌, ◌-◌, ◌*◌, ◌<◌, ◌≤◌}
use mathlib.Core.Path.{◌≡◌, refl, sym, ap, subst, ◌∙◌}
use mathlib.Core.List.{List, [], ◌∷◌, ◌++◌, map}
use native.Mathlib.Nat.{not-suc-le-zero}
use native.Mathlib.Omega.{arith}
use lib.ListN.{length, get_or, take, set, length-set}
use lib.Seq.{sets, length-sets, get_or-set_same, get_or-set_other}
use Rattle.restructured_text.specs.declared.Span.{Span}
use Rattle.restructured_text.specs.Strings.{part}
use Rattle.restructured_text.proofs.PartLaws.{part-front}
use Rattle.iterator.specs.declared.rows.PairRow.{PairRow}
use Rattle.iterator.specs.declared.rows.LinkRow.{LinkRow}
use Rattle.iterator.specs.declared.rows.LinkKind.{LinkKind}
use Rattle.iterator.specs.declared.rows.LinkKind.TheVariants.{Direct, Reference, Rendered}
use Rattle.iterator.specs.Collect.{destination, label}
use Rattle.iterator.specs.Rows.{
  kind_at,
  kind_number,
  pair_at,
  link_at,
  put_pair,
  put_link,
  pair_rows,
  link_rows,
  pair_of,
  item_of,
  SpanWithin,
  PairWithin,
  PairsWithin,
  LinkWithin,
  LinksWithin,
}
use Rattle.iterator.specs.Inner.{PairSmall}

-- A run of stores

-- the numbers before it stay
sets_below : (vs t : List ℕ) (n k : ℕ) → k < n → get_or (sets t n vs) k 0 ≡ get_or t k 0
sets_below [] t n k h = refl
sets_below (v ∷ vs) t n k h = sets_below vs (set t n v) (suc n) k (omega arith) ∙ get_or-set_other t n k v 0 (λ e. omega arith)

-- and those behind it
sets-above : (vs t : List ℕ) (n k : ℕ) → n + length vs ≤ k → get_or (sets t n vs) k 0 ≡ get_or t k 0
sets-above [] t n k h = refl
sets-above (v ∷ vs) t n k h = sets-above vs (set t n v) (suc n) k (omega arith) ∙ get_or-set_other t n k v 0 (λ e. omega arith)

-- and what is stored stands in its place
sets-here : (vs t : List ℕ) (n i : ℕ) → i < length vs → n + length vs ≤ length t → get_or (sets t n vs) (n + i) 0 ≡ get_or vs i 0
sets-here [] t n i h g = absurd (not-suc-le-zero h)
sets-here (v ∷ vs) t n zero h g =
    let e : n + 0 ≡ n = omega arith in
    rw e (sets_below vs (set t n v) (suc n) n (omega arith) ∙ get_or-set_same t n v 0 (omega arith))
sets-here (v ∷ vs) t n (suc i) h g =
    let e : n + suc i ≡ suc n + i = omega arith in
    rw e (sets-here vs (set t n v) (suc n) i (omega arith) (omega (arith, length-set t n v)))

-- A row of four numbers

abbrev pair_numbers : PairRow → List ℕ
pair_numbers x = x.name.start ∷ x.name.len ∷ x.to.start ∷ x.to.len ∷ []

module _ (t : List ℕ) (n : ℕ) (x : PairRow) where
  pair-sets : put_pair t n x ≡ sets t n (pair_numbers x)
  pair-sets =
      let e1 : n + 1 ≡ suc n = omega arith in
      let e2 : n + 2 ≡ suc (suc n) = omega arith in
      let e3 : n + 2 + 1 ≡ suc (suc (suc n)) = omega arith in
      rw (e3, e2, e1)

  pub length-put-pair : length (put_pair t n x) ≡ length t
  length-put-pair = ap length pair-sets ∙ length-sets t n (pair_numbers x)

  pair-below : (k : ℕ) → k < n → get_or (put_pair t n x) k 0 ≡ get_or t k 0
  pair-below k h = ap (λ (l : List ℕ). get_or l k 0) pair-sets ∙ sets_below (pair_numbers x) t n k h

  pair-above : (k : ℕ) → n + 4 ≤ k → get_or (put_pair t n x) k 0 ≡ get_or t k 0
  pair-above k h = ap (λ (l : List ℕ). get_or l k 0) pair-sets ∙ sets-above (pair_numbers x) t n k h

  pair-here : n + 4 ≤ length t → pair_at (put_pair t n x) n ≡ x
  pair-here h = λ i. record {
    name = record { start = number 0 n (omega arith) (omega arith) i; len = number 1 (n + 1) (omega arith) (omega arith) i };
    to = record { start = number 2 (n + 2) (omega arith) (omega arith) i; len = number 3 (n + 2 + 1) (omega arith) (omega arith) i };
  }
    where
      number : (i k : ℕ) → i < 4 → n + i ≡ k → get_or (put_pair t n x) k 0 ≡ get_or (pair_numbers x) i 0
      number i k g e =
          ap (λ (l : List ℕ). get_or l k 0) pair-sets
          ∙ ap (λ (m : ℕ). get_or (sets t n (pair_numbers x)) m 0) (sym e)
          ∙ sets-here (pair_numbers x) t n i g h

-- A row of seven numbers

abbrev link_numbers : LinkRow → List ℕ
link_numbers x =
    x.place ∷ x.consumed ∷ x.text.start ∷ x.text.len ∷ x.goal.start ∷ x.goal.len ∷ kind_number x.kind ∷ []

-- a kind that is put is the kind that is read
kind-back : (kind : LinkKind) → kind_at (kind_number kind) ≡ kind
kind-back Direct = refl
kind-back Reference = refl
kind-back Rendered = refl

module _ (t : List ℕ) (n : ℕ) (x : LinkRow) where
  link-sets : put_link t n x ≡ sets t n (link_numbers x)
  link-sets =
      let e1 : n + 1 ≡ suc n = omega arith in
      let e2 : n + 2 ≡ suc (suc n) = omega arith in
      let e3 : n + 2 + 1 ≡ suc (suc (suc n)) = omega arith in
      let e4 : n + 4 ≡ suc (suc (suc (suc n))) = omega arith in
      let e5 : n + 4 + 1 ≡ suc (suc (suc (suc (suc n)))) = omega arith in
      let e6 : n + 6 ≡ suc (suc (suc (suc (suc (suc n))))) = omega arith in
      rw (e5, e3, e1, e2, e4, e6)

  pub length-put-link : length (put_link t n x) ≡ length t
  length-put-link = ap length link-sets ∙ length-sets t n (link_numbers x)

  link-below : (k : ℕ) → k < n → get_or (put_link t n x) k 0 ≡ get_or t k 0
  link-below k h = ap (λ (l : List ℕ). get_or l k 0) link-sets ∙ sets_below (link_numbers x) t n k h

  pub link-above : (k : ℕ) → n + 7 ≤ k → get_or (put_link t n x) k 0 ≡ get_or t k 0
  link-above k h = ap (λ (l : List ℕ). get_or l k 0) link-sets ∙ sets-above (link_numbers x) t n k h

  link_here : n + 7 ≤ length t → link_at (put_link t n x) n ≡ x
  link_here h = λ i. record {
    place = number 0 n (omega arith) (omega arith) i;
    consumed = number 1 (n + 1) (omega arith) (omega arith) i;
    text = record { start = number 2 (n + 2) (omega arith) (omega arith) i; len = number 3 (n + 2 + 1) (omega arith) (omega arith) i };
    goal = record { start = number 4 (n + 4) (omega arith) (omega arith) i; len = number 5 (n + 4 + 1) (omega arith) (omega arith) i };
    kind = (ap kind_at (number 6 (n + 6) (omega arith) (omega arith)) ∙ kind-back x.kind) i;
  }
    where
      number : (i k : ℕ) → i < 7 → n + i ≡ k → get_or (put_link t n x) k 0 ≡ get_or (link_numbers x) i 0
      number i k g e =
          ap (λ (l : List ℕ). get_or l k 0) link-sets
          ∙ ap (λ (m : ℕ). get_or (sets t n (link_numbers x)) m 0) (sym e)
          ∙ sets-here (link_numbers x) t n i g h

-- A table of rows

-- what stands at a place, by its numbers
pair-agrees : (a : ℕ) (t t' : List ℕ) → ((k : ℕ) → a ≤ k → k < a + 4 → get_or t' k 0 ≡ get_or t k 0) → pair_at t' a ≡ pair_at t a
pair-agrees a t t' h = λ i. record {
  name = record { start = h a (omega arith) (omega arith) i; len = h (a + 1) (omega arith) (omega arith) i };
  to = record { start = h (a + 2) (omega arith) (omega arith) i; len = h (a + 2 + 1) (omega arith) (omega arith) i };
}

link-agrees : (a : ℕ) (t t' : List ℕ) → ((k : ℕ) → a ≤ k → k < a + 7 → get_or t' k 0 ≡ get_or t k 0) → link_at t' a ≡ link_at t a
link-agrees a t t' h = λ i. record {
  place = h a (omega arith) (omega arith) i;
  consumed = h (a + 1) (omega arith) (omega arith) i;
  text = record { start = h (a + 2) (omega arith) (omega arith) i; len = h (a + 2 + 1) (omega arith) (omega arith) i };
  goal = record { start = h (a + 4) (omega arith) (omega arith) i; len = h (a + 4 + 1) (omega arith) (omega arith) i };
  kind = kind_at (h (a + 6) (omega arith) (omega arith) i);
}

-- a table is as its numbers are
pub pairs-agree :
    (n a : ℕ) (t t' : List ℕ) → ((k : ℕ) → a ≤ k → k < a + 4 * n → get_or t' k 0 ≡ get_or t k 0)
    → pair_rows n a t' ≡ pair_rows n a t
unfolding pair_rows
pairs-agree zero a t t' h = refl
pairs-agree (suc n) a t t' h = λ i.
    pair-agrees a t t' (λ k g l. h k g (omega arith)) i
    ∷ pairs-agree n (a + 4) t t' (λ k g l. h k (omega arith) (omega arith)) i

-- a table has as many rows as it says
pub length_pairs : (n a : ℕ) (t : List ℕ) → length (pair_rows n a t) ≡ n
unfolding pair_rows
length_pairs zero a t = refl
length_pairs (suc n) a t = ap suc (length_pairs n (a + 4) t)

-- one row more
pub pairs-snoc : (n a : ℕ) (t : List ℕ) → pair_rows (n + 1) a t ≡ pair_rows n a t ++ pair_at t (a + 4 * n) ∷ []
unfolding pair_rows
pairs-snoc zero a t = let e : a + 0 ≡ a = omega arith in ap (λ (k : ℕ). pair_at t k ∷ []) (sym e)
pairs-snoc (suc n) a t =
    let e : suc n + 1 ≡ suc (n + 1) = omega arith in
    let f : a + 4 + 4 * n ≡ a + 4 * suc n = omega arith in
    ap (λ (k : ℕ). pair_rows k a t) e
    ∙ ap (λ (xs : List PairRow). pair_at t a ∷ xs) (pairs-snoc n (a + 4) t)
    ∙ ap (λ (k : ℕ). pair_at t a ∷ (pair_rows n (a + 4) t ++ pair_at t k ∷ [])) f

-- a row put behind the last
pub pairs-put :
    (n a : ℕ) (t : List ℕ) (x : PairRow) → a + 4 * n + 4 ≤ length t
    → pair_rows (n + 1) a (put_pair t (a + 4 * n) x) ≡ pair_rows n a t ++ x ∷ []
pairs-put n a t x h =
    pairs-snoc n a (put_pair t (a + 4 * n) x)
    ∙ (λ i.
    pairs-agree n a t (put_pair t (a + 4 * n) x) (λ k g l. pair-below t (a + 4 * n) x k l) i
    ++ pair-here t (a + 4 * n) x h i ∷ [])

-- a table is as its numbers are
pub links-agree :
    (n a : ℕ) (t t' : List ℕ) → ((k : ℕ) → a ≤ k → k < a + 7 * n → get_or t' k 0 ≡ get_or t k 0)
    → link_rows n a t' ≡ link_rows n a t
unfolding link_rows
links-agree zero a t t' h = refl
links-agree (suc n) a t t' h = λ i.
    link-agrees a t t' (λ k g l. h k g (omega arith)) i
    ∷ links-agree n (a + 7) t t' (λ k g l. h k (omega arith) (omega arith)) i

-- the i-th row of n, and those after it
pub links-next :
    (n i : ℕ) (t : List ℕ) (x : LinkRow) → x ≡ link_at t (7 * i) → i < n
    → link_rows (n - i) (7 * i) t ≡ x ∷ link_rows (n - (i + 1)) (7 * (i + 1)) t
unfolding link_rows
links-next n i t x e h =
    let f : n - i ≡ suc (n - (i + 1)) = omega arith in
    let g : 7 * i + 7 ≡ 7 * (i + 1) = omega arith in
    rw f (λ j. sym e j ∷ link_rows (n - (i + 1)) (g j) t)

-- one row more
links-snoc : (n a : ℕ) (t : List ℕ) → link_rows (n + 1) a t ≡ link_rows n a t ++ link_at t (a + 7 * n) ∷ []
unfolding link_rows
links-snoc zero a t = let e : a + 0 ≡ a = omega arith in ap (λ (k : ℕ). link_at t k ∷ []) (sym e)
links-snoc (suc n) a t =
    let e : suc n + 1 ≡ suc (n + 1) = omega arith in
    let f : a + 7 + 7 * n ≡ a + 7 * suc n = omega arith in
    ap (λ (k : ℕ). link_rows k a t) e
    ∙ ap (λ (xs : List LinkRow). link_at t a ∷ xs) (links-snoc n (a + 7) t)
    ∙ ap (λ (k : ℕ). link_at t a ∷ (link_rows n (a + 7) t ++ link_at t k ∷ [])) f

-- a row put behind the last
pub links-put :
    (n a : ℕ) (t : List ℕ) (x : LinkRow) → a + 7 * n + 7 ≤ length t
    → link_rows (n + 1) a (put_link t (a + 7 * n) x) ≡ link_rows n a t ++ x ∷ []
links-put n a t x h =
    links-snoc n a (put_link t (a + 7 * n) x)
    ∙ (λ i.
    links-agree n a t (put_link t (a + 7 * n) x) (λ k g l. link-below t (a + 7 * n) x k l) i
    ++ link_here t (a + 7 * n) x h i ∷ [])

-- a row put behind a table, or before it, leaves the table
pub pairs-pair-after : (n a m : ℕ) (t : List ℕ) (x : PairRow) → a + 4 * n ≤ m → pair_rows n a (put_pair t m x) ≡ pair_rows n a t
pairs-pair-after n a m t x h = pairs-agree n a t (put_pair t m x) (λ k g l. pair-below t m x k (omega arith))

pub pairs-pair-before : (n a m : ℕ) (t : List ℕ) (x : PairRow) → m + 4 ≤ a → pair_rows n a (put_pair t m x) ≡ pair_rows n a t
pairs-pair-before n a m t x h = pairs-agree n a t (put_pair t m x) (λ k g l. pair-above t m x k (omega arith))

pub links-pair-after : (n a m : ℕ) (t : List ℕ) (x : PairRow) → a + 7 * n ≤ m → link_rows n a (put_pair t m x) ≡ link_rows n a t
links-pair-after n a m t x h = links-agree n a t (put_pair t m x) (λ k g l. pair-below t m x k (omega arith))

pub pairs-link-before : (n a m : ℕ) (t : List ℕ) (x : LinkRow) → m + 7 ≤ a → pair_rows n a (put_link t m x) ≡ pair_rows n a t
pairs-link-before n a m t x h = pairs-agree n a t (put_link t m x) (λ k g l. link-above t m x k (omega arith))

pub links-link-before : (n a m : ℕ) (t : List ℕ) (x : LinkRow) → m + 7 ≤ a → link_rows n a (put_link t m x) ≡ link_rows n a t
links-link-before n a m t x h = links-agree n a t (put_link t m x) (λ k g l. link-above t m x k (omega arith))

-- Rows whose strings stand in the first bytes

pub pairs-within-snoc :
    (n : ℕ) (rows : List PairRow) (x : PairRow) → PairsWithin n rows → PairWithin n x → PairsWithin n (rows ++ x ∷ [])
unfolding PairsWithin
pairs-within-snoc n [] x w v = (v, tt)
pairs-within-snoc n (y ∷ rows) x w v = (w.0, pairs-within-snoc n rows x w.1 v)

pub links-within-snoc :
    (m n : ℕ) (rows : List LinkRow) (x : LinkRow) → LinksWithin m n rows → LinkWithin m n x → LinksWithin m n (rows ++ x ∷ [])
unfolding LinksWithin
links-within-snoc m n [] x w v = (v, tt)
links-within-snoc m n (y ∷ rows) x w v = (w.0, links-within-snoc m n rows x w.1 v)

-- and so in more bytes
span-within-wider : (m n : ℕ) (a : Span) → m ≤ n → SpanWithin m a → SpanWithin n a
span-within-wider m n a h w = (omega (arith, w.0), w.1)

pair-within-wider : (m n : ℕ) (x : PairRow) → m ≤ n → PairWithin m x → PairWithin n x
pair-within-wider m n x h w = (span-within-wider m n x.name h w.0, span-within-wider m n x.to h w.1)

pub pairs-within-wider : (m n : ℕ) (rows : List PairRow) → m ≤ n → PairsWithin m rows → PairsWithin n rows
unfolding PairsWithin
pairs-within-wider m n [] h w = tt
pairs-within-wider m n (x ∷ rows) h w = (pair-within-wider m n x h w.0, pairs-within-wider m n rows h w.1)

-- where the text of a row of this kind stands
abbrev TextBy : LinkKind → ℕ → ℕ → Span → Type 0
TextBy k m n a = elim k [ Direct ↦ SpanWithin n a | Reference ↦ SpanWithin n a | Rendered ↦ SpanWithin m a ]

link-within-wider : (m m' n n' : ℕ) (x : LinkRow) → m ≤ m' → n ≤ n' → LinkWithin m n x → LinkWithin m' n' x
link-within-wider m m' n n' x h g w =
    (omega (arith, w.0), (text x.kind w.1.0, span-within-wider n n' x.goal g w.1.1))
  where
    text : (k : LinkKind) → TextBy k m n x.text → TextBy k m' n' x.text
    text Direct v = span-within-wider n n' x.text g v
    text Reference v = span-within-wider n n' x.text g v
    text Rendered v = span-within-wider m m' x.text h v

pub links-within-wider :
    (m m' n n' : ℕ) (rows : List LinkRow) → m ≤ m' → n ≤ n' → LinksWithin m n rows → LinksWithin m' n' rows
unfolding LinksWithin
links-within-wider m m' n n' [] h g w = tt
links-within-wider m m' n n' (x ∷ rows) h g w =
    (link-within-wider m m' n n' x h g w.0, links-within-wider m m' n n' rows h g w.1)

-- a row of a table
pub pairs-within-at :
    (bound n a i : ℕ) (t : List ℕ) → i < n → PairsWithin bound (pair_rows n a t) → PairWithin bound (pair_at t (a + 4 * i))
unfolding PairsWithin pair_rows
pairs-within-at bound zero a i t h w = absurd (not-suc-le-zero h)
pairs-within-at bound (suc n) a zero t h w =
    let e : a + 0 ≡ a = omega arith in
    subst (λ (k : ℕ). PairWithin bound (pair_at t k)) (sym e) w.0
pairs-within-at bound (suc n) a (suc i) t h w =
    let e : a + 4 + 4 * i ≡ a + 4 * suc i = omega arith in
    subst (λ (k : ℕ). PairWithin bound (pair_at t k)) e (pairs-within-at bound n (a + 4) i t (omega arith) w.1)

-- What rows say

-- The strings in the first bytes stay while those bytes do.
pub part-kept :
    (fill : ℕ) (a : Span) (w w' : List ℕ) → a.start + a.len ≤ fill → take fill w' ≡ take fill w → part a w' ≡ part a w
part-kept fill a w w' h e =
    sym (part-front a.start a.len fill w' h)
    ∙ ap (part a) e
    ∙ part-front a.start a.len fill w h

pub pairs-kept :
    (fill : ℕ) (rows : List PairRow) (w w' : List ℕ) → PairsWithin fill rows → take fill w' ≡ take fill w
    → map (pair_of w') rows ≡ map (pair_of w) rows
unfolding PairsWithin
pairs-kept fill [] w w' v e = refl
pairs-kept fill (x ∷ rows) w w' v e = λ i.
    record { name = part-kept fill x.name w w' v.0.0.0 e i; to = part-kept fill x.to w w' v.0.1.0 e i }
    ∷ pairs-kept fill rows w w' v.1 e i

item-kept :
    (m fill : ℕ) (x : LinkRow) (s w w' : List ℕ) → LinkWithin m fill x → take fill w' ≡ take fill w
    → item_of s w' x ≡ item_of s w x
item-kept m fill x s w w' v e = go x.kind v.1.0
  where
    goal : part x.goal w' ≡ part x.goal w
    goal = part-kept fill x.goal w w' v.1.1.0 e

    go : (k : LinkKind) → TextBy k m fill x.text → item_of s w' (record x { kind = k }) ≡ item_of s w (record x { kind = k })
    go Direct u = λ i. record {
      place = x.place;
      consumed = x.consumed;
      text = part-kept fill x.text w w' u.0 e i;
      goal = destination (goal i);
    }
    go Reference u = λ i. record {
      place = x.place;
      consumed = x.consumed;
      text = part-kept fill x.text w w' u.0 e i;
      goal = label (goal i);
    }
    go Rendered u = λ i. record {
      place = x.place;
      consumed = x.consumed;
      text = part x.text s;
      goal = destination (goal i);
    }

pub items_kept :
    (m fill : ℕ) (rows : List LinkRow) (s w w' : List ℕ) → LinksWithin m fill rows → take fill w' ≡ take fill w
    → map (item_of s w') rows ≡ map (item_of s w) rows
unfolding LinksWithin
items_kept m fill [] s w w' v e = refl
items_kept m fill (x ∷ rows) s w w' v e = λ i. item-kept m fill x s w w' v.0 e i ∷ items_kept m fill rows s w w' v.1 e i

-- Rows of strings in no more than 65,536 bytes can be put.
pub pair_small : (n : ℕ) (x : PairRow) → PairWithin n x → n ≤ 65536 → PairSmall x
pair_small n x w h = (omega (arith, w.0.0), omega (arith, w.1.0))
