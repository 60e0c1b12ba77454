-- The laws of the index: names that are the same are in the same bucket, so that a row of another bucket has another name; one row more is
-- put into it; it stays while the numbers that it stands in do, and the names. Looked up through it, a name has what it has.
-- Assumes nothing.
use Rattle.std.proofs.lemmas.Bool.{cases_eq}
use Prim.Native.Nat.{ℕ, zero, suc, ◌+◌, ◌-◌, ◌*◌, ◌%◌, ◌<◌, ◌≤◌}
use native.Mathlib.Omega.{arith}
use Rattle.std.proofs.Common.{Option, Some, None, SomeIff}
use Rattle.restructured_text.proofs.PartLaws.{part_length, put-length}
use mathlib.Core.Path.{◌≡◌, refl, sym, ap, subst, ◌∙◌}
use mathlib.Core.List.{List, [], ◌∷◌, ◌++◌}
use mathlib.Core.Logic.{◌⊎◌, inl, inr}
use lib.ListN.{length, get_or, take, set, length-set, replicate}
use borrow.Rule.Slice.PartMut.{mid_of, post_of, put_mid}
use lib.Seq.{length-take-le, get_or-set_same, get_or-set_other}
use Rattle.restructured_text.specs.Strings.{part}
use Rattle.std.proofs.lemmas.List.{get_or_append_left, get_or-append_right, get_or-take, get_or-replicate, length-replicate}
use Rattle.iterator.specs.declared.rows.PairRow.{PairRow}
use Rattle.iterator.specs.declared.rows.LinkRow.{LinkRow}
use Rattle.iterator.specs.Resolve.{none, lookup}
use Rattle.iterator.specs.Rows.{pair_at, pair_rows, pairs_of, destinations_at, aliases_at, room, put_link}
use Rattle.iterator.specs.Index.{
  bucket_from,
  bucket_of,
  row_bucket,
  lasts_at,
  Latest,
  IndexedBy,
  Indexed,
  with_row,
  TablesKept,
}
use Rattle.iterator.specs.Inner.{NamesHeld, Indexable}
use Rattle.iterator.proofs.RowsLaws.{link-above, pairs-agree, pairs-within-at}
use Rattle.iterator.proofs.LookupLaws.{row_other}

-- there are 256 buckets
bucket-small : (x : List ℕ) (h : ℕ) → h < 256 → bucket_from h x < 256
unfolding bucket_from
bucket-small [] h g = g
bucket-small (b ∷ x) h g = bucket-small x ((h * 9 + b) % 256) (omega arith)

-- The last row of a bucket

-- it is the same where the rows are of the same buckets
latest-agrees :
    (f f' : ℕ → ℕ) (b m p : ℕ) → ((j : ℕ) → j < m → f' j ≡ f j) → Latest f b m p → Latest f' b m p
latest-agrees f f' b m p a v =
    record {
      before = v.before;
      others = λ j h g e. v.others j h g (sym (a j g) ∙ e);
      its = λ j e. a j (omega (arith, v.before, e)) ∙ v.its j e;
    }

-- a row of another bucket more
latest-other : (f : ℕ → ℕ) (b m p : ℕ) → (f m ≡ b → ⊥) → Latest f b m p → Latest f b (m + 1) p
latest-other f b m p ne v =
    record { before = omega (arith, v.before); others = λ j h g e. go j h g e (cases_eq j m); its = v.its }
  where
    go : (j : ℕ) → p ≤ j → j < m + 1 → f j ≡ b → (j ≡ m) ⊎ (j ≡ m → ⊥) → ⊥
    go j h g e (inl q) = ne (ap f (sym q) ∙ e)
    go j h g e (inr q) = v.others j h (omega arith) e

-- a row of the bucket more
latest-own : (f : ℕ → ℕ) (b m : ℕ) → f m ≡ b → Latest f b (m + 1) (m + 1)
latest-own f b m e =
    record {
      before = omega arith;
      others = λ j h g q. omega arith;
      its = λ j q. let z : j ≡ m = omega arith in ap f z ∙ e;
    }

-- The index

-- the tables are as they were, and the first i buckets have no row
record Unindexed (i : ℕ) (t t' : List ℕ) : Type 0 where
  pub kept : TablesKept t t'
  pub empty : (b : ℕ) → b < i → get_or t' (lasts_at + b) 0 ≡ 0

-- no row is in it
index-none : (f : ℕ → ℕ) (k : ℕ) (t t' : List ℕ) → k ≡ 256 → Unindexed k t t' → IndexedBy f 0 t'
index-none f k t t' g u =
    record {
      lasts = λ b h. subst (Latest f b 0) (sym (u.empty b (omega arith))) (record { before = omega arith; others = λ j g l e. omega arith; its = λ j e. omega arith });
      earlier = λ i h. omega arith;
    }

-- row i more, which is of bucket b
module _ (f : ℕ → ℕ) (i b : ℕ) (t : List ℕ) (is : b ≡ f i) (few : i < 256) (long : 4096 ≤ length t) (v : IndexedBy f i t) where
  row_last : b < 256 → get_or (with_row i b t) (lasts_at + b) 0 ≡ i + 1
  row_last h =
      get_or-set_same (set t (aliases_at + i) (get_or t (lasts_at + b) 0)) (lasts_at + b) (i + 1) 0
      (omega (arith, length-set t (aliases_at + i) (get_or t (lasts_at + b) 0)))

  row-other-last : (c : ℕ) → (c ≡ b → ⊥) → get_or (with_row i b t) (lasts_at + c) 0 ≡ get_or t (lasts_at + c) 0
  row-other-last c ne =
      get_or-set_other (set t (aliases_at + i) (get_or t (lasts_at + b) 0)) (lasts_at + b) (lasts_at + c) (i + 1) 0 (λ e. ne (omega arith))
      ∙ get_or-set_other t (aliases_at + i) (lasts_at + c) (get_or t (lasts_at + b) 0) 0 (λ e. omega arith)

  row-earlier : get_or (with_row i b t) (aliases_at + i) 0 ≡ get_or t (lasts_at + b) 0
  row-earlier =
      get_or-set_other (set t (aliases_at + i) (get_or t (lasts_at + b) 0)) (lasts_at + b) (aliases_at + i) (i + 1) 0 (λ e. omega arith)
      ∙ get_or-set_same t (aliases_at + i) (get_or t (lasts_at + b) 0) 0 (omega arith)

  row-other-earlier : (j : ℕ) → j < i → get_or (with_row i b t) (aliases_at + j) 0 ≡ get_or t (aliases_at + j) 0
  row-other-earlier j h =
      get_or-set_other (set t (aliases_at + i) (get_or t (lasts_at + b) 0)) (lasts_at + b) (aliases_at + j) (i + 1) 0 (λ e. omega arith)
      ∙ get_or-set_other t (aliases_at + i) (aliases_at + j) (get_or t (lasts_at + b) 0) 0 (λ e. omega arith)

  row_kept : TablesKept t (with_row i b t)
  row_kept k h =
      get_or-set_other (set t (aliases_at + i) (get_or t (lasts_at + b) 0)) (lasts_at + b) k (i + 1) 0 (λ e. omega arith)
      ∙ get_or-set_other t (aliases_at + i) k (get_or t (lasts_at + b) 0) 0 (λ e. omega arith)

  index-more : b < 256 → IndexedBy f (i + 1) (with_row i b t)
  index-more small = record { lasts = λ c h. last c h (cases_eq c b); earlier = λ j h. before j h (cases_eq j i) }
    where
      last : (c : ℕ) → c < 256 → (c ≡ b) ⊎ (c ≡ b → ⊥) → Latest f c (i + 1) (get_or (with_row i b t) (lasts_at + c) 0)
      last c h (inl e) = rw (e, row_last small) (latest-own f b i (sym is))
      last c h (inr ne) =
          subst (Latest f c (i + 1)) (sym (row-other-last c ne)) (latest-other f c i _ (λ e. ne (sym e ∙ sym is)) (v.lasts c h))

      before : (j : ℕ) → j < i + 1 → (j ≡ i) ⊎ (j ≡ i → ⊥) → Latest f (f j) j (get_or (with_row i b t) (aliases_at + j) 0)
      before j h (inl e) = rw (e, row-earlier, sym is) (v.lasts b small)
      before j h (inr ne) = subst (Latest f (f j) j) (sym (row-other-earlier j (omega arith))) (v.earlier j (omega arith))

-- it stays while the numbers that it stands in do, and the buckets of its rows
index_agrees :
    (f f' : ℕ → ℕ) (n : ℕ) (t t' : List ℕ) → ((j : ℕ) → j < n → f' j ≡ f j)
    → ((k : ℕ) → aliases_at ≤ k → get_or t' k 0 ≡ get_or t k 0) → IndexedBy f n t → IndexedBy f' n t'
index_agrees f f' n t t' g a v =
    record {
      lasts = λ b h. subst (Latest f' b n) (sym (a (lasts_at + b) (omega arith))) (latest-agrees f f' b n _ g (v.lasts b h));
      earlier = λ i h.
          subst
          (Latest f' (f' i) i)
          (sym (a (aliases_at + i) (omega arith)))
          (latest-agrees f f' (f' i) i _ (λ j l. g j (omega arith)) (subst (λ (b : ℕ). Latest f b i (get_or t (aliases_at + i) 0)) (sym (g i h)) (v.earlier i h)));
    }

-- the bucket of a row, by its numbers
bucket-agrees :
    (t t' w : List ℕ) (j : ℕ)
    → ((k : ℕ) → destinations_at + 4 * j ≤ k → k < destinations_at + 4 * j + 2 → get_or t' k 0 ≡ get_or t k 0)
    → row_bucket t' w j ≡ row_bucket t w j
bucket-agrees t t' w j a = λ i.
    bucket_of (part (record {
      start = a (destinations_at + 4 * j) (omega arith) (omega arith) i;
      len = a (destinations_at + 4 * j + 1) (omega arith) (omega arith) i;
    }) w)

-- a link that is put into its table leaves it
pub index-put :
    (n m : ℕ) (t w : List ℕ) (x : LinkRow) → m + 7 ≤ destinations_at → Indexed n t w → Indexed n (put_link t m x) w
index-put n m t w x h v =
    index_agrees
    (row_bucket t w)
    (row_bucket (put_link t m x) w)
    n
    t
    (put_link t m x)
    (λ j g. bucket-agrees t (put_link t m x) w j (λ k l u. link-above t m x k (omega arith)))
    (λ k g. link-above t m x k (omega arith))
    v

-- n buckets are emptied: zeros are put in their place
module _ (t zeros : List ℕ) (n : ℕ) (e : zeros ≡ replicate n 0) (h : lasts_at + n ≤ length t) where
  front : length (take lasts_at t) ≡ lasts_at
  front = length-take-le lasts_at t (omega arith)

  zeros_long : length zeros ≡ n
  zeros_long = ap length e ∙ length-replicate n 0

  emptied : Unindexed n t (put_mid lasts_at n t zeros)
  emptied =
      record {
        kept = λ k g. get_or_append_left (take lasts_at t) _ 0 k (omega (arith, front)) ∙ get_or-take lasts_at t k 0 (omega arith);
        empty = λ b g.
            let f : lasts_at + b - lasts_at ≡ b = omega arith in
            get_or-append_right (take lasts_at t) (zeros ++ post_of lasts_at n t) lasts_at (lasts_at + b) 0 front (omega arith)
            ∙ ap (λ (k : ℕ). get_or (zeros ++ post_of lasts_at n t) k 0) f
            ∙ get_or_append_left zeros (post_of lasts_at n t) 0 b (omega (arith, zeros_long))
            ∙ ap (λ (x : List ℕ). get_or x b 0) e
            ∙ get_or-replicate n b 0 0 g;
      }

-- the names stand in the areas while their table is kept
pub names-kept : (n : ℕ) (t t' w : List ℕ) → NamesHeld n t w → length t' ≡ length t → TablesKept t t' → NamesHeld n t' w
names-kept n t t' w h l kept =
    let e : pair_rows n destinations_at t' ≡ pair_rows n destinations_at t =
    pairs-agree n destinations_at t t' (λ k g u. kept k (omega (arith, h.few))) in
    record { roomy = (omega (arith, h.roomy.0), h.roomy.1); few = h.few; within = rw e h.within }

-- Of the n names in the rows t₀ the first i are put into the index.
pub record Indexing (n : ℕ) (t₀ t w : List ℕ) (i : ℕ) : Type 0 where
  pub long : length t ≡ length t₀
  pub inside : i ≤ n
  pub held : NamesHeld n t₀ w
  pub kept : TablesKept t₀ t
  pub rows : IndexedBy (row_bucket t₀ w) i t

-- none is yet, once zeros are put in the place of the k buckets
pub indexing-start :
    (n k : ℕ) (t zeros w : List ℕ) → NamesHeld n t w → k ≡ 256 → zeros ≡ replicate (length (mid_of lasts_at k t)) 0
    → Indexing n t (put_mid lasts_at k t zeros) w 0
indexing-start n k t zeros w h g e =
    let z : zeros ≡ replicate k 0 = e ∙ ap (λ (m : ℕ). replicate m 0) (part_length lasts_at k t (omega (arith, h.roomy.0))) in
    let u = emptied t zeros k z (omega (arith, h.roomy.0)) in
    record {
      long = put-length lasts_at k t zeros (omega (arith, h.roomy.0)) (zeros_long t zeros k z (omega (arith, h.roomy.0)));
      inside = omega arith;
      held = h;
      kept = u.kept;
      rows = index-none (row_bucket t w) k t (put_mid lasts_at k t zeros) g u;
    }

module _ (n : ℕ) (t₀ t w : List ℕ) (i : ℕ) (v : Indexing n t₀ t w i) where
  same-bucket : (j : ℕ) → j < n → row_bucket t w j ≡ row_bucket t₀ w j
  same-bucket j h = bucket-agrees t₀ t w j (λ k g l. v.kept k (omega (arith, v.held.few)))

  -- the next row can be put into the index
  pub can-index : i < n → Indexable i t w
  can-index g =
      let h = names-kept n t₀ t w v.held v.long v.kept in
      record { roomy = h.roomy; few = omega (arith, h.few); within = (pairs-within-at room n destinations_at i t g h.within).0 }

  pub indexing-more :
      (t' : List ℕ) → length t' ≡ length t → i < n → t' ≡ with_row i (row_bucket t w i) t → Indexing n t₀ t' w (i + 1)
  indexing-more t' l g e =
      let f = row_bucket t₀ w in
      let b = row_bucket t w i in
      let is : b ≡ f i = same-bucket i g in
      let few : i < 256 = omega (arith, v.held.few) in
      let long : 4096 ≤ length t = omega (arith, v.held.roomy.0, v.long) in
      record {
        long = l ∙ v.long;
        inside = omega arith;
        held = v.held;
        kept = λ k u. ap (λ (x : List ℕ). get_or x k 0) e ∙ row_kept f i b t is few long v.rows k u ∙ v.kept k u;
        rows = subst (IndexedBy f (i + 1)) (sym e) (index-more f i b t is few long v.rows (bucket-small _ 0 (omega arith)));
      }

-- Looking up through the index

-- rows of other buckets are passed
module _ (t w name : List ℕ) where
  passes :
      (d p : ℕ) → ((j : ℕ) → p ≤ j → j < p + d → row_bucket t w j ≡ bucket_of name → ⊥)
      → lookup name (pairs_of (p + d) destinations_at t w) ≡ lookup name (pairs_of p destinations_at t w)
  passes zero p o = let e : p + 0 ≡ p = omega arith in rw e
  passes (suc d) p o =
      row_other t w (p + suc d) (p + d) (pair_at t (destinations_at + 4 * (p + d))) refl (omega arith) name
      (λ e. o (p + d) (omega arith) (omega arith) (ap bucket_of e))
      ∙ passes d p (λ j h g. o j h (omega arith))

  passed :
      (m p : ℕ) → Latest (row_bucket t w) (bucket_of name) m p
      → lookup name (pairs_of m destinations_at t w) ≡ lookup name (pairs_of p destinations_at t w)
  passed m p v =
      let e : m ≡ p + (m - p) = omega (arith, v.before) in
      ap (λ (k : ℕ). lookup name (pairs_of k destinations_at t w)) e
      ∙ passes (m - p) p (λ j h g. v.others j h (omega (arith, v.before)))

-- A row as the index counts it, from 1, and 0 where there is none
abbrev pub counted : Option ℕ → ℕ
counted None = 0
counted (Some i) = i + 1

-- as it is read
counted-read : (k : ℕ) (r : Option ℕ) → SomeIff r (1 ≤ k) (k - 1) → k ≡ counted r
counted-read k None h = omega arith
counted-read k (Some i) h = omega arith

-- The name has in all n rows what it has in the first i, the last of which is of its bucket.
pub record Seeking (name : List ℕ) (n : ℕ) (t w : List ℕ) (i : ℕ) : Type 0 where
  pub inside : i ≤ n
  pub its : (j : ℕ) → i ≡ j + 1 → row_bucket t w j ≡ bucket_of name
  pub rest : lookup name (pairs_of n destinations_at t w) ≡ lookup name (pairs_of i destinations_at t w)

module _ (name : List ℕ) (n : ℕ) (t w : List ℕ) (x : Indexed n t w) where
  pub seeking-start :
      (b : ℕ) → b ≡ bucket_of name → b < 256 → (r : Option ℕ)
      → SomeIff r (1 ≤ get_or t (lasts_at + b) 0) (get_or t (lasts_at + b) 0 - 1)
      → Seeking name n t w (counted r)
  seeking-start b e h r f =
      let v : Latest (row_bucket t w) (bucket_of name) n (get_or t (lasts_at + b) 0) =
      subst (λ (c : ℕ). Latest (row_bucket t w) c n (get_or t (lasts_at + b) 0)) e (x.lasts b h) in
      subst (Seeking name n t w) (counted-read _ r f) (record { inside = v.before; its = v.its; rest = passed t w name n _ v })

  -- row j is the last of the first i
  module _ (i j : ℕ) (h : i ≡ j + 1) (v : Seeking name n t w i) where
    -- the last row of its bucket before it
    earlier-latest : Latest (row_bucket t w) (bucket_of name) j (get_or t (aliases_at + j) 0)
    earlier-latest =
        subst
        (λ (c : ℕ). Latest (row_bucket t w) c j (get_or t (aliases_at + j) 0))
        (v.its j h)
        (x.earlier j (omega (arith, v.inside)))

    pub seeking-more :
        (r : PairRow) → r ≡ pair_at t (destinations_at + 4 * j) → (part r.name w ≡ name → ⊥) → (r' : Option ℕ)
        → SomeIff r' (1 ≤ get_or t (aliases_at + j) 0) (get_or t (aliases_at + j) 0 - 1)
        → Seeking name n t w (counted r')
    seeking-more r e f r' g =
        subst (Seeking name n t w) (counted-read _ r' g) (record {
          inside = omega (arith, v.inside, earlier-latest.before);
          its = earlier-latest.its;
          rest = v.rest ∙ row_other t w i j r e h name f ∙ passed t w name j _ earlier-latest;
        })

pub seeking-end :
    (name : List ℕ) (n : ℕ) (t w : List ℕ) (i : ℕ) → Seeking name n t w i → i ≡ 0
    → none ≡ lookup name (pairs_of n destinations_at t w)
unfolding lookup pair_rows
seeking-end name n t w i v e = sym (rw e at v.rest)
