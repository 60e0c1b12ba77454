-- The laws of references: what one link more says, that it is kept or dropped, and what the rows are then.
-- Assumes nothing.
use Rattle.std.proofs.lemmas.List.{map_push}
use Rattle.std.proofs.Common.{ℕ, ◌+◌, ◌-◌, ◌*◌, ◌<◌, ◌≤◌, ◌≡◌, refl, sym, ap, ◌∙◌, arith, List, [], ◌∷◌, ◌++◌, map, append-nil, length}
use mathlib.Core.Path.{ap₂}
use lib.Seq.{append_snoc}
use Rattle.restructured_text.specs.declared.Span.{Span}
use Rattle.restructured_text.specs.Strings.{part}
use Rattle.iterator.specs.declared.rows.LinkRow.{LinkRow}
use Rattle.iterator.specs.declared.rows.LinkKind.{LinkKind}
use Rattle.iterator.specs.declared.rows.LinkKind.TheVariants.{Direct, Reference, Rendered}
use Rattle.iterator.specs.declared.resolve.Resolved.{Resolved}
use Rattle.iterator.specs.Collect.{Pair, Item}
use Rattle.iterator.specs.Resolve.{Hyperlink, Destination, has, none, resolved_by, resolve_references}
use Rattle.iterator.specs.Rows.{
  link_at,
  link_rows,
  pair_rows,
  item_of,
  pair_of,
  hyperlink_of,
  hyperlinks_in,
  pairs_of,
  items_of,
  destinations_at,
  room,
  SpanWithin,
  PairsWithin,
  LinkWithin,
  LinksWithin,
  put_link,
}
use Rattle.iterator.specs.Index.{Indexed, TablesKept}
use Rattle.iterator.specs.Inner.{Roomy, goal_of, Keeping, kept, size_of, ReferencesHeld, ReferencesResolved}
use Rattle.iterator.proofs.RowsLaws.{
  links-agree,
  links-next,
  pairs-agree,
  links-put,
  links-link-before,
  pairs-link-before,
  links-within-snoc,
  length-put-link,
}
use Rattle.iterator.proofs.IndexLaws.{index-put, names-kept}
use Rattle.iterator.proofs.RecordLaws.{size_few}
use Rattle.iterator.proofs.ReachLaws.{has_one, not_none}

-- What row x says, before the links that follow it: a link with a destination, or nothing
module _ (stored : List Pair) (s w : List ℕ) (x : LinkRow) (rest : List Item) where
  next-found :
      (goal : Span) → has (part goal w) ≡ goal_of stored w x
      → resolve_references stored (item_of s w x ∷ rest)
      ≡ hyperlink_of s w (record x { goal = goal }) ∷ resolve_references stored rest
  unfolding resolve_references
  next-found goal e = go x.kind e
    where
      link : List ℕ → List ℕ → List Hyperlink
      link text d = record { place = x.place; consumed = x.consumed; text = text; dest = d } ∷ resolve_references stored rest

      go :
          (k : LinkKind) → has (part goal w) ≡ goal_of stored w (record x { kind = k })
          → resolve_references stored (item_of s w (record x { kind = k }) ∷ rest)
          ≡ hyperlink_of s w (record x { kind = k; goal = goal }) ∷ resolve_references stored rest
      go Direct f = ap (link (part x.text w)) (sym (has_one f))
      go Reference f =
          ap (λ (d : Destination). resolved_by (item_of s w (record x { kind = Reference })) d (resolve_references stored rest)) (sym f)
      go Rendered f = ap (link (part x.text s)) (sym (has_one f))

  next-none :
      none ≡ goal_of stored w x → resolve_references stored (item_of s w x ∷ rest) ≡ resolve_references stored rest
  unfolding resolve_references
  next-none e = go x.kind e
    where
      go :
          (k : LinkKind) → none ≡ goal_of stored w (record x { kind = k })
          → resolve_references stored (item_of s w (record x { kind = k }) ∷ rest) ≡ resolve_references stored rest
      go Direct f = not_none (sym f)
      go Reference f =
          ap (λ (d : Destination). resolved_by (item_of s w (record x { kind = Reference })) d (resolve_references stored rest)) (sym f)
      go Rendered f = not_none (sym f)

-- one more link's size
size-snoc : (links : List Hyperlink) (x : Hyperlink) → size_of (links ++ x ∷ []) ≡ size_of links + (8 + length x.text + length x.dest)
unfolding size_of
size-snoc [] x = omega arith
size-snoc (y ∷ links) x = omega (arith, size-snoc links x)

-- of n links the first i are resolved, and those with a destination are the first rows
pub record Resolving (n i destinations : ℕ) (s t w : List ℕ) (r : Resolved) : Type 0 where
  pub roomy : Roomy t w
  pub short : length s ≤ 16384
  pub before : r.links ≤ i
  pub inside : i ≤ n
  pub few : n ≤ 256
  pub destinations-few : destinations ≤ 256
  pub size : r.size ≡ size_of (hyperlinks_in r.links s t w)
  pub resolved-within : LinksWithin (length s) room (link_rows r.links 0 t)
  pub ahead_within : LinksWithin (length s) room (link_rows (n - i) (7 * i) t)
  pub destinations-within : PairsWithin room (pair_rows destinations destinations_at t)
  pub indexed : Indexed destinations t w

-- all links, where those from the i-th row on are still to be resolved
abbrev pub resolving_of : ℕ → ℕ → ℕ → List ℕ → List ℕ → List ℕ → Resolved → List Hyperlink
resolving_of n i destinations s t w r =
    hyperlinks_in r.links s t w
    ++ resolve_references (pairs_of destinations destinations_at t w) (items_of (n - i) (7 * i) s t w)

-- Of n links the first i are resolved.
module _ (n i destinations : ℕ) (s t w : List ℕ) (r : Resolved) (v : Resolving n i destinations s t w r) where
  size_small : r.size ≤ 32776 * r.links
  size_small = omega (arith, v.size, size_few r.links 0 s t w v.short v.roomy.1 v.resolved-within)

  -- The next row is x.
  module _ (x : LinkRow) (ex : x ≡ link_at t (7 * i)) (more : i < n) where
    rows-within : LinkWithin (length s) room x × LinksWithin (length s) room (link_rows (n - (i + 1)) (7 * (i + 1)) t)
    unfolding LinksWithin
    rows-within = rw (links-next n i t x ex more) at v.ahead_within

    row_within : LinkWithin (length s) room x
    row_within = rows-within.0

    -- its goal can be looked up
    pub can-look : SpanWithin room x.goal
    can-look = row_within.1.1

    items : items_of (n - i) (7 * i) s t w ≡ item_of s w x ∷ items_of (n - (i + 1)) (7 * (i + 1)) s t w
    items = ap (map (item_of s w)) (links-next n i t x ex more)

    -- it is dropped
    dropped-held : Resolving n (i + 1) destinations s t w r
    dropped-held =
        record {
          roomy = v.roomy;
          short = v.short;
          before = omega (arith, v.before);
          inside = omega arith;
          few = v.few;
          destinations-few = v.destinations-few;
          size = v.size;
          resolved-within = v.resolved-within;
          ahead_within = rows-within.1;
          destinations-within = v.destinations-within;
          indexed = v.indexed;
        }

    dropped-links :
        none ≡ goal_of (pairs_of destinations destinations_at t w) w x
        → resolving_of n (i + 1) destinations s t w r ≡ resolving_of n i destinations s t w r
    dropped-links e =
        ap
        (λ (links : List Hyperlink). hyperlinks_in r.links s t w ++ links)
        (sym (ap (resolve_references (pairs_of destinations destinations_at t w)) items ∙ next-none _ s w x _ e))

    -- Row y is put behind those that are resolved.
    module _ (y : LinkRow) (within : LinkWithin (length s) room y) where
      kept-rows : link_rows (r.links + 1) 0 (put_link t (7 * r.links) y) ≡ link_rows r.links 0 t ++ y ∷ []
      kept-rows =
          let e : 0 + 7 * r.links ≡ 7 * r.links = omega arith in
          rw e at (links-put r.links 0 t y (omega (arith, v.before, v.few, v.roomy)))

      kept-ahead : link_rows (n - (i + 1)) (7 * (i + 1)) (put_link t (7 * r.links) y) ≡ link_rows (n - (i + 1)) (7 * (i + 1)) t
      kept-ahead = links-link-before (n - (i + 1)) (7 * (i + 1)) (7 * r.links) t y (omega (arith, v.before))

      kept-destinations : pair_rows destinations destinations_at (put_link t (7 * r.links) y) ≡ pair_rows destinations destinations_at t
      kept-destinations = pairs-link-before destinations destinations_at (7 * r.links) t y (omega (arith, v.before, v.few))

      kept_in : hyperlinks_in (r.links + 1) s (put_link t (7 * r.links) y) w ≡ hyperlinks_in r.links s t w ++ hyperlink_of s w y ∷ []
      kept_in = ap (map (hyperlink_of s w)) kept-rows ∙ map_push (hyperlink_of s w) (link_rows r.links 0 t) y

      kept-links :
          resolve_references (pairs_of destinations destinations_at t w) (items_of (n - i) (7 * i) s t w)
          ≡ hyperlink_of s w y ∷ resolve_references (pairs_of destinations destinations_at t w) (items_of (n - (i + 1)) (7 * (i + 1)) s t w)
          → resolving_of n (i + 1) destinations s (put_link t (7 * r.links) y) w (kept y r s w) ≡ resolving_of n i destinations s t w r
      kept-links z =
          let rest = resolve_references (pairs_of destinations destinations_at t w) (items_of (n - (i + 1)) (7 * (i + 1)) s t w) in
          let q : resolve_references (pairs_of destinations destinations_at (put_link t (7 * r.links) y) w) (items_of (n - (i + 1)) (7 * (i + 1)) s (put_link t (7 * r.links) y) w) ≡ rest =
          λ j. resolve_references (map (pair_of w) (kept-destinations j)) (map (item_of s w) (kept-ahead j)) in
          ap₂ (λ (a b : List Hyperlink). a ++ b) kept_in q
          ∙ append_snoc (hyperlinks_in r.links s t w) (hyperlink_of s w y) rest
          ∙ ap (λ (links : List Hyperlink). hyperlinks_in r.links s t w ++ links) (sym z)

      kept-held : Resolving n (i + 1) destinations s (put_link t (7 * r.links) y) w (kept y r s w)
      kept-held =
          record {
            roomy = (omega (arith, v.roomy.0, length-put-link t (7 * r.links) y), v.roomy.1);
            short = v.short;
            before = omega (arith, v.before);
            inside = omega arith;
            few = v.few;
            destinations-few = v.destinations-few;
            size = omega (arith, v.size, ap size_of kept_in, size-snoc (hyperlinks_in r.links s t w) (hyperlink_of s w y));
            resolved-within = rw kept-rows (links-within-snoc (length s) room (link_rows r.links 0 t) y v.resolved-within within);
            ahead_within = rw kept-ahead rows-within.1;
            destinations-within = rw kept-destinations v.destinations-within;
            indexed = index-put destinations (7 * r.links) t w y (omega (arith, v.before, v.few)) v.indexed;
          }

    -- It is kept, and goes to a goal.
    pub can-keep : (goal : Span) → SpanWithin room goal → Keeping (record x { goal = goal }) r s t
    can-keep goal h =
        record {
          long = v.roomy.0;
          within = (row_within.0, (row_within.1.0, h));
          few = omega (arith, v.before, v.few);
          size = size_small;
        }

-- All links are resolved, one after the other: what they are of the rows t₀ that are lent.
pub record References (n destinations : ℕ) (s t₀ t w : List ℕ) (i : ℕ) (r : Resolved) : Type 0 where
  pub long : length t ≡ length t₀
  pub held : Resolving n i destinations s t w r
  pub links : resolving_of n i destinations s t w r ≡ resolve_references (pairs_of destinations destinations_at t₀ w) (items_of n 0 s t₀ w)

-- the next link is dropped, or kept
module _ (n destinations : ℕ) (s t₀ t w : List ℕ) (i : ℕ) (r : Resolved) (v : References n destinations s t₀ t w i r) (x : LinkRow) (ex : x ≡ link_at t (7 * i)) (more : i < n) where
  pub references-dropped :
      none ≡ goal_of (pairs_of destinations destinations_at t w) w x → (k : Resolved) (t' : List ℕ) → k ≡ r → t' ≡ t
      → References n destinations s t₀ t' w (i + 1) k
  references-dropped e k t' ek et =
      rw (ek, et) (record {
        long = v.long;
        held = dropped-held n i destinations s t w r v.held x ex more;
        links = dropped-links n i destinations s t w r v.held x ex more e ∙ v.links;
      })

  pub references-more :
      (goal : Span) → SpanWithin room goal → has (part goal w) ≡ goal_of (pairs_of destinations destinations_at t w) w x
      → (k : Resolved) (t' : List ℕ) → k ≡ kept (record x { goal = goal }) r s w
      → t' ≡ put_link t (7 * r.links) (record x { goal = goal })
      → References n destinations s t₀ t' w (i + 1) k
  references-more goal h e k t' ek et =
      let y : LinkRow = record x { goal = goal } in
      let within : LinkWithin (length s) room y = (can-keep n i destinations s t w r v.held x ex more goal h).within in
      let z = ap (resolve_references (pairs_of destinations destinations_at t w)) (items n i destinations s t w r v.held x ex more)
      ∙ next-found _ s w x _ goal e in
      rw (ek, et) (record {
        long = length-put-link t (7 * r.links) y ∙ v.long;
        held = kept-held n i destinations s t w r v.held x ex more y within;
        links = kept-links n i destinations s t w r v.held x ex more y within z ∙ v.links;
      })

-- they start once the names are in the index, while the tables are kept
pub references-start :
    (n destinations : ℕ) (s t t' w : List ℕ) → length s ≤ 16384 → ReferencesHeld n destinations s t w → length t' ≡ length t
    → TablesKept t t' → Indexed destinations t' w → (r : Resolved) → (r.links ≡ 0) × (r.size ≡ 0)
    → References n destinations s t t' w 0 r
unfolding link_rows LinksWithin size_of
references-start n destinations s t t' w short h l kept x r z =
    let e : n - 0 ≡ n = omega arith in
    let links : link_rows n 0 t' ≡ link_rows n 0 t = links-agree n 0 t t' (λ k g u. kept k (omega (arith, h.few))) in
    let rows : pair_rows destinations destinations_at t' ≡ pair_rows destinations destinations_at t =
    pairs-agree destinations destinations_at t t' (λ k g u. kept k (omega (arith, h.names.few))) in
    let names = names-kept destinations t t' w h.names l kept in
    let none_yet : r ≡ record { links = 0; size = 0 } = λ j. record { links = z.0 j; size = z.1 j } in
    rw none_yet (record {
      long = l;
      held =
          record {
            roomy = names.roomy;
            short = short;
            before = omega arith;
            inside = omega arith;
            few = h.few;
            destinations-few = h.names.few;
            size = refl;
            resolved-within = tt;
            ahead_within = rw (e, links) h.links-within;
            destinations-within = names.within;
            indexed = x;
          };
      links =
          ap (λ (k : ℕ). resolve_references (pairs_of destinations destinations_at t' w) (items_of k 0 s t' w)) e
          ∙ (λ j. resolve_references (map (pair_of w) (rows j)) (map (item_of s w) (links j)));
    })

pub references-done :
    (n destinations : ℕ) (s t₀ t w : List ℕ) (i : ℕ) (r : Resolved) → References n destinations s t₀ t w i r → n ≤ i
    → record {
      links : hyperlinks_in r.links s t w ≡ resolve_references (pairs_of destinations destinations_at t₀ w) (items_of n 0 s t₀ w);
      held : ReferencesResolved s t w r;
    }
unfolding link_rows resolve_references
references-done n destinations s t₀ t w i r v h =
    let e : n - i ≡ 0 = omega arith in
    let z : resolve_references (pairs_of destinations destinations_at t w) (items_of (n - i) (7 * i) s t w) ≡ [] = ap (λ (k : ℕ). resolve_references (pairs_of destinations destinations_at t w) (items_of k (7 * i) s t w)) e in
    record {
      links = sym (append-nil (hyperlinks_in r.links s t w)) ∙ ap (λ (l : List Hyperlink). hyperlinks_in r.links s t w ++ l) (sym z) ∙ v.links;
      held =
          record {
            few = omega (arith, v.held.before, v.held.inside, v.held.few);
            size = v.held.size;
            within = v.held.resolved-within;
          };
    }
