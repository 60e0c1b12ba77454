-- The laws of the document call: what is known of the work areas once a document is collected and once its links are resolved, so that
-- each call may follow the one before; and what is handed out.
-- Assumes nothing.
use Prim.Native.Nat.{ℕ, ◌<◌, ◌≤◌}
use mathlib.Core.Path.{◌≡◌, sym, ap, ap₂, subst⁻¹, ◌∙◌}
use mathlib.Core.List.{List, ◌++◌, map}
use native.Mathlib.Omega.{arith}
use lib.ListN.{length, drop, length-map}
use borrow.Author.Tests.{lt-ltb, le-ltb}
use Rattle.std.specs.Prelude.{Ok, Err}
use Rattle.parse.specs.declared.refusal.Refusal.TheVariants.{OutputLen}
use Rattle.parse.specs.Links.{links_of}
use Rattle.iterator.specs.declared.collect.MarkupLinkCollection.{MarkupLinkCollection}
use Rattle.iterator.specs.declared.resolve.Resolved.{Resolved}
use Rattle.iterator.specs.Collect.{Collected, collected, collect_all}
use Rattle.iterator.specs.Resolve.{resolve_aliases, resolve_references, Hyperlink, hyperlinks_of}
use Rattle.iterator.specs.Records.{records_of}
use Rattle.iterator.specs.Document.{refusal, handed, answered, verdict}
use Rattle.iterator.specs.Rows.{
  link_rows,
  pairs_of,
  item_of,
  items_of,
  hyperlink_of,
  hyperlinks_in,
  destinations_at,
  aliases_at,
  room,
  LinksWithin,
}
use Rattle.iterator.specs.Inner.{Held, collection_of, Collects, Roomy, Told, AliasesHeld, AliasesResolved, ReferencesHeld, ReferencesResolved, InOrder, Writing}
use Rattle.iterator.proofs.RowsLaws.{pairs-within-wider, links-within-wider}
use Rattle.iterator.proofs.CollectLaws.{items-length}
use Rattle.iterator.proofs.RecordLaws.{records-size, size_few}
use Rattle.iterator.proofs.OrderLaws.{collected-in-order}

-- Document s is collected as c into the work numbers t and the work bytes w.
pub record Gathered (render : ℕ) (s t w : List ℕ) (c : MarkupLinkCollection) : Type 0 where
  pub short : length s ≤ 16384
  pub roomy : Roomy t w
  pub tells : collect_all render s (links_of s) ≡ collected (collection_of s t w c)
  pub held : Held 0 0 t c
  pub inside : c.at ≤ length s

-- Its links are resolved, and are the first rows.
pub record Listed (render : ℕ) (s t w : List ℕ) (r : Resolved) : Type 0 where
  pub short : length s ≤ 16384
  pub roomy : Roomy t w
  pub few : r.links ≤ 256
  pub tells : (o : List ℕ) → answered (collect_all render s (links_of s)) o ≡ handed (hyperlinks_in r.links s t w) o
  pub in_order : InOrder 0 (hyperlinks_in r.links s t w)
  pub size : length (records_of (hyperlinks_in r.links s t w)) ≡ r.size
  pub size_few : r.size ≤ 8390656
  pub within : LinksWithin (length s) room (link_rows r.links 0 t)

-- What is handed out.
module _ (links : List Hyperlink) (o : List ℕ) where
  handed-short : length o < length (records_of links) → refusal 7 (length (records_of links)) o ≡ handed links o
  handed-short h = rw (lt-ltb (length o) (length (records_of links)) h, handed)

  handed-written :
      length (records_of links) ≤ length o
      → ◌≡◌
      (verdict
      (record { number = 0; links = length links; bytes = length (records_of links) })
      (records_of links ++ drop (length (records_of links)) o))
      (handed links o)
  handed-written h = rw (le-ltb (length o) (length (records_of links)) h, handed)

links-counted : (n : ℕ) (s t w : List ℕ) → length (hyperlinks_in n s t w) ≡ n
links-counted n s t w =
    length-map (link_rows n 0 t) (hyperlink_of s w) ∙ sym (length-map (link_rows n 0 t) (item_of s w)) ∙ items-length n 0 s t w

module _ (render : ℕ) (s t w : List ℕ) where
  -- What was collected, by what `collect` returned.
  pub gathered :
      (c : MarkupLinkCollection) → length s ≤ 16384 → Roomy t w → Collects render s t w (Ok c) → Gathered render s t w c
  gathered c short roomy h =
      record { short = short; roomy = roomy; tells = sym h.step; held = h.held.0; inside = h.held.1 }

  module _ (c : MarkupLinkCollection) (g : Gathered render s t w c) where
    -- no more bytes are taken than a document has and 512 numbered names need
    filled : c.taken ≤ 18432
    filled =
        let h = g.held in
        omega (arith, h.inside, h.references-few, h.targets-few, h.filled, h.tables.links-few, h.tables.names-few)

    pub aliases-held : AliasesHeld c.label2label c.label2dest t w
    aliases-held =
        let h = g.held.tables in
        let f : c.taken ≤ room = omega (arith, filled) in
        record {
          roomy = g.roomy;
          few = h.names-few;
          destinations-within = pairs-within-wider _ _ _ f h.destinations-within;
          aliases-within = pairs-within-wider _ _ _ f h.aliases-within;
        }

    -- The aliases are resolved: t' are the work numbers then, and so many names have a destination.
    module _ (t' : List ℕ) (names : ℕ) (l : length t' ≡ length t) (a : AliasesResolved names t t') where
      same_rows : link_rows c.links 0 t' ≡ link_rows c.links 0 t
      same_rows = a.links c.links g.held.tables.links-few

      links-within : LinksWithin (length s) room (link_rows c.links 0 t')
      links-within =
          subst⁻¹
          (LinksWithin (length s) room)
          same_rows
          (links-within-wider _ _ _ _ _ g.inside (omega (arith, filled)) g.held.tables.links-within)

      pub references-held : ReferencesHeld c.links names s t' w
      references-held =
          record {
            few = g.held.tables.links-few;
            links-within = links-within;
            names = record { roomy = (omega (arith, g.roomy.0), g.roomy.1); few = a.few; within = a.within };
          }

      -- And the references.
      module _
          (d :
          pairs_of names destinations_at t' w
          ≡ resolve_aliases (pairs_of c.label2label aliases_at t w) (pairs_of c.label2dest destinations_at t w))
          (t'' : List ℕ)
          (r : Resolved)
          (l' : length t'' ≡ length t')
          (x :
          hyperlinks_in r.links s t'' w ≡ resolve_references (pairs_of names destinations_at t' w) (items_of c.links 0 s t' w))
          (b : ReferencesResolved s t'' w r) where
        links-are : hyperlinks_in r.links s t'' w ≡ hyperlinks_of (collection_of s t w c)
        links-are = x ∙ ap₂ resolve_references d (ap (map (item_of s w)) same_rows)

        pub listed : Listed render s t'' w r
        listed =
            let z : length (records_of (hyperlinks_in r.links s t'' w)) ≡ r.size = records-size 0 _ ∙ sym b.size in
            let y = size_few r.links 0 s t'' w g.short g.roomy.1 b.within in
            record {
              short = g.short;
              roomy = (omega (arith, g.roomy.0), g.roomy.1);
              few = b.few;
              tells = λ o. ap (λ (k : Collected). answered k o) g.tells ∙ ap (λ k. handed k o) (sym links-are);
              in_order = subst⁻¹ (InOrder 0) links-are (collected-in-order render s _ g.tells);
              size = z;
              size_few = omega (arith, b.few, b.size, y);
              within = b.within;
            }

  -- With output o, which is too short, or not.
  module _ (r : Resolved) (g : Listed render s t w r) (o : List ℕ) where
    pub told-short : length o < r.size → Told (Err (OutputLen r.size)) o (answered (collect_all render s (links_of s)) o)
    told-short h =
        record {
          verdict =
              ap (λ (n : ℕ). refusal 7 n o) (sym g.size) ∙ handed-short _ o (omega (arith, g.size)) ∙ sym (g.tells o);
          links-small = omega arith;
          bytes-small = omega (arith, g.size_few);
        }

    pub writing : r.size ≤ length o → Writing r.links s t w o
    writing h =
        record {
          long = g.roomy.0;
          few = g.few;
          within = g.within;
          order = g.in_order;
          fits = omega (arith, g.size);
        }

    pub told-written :
        (o' : List ℕ) → r.size ≤ length o
        → o' ≡ records_of (hyperlinks_in r.links s t w) ++ drop (length (records_of (hyperlinks_in r.links s t w))) o
        → Told (Ok r) o' (answered (collect_all render s (links_of s)) o)
    told-written o' h e =
        record {
          verdict =
              ap₂ (λ (m n : ℕ). verdict (record { number = 0; links = m; bytes = n }) o') (sym (links-counted r.links s t w)) (sym g.size)
              ∙ ap (verdict _) e
              ∙ handed-written _ o (omega (arith, g.size))
              ∙ sym (g.tells o);
          links-small = omega (arith, g.few);
          bytes-small = omega (arith, g.size_few);
        }
