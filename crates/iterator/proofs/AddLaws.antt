-- A reference and a block are added to the tables: a label or a name that is _ is numbered, and written behind the bytes that were taken.
-- Assumes nothing.
use Prim.Native.Nat.{ℕ, ◌+◌}
use native.Mathlib.Omega.{arith}
use mathlib.Core.Path.{◌≡◌, sym, ap, subst, ◌∙◌}
use mathlib.Core.Bool.{true, false}
use mathlib.Core.List.{List}
use Rattle.restructured_text.specs.declared.Span.{Span}
use Rattle.restructured_text.specs.Strings.{part}
use Rattle.parse.specs.Link.{text2label, label2dest, label2label}
use Rattle.iterator.specs.declared.rows.PairRow.{PairRow}
use Rattle.iterator.specs.declared.rows.LinkRow.{LinkRow}
use Rattle.iterator.specs.declared.rows.LinkKind.TheVariants.{Reference, Rendered}
use Rattle.iterator.specs.declared.counters.Counters.{Counters}
use Rattle.iterator.specs.declared.collect.MarkupLinkCollection.{MarkupLinkCollection}
use Rattle.iterator.specs.declared.rows.Table.TheVariants.{Destinations, Aliases}
use Rattle.iterator.specs.Collect.{is_anonymous, numbered, Pair, pair, Item, item, destination, label, Collection, Collected, and_then, add_link, add_destination, add_alias, reference_label, with_reference, target_name, with_target, consumed_bytes}
use Rattle.iterator.specs.Rows.{pair_rows, link_rows, pairs_of, items_of, pair_of, item_of, destinations_at, aliases_at, SpanWithin, PairWithin, LinkWithin, PairsWithin, LinksWithin}
use Rattle.iterator.specs.Inner.{
  reference_numbered,
  target_numbered,
  Tables,
  Held,
  Step,
  StepHeld,
  collection_of,
  link_added,
  with_link_row,
  name_added,
  with_name_row,
  both_added,
  with_both_rows,
  LabelledBy,
  Addable,
  Adds,
  placed_of,
}
use Rattle.iterator.proofs.RowsLaws.{pairs-within-wider, links-within-wider, part-kept, pairs-kept, items_kept}
use Rattle.iterator.proofs.LabelLaws.{Counted, reference-counted, target-counted}
use Rattle.iterator.proofs.CollectLaws.{
  alike,
  step_by,
  step-held-by,
  held-wider,
  link-step,
  link-step-held,
  destination-step,
  destination-step-held,
  alias-step,
  alias-step-held,
  both-step,
  both-step-held,
}

abbrev labelled : ℕ → ℕ → List ℕ → List ℕ → Item
labelled m n x y = record { place = m; consumed = n; text = x; goal = label y }

-- A label or a name was numbered, or stayed: d is what is collected then, with the work bytes w'.
module _ (t w w' : List ℕ) (a : Span) (next : ℕ × Counters) (c d : MarkupLinkCollection) (g : Span) (k : Held 0 0 t c) (v : LabelledBy a next c w d w' g) where
  same_at : d.at ≡ c.at
  same_at = ap (λ (z : MarkupLinkCollection). z.at) v.rest

  same-links : d.links ≡ c.links
  same-links = ap (λ (z : MarkupLinkCollection). z.links) v.rest

  same-destinations : d.label2dest ≡ c.label2dest
  same-destinations = ap (λ (z : MarkupLinkCollection). z.label2dest) v.rest

  same-aliases : d.label2label ≡ c.label2label
  same-aliases = ap (λ (z : MarkupLinkCollection). z.label2label) v.rest

  items-same : (s : List ℕ) → items_of d.links 0 s t w' ≡ items_of c.links 0 s t w
  items-same s =
      ap (λ (z : ℕ). items_of z 0 s t w') same-links
      ∙ items_kept c.at c.taken (link_rows c.links 0 t) s w w' k.tables.links-within v.kept

  destinations-same : pairs_of d.label2dest destinations_at t w' ≡ pairs_of c.label2dest destinations_at t w
  destinations-same =
      ap (λ (z : ℕ). pairs_of z destinations_at t w') same-destinations
      ∙ pairs-kept c.taken (pair_rows c.label2dest destinations_at t) w w' k.tables.destinations-within v.kept

  aliases-same : pairs_of d.label2label aliases_at t w' ≡ pairs_of c.label2label aliases_at t w
  aliases-same =
      ap (λ (z : ℕ). pairs_of z aliases_at t w') same-aliases
      ∙ pairs-kept c.taken (pair_rows c.label2label aliases_at t) w w' k.tables.aliases-within v.kept

  tables-same : Tables t d
  tables-same =
      record {
        links-few = omega (arith, same-links, k.tables.links-few);
        names-few = omega (arith, same-destinations, same-aliases, k.tables.names-few);
        links-within =
            subst
            (λ (z : ℕ). LinksWithin d.at d.taken (link_rows z 0 t))
            (sym same-links)
            (links-within-wider c.at d.at c.taken d.taken (link_rows c.links 0 t) (omega (arith, same_at)) v.grows k.tables.links-within);
        destinations-within =
            subst
            (λ (z : ℕ). PairsWithin d.taken (pair_rows z destinations_at t))
            (sym same-destinations)
            (pairs-within-wider c.taken d.taken (pair_rows c.label2dest destinations_at t) v.grows k.tables.destinations-within);
        aliases-within =
            subst
            (λ (z : ℕ). PairsWithin d.taken (pair_rows z aliases_at t))
            (sym same-aliases)
            (pairs-within-wider c.taken d.taken (pair_rows c.label2label aliases_at t) v.grows k.tables.aliases-within);
      }

  -- a reference
  module _ (e : next ≡ reference_numbered c.counters) where
    reference : Counted (is_anonymous (part a w)) c.counters.references d.counters.references c.counters.targets d.counters.targets c.taken d.taken
    reference = reference-counted c.counters d.counters c.taken d.taken next e (is_anonymous (part a w)) v.counters v.filled

    reference-collection : (s : List ℕ) → collection_of s t w' d ≡ with_reference (part a w) (collection_of s t w c)
    reference-collection s = alike (items-same s) destinations-same aliases-same reference.counted reference.same

    reference-held : Held 1 0 t d
    reference-held =
        record {
          tables = tables-same;
          inside = omega (arith, same_at, k.inside);
          references-few = omega (arith, reference.few, same-links, k.references-few);
          targets-few = omega (arith, reference.same, same-destinations, same-aliases, k.targets-few);
          filled = omega (arith, reference.filled, reference.same, same_at, k.filled);
        }

  -- a block
  module _ (e : next ≡ target_numbered c.counters) where
    target : Counted (is_anonymous (part a w)) c.counters.targets d.counters.targets c.counters.references d.counters.references c.taken d.taken
    target = target-counted c.counters d.counters c.taken d.taken next e (is_anonymous (part a w)) v.counters v.filled

    target-collection : (s : List ℕ) → collection_of s t w' d ≡ with_target (part a w) (collection_of s t w c)
    target-collection s = alike (items-same s) destinations-same aliases-same target.same target.counted

    target-held : Held 0 1 t d
    target-held =
        record {
          tables = tables-same;
          inside = omega (arith, same_at, k.inside);
          references-few = omega (arith, target.same, same-links, k.references-few);
          targets-few = omega (arith, target.few, same-destinations, same-aliases, k.targets-few);
          filled = omega (arith, target.filled, target.same, same_at, k.filled);
        }

add-link-by : {x x' : Item} {c c' : Collection} → x ≡ x' → c ≡ c' → add_link x c ≡ add_link x' c'
add-link-by {x} {x'} {c} {c'} e f = ap (λ (z : Item). add_link z c) e ∙ ap (add_link x') f

item_by_lem : {m n : ℕ} {x x' y y' : List ℕ} → x ≡ x' → y ≡ y' → labelled m n x y ≡ labelled m n x' y'
item_by_lem {m} {n} {x} {x'} {y} {y'} e f = ap (λ (z : List ℕ). labelled m n z y) e ∙ ap (labelled m n x') f

pair-by : {x x' y y' : List ℕ} → x ≡ x' → y ≡ y' → pair x y ≡ pair x' y'
pair-by {x} {x'} {y} {y'} e f = ap (λ (z : List ℕ). pair z y) e ∙ ap (pair x') f

-- A reference: its label is its goal.
module _ (t w w' : List ℕ) (c d : MarkupLinkCollection) (x : LinkRow) (next : ℕ × Counters) (g : Span) (p : Addable t w x c) (v : LabelledBy x.goal next c w d w' g) (e : next ≡ reference_numbered c.counters) where
  abbrev reference_row : LinkRow
  reference_row = record x { goal = g; kind = Reference }

  reference-label : (s : List ℕ) → part g w' ≡ reference_label (collection_of s t w c) (part x.goal w)
  reference-label s = v.label ∙ ap (λ (z : ℕ × Counters). elim (is_anonymous (part x.goal w)) [ true ↦ numbered z.0 | false ↦ part x.goal w ]) e

  reference-within : LinkWithin d.at d.taken reference_row
  reference-within =
      (omega (arith, same_at t w w' x.goal next c d g p.held v, p.read), ((omega (arith, v.grows, p.text-within.0), p.text-within.1), v.within))

  pub reference-adds : (t' : List ℕ) (r : Step) → t' ≡ with_link_row t d reference_row → r ≡ link_added d → Adds text2label 0 x c t w t' w' r
  reference-adds t' r f h =
      let held = reference-held t w w' x.goal next c d g p.held v e in
      record {
        step =
            λ s.
            step_by s w' t' _ r _ f h
            ∙ link-step t d reference_row p.roomy.0 0 held s w'
            ∙ add-link-by
            (item_by_lem (part-kept c.taken x.text w w' p.text-within.0 v.kept) (reference-label s))
            (reference-collection t w w' x.goal next c d g p.held v e s);
        held =
            subst
            (λ (n : ℕ). StepHeld n t' r)
            (same_at t w w' x.goal next c d g p.held v)
            (step-held-by d.at t' _ r _ f h (link-step-held t d reference_row p.roomy.0 held reference-within));
      }

-- A block: its name is its text.
abbrev block_row : LinkRow → Span → PairRow
block_row x g = record { name = g; to = x.goal }

-- The pair that it tells, if its target stands in the bytes that are taken.
module _ (t w w' : List ℕ) (c d : MarkupLinkCollection) (x : LinkRow) (next : ℕ × Counters) (g : Span) (inside : SpanWithin c.taken x.goal) (v : LabelledBy x.text next c w d w' g) (e : next.0 ≡ c.counters.targets + 1) where
  goal-kept : part x.goal w' ≡ part x.goal w
  goal-kept = part-kept c.taken x.goal w w' inside.0 v.kept

  block-pair : (s : List ℕ) → pair_of w' (block_row x g) ≡ pair (target_name (collection_of s t w c) (part x.text w)) (part x.goal w)
  block-pair s =
      pair-by (v.label ∙ ap (λ (z : ℕ). elim (is_anonymous (part x.text w)) [ true ↦ numbered z | false ↦ part x.text w ]) e) goal-kept

  block_within : PairWithin d.taken (block_row x g)
  block_within = (v.within, (omega (arith, v.grows, inside.0), inside.1))

-- What adding it does.
module _ (t w w' : List ℕ) (c d : MarkupLinkCollection) (x : LinkRow) (next : ℕ × Counters) (g : Span) (p : Addable t w x c) (v : LabelledBy x.text next c w d w' g) (e : next ≡ target_numbered c.counters) where
  abbrev rendered_row : LinkRow
  rendered_row = record x { text = record { start = x.place; len = x.consumed }; kind = Rendered }

  number : next.0 ≡ c.counters.targets + 1
  number = ap (λ (z : ℕ × Counters). z.0) e

  named : (s : List ℕ) → pair_of w' (block_row x g) ≡ pair (target_name (collection_of s t w c) (part x.text w)) (part x.goal w)
  named s = block-pair t w w' c d x next g p.goal-within v number s

  held : Held 0 1 t d
  held = target-held t w w' x.text next c d g p.held v e

  counted : (s : List ℕ) → collection_of s t w' d ≡ with_target (part x.text w) (collection_of s t w c)
  counted s = target-collection t w w' x.text next c d g p.held v e s

  block_at : d.at ≡ c.at
  block_at = same_at t w w' x.text next c d g p.held v

  name-within : PairWithin d.taken (block_row x g)
  name-within = block_within t w w' c d x next g p.goal-within v number

  rendered-within : LinkWithin d.at d.taken rendered_row
  rendered-within =
      (omega (arith, block_at, p.read), ((omega (arith, block_at, p.read), p.short), (omega (arith, v.grows, p.goal-within.0), p.goal-within.1)))

  -- what was done with the row is what adding the block does
  block-held : (t' t'' : List ℕ) (r r' : Step) → t' ≡ t'' → r ≡ r' → StepHeld d.at t'' r' → StepHeld c.at t' r
  block-held t' t'' r r' f h q = subst (λ (n : ℕ). StepHeld n t' r) block_at (step-held-by d.at t' t'' r r' f h q)

  -- an alias
  pub alias-adds : (t' : List ℕ) (r : Step) → t' ≡ with_name_row Aliases t d (block_row x g) → r ≡ name_added Aliases d → Adds label2label 0 x c t w t' w' r
  alias-adds t' r f h =
      record {
        step =
            λ s.
            step_by s w' t' _ r _ f h
            ∙ alias-step t d (block_row x g) p.roomy.0 held s w'
            ∙ ap (λ (z : Pair). add_alias z (collection_of s t w' d)) (named s)
            ∙ ap (add_alias (pair (target_name (collection_of s t w c) (part x.text w)) (part x.goal w))) (counted s);
        held = block-held t' _ r _ f h (alias-step-held t d (block_row x g) p.roomy.0 held name-within);
      }

  -- a destination
  pub destination-adds : (t' : List ℕ) (r : Step) → t' ≡ with_name_row Destinations t d (block_row x g) → r ≡ name_added Destinations d → Adds label2dest 0 x c t w t' w' r
  destination-adds t' r f h =
      record {
        step =
            λ s.
            step_by s w' t' _ r _ f h
            ∙ destination-step t d (block_row x g) p.roomy.0 0 held s w'
            ∙ ap (λ (z : Pair). add_destination z (collection_of s t w' d)) (named s)
            ∙ ap (add_destination (pair (target_name (collection_of s t w c) (part x.text w)) (part x.goal w))) (counted s);
        held = block-held t' _ r _ f h (destination-step-held t d (block_row x g) p.roomy.0 held name-within);
      }

  -- one that is rendered
  pub rendered-adds : (t' : List ℕ) (r : Step) → t' ≡ with_both_rows t d rendered_row (block_row x g) → r ≡ both_added d → Adds label2dest 1 x c t w t' w' r
  rendered-adds t' r f h =
      let wider = held-wider 0 1 1 1 t d (omega arith) (omega arith) held in
      record {
        step =
            λ s.
            step_by s w' t' _ r _ f h
            ∙ both-step t d rendered_row (block_row x g) p.roomy.0 wider rendered-within s w'
            ∙ ap (λ (z : Pair). and_then (add_link (item_of s w' rendered_row) (collection_of s t w' d)) (add_destination z)) (named s)
            ∙ ap
            (λ (z : Collected). and_then z (add_destination (pair (target_name (collection_of s t w c) (part x.text w)) (part x.goal w))))
            (add-link-by (ap (λ (z : List ℕ). item (placed_of label2dest x w) (consumed_bytes s (placed_of label2dest x w)) (destination z)) (goal-kept t w w' c d x next g p.goal-within v number)) (counted s));
        held = block-held t' _ r _ f h (both-step-held t d rendered_row (block_row x g) p.roomy.0 wider rendered-within name-within);
      }
