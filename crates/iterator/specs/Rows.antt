-- How what is collected stands in the work areas: rows in the work numbers, strings in the work bytes. The contracts of private functions
-- speak of it; the promises of the document call do not.
-- Assumes nothing.
use Rattle.std.specs.Prelude.{ℕ, zero, suc, ◌+◌, ◌*◌, ◌≤◌, List, [], ◌∷◌, map, true, false, eqb, get_or, set}
use denote.Struct.Props.{props}
use Rattle.restructured_text.specs.declared.Span.{Span}
use Rattle.restructured_text.specs.Strings.{part}
use Rattle.iterator.specs.declared.rows.PairRow.{PairRow}
use Rattle.iterator.specs.declared.rows.LinkRow.{LinkRow}
use Rattle.iterator.specs.declared.rows.Table.{Table}
use Rattle.iterator.specs.declared.rows.Table.TheVariants.{Destinations, Aliases}
use Rattle.iterator.specs.declared.rows.LinkKind.{LinkKind}
use Rattle.iterator.specs.declared.rows.LinkKind.TheVariants.{Direct, Reference, Rendered}
use Rattle.iterator.specs.Collect.{Pair, pair, Item, destination, label}
use Rattle.iterator.specs.Resolve.{Hyperlink, shown_of}

-- two numbers from place n on
abbrev pub span_at : List ℕ → ℕ → Span
span_at t n = record { start = get_or t n 0; len = get_or t (n + 1) 0 }

-- the row that stands at place n
abbrev pub pair_at : List ℕ → ℕ → PairRow
pair_at t n = record { name = span_at t n; to = span_at t (n + 2) }

-- the kind that a number stands for: 1 a reference, 2 a rendered block, any other a link that goes to its goal
abbrev pub kind_at : ℕ → LinkKind
kind_at n = elim (eqb n 1) [ true ↦ Reference | false ↦ elim (eqb n 2) [ true ↦ Rendered | false ↦ Direct ] ]

abbrev pub kind_number : LinkKind → ℕ
kind_number Direct = 0
kind_number Reference = 1
kind_number Rendered = 2

abbrev pub link_at : List ℕ → ℕ → LinkRow
link_at t n =
    record {
      place = get_or t n 0;
      consumed = get_or t (n + 1) 0;
      text = span_at t (n + 2);
      goal = span_at t (n + 4);
      kind = kind_at (get_or t (n + 6) 0);
    }

-- two numbers put at place n
abbrev pub put_span : List ℕ → ℕ → Span → List ℕ
put_span t n x = set (set t n x.start) (n + 1) x.len

-- a row put at place n
abbrev pub put_pair : List ℕ → ℕ → PairRow → List ℕ
put_pair t n x = put_span (put_span t n x.name) (n + 2) x.to

abbrev pub put_link : List ℕ → ℕ → LinkRow → List ℕ
put_link t n x =
    set
    (put_span (put_span (set (set t n x.place) (n + 1) x.consumed) (n + 2) x.text) (n + 4) x.goal)
    (n + 6)
    (kind_number x.kind)

-- n rows from place a on
unfoldable pub pair_rows : ℕ → ℕ → List ℕ → List PairRow
pair_rows zero a t = []
pair_rows (suc n) a t = pair_at t a ∷ pair_rows n (a + 4) t

unfoldable pub link_rows : ℕ → ℕ → List ℕ → List LinkRow
link_rows zero a t = []
link_rows (suc n) a t = link_at t a ∷ link_rows n (a + 7) t

-- what a row says, with the strings in the work bytes w
abbrev pub pair_of : List ℕ → PairRow → Pair
pair_of w x = pair (part x.name w) (part x.to w)

-- the goal of a reference is a label, that of others a destination; the text of a rendered block is a part of the document s
abbrev pub item_of : List ℕ → List ℕ → LinkRow → Item
item_of s w x =
    elim x.kind [
      | Direct ↦
          record { place = x.place; consumed = x.consumed; text = part x.text w; goal = destination (part x.goal w) }
      | Reference ↦
          record { place = x.place; consumed = x.consumed; text = part x.text w; goal = label (part x.goal w) }
      | Rendered ↦
          record { place = x.place; consumed = x.consumed; text = part x.text s; goal = destination (part x.goal w) }
    ]

-- the same once references are resolved, so that the goal is a destination
abbrev pub text_of : List ℕ → List ℕ → LinkRow → List ℕ
text_of s w x =
    elim x.kind [
      | Direct ↦ part x.text w
      | Reference ↦ shown_of (part x.text w) (part x.goal w)
      | Rendered ↦ part x.text s
    ]

abbrev pub hyperlink_of : List ℕ → List ℕ → LinkRow → Hyperlink
hyperlink_of s w x = record { place = x.place; consumed = x.consumed; text = text_of s w x; dest = part x.goal w }

-- The tables: links, names with their destinations, aliases
abbrev pub destinations_at : ℕ
destinations_at = 1792

abbrev pub aliases_at : ℕ
aliases_at = 2816

-- where row i of a table stands
abbrev pub place_of : Table → ℕ → ℕ
place_of Destinations i = destinations_at + 4 * i
place_of Aliases i = aliases_at + 4 * i

abbrev pub pairs_of : ℕ → ℕ → List ℕ → List ℕ → List Pair
pairs_of n a t w = map (pair_of w) (pair_rows n a t)

abbrev pub items_of : ℕ → ℕ → List ℕ → List ℕ → List ℕ → List Item
items_of n a s t w = map (item_of s w) (link_rows n a t)

abbrev pub hyperlinks_in : ℕ → List ℕ → List ℕ → List ℕ → List Hyperlink
hyperlinks_in n s t w = map (hyperlink_of s w) (link_rows n 0 t)

-- as many work bytes as there are at least: strings stand among them
abbrev pub room : ℕ
room = 49152

-- a string no longer than a document, in the first n bytes
abbrev pub SpanWithin : ℕ → Span → Type 0
SpanWithin n a = (a.start + a.len ≤ n) × (a.len ≤ 16384)

-- a row whose strings stand in the first n work bytes
abbrev pub PairWithin : ℕ → PairRow → Type 0
PairWithin n x = SpanWithin n x.name × SpanWithin n x.to

-- and, of a rendered block, in the m bytes of the document
abbrev pub TextWithin : ℕ → ℕ → LinkRow → Type 0
TextWithin m n x = elim x.kind [ Direct ↦ SpanWithin n x.text | Reference ↦ SpanWithin n x.text | Rendered ↦ SpanWithin m x.text ]

abbrev pub LinkWithin : ℕ → ℕ → LinkRow → Type 0
LinkWithin m n x = (x.place + x.consumed ≤ m) × (TextWithin m n x × SpanWithin n x.goal)

unfoldable pub PairsWithin : ℕ → List PairRow → Type 0
PairsWithin n [] = Unit {0}
PairsWithin n (x ∷ rest) = PairWithin n x × PairsWithin n rest

-- a proposition, so that a ghost field may say it
pub pairs-within-prop : (n : ℕ) (rows : List PairRow) → IsProp (PairsWithin n rows)
unfolding PairsWithin
pairs-within-prop n [] = hlevel props
pairs-within-prop n (x ∷ rows) = hlevel (props, pairs-within-prop n rows)

unfoldable pub LinksWithin : ℕ → ℕ → List LinkRow → Type 0
LinksWithin m n [] = Unit {0}
LinksWithin m n (x ∷ rest) = LinkWithin m n x × LinksWithin m n rest
