-- What the contracts of private functions speak of: what is collected so far as it stands in the work areas, the walk through the aliases,
-- and the links as they are written.
-- Assumes nothing.
use Rattle.std.specs.Prelude.{ℕ, ◌+◌, ◌-◌, ◌*◌, ◌<◌, ◌≤◌, ◌≡◌, ⊤, List, [], ◌∷◌, ◌++◌, true, false, eqb, ltb, length, take, drop, replicate, Result, Ok, Err, MatchResult, Option, Some, None}
use Rattle.restructured_text.specs.declared.Span.{Span}
use Rattle.restructured_text.specs.Strings.{part}
use Rattle.parse.specs.declared.Link.{Link}
use Rattle.parse.specs.declared.Link.TheVariants.{Text2Dest, TextLabel2Dest, Text2Label, Label2Dest, Label2Label}
use Rattle.parse.specs.declared.refusal.Refusal.{Refusal}
use Rattle.parse.specs.declared.refusal.Refusal.TheVariants as refusals
use Rattle.parse.specs.Link.{Kind, text2dest, text-label2dest, text2label, label2dest, label2label, LinkEnds}
use Rattle.parse.specs.Links.{Placed, placed, links_of}
use Rattle.parse.specs.Inner.{first_of, second_of, link_end}
use Rattle.parse.specs.Refusal.{number_of, bytes_of}
use Rattle.iterator.specs.declared.rows.PairRow.{PairRow}
use Rattle.iterator.specs.declared.rows.LinkRow.{LinkRow}
use Rattle.iterator.specs.declared.rows.LinkKind.TheVariants.{Direct, Reference, Rendered}
use Rattle.iterator.specs.declared.counters.Counters.{Counters}
use Rattle.iterator.specs.declared.Outcome.{Outcome}
use Rattle.iterator.specs.declared.collect.MarkupLinkCollection.{MarkupLinkCollection}
use Rattle.iterator.specs.declared.rows.Table.{Table}
use Rattle.iterator.specs.declared.rows.Table.TheVariants.{Destinations, Aliases}
use Rattle.iterator.specs.declared.resolve.Walk.{Walk}
use Rattle.iterator.specs.declared.resolve.Resolved.{Resolved}
use Rattle.iterator.specs.Collect.{
  Collection,
  Collected,
  collected,
  refused,
  add_of,
  add,
  collect_all,
  is_anonymous,
  numbered,
  Pair,
  pair,
}
use Rattle.iterator.specs.Records.{records_of}
use Rattle.iterator.specs.Resolve.{Destination, has, none, lookup, search, hit, missed, resolve_from, Hyperlink}
use Rattle.iterator.specs.Document.{Verdict, verdict}
use Rattle.iterator.specs.Rows.{pair_at, pair_rows, link_rows, pairs_of, items_of, hyperlinks_in, destinations_at, aliases_at, text_of, room, SpanWithin, PairsWithin, LinkWithin, LinksWithin, put_link, put_pair}

-- rows whose numbers fit into the work numbers
abbrev pub SpanSmall : Span → Type 0
SpanSmall a = a.start + a.len ≤ 65536

abbrev pub PairSmall : PairRow → Type 0
PairSmall x = SpanSmall x.name × SpanSmall x.to

abbrev pub LinkSmall : LinkRow → Type 0
LinkSmall x = (x.place + x.consumed ≤ 65536) × (SpanSmall x.text × SpanSmall x.goal)

-- The counters

-- the next number, and the counters after it
abbrev pub reference_numbered : Counters → ℕ × Counters
reference_numbered c = (c.references + 1, record c { references = c.references + 1 })

abbrev pub target_numbered : Counters → ℕ × Counters
target_numbered c = (c.targets + 1, record c { targets = c.targets + 1 })

-- Collecting: document s, work numbers t and work bytes w

-- what is collected so far
abbrev pub collection_of : List ℕ → List ℕ → List ℕ → MarkupLinkCollection → Collection
collection_of s t w c =
    record {
      links = items_of c.links 0 s t w;
      label2dest = pairs_of c.label2dest destinations_at t w;
      label2label = pairs_of c.label2label aliases_at t w;
      references = c.counters.references;
      targets = c.counters.targets;
    }

-- what is collected then, or a refusal
abbrev pub Step : Type 0
Step = Result MarkupLinkCollection Refusal

-- a step that changes what is collected to c
abbrev pub after : Result ⊤ Refusal → MarkupLinkCollection → Step
after (Ok _) c = Ok c
after (Err e) c = Err e

abbrev pub step_of : List ℕ → List ℕ → List ℕ → Step → Collected
step_of s t w (Ok c) = collected (collection_of s t w c)
step_of s t w (Err e) = refused (number_of e)

-- the tables are no longer than they may be, and the strings of their rows stand in what is read and in the bytes that are taken
pub record Tables (t : List ℕ) (c : MarkupLinkCollection) : Type 0 where
  pub links-few : c.links ≤ 256
  pub names-few : c.label2dest + c.label2label ≤ 256
  pub links-within : LinksWithin c.at c.taken (link_rows c.links 0 t)
  pub destinations-within : PairsWithin c.taken (pair_rows c.label2dest destinations_at t)
  pub aliases-within : PairsWithin c.taken (pair_rows c.label2label aliases_at t)

-- and no more bytes are taken than were read and than numbered names need; of the references that were numbered all but i, and of the
-- blocks all but j, are in the tables
pub record Held (i j : ℕ) (t : List ℕ) (c : MarkupLinkCollection) : Type 0 where
  pub tables : Tables t c
  pub inside : c.at ≤ 16384
  pub references-few : c.counters.references ≤ c.links + i
  pub targets-few : c.counters.targets ≤ c.label2dest + c.label2label + j
  pub filled : c.taken ≤ c.at + 4 * (c.counters.references + c.counters.targets)

-- after a step, which has read the document up to place n; nothing comes with its refusal
abbrev pub StepHeld : ℕ → List ℕ → Step → Type 0
StepHeld n t r = MatchResult r (λ c. Held 0 0 t c × (c.at ≡ n)) (λ e. bytes_of e ≡ 0)

-- at the end, of a document of m bytes
abbrev pub CollectedHeld : ℕ → List ℕ → Step → Type 0
CollectedHeld m t r = MatchResult r (λ c. Held 0 0 t c × (c.at ≤ m)) (λ e. bytes_of e ≡ 0)

-- areas as long as the document call asks for
abbrev pub Roomy : List ℕ → List ℕ → Type 0
Roomy t w = (4096 ≤ length t) × (room ≤ length w)

-- no place of s is marked: there is a mark for each byte, or more, and all are 0
abbrev pub Unmarked : List ℕ → List ℕ → Type 0
Unmarked s marks = (length s ≤ length marks) × (marks ≡ replicate (length marks) 0)

-- one row more in a table
abbrev pub one_link : MarkupLinkCollection → MarkupLinkCollection
one_link c = record c { links = c.links + 1 }

abbrev pub one_name : Table → MarkupLinkCollection → MarkupLinkCollection
one_name Destinations c = record c { label2dest = c.label2dest + 1 }
one_name Aliases c = record c { label2label = c.label2label + 1 }

-- where it stands
abbrev pub next_name : Table → MarkupLinkCollection → ℕ
next_name Destinations c = destinations_at + 4 * c.label2dest
next_name Aliases c = aliases_at + 4 * c.label2label

abbrev pub names : MarkupLinkCollection → ℕ
names c = c.label2dest + c.label2label

-- the work numbers have room for the tables, which are no longer than they may be
pub record TablesFit (t : List ℕ) (c : MarkupLinkCollection) : Type 0 where
  pub long : 4096 ≤ length t
  pub names-few : names c ≤ 256

-- with n rows in a table, one more has room, or not
abbrev pub if_room : {A : Type 0} → ℕ → A → A → A
if_room n x y = elim (ltb n 256) [ true ↦ x | false ↦ y ]

-- what is collected then, or a refusal; and the work numbers
abbrev pub link_added : MarkupLinkCollection → Step
link_added c = if_room c.links (Ok (one_link c)) (Err refusals.Links)

abbrev pub with_link_row : List ℕ → MarkupLinkCollection → LinkRow → List ℕ
with_link_row t c x = if_room c.links (put_link t (7 * c.links) x) t

abbrev pub name_added : Table → MarkupLinkCollection → Step
name_added table c = if_room (names c) (Ok (one_name table c)) (Err refusals.Names)

abbrev pub with_name_row : Table → List ℕ → MarkupLinkCollection → PairRow → List ℕ
with_name_row table t c x = if_room (names c) (put_pair t (next_name table c) x) t

-- a link and then a name with a destination
abbrev pub both_added : MarkupLinkCollection → Step
both_added c = if_room c.links (name_added Destinations (one_link c)) (Err refusals.Links)

abbrev pub with_both_rows : List ℕ → MarkupLinkCollection → LinkRow → PairRow → List ℕ
with_both_rows t c x y = if_room c.links (with_name_row Destinations (put_link t (7 * c.links) x) c y) t

-- a label or name a, for which there are a number and room
abbrev pub Labellable : Span → ℕ × Counters → MarkupLinkCollection → List ℕ → Type 0
Labellable a next c w = (next.0 < 1000) × ((c.taken + 4 ≤ length w) × SpanWithin c.taken a)

-- A label or name a, which is the next number if it is _ ; c' is what is collected then, and w' are the work bytes.
pub record LabelledBy (a : Span) (next : ℕ × Counters) (c : MarkupLinkCollection) (w : List ℕ) (c' : MarkupLinkCollection) (w' : List ℕ) (r : Span) : Type 0 where
  pub label : part r w' ≡ elim (is_anonymous (part a w)) [ true ↦ numbered next.0 | false ↦ part a w ]
  pub within : SpanWithin c'.taken r
  pub kept : take c.taken w' ≡ take c.taken w
  pub grows : c.taken ≤ c'.taken
  pub filled : c'.taken ≤ c.taken + elim (is_anonymous (part a w)) [ true ↦ 4 | false ↦ 0 ]
  pub counters : c'.counters ≡ elim (is_anonymous (part a w)) [ true ↦ next.1 | false ↦ c.counters ]
  pub rest : c' ≡ record c { taken = c'.taken; counters = c'.counters }

-- a row of a link that was found: its strings stand in the work bytes that are taken, and the document is read to its end
pub record Addable (t w : List ℕ) (x : LinkRow) (c : MarkupLinkCollection) : Type 0 where
  pub roomy : Roomy t w
  pub held : Held 0 0 t c
  pub read : x.place + x.consumed ≤ c.at
  pub short : x.consumed ≤ 16384
  pub text-within : SpanWithin c.taken x.text
  pub goal-within : SpanWithin c.taken x.goal

-- the link that such a row tells
abbrev pub placed_of : Kind → LinkRow → List ℕ → Placed
placed_of kind x w =
    record { place = x.place; kind = kind; first = part x.text w; second = part x.goal w; consumed = x.consumed }

-- a step that adds it; t' and w' are the areas then
pub record Adds (kind : Kind) (render : ℕ) (x : LinkRow) (c : MarkupLinkCollection) (t w t' w' : List ℕ) (r : Step) : Type 0 where
  pub step : (s : List ℕ) → step_of s t' w' r ≡ add_of kind render s (placed_of kind x w) (collection_of s t w c)
  pub held : StepHeld c.at t' r

-- the case of a link that was found, and how many bytes it skipped and consumed
abbrev pub kind_of : Link → Kind
kind_of (Text2Dest a b skipped consumed) = text2dest
kind_of (TextLabel2Dest a b skipped consumed) = text-label2dest
kind_of (Text2Label a b skipped consumed) = text2label
kind_of (Label2Dest a b skipped consumed) = label2dest
kind_of (Label2Label a b skipped consumed) = label2label

abbrev pub skipped_by : Link → ℕ
skipped_by (Text2Dest a b skipped consumed) = skipped
skipped_by (TextLabel2Dest a b skipped consumed) = skipped
skipped_by (Text2Label a b skipped consumed) = skipped
skipped_by (Label2Dest a b skipped consumed) = skipped
skipped_by (Label2Label a b skipped consumed) = skipped

abbrev pub consumed_by : Link → ℕ
consumed_by (Text2Dest a b skipped consumed) = consumed
consumed_by (TextLabel2Dest a b skipped consumed) = consumed
consumed_by (Text2Label a b skipped consumed) = consumed
consumed_by (Label2Dest a b skipped consumed) = consumed
consumed_by (Label2Label a b skipped consumed) = consumed

-- a link that was found behind place at, its strings behind the bytes that are taken
pub record Fitting (x : Link) (c : MarkupLinkCollection) : Type 0 where
  pub ends : LinkEnds x
  pub at : c.at + link_end x ≤ 65536
  pub taken : c.taken + consumed_by x ≤ 65536

abbrev pub row_of : Link → MarkupLinkCollection → LinkRow
row_of x c =
    record {
      place = c.at + skipped_by x;
      consumed = consumed_by x;
      text = record { start = c.taken + (first_of x).start; len = (first_of x).len };
      goal = record { start = c.taken + (second_of x).start; len = (second_of x).len };
      kind = Direct;
    }

abbrev pub read_to : Link → MarkupLinkCollection → MarkupLinkCollection
read_to x c = record c { at = c.at + link_end x; taken = c.taken + consumed_by x }

-- a link that was found can be added
pub record Scannable (t w : List ℕ) (x : Link) (c : MarkupLinkCollection) : Type 0 where
  pub roomy : Roomy t w
  pub held : Held 0 0 t c
  pub ends : LinkEnds x
  pub inside : c.at + link_end x ≤ 16384

-- it stands behind place n, its strings in the bytes y
abbrev pub placed_behind : ℕ → Link → List ℕ → Placed
placed_behind n x y = placed n (kind_of x) (part (first_of x) y) (part (second_of x) y) (skipped_by x) (consumed_by x)

-- a step that adds it
pub record AddsScanned (render : ℕ) (c : MarkupLinkCollection) (x : Link) (t w t' w' : List ℕ) (r : Step) : Type 0 where
  pub step : (s : List ℕ) → step_of s t' w' r ≡ add render s (placed_behind c.at x (drop c.taken w)) (collection_of s t w c)
  pub held : StepHeld (c.at + link_end x) t' r

-- a step that adds all links of document s
pub record Collects (render : ℕ) (s t w : List ℕ) (r : Step) : Type 0 where
  pub step : step_of s t w r ≡ collect_all render s (links_of s)
  pub held : CollectedHeld (length s) t r

-- Looking up

abbrev pub found_of : Option Span → List ℕ → Destination
found_of (Some a) w = has (part a w)
found_of None w = none

-- the names with a destination, n of them, stand in the areas
abbrev pub NamesHeld : ℕ → List ℕ → List ℕ → Type 0
NamesHeld n t w = record { roomy : Roomy t w; few : n ≤ 256; within : PairsWithin room (pair_rows n destinations_at t) }

-- row i can be put into the index
abbrev pub Indexable : ℕ → List ℕ → List ℕ → Type 0
Indexable i t w =
    record { roomy : Roomy t w; few : i < 256; within : SpanWithin room (pair_at t (destinations_at + 4 * i)).name }

-- The walk through the aliases

-- the walk goes on: after k misses in a row, with the aliases q that are left, from the present place on and wrapped at the end
abbrev pub resumed : ℕ → List Pair → List Pair → List Pair → List Pair
resumed n misses ahead stored =
    elim (search stored misses ahead) [ hit name d left ↦ resolve_from n left (stored ++ pair name d ∷ []) | missed ↦ stored ]

unfoldable pub goes_on : ℕ → List Pair → List Pair → List Pair
goes_on k q stored = resumed (length q - 1) (drop (length q - k) q) (take (length q - k) q) stored

-- how many aliases are left, and which, from the present place on
abbrev pub left_of : Walk → ℕ
left_of v = v.passed + (v.end - v.next)

abbrev pub ahead_of : List ℕ → List ℕ → Walk → List Pair
ahead_of t w v = pairs_of (v.end - v.next) (aliases_at + 4 * v.next) t w

abbrev pub queue_of : List ℕ → List ℕ → Walk → List Pair
queue_of t w v = ahead_of t w v ++ pairs_of v.passed aliases_at t w

abbrev pub walk_of : List ℕ → List ℕ → Walk → List Pair
walk_of t w v = goes_on v.misses (queue_of t w v) (pairs_of v.destinations destinations_at t w)

-- at the end, the first again
abbrev pub wrap : Walk → Walk
wrap v =
    elim (eqb v.next v.end) [
      | true ↦ record v { passed = 0; next = 0; end = v.passed; known = v.fresh; fresh = v.destinations }
      | false ↦ v
    ]

-- no alias's target has a destination among those that are stored
unfoldable pub Without : List Pair → List Pair → Type 0
Without stored [] = Unit {0}
Without stored (x ∷ rest) = (lookup x.to stored ≡ none) × Without stored rest

pub record Walking (t w : List ℕ) (v : Walk) : Type 0 where
  pub roomy : Roomy t w
  pub passed-before : v.passed ≤ v.next
  pub next-before : v.next ≤ v.end
  pub few : v.destinations + left_of v ≤ 256
  pub end-few : v.end ≤ 256
  pub misses-few : v.misses ≤ left_of v
  pub destinations-within : PairsWithin room (pair_rows v.destinations destinations_at t)
  pub ahead_within : PairsWithin room (pair_rows (v.end - v.next) (aliases_at + 4 * v.next) t)
  pub passed-within : PairsWithin room (pair_rows v.passed aliases_at t)
  pub known-few : v.known ≤ v.destinations
  pub fresh-few : v.fresh ≤ v.destinations
  pub ahead-without : Without (pairs_of v.known destinations_at t w) (ahead_of t w v)
  pub passed-without : Without (pairs_of v.fresh destinations_at t w) (pairs_of v.passed aliases_at t w)

-- an alias is next, and not all that are left were missed
abbrev pub Tryable : List ℕ → List ℕ → Walk → Type 0
Tryable t w v = record { walking : Walking t w v; more : v.next < v.end; unmissed : v.misses < left_of v }

-- how much of the walk is left at the most
abbrev pub steps_left : Walk → ℕ
steps_left v = 512 * left_of v + (left_of v - v.misses)

-- the table of the links is as it was
abbrev pub LinksKept : List ℕ → List ℕ → Type 0
LinksKept t t' = (n : ℕ) → n ≤ 256 → link_rows n 0 t' ≡ link_rows n 0 t

abbrev pub AliasesHeld : ℕ → ℕ → List ℕ → List ℕ → Type 0
AliasesHeld aliases destinations t w =
    record {
      roomy : Roomy t w;
      few : destinations + aliases ≤ 256;
      destinations-within : PairsWithin room (pair_rows destinations destinations_at t);
      aliases-within : PairsWithin room (pair_rows aliases aliases_at t);
    }

abbrev pub AliasesResolved : ℕ → List ℕ → List ℕ → Type 0
AliasesResolved r t t' =
    record { few : r ≤ 256; within : PairsWithin room (pair_rows r destinations_at t'); links : LinksKept t t' }

-- The links as they are written

-- how many bytes the records of links take
unfoldable pub size_of : List Hyperlink → ℕ
size_of [] = 0
size_of (x ∷ rest) = 8 + length x.text + length x.dest + size_of rest

-- each link starts at or after place n, the end of the one before
unfoldable pub InOrder : ℕ → List Hyperlink → Type 0
InOrder n [] = Unit {0}
InOrder n (x ∷ rest) = (n ≤ x.place) × InOrder (x.place + x.consumed) rest

-- a link can be put behind those that are resolved
abbrev pub Keeping : LinkRow → Resolved → List ℕ → List ℕ → Type 0
Keeping x r s t =
    record { long : 4096 ≤ length t; within : LinkWithin (length s) room x; few : r.links < 256; size : r.size ≤ 32776 * r.links }

abbrev pub kept : LinkRow → Resolved → List ℕ → List ℕ → Resolved
kept x r s w =
    record { links = r.links + 1; size = r.size + (8 + length (text_of s w x) + length (part x.goal w)) }

-- the destination of a link, by the names with theirs: its goal, or, of a reference, what its label has
abbrev pub goal_of : List Pair → List ℕ → LinkRow → Destination
goal_of stored w x =
    elim x.kind [
      | Direct ↦ has (part x.goal w)
      | Reference ↦ lookup (part x.goal w) stored
      | Rendered ↦ has (part x.goal w)
    ]

-- n links are to be resolved
pub record ReferencesHeld (n destinations : ℕ) (s t w : List ℕ) : Type 0 where
  pub few : n ≤ 256
  pub links-within : LinksWithin (length s) room (link_rows n 0 t)
  pub names : NamesHeld destinations t w

abbrev pub ReferencesResolved : List ℕ → List ℕ → List ℕ → Resolved → Type 0
ReferencesResolved s t w r =
    record {
      few : r.links ≤ 256;
      size : r.size ≡ size_of (hyperlinks_in r.links s t w);
      within : LinksWithin (length s) room (link_rows r.links 0 t);
    }

-- the records of n links can be written to output o
abbrev pub Writing : ℕ → List ℕ → List ℕ → List ℕ → List ℕ → Type 0
Writing n s t w o =
    record {
      long : 4096 ≤ length t;
      few : n ≤ 256;
      within : LinksWithin (length s) room (link_rows n 0 t);
      order : InOrder 0 (hyperlinks_in n s t w);
      fits : length (records_of (hyperlinks_in n s t w)) ≤ length o;
    }

-- fields of 15 bits
abbrev pub Fields : ℕ → ℕ → ℕ → ℕ → Type 0
Fields skipped consumed text dest = (skipped < 32768) × ((consumed < 32768) × ((text < 32768) × (dest < 32768)))

-- What the document call returns

-- of the links that were written, or of a refusal
abbrev pub outcome_of : Result Resolved Refusal → Outcome
outcome_of (Ok r) = record { number = 0; links = r.links; bytes = r.size }
outcome_of (Err e) = record { number = number_of e; links = 0; bytes = bytes_of e }

-- a call with this answer, which leaves the output as o, has the verdict v; all of it fits into numbers of 32 bits
pub record Told (r : Result Resolved Refusal) (o : List ℕ) (v : Verdict) : Type 0 where
  pub verdict : verdict (outcome_of r) o ≡ v
  pub links-small : (outcome_of r).links < 4294967296
  pub bytes-small : (outcome_of r).bytes < 4294967296
