-- Appending keeps links: the claim, in the customer's words.
--
--   "Take any two accepted documents read with the same option, whatever output and work areas each call was lent, the second being the
--   first, one line feed and a tail. From the links of the second leave out those that start in the tail and the references that the
--   first left unresolved. What remains is exactly the list of the first's links: as many, in the same order, each alike in place,
--   consumed part, text and destination. Premises: the first does not end in a carriage return; the tail holds no backtick and begins
--   with neither space nor tab; the second defines no name twice."
--
-- `Keeps` is this claim about two calls, and `append_keeps` (src/lib.rt) makes any two calls and promises it. `Theorem` is the same of all
-- that the document call's definition lets any two calls return; proofs/Theorem.antt proves it.
--
-- Used of the document reader's definitions (crates/iterator/specs): a Verdict is what a call returned, number, links and bytes, with the output
-- as it was left; `links_held_in` reads the links that records hold from their bytes, each with its place, the count of consumed bytes, text and
-- destination; `links_of` (crates/parse/specs) are the answers that reading a document gives, one after the other, unreported blocks not among
-- them; `collect_all` is what these give: the collected links, the names with a destination and the aliases, after numbering. A collected
-- link's goal is a label where its answer is Text2Label, and else its destination. `resolve_aliases` gives the names that have a
-- destination in the end, and `lookup` the destination of a name.
-- Assumes nothing.
use Rattle.std.specs.Prelude.{ℕ, ◌≡◌, List, [], ◌∷◌, ◌++◌, map, Bool, true, false, ◌||◌, eqb, ltb, length, take, drop}
use Rattle.parse.specs.Links.{links_of}
use Rattle.iterator.specs.Collect.{Pair, Goal, destination, label, Item, Collection, collected, refused, collect_all, new}
use Rattle.iterator.specs.Resolve.{Destination, has, none, lookup, resolve_aliases, Hyperlink}
use Rattle.iterator.specs.Document.{Verdict, verdict_of}
use Rattle.iterator.specs.ReadBack.{links_held_in}
use Rattle.iterator.specs.Reach.{once}

-- Bytes

abbrev pub line_feed : ℕ
line_feed = 0x0A

abbrev pub carriage_return : ℕ
carriage_return = 0x0D

abbrev pub backtick : ℕ
backtick = 0x60

abbrev pub space : ℕ
space = 0x20

abbrev pub tab : ℕ
tab = 0x09

-- whether b is one of the numbers, the first of them, the last of them
unfoldable pub holds : ℕ → List ℕ → Bool
holds b [] = false
holds b (c ∷ s) = eqb c b || holds b s

unfoldable pub begins_with : ℕ → List ℕ → Bool
begins_with b [] = false
begins_with b (c ∷ s) = eqb c b

unfoldable pub ends_with : ℕ → List ℕ → Bool
ends_with b [] = false
ends_with b (c ∷ []) = eqb c b
ends_with b (c ∷ d ∷ s) = ends_with b (d ∷ s)

-- What a document defines, and what it leaves unresolved

-- what document s collects. One that is refused while it is collected is not accepted, and counts here as one that collects nothing.
abbrev pub collected_by : ℕ → List ℕ → Collection
collected_by render s = elim (collect_all render s (links_of s)) [ collected c ↦ c | refused number ↦ new ]

-- "A name is defined by each embedded named link and each reported destination or alias block, after numbering": the first two are the
-- names with a destination, the third the aliases. Whether no name stands twice among them.
abbrev pub defines_once : Collection → Bool
defines_once c = once (c.label2dest ++ c.label2label)

abbrev pub defines_no_name_twice : ℕ → List ℕ → Bool
defines_no_name_twice render s = defines_once (collected_by render s)

-- "A reference is an answer Text2Label, known by its place; a document leaves it unresolved if it is collected and then dropped": the
-- places of the links among these whose label has no destination
abbrev pub dropped_by : Item → Destination → List ℕ → List ℕ
dropped_by x (has d) rest = rest
dropped_by x none rest = x.place ∷ rest

abbrev pub dropped_item : List Pair → Item → Goal → List ℕ → List ℕ
dropped_item stored x (destination d) rest = rest
dropped_item stored x (label name) rest = dropped_by x (lookup name stored) rest

unfoldable pub dropped_in : List Pair → List Item → List ℕ
dropped_in stored [] = []
dropped_in stored (x ∷ rest) = dropped_item stored x x.goal (dropped_in stored rest)

abbrev pub unresolved_of : Collection → List ℕ
unresolved_of c = dropped_in (resolve_aliases c.label2label c.label2dest) c.links

abbrev pub unresolved : ℕ → List ℕ → List ℕ
unresolved render s = unresolved_of (collected_by render s)

-- The links of a call

-- "its links are those that their records hold": the records are the first `bytes` bytes of the output
abbrev pub links_held : Verdict → List Hyperlink
links_held v = links_held_in (take v.bytes v.output)

-- "a link starts in the tail if its place is past the joining line feed", which stands at place n, the length of the first document
abbrev pub starts_in_tail : ℕ → Hyperlink → Bool
starts_in_tail n x = ltb n x.place

-- "leave out those that start in the tail and the references that the first left unresolved", which are known by their places
unfoldable pub remaining : ℕ → List ℕ → List Hyperlink → List Hyperlink
remaining n places [] = []
remaining n places (x ∷ rest) =
    elim (starts_in_tail n x || holds x.place places) [
      | true ↦ remaining n places rest
      | false ↦ x ∷ remaining n places rest
    ]

-- "each alike in place, consumed part, text and destination": the consumed part is "the bytes counted from there as consumed"; `consumed` is
-- how many, as the record says
pub record Seen : Type 0 where
  pub place : ℕ
  pub consumed : ℕ
  pub part : List ℕ
  pub text : List ℕ
  pub dest : List ℕ

-- a link of document s
abbrev pub seen : List ℕ → Hyperlink → Seen
seen s x =
    record {
      place = x.place;
      consumed = x.consumed;
      part = take x.consumed (drop x.place s);
      text = x.text;
      dest = x.dest;
    }

-- The claim, of two calls with the same option: v is what the first document's call returned and left, w what the second's did
abbrev pub Keeps : ℕ → List ℕ → List ℕ → Verdict → Verdict → Type 0
Keeps render first second v w =
    (tail : List ℕ)
    -- "the second being the first, one line feed and a tail"
    → second ≡ first ++ line_feed ∷ tail
    -- "accepted"
    → v.number ≡ 0
    → w.number ≡ 0
    -- "the first does not end in a carriage return"
    → ends_with carriage_return first ≡ false
    -- "the tail holds no backtick"
    → holds backtick tail ≡ false
    -- "and begins with neither space nor tab"
    → begins_with space tail ≡ false
    → begins_with tab tail ≡ false
    -- "the second defines no name twice"
    → defines_no_name_twice render second ≡ true
    -- "What remains is exactly the list of the first's links"
    → map (seen second) (remaining (length first) (unresolved render first) (links_held w)) ≡ map (seen first) (links_held v)

-- "any two .. documents read with the same option, whatever output and work areas each call was lent": of each call, how many work numbers
-- and work bytes, and the output
abbrev pub Theorem : Type 0
Theorem =
    (render : ℕ) (first second : List ℕ) (numbers bytes : ℕ) (output : List ℕ) (numbers' bytes' : ℕ) (output' : List ℕ)
    → Keeps render first second (verdict_of first render numbers bytes output) (verdict_of second render numbers' bytes' output')
