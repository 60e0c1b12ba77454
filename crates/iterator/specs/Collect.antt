-- Collecting: "references labelled _ become _1, _2, ..; blocks named _ are numbered likewise by a second counter shared by aliases and
-- destinations. .. Embedded named links are links and also define their text as a name. A later destination of a name replaces the
-- earlier. With render 1, a destination block is also a link whose text is its consumed bytes." "5: a 257th collected link (dropped ones
-- count); 6: a 257th definition (replaced ones count)".
-- Assumes nothing.
use Rattle.std.specs.Prelude.{ℕ, ◌+◌, ◌/◌, ◌%◌, List, [], ◌∷◌, ◌++◌, Bool, true, false, eqb, ltb, length, take, drop}
use Rattle.parse.specs.Link.{Kind, text2dest, text-label2dest, text2label, label2dest, label2label}
use Rattle.parse.specs.Links.{Placed}

-- a name, and what it was given: a destination, or an alias's target
pub record Pair : Type 0 where
  pub name : List ℕ
  pub to : List ℕ

-- where a link goes: to a destination, or to the one that a label has
pub data Goal : Type 0 where
  destination : List ℕ → Goal
  label : List ℕ → Goal

-- a collected link
pub record Item : Type 0 where
  pub place : ℕ
  pub consumed : ℕ
  pub text : List ℕ
  pub goal : Goal

-- what is collected, in the order of reading: links; names with a destination, and aliases; and how many references and how many
-- blocks were numbered
pub record Collection : Type 0 where
  pub links : List Item
  pub label2dest : List Pair
  pub label2label : List Pair
  pub references : ℕ
  pub targets : ℕ

-- what is collected, or the number with which the document is refused
pub data Collected : Type 0 where
  collected : Collection → Collected
  refused : ℕ → Collected

abbrev pub and_then : Collected → (Collection → Collected) → Collected
and_then (collected c) f = f c
and_then (refused number) f = refused number

-- "5: a 257th collected link"
abbrev pub links_max : ℕ
links_max = 256

-- "6: a 257th definition"; "an alias block counts as one definition when collected"
abbrev pub definitions_max : ℕ
definitions_max = 256

abbrev pub with_link : Item → Collection → Collection
with_link x c =
    record {
      links = c.links ++ x ∷ [];
      label2dest = c.label2dest;
      label2label = c.label2label;
      references = c.references;
      targets = c.targets;
    }

abbrev pub with_destination : Pair → Collection → Collection
with_destination x c =
    record {
      links = c.links;
      label2dest = c.label2dest ++ x ∷ [];
      label2label = c.label2label;
      references = c.references;
      targets = c.targets;
    }

abbrev pub with_alias : Pair → Collection → Collection
with_alias x c =
    record {
      links = c.links;
      label2dest = c.label2dest;
      label2label = c.label2label ++ x ∷ [];
      references = c.references;
      targets = c.targets;
    }

abbrev pub definitions : Collection → ℕ
definitions c = length c.label2dest + length c.label2label

abbrev pub add_link : Item → Collection → Collected
add_link x c = elim (ltb (length c.links) links_max) [ true ↦ collected (with_link x c) | false ↦ refused 5 ]

abbrev pub add_destination : Pair → Collection → Collected
add_destination x c = elim (ltb (definitions c) definitions_max) [ true ↦ collected (with_destination x c) | false ↦ refused 6 ]

abbrev pub add_alias : Pair → Collection → Collected
add_alias x c = elim (ltb (definitions c) definitions_max) [ true ↦ collected (with_alias x c) | false ↦ refused 6 ]

-- the last decimal digit
abbrev pub digit : ℕ → ℕ
digit n = 0x30 + n % 10

-- the decimal digits of a number below 1,000; no number above 257 is given
unfoldable pub decimal : ℕ → List ℕ
decimal n =
    elim (ltb n 10) [
      | true ↦ digit n ∷ []
      | false ↦ elim (ltb n 100) [ true ↦ digit (n / 10) ∷ digit n ∷ [] | false ↦ digit (n / 100) ∷ digit (n / 10) ∷ digit n ∷ [] ]
    ]

-- "_1, _2, .."
abbrev pub numbered : ℕ → List ℕ
numbered n = 0x5F ∷ decimal n

-- whether a label or a name is _
unfoldable pub is_anonymous : List ℕ → Bool
is_anonymous [] = false
is_anonymous (b ∷ []) = eqb b 0x5F
is_anonymous (b ∷ c ∷ rest) = false

-- "references labelled _ become _1, _2, ..": the label, and what is counted then
abbrev pub reference_label : Collection → List ℕ → List ℕ
reference_label c x = elim (is_anonymous x) [ true ↦ numbered (c.references + 1) | false ↦ x ]

abbrev pub with_reference : List ℕ → Collection → Collection
with_reference x c =
    record {
      links = c.links;
      label2dest = c.label2dest;
      label2label = c.label2label;
      references = elim (is_anonymous x) [ true ↦ c.references + 1 | false ↦ c.references ];
      targets = c.targets;
    }

-- "blocks named _ are numbered likewise by a second counter shared by aliases and destinations"
abbrev pub target_name : Collection → List ℕ → List ℕ
target_name c x = elim (is_anonymous x) [ true ↦ numbered (c.targets + 1) | false ↦ x ]

abbrev pub with_target : List ℕ → Collection → Collection
with_target x c =
    record {
      links = c.links;
      label2dest = c.label2dest;
      label2label = c.label2label;
      references = c.references;
      targets = elim (is_anonymous x) [ true ↦ c.targets + 1 | false ↦ c.targets ];
    }

abbrev pub pair : List ℕ → List ℕ → Pair
pair name to = record { name = name; to = to }

abbrev pub item : Placed → List ℕ → Goal → Item
item p text goal = record { place = p.place; consumed = p.consumed; text = text; goal = goal }

-- "a link whose text is its consumed bytes"
abbrev pub consumed_bytes : List ℕ → Placed → List ℕ
consumed_bytes s p = take p.consumed (drop p.place s)

-- a destination block: "with render 1 .. also a link"
abbrev pub add_block : ℕ → List ℕ → Placed → Pair → Collection → Collected
add_block render s p x c =
    elim (eqb render 1) [
      | true ↦ and_then (add_link (item p (consumed_bytes s p) (destination p.second)) c) (add_destination x)
      | false ↦ add_destination x c
    ]

-- one link of document s more
abbrev pub add_of : Kind → ℕ → List ℕ → Placed → Collection → Collected
add_of text2dest render s p c = add_link (item p p.first (destination p.second)) c
add_of text-label2dest render s p c =
    and_then (add_link (item p p.first (destination p.second)) c) (add_destination (pair p.first p.second))
add_of text2label render s p c = add_link (item p p.first (label (reference_label c p.second))) (with_reference p.second c)
add_of label2dest render s p c = add_block render s p (pair (target_name c p.first) p.second) (with_target p.first c)
add_of label2label render s p c = add_alias (pair (target_name c p.first) p.second) (with_target p.first c)

abbrev pub add : ℕ → List ℕ → Placed → Collection → Collected
add render s p c = add_of p.kind render s p c

-- one after the other: "5 or 6 as reading meets them"
unfoldable pub collect_from : ℕ → List ℕ → Collection → List Placed → Collected
collect_from render s c [] = collected c
collect_from render s c (p ∷ rest) = elim (add render s p c) [ collected d ↦ collect_from render s d rest | refused number ↦ refused number ]

-- nothing yet
abbrev pub new : Collection
new = record { links = []; label2dest = []; label2label = []; references = 0; targets = 0 }

-- all links of document s
abbrev pub collect_all : ℕ → List ℕ → List Placed → Collected
collect_all render s links = collect_from render s new links
