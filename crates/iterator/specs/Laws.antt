-- What the laws speak of: the links of a document stand in order and apart; what is collected grows at its ends only, and what LF and a
-- tail behind a document add starts behind that LF.
-- Assumes nothing.
use Rattle.std.specs.Prelude.{ℕ, ◌+◌, ◌<◌, ◌≤◌, ◌≡◌, List, [], ◌∷◌, ◌++◌, length, take}
use Rattle.parse.specs.Links.{Placed, links_of}
use Rattle.parse.specs.Laws.{AllBehind}
use Rattle.iterator.specs.Collect.{Goal, destination, label, Item, Collection, collected, and_then, collect_from, collect_all}
use Rattle.iterator.specs.Resolve.{Hyperlink, hyperlinks_of}
use Rattle.iterator.specs.Records.{records_of}
use Rattle.iterator.specs.Document.{Verdict}

-- a destination is no longer than n; of a label nothing is said
abbrev pub GoalMeasured : ℕ → Goal → Type 0
GoalMeasured n (destination d) = length d ≤ n
GoalMeasured n (label name) = Unit {0}

-- a collected link of at least one byte, whose text is no longer than what it consumed, nor is its destination if it has one
abbrev pub Measured : Item → Type 0
Measured x = (0 < x.consumed) × (length x.text ≤ x.consumed) × GoalMeasured x.consumed x.goal

-- such links in order and apart, as `Apart` says it of what is scanned: the first starts at or after place n, and all end by place m
abbrev pub ItemsApart : ℕ → ℕ → List Item → Type 0
ItemsApart n m [] = n ≤ m
ItemsApart n m (x ∷ xs) = (n ≤ x.place) × (Measured x) × ItemsApart (x.place + x.consumed) m xs

-- links in order and apart, whose strings are no longer than m: the first starts at or after place n, and all end by place m
unfoldable pub Standing : ℕ → ℕ → List Hyperlink → Type 0
Standing n m [] = n ≤ m
Standing n m (x ∷ rest) =
    (n ≤ x.place) × (length x.text ≤ m) × (length x.dest ≤ m) × Standing (x.place + x.consumed) m rest

-- document s is accepted with verdict v: it is collected, and the records of its links are the first bytes of the output
pub record Accepted (render : ℕ) (s : List ℕ) (v : Verdict) : Type 0 where
  pub short : length s ≤ 16384
  pub collection : Collection
  pub collects : collect_all render s (links_of s) ≡ collected collection
  pub records : take v.bytes v.output ≡ records_of (hyperlinks_of collection)

-- every collected link starts behind place p
abbrev pub ItemsBehind : ℕ → List Item → Type 0
ItemsBehind p [] = Unit {0}
ItemsBehind p (x ∷ xs) = (p < x.place) × ItemsBehind p xs

-- The collected links are those of some of the links ps, in their order, each with its place and what it consumed.
pub data From : List Item → List Placed → Type 0 where
  ends : From [] []
  drops : {p : Placed} {xs : List Item} {ps : List Placed} → From xs ps → From xs (p ∷ ps)
  takes :
      {x : Item} {p : Placed} {xs : List Item} {ps : List Placed} → x.place ≡ p.place → x.consumed ≡ p.consumed → From xs ps
      → From (x ∷ xs) (p ∷ ps)

-- zs is xs and then some more
pub record Begins {A : Type 0} (xs zs : List A) : Type 0 where
  pub rest : List A
  pub is : zs ≡ xs ++ rest

-- the links, the names and the aliases of d begin with those of c
abbrev pub Grown : Collection → Collection → Type 0
Grown c d =
    Begins c.links d.links × (Begins c.label2dest d.label2dest × Begins c.label2label d.label2label)

-- so it is, and the links that d has besides are those of some of the links ps
abbrev pub GrownFrom : List Placed → Collection → Collection → Type 0
GrownFrom ps c d = (g : Grown c d) × From g.0.rest ps

-- so it is, and they start behind place p
abbrev pub GrownBehind : ℕ → Collection → Collection → Type 0
GrownBehind p c d = (g : Grown c d) × ItemsBehind p g.0.rest

-- of two documents: the links of s' are those of s and then links that start behind the end of s; and what s' collects is what s
-- collects, with its counters, and then what those links add
pub record CollectsOn (render : ℕ) (s s' : List ℕ) : Type 0 where
  pub more : List Placed
  pub links : links_of s' ≡ links_of s ++ more
  pub behind : AllBehind (length s) more
  pub collects :
      collect_all render s' (links_of s')
      ≡ and_then (collect_all render s (links_of s)) (λ c. collect_from render s' c more)
