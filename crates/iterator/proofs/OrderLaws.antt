-- The links of a document are in order and apart, and their strings are no longer than the document: the scanner's are so (parse, LinksLaws
-- links-of-apart, SizeLaws links-of-measured), collecting puts them down in their order, and resolving only drops some and gives others a
-- destination that one of them has.
-- Assumes nothing.
use Prim.Native.Nat.{ℕ, ◌+◌, ◌<◌, ◌≤◌}
use native.Mathlib.Omega.{arith}
use mathlib.Core.Path.{◌≡◌, refl, subst}
use mathlib.Core.List.{List, [], ◌∷◌, ◌++◌}
use mathlib.Core.Bool.{Bool, true, false}
use lib.Dec.{eqb, ltb}
use lib.ListN.{length, drop, length-take}
use Rattle.parse.specs.Link.{Kind, text2dest, text-label2dest, text2label, label2dest, label2label}
use Rattle.parse.specs.Links.{Placed, links_of}
use Rattle.parse.specs.Laws.{Apart, AllMeasured}
use Rattle.parse.proofs.LinksLaws.{links-of-apart}
use Rattle.parse.proofs.SizeLaws.{links-of-measured}
use Rattle.iterator.specs.Collect.{
  Pair,
  pair,
  Goal,
  destination,
  label,
  Item,
  item,
  Collection,
  Collected,
  collected,
  refused,
  and_then,
  links_max,
  definitions_max,
  definitions,
  with_link,
  with_destination,
  with_alias,
  reference_label,
  with_reference,
  target_name,
  with_target,
  add_link,
  add_destination,
  add_alias,
  add_block,
  add_of,
  add,
  consumed_bytes,
  collect_from,
  collect_all,
  new,
}
use Rattle.iterator.specs.Resolve.{
  Destination,
  has,
  none,
  lookup,
  same,
  Hyperlink,
  resolved_by,
  resolved_item,
  resolve_references,
  resolve_aliases,
  hyperlinks_of,
}
use Rattle.iterator.specs.Inner.{InOrder}
use Rattle.iterator.specs.Laws.{GoalMeasured, Measured, ItemsApart, Standing}
use Rattle.iterator.specs.Reach.{Reaches, stands, follows}
use Rattle.iterator.proofs.RecordLaws.{shown-le}
use Rattle.iterator.proofs.ReachLaws.{sound}

-- Collected links in order and apart: with a later end, with one more behind them, and that the end is not before the start
items-wider : (xs : List Item) (n m k : ℕ) → m ≤ k → ItemsApart n m xs → ItemsApart n k xs
items-wider [] n m k h w = omega arith
items-wider (x ∷ xs) n m k h w = (w.0, w.1, items-wider xs (x.place + x.consumed) m k h w.2)

items-snoc :
    (xs : List Item) (n m : ℕ) (x : Item) → m ≤ x.place → Measured x → ItemsApart n m xs
    → ItemsApart n (x.place + x.consumed) (xs ++ x ∷ [])
items-snoc [] n m x h v w = (omega arith, v, omega arith)
items-snoc (y ∷ xs) n m x h v w = (w.0, w.1, items-snoc xs (y.place + y.consumed) m x h v w.2)

pub items-end : (xs : List Item) (n m : ℕ) → ItemsApart n m xs → n ≤ m
items-end [] n m w = w
items-end (x ∷ xs) n m w = omega (arith, w.0, items-end xs (x.place + x.consumed) m w.2)

-- destinations no longer than m
abbrev PairsShort : ℕ → List Pair → Type 0
PairsShort m [] = Unit {0}
PairsShort m (x ∷ xs) = (length x.to ≤ m) × PairsShort m xs

pairs-wider : (xs : List Pair) (m k : ℕ) → m ≤ k → PairsShort m xs → PairsShort k xs
pairs-wider [] m k h w = tt
pairs-wider (x ∷ xs) m k h w = (omega arith, pairs-wider xs m k h w.1)

pairs-snoc : (xs : List Pair) (m : ℕ) (x : Pair) → length x.to ≤ m → PairsShort m xs → PairsShort m (xs ++ x ∷ [])
pairs-snoc [] m x h w = (h, tt)
pairs-snoc (y ∷ xs) m x h w = (w.0, pairs-snoc xs m x h w.1)

-- what is collected is so, and ends by place m
abbrev Ordered : ℕ → Collection → Type 0
Ordered m c = ItemsApart 0 m c.links × PairsShort m c.label2dest

ordered-wider : (m k : ℕ) (c : Collection) → m ≤ k → Ordered m c → Ordered k c
ordered-wider m k c h w = (items-wider c.links 0 m k h w.0, pairs-wider c.label2dest m k h w.1)

-- or it is a refusal, with a number
abbrev AllOrdered : ℕ → Collected → Type 0
AllOrdered m (collected c) = Ordered m c
AllOrdered m (refused number) = 0 < number

link-ordered :
    (n : ℕ) (x : Item) (c : Collection) → n ≤ x.place → Measured x → Ordered n c
    → AllOrdered (x.place + x.consumed) (add_link x c)
link-ordered n x c h v w = go (ltb (length c.links) links_max)
  where
    go : (t : Bool) → AllOrdered (x.place + x.consumed) (elim t [ true ↦ collected (with_link x c) | false ↦ refused 5 ])
    go true =
        (items-snoc c.links 0 n x h v w.0, pairs-wider c.label2dest n (x.place + x.consumed) (omega arith) w.1)
    go false = omega arith

destination-ordered : (m : ℕ) (x : Pair) (c : Collection) → length x.to ≤ m → Ordered m c → AllOrdered m (add_destination x c)
destination-ordered m x c h w = go (ltb (definitions c) definitions_max)
  where
    go : (t : Bool) → AllOrdered m (elim t [ true ↦ collected (with_destination x c) | false ↦ refused 6 ])
    go true = (w.0, pairs-snoc c.label2dest m x h w.1)
    go false = omega arith

alias-ordered : (m : ℕ) (x : Pair) (c : Collection) → Ordered m c → AllOrdered m (add_alias x c)
alias-ordered m x c w = go (ltb (definitions c) definitions_max)
  where
    go : (t : Bool) → AllOrdered m (elim t [ true ↦ collected (with_alias x c) | false ↦ refused 6 ])
    go true = w
    go false = omega arith

then-destination :
    (m : ℕ) (z : Collected) (x : Pair) → length x.to ≤ m → AllOrdered m z → AllOrdered m (and_then z (add_destination x))
then-destination m (collected c) x h w = destination-ordered m x c h w
then-destination m (refused number) x h w = w

both_ordered :
    (n : ℕ) (x : Item) (y : Pair) (c : Collection) → n ≤ x.place → Measured x → length y.to ≤ x.consumed → Ordered n c
    → AllOrdered (x.place + x.consumed) (and_then (add_link x c) (add_destination y))
both_ordered n x y c h v k w =
    then-destination (x.place + x.consumed) (add_link x c) y (omega arith) (link-ordered n x c h v w)

-- a link p of the scanner, that starts at or after place n
module _
    (render : ℕ)
    (s : List ℕ)
    (n : ℕ)
    (p : Placed)
    (h : n ≤ p.place)
    (z : 0 < p.consumed)
    (f : length p.first ≤ p.consumed)
    (g : length p.second ≤ p.consumed) where
  bytes-measured : length (consumed_bytes s p) ≤ p.consumed
  bytes-measured = omega (arith, length-take p.consumed (drop p.place s))

  block-ordered :
      (name : List ℕ) (c : Collection) → Ordered n c
      → AllOrdered (p.place + p.consumed) (add_block render s p (pair name p.second) c)
  block-ordered name c w =
      go
      (eqb render 1)
      (both_ordered
      n
      (item p (consumed_bytes s p) (destination p.second))
      (pair name p.second)
      c
      h
      (z, bytes-measured, g)
      g
      w)
    where
      go :
          (t : Bool)
          → AllOrdered
          (p.place + p.consumed)
          (and_then (add_link (item p (consumed_bytes s p) (destination p.second)) c) (add_destination (pair name p.second)))
          → AllOrdered
          (p.place + p.consumed)
          (elim t [
            | true ↦
                and_then (add_link (item p (consumed_bytes s p) (destination p.second)) c) (add_destination (pair name p.second))
            | false ↦ add_destination (pair name p.second) c
          ])
      go true v = v
      go false v =
          destination-ordered
          (p.place + p.consumed)
          (pair name p.second)
          c
          (omega arith)
          (ordered-wider n (p.place + p.consumed) c (omega arith) w)

  added-ordered : (k : Kind) (c : Collection) → Ordered n c → AllOrdered (p.place + p.consumed) (add_of k render s p c)
  added-ordered text2dest c w = link-ordered n (item p p.first (destination p.second)) c h (z, f, g) w
  added-ordered text-label2dest c w =
      both_ordered n (item p p.first (destination p.second)) (pair p.first p.second) c h (z, f, g) g w
  added-ordered text2label c w =
      link-ordered n (item p p.first (label (reference_label c p.second))) (with_reference p.second c) h (z, f, tt) w
  added-ordered label2dest c w = block-ordered (target_name c p.first) (with_target p.first c) w
  added-ordered label2label c w =
      alias-ordered
      (p.place + p.consumed)
      (pair (target_name c p.first) p.second)
      (with_target p.first c)
      (ordered-wider n (p.place + p.consumed) (with_target p.first c) (omega arith) w)

collect-ordered :
    (render : ℕ) (s : List ℕ) (ps : List Placed) (n m : ℕ) (c : Collection) → Apart n m ps → AllMeasured ps → Ordered n c
    → AllOrdered m (collect_from render s c ps)
unfolding collect_from
collect-ordered render s [] n m c a b w = ordered-wider n m c a w
collect-ordered render s (p ∷ ps) n m c a b w =
    go
    (add render s p c)
    (added-ordered render s n p a.0 b.0 b.1 b.2 p.kind c w)
    (λ d. collect-ordered render s ps (p.place + p.consumed) m d a.1 b.3)
  where
    go :
        (z : Collected) → AllOrdered (p.place + p.consumed) z
        → ((d : Collection) → Ordered (p.place + p.consumed) d → AllOrdered m (collect_from render s d ps))
        → AllOrdered m (elim z [ collected d ↦ collect_from render s d ps | refused number ↦ refused number ])
    go (collected d) v ih = ih d v
    go (refused number) v ih = v

-- A destination that a name has, or reaches, is one of those that are stored.
lookup-short : (m : ℕ) (name d : List ℕ) (stored : List Pair) → PairsShort m stored → lookup name stored ≡ has d → length d ≤ m
unfolding lookup
lookup-short m name d [] w e = absurd (let z : ◌≡◌ {A = ℕ} 0 1 = cc in omega arith)
lookup-short m name d (x ∷ rest) w e = go (lookup name rest) (lookup-short m name d rest w.1) (same x.name name) e
  where
    go :
        (z : Destination) → (z ≡ has d → length d ≤ m) → (t : Bool)
        → (elim z [ has d ↦ has d | none ↦ elim t [ true ↦ has x.to | false ↦ none ] ]) ≡ has d → length d ≤ m
    go (has y) ih t g = ih g
    go none ih true g = let k : x.to ≡ d = cc in rw (← k) w.0
    go none ih false g = absurd (let z : ◌≡◌ {A = ℕ} 0 1 = cc in omega arith)

reaches-short :
    (m : ℕ) (aliases stored : List Pair) → PairsShort m stored → {name d : List ℕ} → Reaches aliases stored name d → length d ≤ m
reaches-short m aliases stored w {name} {d} (stands e) = lookup-short m name d stored w e
reaches-short m aliases stored w (follows i r) = reaches-short m aliases stored w r

-- from an earlier place on
standing-earlier : (xs : List Hyperlink) (k n m : ℕ) → k ≤ n → Standing n m xs → Standing k m xs
unfolding Standing
standing-earlier [] k n m h w = omega arith
standing-earlier (x ∷ xs) k n m h w = (omega arith, w.1, w.2, w.3)

module _ (m : ℕ) (stored : List Pair) (short : (name d : List ℕ) → lookup name stored ≡ has d → length d ≤ m) where
  resolved-standing : (xs : List Item) (n : ℕ) → ItemsApart n m xs → Standing n m (resolve_references stored xs)
  unfolding Standing resolve_references
  resolved-standing [] n w = w
  resolved-standing (x ∷ xs) n w =
      go x.goal w.1.2 (resolve_references stored xs) (resolved-standing xs (x.place + x.consumed) w.2)
    where
      ends : x.place + x.consumed ≤ m
      ends = items-end xs (x.place + x.consumed) m w.2

      by :
          (d : Destination) → ((y : List ℕ) → d ≡ has y → length y ≤ m) → (rest : List Hyperlink)
          → Standing (x.place + x.consumed) m rest → Standing n m (resolved_by x d rest)
      by (has d) k rest v =
          (w.0, shown-le x.text d m (omega (arith, w.1.1, ends)) (k d refl), k d refl, v)
      by none k rest v = standing-earlier rest n (x.place + x.consumed) m (omega (arith, w.0)) v

      go :
          (g : Goal) → GoalMeasured x.consumed g → (rest : List Hyperlink) → Standing (x.place + x.consumed) m rest
          → Standing n m (resolved_item stored x g rest)
      go (destination d) k rest v = (w.0, omega (arith, w.1.1, ends), omega (arith, k, ends), v)
      go (label name) k rest v = by (lookup name stored) (short name) rest v

-- what a document's links collect
document-ordered : (render : ℕ) (s : List ℕ) → AllOrdered (length s) (collect_all render s (links_of s))
document-ordered render s =
    collect-ordered render s (links_of s) 0 (length s) new (links-of-apart s) (links-of-measured s) (omega arith, tt)

pub refused-number : (render : ℕ) (s : List ℕ) (number : ℕ) → collect_all render s (links_of s) ≡ refused number → 0 < number
refused-number render s number e = subst (AllOrdered (length s)) e (document-ordered render s)

-- what is collected of a document
collected-ordered :
    (render : ℕ) (s : List ℕ) (c : Collection) → collect_all render s (links_of s) ≡ collected c → Ordered (length s) c
collected-ordered render s c e = subst (AllOrdered (length s)) e (document-ordered render s)

pub collected-apart :
    (render : ℕ) (s : List ℕ) (c : Collection) → collect_all render s (links_of s) ≡ collected c → ItemsApart 0 (length s) c.links
collected-apart render s c e = (collected-ordered render s c e).0

-- its links
pub collected-standing :
    (render : ℕ) (s : List ℕ) (c : Collection) → collect_all render s (links_of s) ≡ collected c
    → Standing 0 (length s) (hyperlinks_of c)
collected-standing render s c e =
    let w = collected-ordered render s c e in
    resolved-standing
    (length s)
    (resolve_aliases c.label2label c.label2dest)
    (λ name d f. reaches-short (length s) c.label2label c.label2dest w.1 (sound c.label2label c.label2dest name d f))
    c.links
    0
    w.0

standing-in-order : (xs : List Hyperlink) (n m : ℕ) → Standing n m xs → InOrder n xs
unfolding Standing InOrder
standing-in-order [] n m w = tt
standing-in-order (x ∷ xs) n m w = (w.0, standing-in-order xs (x.place + x.consumed) m w.3)

pub collected-in-order :
    (render : ℕ) (s : List ℕ) (c : Collection) → collect_all render s (links_of s) ≡ collected c → InOrder 0 (hyperlinks_of c)
collected-in-order render s c e = standing-in-order (hyperlinks_of c) 0 (length s) (collected-standing render s c e)
