-- The laws of `specs/Collect.antt` on appended text: LF and a tail behind a document leave what it collects as it was, and add to it at the
-- ends. What is collected of a link depends on the document only by the bytes that the link consumed.
-- Assumes nothing.
use Prim.Native.Nat.{ℕ, ◌+◌, ◌≤◌}
use native.Mathlib.Omega.{arith}
use mathlib.Core.Path.{◌≡◌, refl, ap, sym, subst, ◌∙◌}
use mathlib.Core.List.{List, [], ◌∷◌, ◌++◌, append-nil, append_assoc}
use mathlib.Core.Bool.{Bool, true, false}
use lib.Dec.{eqb, ltb}
use lib.ListN.{length}
use Rattle.rst_bytes.specs.Appending.{Body, Tail}
use Rattle.restructured_text.proofs.PartLaws.{part-append}
use Rattle.parse.specs.Link.{Kind, text2dest, text-label2dest, text2label, label2dest, label2label}
use Rattle.parse.specs.Links.{Placed, links_of}
use Rattle.parse.specs.Laws.{Apart, AllBehind}
use Rattle.parse.proofs.LinksLaws.{links-of-apart}
use Rattle.parse.proofs.AppendingLaws.{links-lf}
use Rattle.iterator.specs.Collect.{
  Pair,
  pair,
  destination,
  label,
  Item,
  item,
  Collection,
  Collected,
  collected,
  refused,
  and_then,
  links_max,
  definitions_max,
  definitions,
  with_link,
  with_destination,
  with_alias,
  reference_label,
  with_reference,
  target_name,
  with_target,
  add_link,
  add_destination,
  add_alias,
  add_block,
  add_of,
  add,
  consumed_bytes,
  collect_from,
  collect_all,
  new,
}
use Rattle.iterator.specs.Laws.{
  ItemsBehind,
  From,
  ends,
  drops,
  takes,
  Begins,
  Grown,
  GrownFrom,
  GrownBehind,
  CollectsOn,
}
use Rattle.iterator.proofs.CollectingLaws.{collect-append}

-- Of links that end within s the same is collected with more behind s, since the bytes that they consumed are the same.

-- what is collected of a link
add-append :
    (k : Kind) (render : ℕ) (s u : List ℕ) (p : Placed) (c : Collection) → p.place + p.consumed ≤ length s
    → add_of k render (s ++ u) p c ≡ add_of k render s p c
add-append text2dest render s u p c h = refl
add-append text-label2dest render s u p c h = refl
add-append text2label render s u p c h = refl
add-append label2dest render s u p c h =
    let y = pair (target_name c p.first) p.second in
    let d = with_target p.first c in
    ap
    (λ (x : List ℕ). elim (eqb render 1) [
      | true ↦ and_then (add_link (item p x (destination p.second)) d) (add_destination y)
      | false ↦ add_destination y d
    ])
    (part-append s u p.place p.consumed h)
add-append label2label render s u p c h = refl

-- links that are apart and end by place m
apart-ends : (n m : ℕ) (ps : List Placed) → Apart n m ps → n ≤ m
apart-ends n m [] a = a
apart-ends n m (p ∷ ps) a =
    let h = apart-ends (p.place + p.consumed) m ps a.1 in
    let g = a.0 in
    omega arith

-- what is collected of the first link, and then of the others
collect-cons :
    (render : ℕ) (s : List ℕ) (c : Collection) (p : Placed) (ps : List Placed)
    → collect_from render s c (p ∷ ps) ≡ and_then (add render s p c) (λ d. collect_from render s d ps)
unfolding collect_from
collect-cons render s c p ps = go (add render s p c)
  where
    go :
        (z : Collected)
        → elim z [ collected d ↦ collect_from render s d ps | refused number ↦ refused number ]
        ≡ and_then z (λ d. collect_from render s d ps)
    go (collected d) = refl
    go (refused number) = refl

-- so is what is collected of all links
collect-within :
    (render : ℕ) (s u : List ℕ) (ps : List Placed) (n : ℕ) (c : Collection) → Apart n (length s) ps
    → collect_from render (s ++ u) c ps ≡ collect_from render s c ps
unfolding collect_from
collect-within render s u [] n c a = refl
collect-within render s u (p ∷ ps) n c a =
    collect-cons render (s ++ u) c p ps
    ∙ go
    (add render (s ++ u) p c)
    (add render s p c)
    (add-append p.kind render s u p c (apart-ends (p.place + p.consumed) (length s) ps a.1))
    (λ d. collect-within render s u ps (p.place + p.consumed) d a.1)
    ∙ sym (collect-cons render s c p ps)
  where
    go :
        (z z' : Collected) → z ≡ z' → ((d : Collection) → collect_from render (s ++ u) d ps ≡ collect_from render s d ps)
        → and_then z (λ d. collect_from render (s ++ u) d ps) ≡ and_then z' (λ d. collect_from render s d ps)
    go z (collected d) e ih = rw e (ih d)
    go z (refused number) e ih = rw e refl

-- what LF and a tail add
pub collect-lf : (render : ℕ) (s t : List ℕ) → Tail t → Body s → CollectsOn render s (s ++ 10 ∷ t)
collect-lf render s t h b =
    let w = links-lf s t h b in
    let d = s ++ 10 ∷ t in
    record {
      more = w.0;
      links = w.1;
      behind = w.2;
      collects =
          ap (collect_from render d new) w.1
          ∙ collect-append render d new (links_of s) w.0
          ∙ ap
          (λ (z : Collected). and_then z (λ c. collect_from render d c w.0))
          (collect-within render s (10 ∷ t) (links_of s) 0 new (links-of-apart s));
    }

-- What is collected grows at its ends

abbrev begins-same : {A : Type 0} (xs : List A) → Begins xs xs
begins-same xs = record { rest = []; is = sym (append-nil xs) }

abbrev begins-more : {A : Type 0} (xs ys : List A) → Begins xs (xs ++ ys)
begins-more xs ys = record { rest = ys; is = refl }

abbrev begins-trans : {A : Type 0} {xs ys zs : List A} → Begins xs ys → Begins ys zs → Begins xs zs
begins-trans {xs = xs} v w =
    record { rest = v.rest ++ w.rest; is = w.is ∙ rw v.is (append_assoc xs v.rest w.rest) }

-- items of no link, of one link, of the links of two lists
from-append : {xs ys : List Item} {ps qs : List Placed} → From xs ps → From ys qs → From (xs ++ ys) (ps ++ qs)
from-append ends w = w
from-append (drops v) w = drops (from-append v w)
from-append (takes e f v) w = takes e f (from-append v w)

-- c grew to z, unless that is a refusal, and the links that z has besides are those of some of the links ps
abbrev GrownTo : List Placed → Collection → Collected → Type 0
GrownTo ps c (collected d) = (g : Grown c d) × From g.0.rest ps
GrownTo ps c (refused number) = Unit {0}

link-grows :
    (p : Placed) (x : Item) (c : Collection) → x.place ≡ p.place → x.consumed ≡ p.consumed
    → GrownTo (p ∷ []) c (add_link x c)
link-grows p x c e f = go (ltb (length c.links) links_max)
  where
    go : (t : Bool) → GrownTo (p ∷ []) c (elim t [ true ↦ collected (with_link x c) | false ↦ refused 5 ])
    go true =
        ((begins-more c.links (x ∷ []), (begins-same c.label2dest, begins-same c.label2label)), takes e f ends)
    go false = tt

destination-grows : (ps : List Placed) (x : Pair) (c : Collection) → From [] ps → GrownTo ps c (add_destination x c)
destination-grows ps x c w = go (ltb (definitions c) definitions_max)
  where
    go : (t : Bool) → GrownTo ps c (elim t [ true ↦ collected (with_destination x c) | false ↦ refused 6 ])
    go true = ((begins-same c.links, (begins-more c.label2dest (x ∷ []), begins-same c.label2label)), w)
    go false = tt

alias-grows : (p : Placed) (x : Pair) (c : Collection) → GrownTo (p ∷ []) c (add_alias x c)
alias-grows p x c = go (ltb (definitions c) definitions_max)
  where
    go : (t : Bool) → GrownTo (p ∷ []) c (elim t [ true ↦ collected (with_alias x c) | false ↦ refused 6 ])
    go true = ((begins-same c.links, (begins-same c.label2dest, begins-more c.label2label (x ∷ []))), drops ends)
    go false = tt

-- what is only counted is no link, name or alias
reference-grows :
    (ps : List Placed) (x : List ℕ) (c : Collection) (z : Collected) → GrownTo ps (with_reference x c) z → GrownTo ps c z
reference-grows ps x c (collected d) v = v
reference-grows ps x c (refused number) v = v

target-grows :
    (ps : List Placed) (x : List ℕ) (c : Collection) (z : Collected) → GrownTo ps (with_target x c) z → GrownTo ps c z
target-grows ps x c (collected d) v = v
target-grows ps x c (refused number) v = v

-- one after the other
then_grows :
    (ps qs : List Placed) (c : Collection) (z : Collected) (f : Collection → Collected) → GrownTo ps c z
    → ((d : Collection) → GrownTo qs d (f d)) → GrownTo (ps ++ qs) c (and_then z f)
then_grows ps qs c (refused number) f v w = tt
then_grows ps qs c (collected d) f v w = go (f d) (w d)
  where
    go : (z : Collected) → GrownTo qs d z → GrownTo (ps ++ qs) c z
    go (refused number) w = tt
    go (collected e) w = (
      (begins-trans v.0.0 w.0.0, (begins-trans v.0.1.0 w.0.1.0, begins-trans v.0.1.1 w.0.1.1)),
      from-append v.1 w.1,
    )

both-grow :
    (p : Placed) (x : Item) (y : Pair) (c : Collection) → x.place ≡ p.place → x.consumed ≡ p.consumed
    → GrownTo (p ∷ []) c (and_then (add_link x c) (add_destination y))
both-grow p x y c e f =
    then_grows (p ∷ []) [] c (add_link x c) (add_destination y) (link-grows p x c e f) (λ d. destination-grows [] y d ends)

block-grows :
    (render : ℕ) (s : List ℕ) (p : Placed) (x : Pair) (c : Collection) → GrownTo (p ∷ []) c (add_block render s p x c)
block-grows render s p x c = go (eqb render 1)
  where
    go :
        (t : Bool)
        → GrownTo
        (p ∷ [])
        c
        (elim t [
          | true ↦ and_then (add_link (item p (consumed_bytes s p) (destination p.second)) c) (add_destination x)
          | false ↦ add_destination x c
        ])
    go true = both-grow p (item p (consumed_bytes s p) (destination p.second)) x c refl refl
    go false = destination-grows (p ∷ []) x c (drops ends)

-- one link of the document more
add-grows : (k : Kind) (render : ℕ) (s : List ℕ) (p : Placed) (c : Collection) → GrownTo (p ∷ []) c (add_of k render s p c)
add-grows text2dest render s p c = link-grows p (item p p.first (destination p.second)) c refl refl
add-grows text-label2dest render s p c =
    both-grow p (item p p.first (destination p.second)) (pair p.first p.second) c refl refl
add-grows text2label render s p c =
    reference-grows
    (p ∷ [])
    p.second
    c
    (add_of text2label render s p c)
    (link-grows p (item p p.first (label (reference_label c p.second))) (with_reference p.second c) refl refl)
add-grows label2dest render s p c =
    target-grows
    (p ∷ [])
    p.first
    c
    (add_of label2dest render s p c)
    (block-grows render s p (pair (target_name c p.first) p.second) (with_target p.first c))
add-grows label2label render s p c =
    target-grows
    (p ∷ [])
    p.first
    c
    (add_of label2label render s p c)
    (alias-grows p (pair (target_name c p.first) p.second) (with_target p.first c))

all-grow : (render : ℕ) (s : List ℕ) (ps : List Placed) (c : Collection) → GrownTo ps c (collect_from render s c ps)
unfolding collect_from
all-grow render s [] c = ((begins-same c.links, (begins-same c.label2dest, begins-same c.label2label)), ends)
all-grow render s (p ∷ ps) c =
    rw (collect-cons render s c p ps)
    (then_grows
    (p ∷ [])
    ps
    c
    (add render s p c)
    (λ d. collect_from render s d ps)
    (add-grows p.kind render s p c)
    (λ d. all-grow render s ps d))

-- The collected links, names and aliases stay, and others may follow; those links are of the links that are added, in their order.
pub collect-grows :
    (render : ℕ) (s : List ℕ) (c : Collection) (ps : List Placed) (d : Collection) → collect_from render s c ps ≡ collected d
    → GrownFrom ps c d
collect-grows render s c ps d e = subst (GrownTo ps c) e (all-grow render s ps c)

from-behind : (p : ℕ) {xs : List Item} {ps : List Placed} → From xs ps → AllBehind p ps → ItemsBehind p xs
from-behind p ends w = tt
from-behind p (drops v) w = from-behind p v w.1
from-behind p (takes e f v) w = (rw e w.0, from-behind p v w.1)

-- so they start behind place p where the links do
collect-behind :
    (p render : ℕ) (s : List ℕ) (c : Collection) (ps : List Placed) (d : Collection) → AllBehind p ps
    → collect_from render s c ps ≡ collected d → GrownBehind p c d
collect-behind p render s c ps d h e =
    let w = collect-grows render s c ps d e in
    (w.0, from-behind p w.1 h)

-- Where document s ++ 10 ∷ t is not refused, neither is s, and its links, names and aliases are those of s, and then others; those
-- links start behind that LF.
pub collected-lf :
    (render : ℕ) (s t : List ℕ) → Tail t → Body s → (d : Collection)
    → collect_all render (s ++ 10 ∷ t) (links_of (s ++ 10 ∷ t)) ≡ collected d
    → (c : Collection) × (collect_all render s (links_of s) ≡ collected c) × GrownBehind (length s) c d
collected-lf render s t h b d e =
    let w = collect-lf render s t h b in
    go (collect_all render s (links_of s)) refl w.more w.behind (sym w.collects ∙ e)
  where
    go :
        (z : Collected) → collect_all render s (links_of s) ≡ z → (u : List Placed) → AllBehind (length s) u
        → and_then z (λ c. collect_from render (s ++ 10 ∷ t) c u) ≡ collected d
        → (c : Collection) × (collect_all render s (links_of s) ≡ collected c) × GrownBehind (length s) c d
    go (collected c) f u v g = (c, f, collect-behind (length s) render (s ++ 10 ∷ t) c u d v g)
    go (refused number) f u v g = absurd (let z : ◌≡◌ {A = ℕ} 0 1 = cc in omega arith)
