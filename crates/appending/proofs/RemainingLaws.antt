-- LF and a tail behind a document keep its links: where the longer document defines no name twice, what remains of its links, without
-- those that start in the tail and the references that the first document leaves unresolved, are the first document's links.
-- Assumes nothing.
use Prim.Native.Nat.{ℕ, ◌+◌, ◌<◌, ◌≤◌}
use native.Mathlib.Omega.{arith}
use mathlib.Core.Path.{◌≡◌, refl, ap, sym, subst, ◌∙◌}
use mathlib.Core.List.{List, [], ◌∷◌, ◌++◌, append-nil, append_assoc}
use mathlib.Core.Bool.{Bool, true, false, ◌||◌, or-true}
use lib.Dec.{eqb}
use lib.ListN.{length}
use borrow.Author.Tests.{lt-ltb, le-ltb, eq-eqb, ne_eqb}
use Rattle.rst_bytes.specs.Appending.{Body, Tail}
use Rattle.parse.specs.Links.{links_of}
use Rattle.iterator.specs.Collect.{Pair, Goal, destination, label, Item, Collection, collected, collect_all}
use Rattle.iterator.specs.Resolve.{
  Destination,
  has,
  none,
  lookup,
  resolve_aliases,
  Hyperlink,
  hyperlink,
  shown_of,
  resolved_by,
  resolved_item,
  resolve_references,
  hyperlinks_of,
}
use Rattle.iterator.specs.Laws.{ItemsApart, ItemsBehind, GrownBehind}
use Rattle.iterator.specs.Reach.{once}
use Rattle.appending.specs.Claim.{
  holds,
  defines_once,
  dropped_by,
  dropped_item,
  dropped_in,
  unresolved_of,
  starts_in_tail,
  remaining,
}
use Rattle.iterator.proofs.AppendingLaws.{collected-lf}
use Rattle.iterator.proofs.OnceLaws.{resolved-grows}
use Rattle.iterator.proofs.OrderLaws.{items-end, collected-apart}

-- all of these places are before place k
abbrev Before : ℕ → List ℕ → Type 0
Before k [] = Unit {0}
Before k (p ∷ ps) = (p < k) × Before k ps

before-later : (j k : ℕ) (ps : List ℕ) → j ≤ k → Before j ps → Before k ps
before-later j k [] h w = tt
before-later j k (p ∷ ps) h w = (omega arith, before-later j k ps h w.1)

before-snoc : (k p : ℕ) (ps : List ℕ) → p < k → Before k ps → Before k (ps ++ p ∷ [])
before-snoc k p [] h w = (h, tt)
before-snoc k p (q ∷ ps) h w = (w.0, before-snoc k p ps h w.1)

among-here : (n : ℕ) (ps qs : List ℕ) → holds n (ps ++ n ∷ qs) ≡ true
unfolding holds
among-here n [] qs = rw (eq-eqb n n refl)
among-here n (p ∷ ps) qs = rw (among-here n ps qs) (or-true (eqb p n))

-- a place that is not before k is none of those before k, nor of those behind it
module _ (n : ℕ) where
  among-neither : (p : ℕ) (ps : List ℕ) → (n ≡ p → ⊥) → holds n ps ≡ false → holds n (p ∷ ps) ≡ false
  unfolding holds
  among-neither p ps h e = rw (ne_eqb p n (λ f. h (sym f))) e

  among-before : (k : ℕ) (ps qs : List ℕ) → k ≤ n → Before k ps → holds n qs ≡ false → holds n (ps ++ qs) ≡ false
  among-before k [] qs h w e = e
  among-before k (p ∷ ps) qs h w e = among-neither p (ps ++ qs) (λ f. omega arith) (among-before k ps qs h w.1 e)

  among-behind : (stored : List Pair) (k m : ℕ) (xs : List Item) → n < k → ItemsApart k m xs → holds n (dropped_in stored xs) ≡ false
  unfolding dropped_in holds
  among-behind stored k m [] h w = refl
  among-behind stored k m (x ∷ xs) h w =
      go x.goal (dropped_in stored xs) (among-behind stored (x.place + x.consumed) m xs (omega (arith, w.0)) w.2)
    where
      by : (d : Destination) (rest : List ℕ) → holds n rest ≡ false → holds n (dropped_by x d rest) ≡ false
      by (has d) rest e = e
      by none rest e = among-neither x.place rest (λ f. omega arith) e

      go : (g : Goal) (rest : List ℕ) → holds n rest ≡ false → holds n (dropped_item stored x g rest) ≡ false
      go (destination d) rest e = e
      go (label name) rest e = by (lookup name stored) rest e

-- Whether a link starts in the tail
in_tail : (n : ℕ) (x : Hyperlink) → n < x.place → starts_in_tail n x ≡ true
in_tail n x h = lt-ltb _ x.place (omega arith)

not-in-tail : (n : ℕ) (x : Hyperlink) → x.place ≤ n → starts_in_tail n x ≡ false
not-in-tail n x h = le-ltb _ x.place (omega arith)

-- What remains of one link and the others
module _ (n : ℕ) (places : List ℕ) (x : Hyperlink) (rest : List Hyperlink) where
  by_place :
      (t : Bool) → (starts_in_tail n x || holds x.place places) ≡ t
      → remaining n places (x ∷ rest) ≡ elim t [ true ↦ remaining n places rest | false ↦ x ∷ remaining n places rest ]
  unfolding remaining
  by_place t e =
      ap {B = List Hyperlink} (λ (t : Bool). elim t [ true ↦ remaining n places rest | false ↦ x ∷ remaining n places rest ]) e

  remains : x.place ≤ n → holds x.place places ≡ false → remaining n places (x ∷ rest) ≡ x ∷ remaining n places rest
  remains h e = by_place false (rw (not-in-tail n x h) e)

  left_out : holds x.place places ≡ true → remaining n places (x ∷ rest) ≡ remaining n places rest
  left_out e = by_place true (rw e (or-true (starts_in_tail n x)))

  left_behind : n < x.place → remaining n places (x ∷ rest) ≡ remaining n places rest
  left_behind h = by_place true (rw (in_tail n x h))

remaining-append :
    (n : ℕ) (places : List ℕ) (xs ys : List Hyperlink)
    → remaining n places (xs ++ ys) ≡ remaining n places xs ++ remaining n places ys
unfolding remaining
remaining-append n places [] ys = refl
remaining-append n places (x ∷ xs) ys = go (starts_in_tail n x || holds x.place places) (remaining-append n places xs ys)
  where
    go :
        (t : Bool) → remaining n places (xs ++ ys) ≡ remaining n places xs ++ remaining n places ys
        → elim t [ true ↦ remaining n places (xs ++ ys) | false ↦ x ∷ remaining n places (xs ++ ys) ]
        ≡ (elim t [ true ↦ remaining n places xs | false ↦ x ∷ remaining n places xs ]) ++ remaining n places ys
    go true e = e
    go false e = ap (λ (l : List Hyperlink). x ∷ l) e

references-append :
    (stored : List Pair) (xs ys : List Item)
    → resolve_references stored (xs ++ ys) ≡ resolve_references stored xs ++ resolve_references stored ys
unfolding resolve_references
references-append stored [] ys = refl
references-append stored (x ∷ xs) ys =
    go x.goal (resolve_references stored xs) (resolve_references stored (xs ++ ys)) (references-append stored xs ys)
  where
    by :
        (d : Destination) (l m : List Hyperlink) → m ≡ l ++ resolve_references stored ys
        → resolved_by x d m ≡ resolved_by x d l ++ resolve_references stored ys
    by (has d) l m e = ap (λ (z : List Hyperlink). hyperlink x (shown_of x.text d) d ∷ z) e
    by none l m e = e

    go :
        (g : Goal) (l m : List Hyperlink) → m ≡ l ++ resolve_references stored ys
        → resolved_item stored x g m ≡ resolved_item stored x g l ++ resolve_references stored ys
    go (destination d) l m e = ap (λ (z : List Hyperlink). hyperlink x x.text d ∷ z) e
    go (label name) l m e = by (lookup name stored) l m e

-- nothing of the links behind place n
none-behind :
    (n : ℕ) (places : List ℕ) (stored : List Pair) (xs : List Item) → ItemsBehind n xs
    → remaining n places (resolve_references stored xs) ≡ []
unfolding remaining resolve_references
none-behind n places stored [] w = refl
none-behind n places stored (x ∷ xs) w =
    go x.goal (resolve_references stored xs) (none-behind n places stored xs w.1)
  where
    by :
        (d : Destination) (l : List Hyperlink) → remaining n places l ≡ [] → remaining n places (resolved_by x d l) ≡ []
    by (has d) l e = left_behind n places (hyperlink x (shown_of x.text d) d) l w.0 ∙ e
    by none l e = e

    go :
        (g : Goal) (l : List Hyperlink) → remaining n places l ≡ [] → remaining n places (resolved_item stored x g l) ≡ []
    go (destination d) l e = left_behind n places (hyperlink x x.text d) l w.0 ∙ e
    go (label name) l e = by (lookup name stored) l e

-- Links that are resolved stay, where what they are looked up in keeps what was found; `before` are places of earlier ones.
module _
    (n : ℕ)
    (stored stored' : List Pair)
    (keeps : (name d : List ℕ) → lookup name stored ≡ has d → lookup name stored' ≡ has d) where
  items_kept :
      (xs : List Item) (k : ℕ) (before : List ℕ) → Before k before → ItemsApart k n xs
      → remaining n (before ++ dropped_in stored xs) (resolve_references stored' xs) ≡ resolve_references stored xs
  unfolding remaining resolve_references dropped_in
  items_kept [] k before w r = refl
  items_kept (x ∷ xs) k before w r =
      go
      x.goal
      (items_kept xs (x.place + x.consumed) before earlier r.2)
      (items_kept
      xs
      (x.place + x.consumed)
      (before ++ x.place ∷ [])
      (before-snoc (x.place + x.consumed) x.place before (omega (arith, r.1.0)) earlier)
      r.2)
    where
      earlier : Before (x.place + x.consumed) before
      earlier = before-later k (x.place + x.consumed) before (omega (arith, r.0)) w

      stays :
          (text d : List ℕ)
          → remaining n (before ++ dropped_in stored xs) (resolve_references stored' xs) ≡ resolve_references stored xs
          → remaining n (before ++ dropped_in stored xs) (hyperlink x text d ∷ resolve_references stored' xs)
          ≡ hyperlink x text d ∷ resolve_references stored xs
      stays text d e =
          remains
          n
          (before ++ dropped_in stored xs)
          (hyperlink x text d)
          (resolve_references stored' xs)
          (omega (arith, items-end xs (x.place + x.consumed) n r.2))
          (among-before
          x.place
          k
          before
          (dropped_in stored xs)
          r.0
          w
          (among-behind x.place stored (x.place + x.consumed) n xs (omega (arith, r.1.0)) r.2))
          ∙ ap (λ (l : List Hyperlink). hyperlink x text d ∷ l) e

      goes :
          (d : Destination)
          → remaining n (before ++ x.place ∷ dropped_in stored xs) (resolve_references stored' xs) ≡ resolve_references stored xs
          → remaining n (before ++ x.place ∷ dropped_in stored xs) (resolved_by x d (resolve_references stored' xs))
          ≡ resolve_references stored xs
      goes (has d) e =
          left_out
          n
          (before ++ x.place ∷ dropped_in stored xs)
          (hyperlink x (shown_of x.text d) d)
          (resolve_references stored' xs)
          (among-here x.place before (dropped_in stored xs))
          ∙ e
      goes none e = e

      by :
          (name : List ℕ) (z : Destination) → lookup name stored ≡ z
          → remaining n (before ++ dropped_in stored xs) (resolve_references stored' xs) ≡ resolve_references stored xs
          → remaining n ((before ++ x.place ∷ []) ++ dropped_in stored xs) (resolve_references stored' xs) ≡ resolve_references stored xs
          → remaining
          n
          (before ++ dropped_by x z (dropped_in stored xs))
          (resolved_by x (lookup name stored') (resolve_references stored' xs))
          ≡ resolved_by x z (resolve_references stored xs)
      by name (has d) f e g =
          ap
          (λ (z : Destination). remaining n (before ++ dropped_in stored xs) (resolved_by x z (resolve_references stored' xs)))
          (keeps name d f)
          ∙ stays (shown_of x.text d) d e
      by name none f e g =
          goes (lookup name stored') (rw append_assoc at g)

      go :
          (g : Goal)
          → remaining n (before ++ dropped_in stored xs) (resolve_references stored' xs) ≡ resolve_references stored xs
          → remaining n ((before ++ x.place ∷ []) ++ dropped_in stored xs) (resolve_references stored' xs) ≡ resolve_references stored xs
          → remaining
          n
          (before ++ dropped_item stored x g (dropped_in stored xs))
          (resolved_item stored' x g (resolve_references stored' xs))
          ≡ resolved_item stored x g (resolve_references stored xs)
      go (destination d) e g = stays x.text d e
      go (label name) e g = by name (lookup name stored) refl e g

-- names and aliases that go on with others
stored-keeps :
    (aliases aliases' stored stored' zs ys : List Pair) → aliases' ≡ aliases ++ zs → stored' ≡ stored ++ ys
    → once (stored' ++ aliases') ≡ true → (name d : List ℕ) → lookup name (resolve_aliases aliases stored) ≡ has d
    → lookup name (resolve_aliases aliases' stored') ≡ has d
stored-keeps aliases aliases' stored stored' zs ys e f o name d g =
    rw (e, f) (resolved-grows aliases stored zs ys (rw (e, f) at o) name d g)

-- what is collected, and what it grew to
grown-keeps :
    (n : ℕ) (c d : Collection) → GrownBehind n c d → ItemsApart 0 n c.links → defines_once d ≡ true
    → remaining n (unresolved_of c) (hyperlinks_of d) ≡ hyperlinks_of c
grown-keeps n c d g r o =
    let stored = resolve_aliases c.label2label c.label2dest in
    let stored' = resolve_aliases d.label2label d.label2dest in
    let xs = c.links in
    let more = g.0.0.rest in
    ap (λ (l : List Item). remaining n (unresolved_of c) (resolve_references stored' l)) g.0.0.is
    ∙ ap (remaining n (unresolved_of c)) (references-append stored' xs more)
    ∙ remaining-append n (unresolved_of c) (resolve_references stored' xs) (resolve_references stored' more)
    ∙ ap
    (λ (l : List Hyperlink). remaining n (unresolved_of c) (resolve_references stored' xs) ++ l)
    (none-behind n (unresolved_of c) stored' more g.1)
    ∙ append-nil (remaining n (unresolved_of c) (resolve_references stored' xs))
    ∙ items_kept
    n
    stored
    stored'
    (stored-keeps
    c.label2label
    d.label2label
    c.label2dest
    d.label2dest
    g.0.1.1.rest
    g.0.1.0.rest
    g.0.1.1.is
    g.0.1.0.is
    o)
    xs
    0
    []
    tt
    r

one-collection : {c d : Collection} → collected c ≡ collected d → c ≡ d
one-collection e = cc

-- Of two documents that are not refused, the second of which is the first, LF and a tail, and defines no name twice.
pub appended-keeps :
    (render : ℕ) (s t : List ℕ) → Tail t → Body s → (c d : Collection) → collect_all render s (links_of s) ≡ collected c
    → collect_all render (s ++ 10 ∷ t) (links_of (s ++ 10 ∷ t)) ≡ collected d → defines_once d ≡ true
    → remaining (length s) (unresolved_of c) (hyperlinks_of d) ≡ hyperlinks_of c
appended-keeps render s t h b c d e f o =
    let w = collected-lf render s t h b d f in
    let g : w.0 ≡ c = one-collection (sym w.1 ∙ e) in
    grown-keeps (length s) c d (subst (λ (x : Collection). GrownBehind (length s) x d) g w.2) (collected-apart render s c e) o
