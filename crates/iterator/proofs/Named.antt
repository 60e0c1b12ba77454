-- Laws that docs/ names and that no other proof uses now: what all links add at the document's end, what is known behind a link, one more
-- link and then a name, a row read number by number, the fields of a record, two names byte by byte, the rows of looking up, and what is
-- left of the walk through the aliases.
-- Assumes nothing.
use Rattle.std.proofs.lemmas.List.{map_push}
use Prim.Native.Nat.{ℕ, suc, ◌+◌, ◌-◌, ◌*◌, ◌<◌, ◌≤◌}
use native.Mathlib.Omega.{arith}
use mathlib.Core.Path.{◌≡◌, refl, sym, ap, subst, subst⁻¹, ◌∙◌}
use mathlib.Core.List.{List, [], ◌∷◌, ◌++◌, map, append-nil}
use mathlib.Core.Bool.{Bool, true, false, ◌&&◌, true≢false}
use mathlib.Core.Logic.{⊎_elim}
use lib.Dec.{eqb}
use lib.ListN.{length, get_or, take, drop, length-drop, drop_of_length-le}
use lib.Seq.{drop-cons, drop_at, drop-drop, length-take-le}
use borrow.Author.Tests.{eqb-true}
use borrow.Rule.Slice.PartMut.{put_mid, post_of}
use Rattle.std.specs.Prelude.{Result, Ok, Err}
use Rattle.rst_bytes.proofs.Lists.{part-from}
use Rattle.rst_bytes.proofs.TestLaws.{lt-or-le, by-test}
use Rattle.restructured_text.specs.declared.ParseError.{ParseError}
use Rattle.restructured_text.specs.declared.Span.{Span}
use Rattle.restructured_text.specs.Strings.{part}
use Rattle.restructured_text.proofs.PartLaws.{part_length}
use Rattle.parse.specs.declared.Link.{Link}
use Rattle.parse.specs.declared.Known.{Known}
use Rattle.parse.specs.declared.refusal.Refusal.TheVariants as refusals
use Rattle.parse.specs.Forms.{rst}
use Rattle.parse.specs.Inner.{link_end, Holds, TrueBehind}
use Rattle.parse.specs.Links.{links_from}
use Rattle.iterator.specs.declared.rows.PairRow.{PairRow}
use Rattle.iterator.specs.declared.rows.LinkRow.{LinkRow}
use Rattle.iterator.specs.declared.collect.MarkupLinkCollection.{MarkupLinkCollection}
use Rattle.iterator.specs.declared.rows.Table.TheVariants.{Destinations}
use Rattle.iterator.specs.declared.resolve.Walk.{Walk}
use Rattle.iterator.specs.Collect.{collected, collect_from}
use Rattle.iterator.specs.Resolve.{same, has, lookup}
use Rattle.iterator.specs.Rows.{pair_at, pair_rows, pair_of, pairs_of, destinations_at, put_link, text_of, room, PairWithin, PairsWithin}
use Rattle.iterator.specs.Inner.{Step, collection_of, one_link, link_added, with_link_row, name_added, with_name_row, both_added, with_both_rows, left_of, wrap, steps_left, Fields}
use Rattle.iterator.proofs.CollectLaws.{room-some, room-none}
use Rattle.iterator.proofs.RowsLaws.{pairs-snoc, pairs-within-at}
use Rattle.iterator.proofs.ResolveLaws.{lookup-here, lookup-past}
use Rattle.iterator.proofs.TriedLaws.{Tried}
use Rattle.iterator.proofs.WalkLaws as walk
use Rattle.iterator.proofs.WalkLaws.{Walked}
use Rattle.iterator.proofs.RecordLaws.{Writable, text-le}

-- at the end of the document, all is collected
pub end_goes :
    (render : ℕ) (s t w : List ℕ) (c : MarkupLinkCollection) → length s ≤ c.at
    → collected (collection_of s t w c) ≡ collect_from render s (collection_of s t w c) (links_from rst 0 c.at (drop c.at s))
unfolding collect_from links_from
end_goes render s t w c h =
    sym (ap (λ (z : List ℕ). collect_from render s (collection_of s t w c) (links_from rst 0 c.at z)) (drop_of_length-le s {i = c.at} h))

-- what is known behind a link is true of what is read next, with the marks v that were lent from there on
pub next_known :
    (s : List ℕ) (c : MarkupLinkCollection) → c.at ≤ length s → (r : Result Link ParseError) (x : Link) → r ≡ Ok x
    → (known : Known) (m v : List ℕ) → length s ≤ length m → TrueBehind (take (length s - c.at) (drop c.at s)) v known r
    → (n : ℕ) → n ≡ c.at + link_end x → Holds 0 known (drop n (put_mid c.at (length m - c.at) m v)) (drop n s)
next_known s c h r x f known m v l b n g =
    subst (λ (z : List ℕ). Holds 0 known z (drop n s))
    (ap (drop (link_end x)) (sym put_rest) ∙ drop-drop (link_end x) c.at (put_mid c.at (length m - c.at) m v) ∙ ap (λ (z : ℕ). drop z (put_mid c.at (length m - c.at) m v)) (sym g))
    (subst (Holds 0 known (drop (link_end x) v))
    (ap (drop (link_end x)) (part-from s c.at) ∙ drop-drop (link_end x) c.at s ∙ ap (λ (z : ℕ). drop z s) (sym g))
    (subst (TrueBehind (take (length s - c.at) (drop c.at s)) v known) f b))
  where
    put_rest : drop c.at (put_mid c.at (length m - c.at) m v) ≡ v
    put_rest =
        drop_at (take c.at m) (v ++ post_of c.at (length m - c.at) m) c.at (length-take-le c.at m (omega arith))
        ∙ ap (λ (z : List ℕ). v ++ z) (drop_of_length-le (drop c.at m) {i = length m - c.at} (omega (arith, length-drop c.at m)))
        ∙ append-nil v

-- what is collected after a step, or else z; and whether there is such
abbrev next_of : MarkupLinkCollection → Step → MarkupLinkCollection
next_of z (Ok d) = d
next_of z (Err e) = z

abbrev is_next : Step → Bool
is_next (Ok d) = true
is_next (Err e) = false

-- A link was added, and then a name with a destination.
module _ (t : List ℕ) (c : MarkupLinkCollection) (x : LinkRow) (y : PairRow) (r : Step) (t' : List ℕ) (e : r ≡ link_added c) (f : t' ≡ with_link_row t c x) where
  next-few : (d : MarkupLinkCollection) → r ≡ Ok d → c.links < 256
  next-few d g =
      ⊎_elim
      (λ h. h)
      (λ h. absurd (true≢false (ap is_next (sym g ∙ e ∙ room-none c.links (Ok (one_link c)) (Err refusals.Links) h))))
      (lt-or-le c.links 256)

  pub next_one : (d : MarkupLinkCollection) → r ≡ Ok d → d ≡ one_link c
  next_one d g = ap (next_of c) (sym g ∙ e ∙ room-some c.links (Ok (one_link c)) (Err refusals.Links) (next-few d g))

  pub both_some :
      (d : MarkupLinkCollection) (r' : Step) (t'' : List ℕ) → r ≡ Ok d → r' ≡ name_added Destinations d → t'' ≡ with_name_row Destinations t' d y
      → (r' ≡ both_added c) × (t'' ≡ with_both_rows t c x y)
  both_some d r' t'' g h k = (
    h ∙ ap (name_added Destinations) (next_one d g) ∙ sym (room-some c.links (name_added Destinations (one_link c)) (Err refusals.Links) (next-few d g)),
    k
        ∙ ap (λ (z : MarkupLinkCollection). with_name_row Destinations t' z y) (next_one d g)
        ∙ ap (λ (z : List ℕ). with_name_row Destinations z c y) (f ∙ room-some c.links (put_link t (7 * c.links) x) t (next-few d g))
        ∙ sym (room-some c.links (with_name_row Destinations (put_link t (7 * c.links) x) c y) t (next-few d g)),
  )

-- a row read number by number
pub pair_read :
    (t : List ℕ) (n : ℕ)
    → ◌≡◌
    {A = PairRow}
    (record {
      name = record { start = get_or t n 0; len = get_or t (n + 1) 0 };
      to = record { start = get_or t (n + 2) 0; len = get_or t (n + 3) 0 };
    })
    (pair_at t n)
pair_read t n = let e : n + 3 ≡ n + 2 + 1 = omega arith in rw e

-- the fields of a record fit into 15 bits
pub fields_fit : (s w : List ℕ) (x : LinkRow) → Writable s w x → (n : ℕ) → Fields (x.place - n) x.consumed (length (text_of s w x)) (length (part x.goal w))
fields_fit s w x h n =
    let g = part_length x.goal.start x.goal.len w (omega (arith, h.within.1.1.0, h.roomy)) in
    (omega (arith, h.within.0, h.short), (omega (arith, h.within.0, h.short), (omega (arith, text-le s w x h), omega (arith, g, h.within.1.1.1))))

-- the same names: of one length, as many bytes from the start of each; and by the first of each
pub part_same :
    (a b : Span) (w : List ℕ) → a.len ≡ b.len
    → same (take a.len (drop a.start w)) (take a.len (drop b.start w)) ≡ same (part a w) (part b w)
part_same a b w e = ap (λ (k : ℕ). same (part a w) (take k (drop b.start w))) e

pub same_first :
    (w : List ℕ) (m n k : ℕ) → m < length w → n < length w
    → same (take (suc k) (drop m w)) (take (suc k) (drop n w))
    ≡ (eqb (get_or w m 0) (get_or w n 0) && same (take k (drop (suc m) w)) (take k (drop (suc n) w)))
unfolding same
same_first w m n k h g = rw (drop-cons w m 0 h, drop-cons w n 0 g)

-- Looking up, from the last row back: of the first i rows the last is r.
module _ (t w : List ℕ) (name : Span) (i : ℕ) (r : PairRow) where
  last_row :
      0 < i → r ≡ pair_at t (destinations_at + 4 * (i - 1))
      → pairs_of i destinations_at t w ≡ pairs_of (i - 1) destinations_at t w ++ pair_of w r ∷ []
  last_row h e =
      let f : i ≡ (i - 1) + 1 = omega arith in
      ap (λ n. pairs_of n destinations_at t w) f
      ∙ ap (map (pair_of w)) (pairs-snoc (i - 1) destinations_at t)
      ∙ map_push (pair_of w) (pair_rows (i - 1) destinations_at t) (pair_at t (destinations_at + 4 * (i - 1)))
      ∙ ap (λ (x : PairRow). pairs_of (i - 1) destinations_at t w ++ pair_of w x ∷ []) (sym e)

  pub row_same :
      0 < i → r ≡ pair_at t (destinations_at + 4 * (i - 1)) → same (part r.name w) (part name w) ≡ true
      → lookup (part name w) (pairs_of i destinations_at t w) ≡ has (part r.to w)
  row_same h e f =
      ap (lookup (part name w)) (last_row h e) ∙ lookup-here (part name w) (pair_of w r) (pairs_of (i - 1) destinations_at t w) f

  pub row_other :
      0 < i → r ≡ pair_at t (destinations_at + 4 * (i - 1)) → same (part r.name w) (part name w) ≡ false
      → lookup (part name w) (pairs_of i destinations_at t w) ≡ lookup (part name w) (pairs_of (i - 1) destinations_at t w)
  row_other h e f =
      ap (lookup (part name w)) (last_row h e) ∙ lookup-past (part name w) (pair_of w r) (pairs_of (i - 1) destinations_at t w) f

-- a row that is looked at, with its strings in the work bytes
pub row_within :
    (n : ℕ) (t : List ℕ) (i : ℕ) (r : PairRow) → 0 < i → i ≤ n → r ≡ pair_at t (destinations_at + 4 * (i - 1))
    → PairsWithin room (pair_rows n destinations_at t) → PairWithin room r
row_within n t i r h g e b = subst⁻¹ (PairWithin room) e (pairs-within-at room n destinations_at (i - 1) t (omega arith) b)

-- of the walk through the aliases less is left once one is tried
left_same : (v u : Walk) → u ≡ wrap v → steps_left u ≡ steps_left v
left_same v u e =
    ap steps_left e
    ∙ by-test (λ (z : Walk). steps_left z ≡ steps_left v) (eqb v.next v.end) _ _
    (λ f. let g = eqb-true v.next v.end f in omega (arith, g))
    (λ f. refl)

pub walked_on :
    (aliases destinations : ℕ) (t w t' : List ℕ) (v : Walk) → Walked aliases destinations t t' w v → v.misses < left_of v
    → (u : Walk) → u ≡ wrap v → (t'' : List ℕ) (r : Walk) → Tried t' t'' w u r
    → Walked aliases destinations t t'' w r × (steps_left r < steps_left v)
walked_on aliases destinations t w t' v ok k u e t'' r b = (
  walk.walked_on aliases destinations t w t' v ok k u e t'' r b,
  subst (λ n. steps_left r < n) (left_same v u e) b.fewer,
)
