-- A link that was found: what its row is, that it can be added, and that adding the row is adding the link.
-- Assumes nothing.
use Prim.Native.Nat.{ℕ, ◌+◌, ◌≤◌}
use native.Mathlib.Omega.{arith}
use mathlib.Core.Path.{◌≡◌, refl, sym, ap, subst⁻¹, ◌∙◌}
use mathlib.Core.List.{List}
use lib.ListN.{take, drop}
use lib.Seq.{drop-drop}
use Rattle.restructured_text.specs.Strings.{part}
use Rattle.parse.specs.declared.Link.{Link}
use Rattle.parse.specs.declared.Link.TheVariants.{Text2Dest, TextLabel2Dest, Text2Label, Label2Dest, Label2Label}
use Rattle.parse.specs.Link.{Kind, text2dest, text-label2dest, found, LinkEnds, link_of}
use Rattle.parse.specs.Links.{Placed}
use Rattle.parse.specs.Inner.{first_of, second_of, link_end}
use Rattle.iterator.specs.declared.rows.PairRow.{PairRow}
use Rattle.iterator.specs.declared.rows.LinkRow.{LinkRow}
use Rattle.iterator.specs.declared.collect.MarkupLinkCollection.{MarkupLinkCollection}
use Rattle.iterator.specs.Collect.{add_of, add}
use Rattle.iterator.specs.Rows.{pair_rows, link_rows, destinations_at, aliases_at}
use Rattle.iterator.specs.Inner.{Step, StepHeld, collection_of, step_of, link_added, with_link_row, both_added, with_both_rows, Addable, placed_of, kind_of, skipped_by, consumed_by, row_of, read_to, Scannable, placed_behind, AddsScanned}
use Rattle.iterator.proofs.RowsLaws.{pairs-within-wider, links-within-wider}
use Rattle.iterator.proofs.CollectLaws.{held-wider, step_by, step-held-by, link-step, link-step-held, both-step, both-step-held}

-- a link by its parts
pub link-is :
    (x : Link) (w : List ℕ) → link_of x w ≡ found (kind_of x) (part (first_of x) w) (part (second_of x) w) (skipped_by x) (consumed_by x)
link-is (Text2Dest a b m n) w = refl
link-is (TextLabel2Dest a b m n) w = refl
link-is (Text2Label a b m n) w = refl
link-is (Label2Dest a b m n) w = refl
link-is (Label2Label a b m n) w = refl

pub end_is : (x : Link) → link_end x ≡ skipped_by x + consumed_by x
end_is (Text2Dest a b m n) = refl
end_is (TextLabel2Dest a b m n) = refl
end_is (Text2Label a b m n) = refl
end_is (Label2Dest a b m n) = refl
end_is (Label2Label a b m n) = refl

link-ends :
    (x : Link) → LinkEnds x
    → ((first_of x).start + (first_of x).len ≤ consumed_by x) × ((second_of x).start + (second_of x).len ≤ consumed_by x)
link-ends (Text2Dest a b m n) h = h
link-ends (TextLabel2Dest a b m n) h = h
link-ends (Text2Label a b m n) h = h
link-ends (Label2Dest a b m n) h = h
link-ends (Label2Label a b m n) h = h

module _ (t w : List ℕ) (c : MarkupLinkCollection) (x : Link) (p : Scannable t w x c) where
  row-addable : Addable t w (row_of x c) (read_to x c)
  row-addable =
      let k = p.held in
      let e = end_is x in
      let h = link-ends x p.ends in
      let i : link_end x ≤ 16384 = omega (arith, p.inside) in
      record {
        roomy = p.roomy;
        held =
            record {
              tables =
                  record {
                    links-few = k.tables.links-few;
                    names-few = k.tables.names-few;
                    links-within = links-within-wider c.at (c.at + link_end x) c.taken (c.taken + consumed_by x) (link_rows c.links 0 t) (omega arith) (omega arith) k.tables.links-within;
                    destinations-within = pairs-within-wider c.taken (c.taken + consumed_by x) (pair_rows c.label2dest destinations_at t) (omega arith) k.tables.destinations-within;
                    aliases-within = pairs-within-wider c.taken (c.taken + consumed_by x) (pair_rows c.label2label aliases_at t) (omega arith) k.tables.aliases-within;
                  };
              inside = p.inside;
              references-few = k.references-few;
              targets-few = k.targets-few;
              filled = omega (arith, k.filled, e);
            };
        read = omega (arith, e);
        short = omega (arith, e, i);
        text-within = (omega (arith, h.0), omega (arith, h.0, e, i));
        goal-within = (omega (arith, h.1), omega (arith, h.1, e, i));
      }

  -- its strings are those that were found, so adding the row is adding the link
  row-adds :
      (render : ℕ) (s : List ℕ)
      → add_of (kind_of x) render s (placed_of (kind_of x) (row_of x c) w) (collection_of s t w (read_to x c))
      ≡ add render s (placed_behind c.at x (drop c.taken w)) (collection_of s t w c)
  row-adds render s =
      ap
      (λ (z : List ℕ). add_of (kind_of x) render s (found_at z (part (row_of x c).goal w)) (collection_of s t w c))
      (ap (take (first_of x).len) (sym (drop-drop (first_of x).start c.taken w)))
      ∙ ap
      (λ (z : List ℕ). add_of (kind_of x) render s (found_at (part (first_of x) (drop c.taken w)) z) (collection_of s t w c))
      (ap (take (second_of x).len) (sym (drop-drop (second_of x).start c.taken w)))
    where
      found_at : List ℕ → List ℕ → Placed
      found_at y z = record { place = c.at + skipped_by x; kind = kind_of x; first = y; second = z; consumed = consumed_by x }

  -- a step that adds the row adds the link
  module _ (render : ℕ) (t' w' : List ℕ) (r : Step) where
    row-scanned :
        (kind : Kind) → kind_of x ≡ kind
        → ((s : List ℕ) → step_of s t' w' r ≡ add_of kind render s (placed_of kind (row_of x c) w) (collection_of s t w (read_to x c)))
        → StepHeld (read_to x c).at t' r → AddsScanned render c x t w t' w' r
    row-scanned kind e h k =
        record {
          step = λ s. h s ∙ ap (λ (z : Kind). add_of z render s (placed_of z (row_of x c) w) (collection_of s t w (read_to x c))) (sym e) ∙ row-adds render s;
          held = k;
        }

  module _ (render : ℕ) (t' : List ℕ) (r : Step) where
    -- an embedded anonymous link
    row-text2dest :
        kind_of x ≡ text2dest → t' ≡ with_link_row t (read_to x c) (row_of x c) → r ≡ link_added (read_to x c)
        → AddsScanned render c x t w t' w r
    row-text2dest e f g =
        let k = held-wider 0 1 0 0 t (read_to x c) (omega arith) (omega arith) row-addable.held in
        let v = row-addable in
        row-scanned render t' w r text2dest e
        (λ s. step_by s w t' _ r _ f g ∙ link-step t (read_to x c) (row_of x c) p.roomy.0 0 k s w)
        (step-held-by (read_to x c).at t' _ r _ f g (link-step-held t (read_to x c) (row_of x c) p.roomy.0 k (v.read, (v.text-within, v.goal-within))))

    -- an embedded named link
    row-text-label2dest :
        kind_of x ≡ text-label2dest → t' ≡ with_both_rows t (read_to x c) (row_of x c) (record { name = (row_of x c).text; to = (row_of x c).goal })
        → r ≡ both_added (read_to x c) → AddsScanned render c x t w t' w r
    row-text-label2dest e f g =
        let k = held-wider 0 1 0 1 t (read_to x c) (omega arith) (omega arith) row-addable.held in
        let v = row-addable in
        let y : PairRow = record { name = (row_of x c).text; to = (row_of x c).goal } in
        row-scanned render t' w r text-label2dest e
        (λ s. step_by s w t' _ r _ f g ∙ both-step t (read_to x c) (row_of x c) y p.roomy.0 k (v.read, (v.text-within, v.goal-within)) s w)
        (step-held-by (read_to x c).at t' _ r _ f g (both-step-held t (read_to x c) (row_of x c) y p.roomy.0 k (v.read, (v.text-within, v.goal-within)) (v.text-within, v.goal-within)))

  -- the same of the row, and of what is collected, as the code has them
  module _ (row : LinkRow) (d : MarkupLinkCollection) (f : row ≡ row_of x c) (g : d ≡ read_to x c) where
    as_coded : (P : LinkRow → MarkupLinkCollection → Type 0) → P (row_of x c) (read_to x c) → P row d
    as_coded P h = subst⁻¹ (λ (z : LinkRow). P z d) f (subst⁻¹ (P (row_of x c)) g h)

    pub addable : Addable t w row d
    addable = as_coded (Addable t w) row-addable

    pub text2dest-scanned :
        (render : ℕ) (t' : List ℕ) (r : Step) → kind_of x ≡ text2dest → t' ≡ with_link_row t d row → r ≡ link_added d
        → AddsScanned render c x t w t' w r
    text2dest-scanned render t' r e =
        as_coded (λ z y. t' ≡ with_link_row t y z → r ≡ link_added y → AddsScanned render c x t w t' w r) (row-text2dest render t' r e)

    pub text-label2dest-scanned :
        (render : ℕ) (t' : List ℕ) (r : Step) → kind_of x ≡ text-label2dest
        → t' ≡ with_both_rows t d row (record { name = row.text; to = row.goal }) → r ≡ both_added d → AddsScanned render c x t w t' w r
    text-label2dest-scanned render t' r e =
        as_coded
        (λ z y. t' ≡ with_both_rows t y z (record { name = z.text; to = z.goal }) → r ≡ both_added y → AddsScanned render c x t w t' w r)
        (row-text-label2dest render t' r e)
