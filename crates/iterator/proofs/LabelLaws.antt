-- A label or a name that is _ is numbered: its number is written behind the bytes that are taken, which stay as they were.
-- Assumes nothing.
use Prim.Native.Nat.{ℕ, ◌+◌, ◌-◌, ◌*◌, ◌≤◌}
use native.Mathlib.Omega.{arith}
use mathlib.Core.Path.{◌≡◌, refl, sym, ap, ◌∙◌}
use mathlib.Core.List.{List, ◌++◌}
use mathlib.Core.Bool.{Bool, true, false}
use lib.ListN.{length, take, length-append}
use lib.Seq.{take_at}
use borrow.Rule.Slice.PartMut.{put_mid}
use Rattle.rst_bytes.proofs.TestLaws.{picks_first}
use Rattle.restructured_text.specs.declared.Span.{Span}
use Rattle.restructured_text.specs.Strings.{part}
use Rattle.restructured_text.proofs.PartLaws.{put-here, put-before}
use Rattle.iterator.specs.declared.counters.Counters.{Counters}
use Rattle.iterator.specs.declared.collect.MarkupLinkCollection.{MarkupLinkCollection}
use Rattle.iterator.specs.Collect.{is_anonymous, numbered}
use Rattle.iterator.specs.Inner.{LabelledBy, reference_numbered, target_numbered}
use Rattle.iterator.proofs.NamesLaws.{numbered-length}

-- y is what comes back behind the bytes that are taken, r how many of it are written
pub numbered-label :
    (a : Span) (next : ℕ × Counters) (c : MarkupLinkCollection) (w y rest : List ℕ) (r : ℕ) → is_anonymous (part a w) ≡ true
    → r ≡ length (numbered next.0) → y ≡ numbered next.0 ++ rest → c.taken ≤ length w
    → LabelledBy a next c w
    (record c { taken = c.taken + r; counters = next.1 })
    (put_mid c.taken (length w - c.taken) w y)
    (record { start = c.taken; len = r })
numbered-label a next c w y rest r e f g h =
    let b = is_anonymous (part a w) in
    record {
      label =
          put-here c.taken (length w - c.taken) w y r h (omega (arith, f, ap length g, length-append (numbered next.0) rest))
          ∙ ap (take r) g
          ∙ take_at (numbered next.0) rest r (sym f)
          ∙ sym (picks_first b (numbered next.0) (part a w) e);
      within = (omega arith, omega (arith, f, numbered-length next.0));
      kept = put-before c.taken (length w - c.taken) w y 0 c.taken (omega arith) h;
      grows = omega arith;
      filled = omega (arith, f, numbered-length next.0, picks_first {A = ℕ} b 4 0 e);
      counters = sym (picks_first b next.1 c.counters e);
      rest = refl;
    }

-- one more is counted, and at most four bytes are taken for it, or nothing
pub record Counted (b : Bool) (before after other other' fill fill' : ℕ) : Type 0 where
  pub counted : after ≡ elim b [ true ↦ before + 1 | false ↦ before ]
  pub same : other' ≡ other
  pub few : after ≤ before + 1
  pub filled : fill' + 4 * before ≤ fill + 4 * after

module _ (k k' : Counters) (fill fill' : ℕ) (next : ℕ × Counters) where
  pub reference-counted :
      next ≡ reference_numbered k → (b : Bool) → k' ≡ elim b [ true ↦ next.1 | false ↦ k ] → fill' ≤ fill + elim b [ true ↦ 4 | false ↦ 0 ]
      → Counted b k.references k'.references k.targets k'.targets fill fill'
  reference-counted g true e f =
      let h = e ∙ ap (λ (z : ℕ × Counters). z.1) g in
      let n : k'.references ≡ k.references + 1 = ap (λ (z : Counters). z.references) h in
      record { counted = n; same = ap (λ (z : Counters). z.targets) h; few = omega arith; filled = omega arith }
  reference-counted g false e f =
      let n : k'.references ≡ k.references = ap (λ (z : Counters). z.references) e in
      record { counted = n; same = ap (λ (z : Counters). z.targets) e; few = omega arith; filled = omega arith }

  pub target-counted :
      next ≡ target_numbered k → (b : Bool) → k' ≡ elim b [ true ↦ next.1 | false ↦ k ] → fill' ≤ fill + elim b [ true ↦ 4 | false ↦ 0 ]
      → Counted b k.targets k'.targets k.references k'.references fill fill'
  target-counted g true e f =
      let h = e ∙ ap (λ (z : ℕ × Counters). z.1) g in
      let n : k'.targets ≡ k.targets + 1 = ap (λ (z : Counters). z.targets) h in
      record { counted = n; same = ap (λ (z : Counters). z.references) h; few = omega arith; filled = omega arith }
  target-counted g false e f =
      let n : k'.targets ≡ k.targets = ap (λ (z : Counters). z.targets) e in
      record { counted = n; same = ap (λ (z : Counters). z.references) e; few = omega arith; filled = omega arith }
