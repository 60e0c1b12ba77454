-- An accepted document is collected, and its links are those that its records hold: every test that refuses it gives another number
-- than 0, and records of links in order, with strings no longer than a document, read back as these.
-- Assumes nothing.
use Rattle.std.proofs.Common.{Option, Some, None}
use Prim.Native.Nat.{ℕ, ◌<◌, ◌≤◌}
use mathlib.Core.Path.{◌≡◌, refl, ap, ◌∙◌}
use mathlib.Core.List.{List}
use mathlib.Core.Bool.{◌||◌}
use native.Mathlib.Omega.{arith}
use lib.Dec.{ltb}
use lib.ListN.{length, take}
use lib.Seq.{take_at}
use borrow.Author.Tests.{ltb-false}
use Rattle.rst_bytes.specs.Domain.{outside_of}
use Rattle.rst_bytes.proofs.TestLaws.{by-test}
use Rattle.parse.specs.Links.{links_of}
use Rattle.parse.specs.Single.{document_len_max}
use Rattle.iterator.specs.Collect.{Collected, collected, refused, collect_all}
use Rattle.iterator.specs.Resolve.{hyperlinks_of}
use Rattle.iterator.specs.Records.{records_of}
use Rattle.iterator.specs.Document.{Verdict, refusal, numbers_min, bytes_min, answered, verdict_of}
use Rattle.iterator.specs.ReadBack.{links_held_in}
use Rattle.iterator.specs.Laws.{Accepted}
use Rattle.iterator.proofs.OrderLaws.{refused-number, collected-standing}
use Rattle.iterator.proofs.ReadBackLaws.{links-held}

module _ (render : ℕ) (s o : List ℕ) where
  -- a verdict that accepts
  abbrev Accepts : Verdict → Type 0
  Accepts v = v.number ≡ 0 → Accepted render s v

  refusal-not : (number n : ℕ) → 0 < number → Accepts (refusal number n o)
  refusal-not number n h e = absurd (omega arith)

  handed-accepts :
      length s ≤ 16384 → (z : Collected) → collect_all render s (links_of s) ≡ z → Accepts (answered z o)
  handed-accepts h (refused number) e = refusal-not number 0 (refused-number render s number e)
  handed-accepts h (collected c) e =
      by-test
      Accepts
      (ltb (length o) (length (records_of (hyperlinks_of c))))
      _
      _
      (λ _. refusal-not 7 (length (records_of (hyperlinks_of c))) (omega arith))
      (λ _ _. record {
        short = h;
        collection = c;
        collects = e;
        records = take_at (records_of (hyperlinks_of c)) _ _ refl;
      })

  pub accepted : (numbers bytes : ℕ) → Accepts (verdict_of s render numbers bytes o)
  unfolding verdict_of
  accepted numbers bytes =
      by-test Accepts (ltb 1 render) _ _ (λ _. refusal-not 1 0 (omega arith))
      (λ _. by-test Accepts (ltb document_len_max (length s)) _ _ (λ _. refusal-not 2 0 (omega arith))
      (λ f. by-test Accepts (ltb numbers numbers_min || ltb bytes bytes_min) _ _ (λ _. refusal-not 3 0 (omega arith))
      (λ _. read (ltb-false document_len_max (length s) f) (outside_of s))))
    where
      read :
          length s ≤ document_len_max → (z : Option ℕ)
          → Accepts (elim z [ Some n ↦ refusal 4 n o | None ↦ answered (collect_all render s (links_of s)) o ])
      read h (Some n) = refusal-not 4 n (omega arith)
      read h None = handed-accepts h (collect_all render s (links_of s)) refl

-- the links that its records hold are those of what it collects
pub accepted-held :
    (render : ℕ) (s : List ℕ) (v : Verdict) (a : Accepted render s v)
    → links_held_in (take v.bytes v.output) ≡ hyperlinks_of a.collection
accepted-held render s v a =
    ap links_held_in a.records
    ∙ links-held (hyperlinks_of a.collection) (length s) (omega (arith, a.short)) (collected-standing render s a.collection a.collects)
