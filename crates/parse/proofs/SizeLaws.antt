-- The strings of a link that the scanner finds are no longer than what the link consumed, for any forms whose links are so; so are
-- those of all links of a text, and whatever length the single-link call answers is at most that of the longest document.
-- Assumes nothing.
use Rattle.std.proofs.Common.{Option, Some, None}
use Prim.Native.Nat.{ℕ, zero, suc, ◌+◌, ◌-◌, ◌≤◌}
use native.Mathlib.Omega.{arith}
use mathlib.Core.Path.{◌≡◌, refl, subst}
use mathlib.Core.List.{List, [], ◌∷◌}
use mathlib.Core.Bool.{Bool, true, false, ◌||◌}
use lib.Dec.{ltb}
use lib.ListN.{length, drop, length-drop}
use borrow.Author.Tests.{ltb-false}
use Rattle.rst_bytes.specs.Domain.{outside_of}
use Rattle.rst_bytes.specs.Line.{space1_of}
use Rattle.rst_bytes.proofs.TestLaws.{by-test}
use Rattle.rst_bytes.proofs.DomainLaws.{outside-within}
use Rattle.restructured_text.specs.Strings.{Link, link, none, no_room}
use Rattle.restructured_text.proofs.InlineLaws.{text2dest-consumed, text-label2dest-consumed, text2label-consumed}
use Rattle.restructured_text.proofs.TargetLaws.{label2dest-consumed, label2label-consumed}
use Rattle.parse.specs.Link.{Kind, Scanned, found, nothing, behind, or_else}
use Rattle.parse.specs.Forms.{Form, Forms, tried, rst}
use Rattle.parse.specs.Scan.{Round, ends, passes, later, lfs_of, block_at, opening_of, reference_at, followed}
use Rattle.parse.specs.Scan.{inline_at, passed_of, text_round, blank_round, line_round, round_of, rounds, scan_with, scan_of}
use Rattle.parse.specs.Links.{links_from, links_of}
use Rattle.parse.specs.Single.{Outcome, refusal, document_len_max, is_place, handed, single_of}
use Rattle.parse.specs.Laws.{Inside, AllMeasured}
use Rattle.parse.proofs.ScanLaws.{scan-inside, rst-consuming}
use Rattle.parse.proofs.LinksLaws.{links_in}

-- both strings are no longer than what was consumed
abbrev Sized : Scanned → Type 0
Sized (found k x y skipped consumed) = (length x ≤ consumed) × (length y ≤ consumed)
Sized nothing = Unit {0}
Sized Scanned.no_room = Unit {0}

abbrev RoundSized : Round → Type 0
RoundSized (ends x) = Sized x
RoundSized (passes n) = Unit {0}

-- so is each link that a form of the list finds
abbrev AllSized : List Form → Type 0
AllSized [] = Unit {0}
AllSized (f ∷ fs) =
    ((s x y : List ℕ) (n : ℕ) → f.parser s ≡ link x y n → (length x ≤ n) × (length y ≤ n)) × AllSized fs

behind-sized : (n : ℕ) (x : Scanned) → Sized x → Sized (behind n x)
behind-sized n (found k x y i c) w = w
behind-sized n nothing w = tt
behind-sized n Scanned.no_room w = tt

later-sized : (n : ℕ) (r : Round) → RoundSized r → RoundSized (later n r)
later-sized n (ends x) w = behind-sized n x w
later-sized n (passes i) w = tt

else-sized : (x z : Scanned) → Sized x → Sized z → Sized (or_else x z)
else-sized (found k x y i c) z w v = w
else-sized nothing z w v = v
else-sized Scanned.no_room z w v = tt

tried-sized : (fs : List Form) → AllSized fs → (s : List ℕ) → Sized (tried fs s)
tried-sized [] c s = tt
tried-sized (f ∷ fs) c s = go (f.parser s) refl (tried-sized fs c.1 s)
  where
    go :
        (z : Link) → f.parser s ≡ z → Sized (tried fs s)
        → Sized (elim z [ link x y n ↦ found f.kind x y 0 n | none ↦ tried fs s | no_room ↦ tried fs s ])
    go (link x y n) e w = c.0 s x y n e
    go none e w = w
    go no_room e w = w

module _ (forms : Forms) (b : AllSized forms.blocks) (i : AllSized forms.embedded) (r : AllSized forms.references) where
  block-sized : (line : Bool) (s : List ℕ) → Sized (block_at forms line s)
  block-sized true s = tried-sized forms.blocks b s
  block-sized false s = tt

  reference-sized : (spaced : Bool) (s : List ℕ) → Sized (reference_at forms spaced s)
  reference-sized true s =
      let rest = drop (opening_of s) s in
      behind-sized (opening_of s) (tried forms.references rest) (tried-sized forms.references r rest)
  reference-sized false s = tt

  followed-sized : (s : List ℕ) (x : Scanned) → Sized x → Sized (followed forms s x)
  followed-sized s (found k x y m n) w = (omega arith, omega arith)
  followed-sized s nothing w = tt
  followed-sized s Scanned.no_room w = tt

  inline-sized : (spaced : Bool) (s : List ℕ) → Sized (inline_at forms spaced s)
  unfolding inline_at
  inline-sized spaced s =
      followed-sized s (or_else (tried forms.embedded s) (reference_at forms spaced s))
      (else-sized (tried forms.embedded s) (reference_at forms spaced s) (tried-sized forms.embedded i s) (reference-sized spaced s))

  passed-sized : (s : List ℕ) → RoundSized (passed_of s)
  unfolding passed_of
  passed-sized [] = tt
  passed-sized (b ∷ s) = tt

  text-sized : (spaced : Bool) (s : List ℕ) → RoundSized (text_round forms spaced s)
  unfolding text_round
  text-sized spaced s = go (inline_at forms spaced s) (inline-sized spaced s)
    where
      go :
          (z : Scanned) → Sized z
          → RoundSized (elim z [ found k x y m n ↦ ends (found k x y m n) | nothing ↦ passed_of s | Scanned.no_room ↦ ends Scanned.no_room ])
      go (found k x y m n) w = w
      go nothing w = passed-sized s
      go Scanned.no_room w = tt

  blank-sized : (line : Bool) (s : List ℕ) → RoundSized (blank_round forms line s)
  unfolding blank_round
  blank-sized line s = go (space1_of s)
    where
      go : (z : Option ℕ) → RoundSized (elim z [ Some n ↦ later n (text_round forms true (drop n s)) | None ↦ text_round forms line s ])
      go (Some n) = later-sized n (text_round forms true (drop n s)) (text-sized true (drop n s))
      go None = text-sized line s

  line-sized : (line : Bool) (s : List ℕ) → RoundSized (line_round forms line s)
  unfolding line_round
  line-sized line s = go (block_at forms line s) (block-sized line s)
    where
      go :
          (z : Scanned) → Sized z
          → RoundSized (elim z [ found k x y m n ↦ ends (found k x y m n) | nothing ↦ blank_round forms line s | Scanned.no_room ↦ ends Scanned.no_room ])
      go (found k x y m n) w = w
      go nothing w = blank-sized line s
      go Scanned.no_room w = tt

  round-sized : (start : Bool) (s : List ℕ) → RoundSized (round_of forms start s)
  unfolding round_of
  round-sized start s =
      let line = start || ltb 0 (lfs_of s) in
      let rest = drop (lfs_of s) s in
      later-sized (lfs_of s) (line_round forms line rest) (line-sized line rest)

  rounds-sized : (s : List ℕ) (k : ℕ) (start : Bool) (n : ℕ) → Sized (rounds forms k start n s)
  unfolding rounds
  rounds-sized [] zero start n = tt
  rounds-sized [] (suc k) start n = tt
  rounds-sized (b ∷ s) (suc k) start n = rounds-sized s k start (n + 1)
  rounds-sized (b ∷ s) zero start n =
      go (round_of forms start (b ∷ s)) (round-sized start (b ∷ s)) (λ m. rounds-sized s m false (n + 1))
    where
      go :
          (r : Round) → RoundSized r → ((m : ℕ) → Sized (rounds forms m false (n + 1) s))
          → Sized (elim r [ ends x ↦ behind n x | passes m ↦ rounds forms (m - 1) false (n + 1) s ])
      go (ends x) w ih = behind-sized n x w
      go (passes m) w ih = ih (m - 1)

both-sized : (x y : List ℕ) (n : ℕ) → length x + length y ≤ n → (length x ≤ n) × (length y ≤ n)
both-sized x y n h = (omega arith, omega arith)

-- the five forms of reStructuredText
blocks-sized : AllSized rst.blocks
blocks-sized = (
  λ s x y n e. both-sized x y n (label2label-consumed s x y n e).2,
  (λ s x y n e. both-sized x y n (label2dest-consumed s x y n e).2, tt),
)

embedded-sized : AllSized rst.embedded
embedded-sized = (
  λ s x y n e. both-sized x y n (text2dest-consumed s x y n e).2,
  (λ s x y n e. both-sized x y n (text-label2dest-consumed s x y n e).2, tt),
)

references-sized : AllSized rst.references
references-sized = (λ s x y n e. let w = text2label-consumed s x y n e in (w.2, w.3), tt)

scan-sized : (s : List ℕ) → Sized (scan_of s)
unfolding scan_of scan_with
scan-sized s = rounds-sized rst blocks-sized embedded-sized references-sized s 0 true 0

-- the strings of the link that is found
pub scan-of-sized :
    (s : List ℕ) (k : Kind) (x y : List ℕ) (m n : ℕ) → scan_of s ≡ found k x y m n → (length x ≤ n) × (length y ≤ n)
scan-of-sized s k x y m n e = subst Sized e (scan-sized s)

-- and of each link of a text
links-measured : (s : List ℕ) (k n : ℕ) → AllMeasured (links_from rst k n s)
unfolding links_from scan_of
links-measured [] zero n = tt
links-measured [] (suc k) n = tt
links-measured (b ∷ s) (suc k) n = links-measured s k (n + 1)
links-measured (b ∷ s) zero n =
    go
    (scan_with rst (b ∷ s))
    (scan-inside rst rst-consuming (b ∷ s))
    (scan-sized (b ∷ s))
    (λ k. links-measured s k (n + 1))
  where
    go :
        (z : Scanned) → Inside 0 (suc (length s)) z → Sized z → ((k : ℕ) → AllMeasured (links_from rst k (n + 1) s))
        → AllMeasured (links_in rst n s z)
    go (found kind x y skipped consumed) w v ih = (w.1, v.0, v.1, ih (skipped + consumed - 1))
    go nothing w v ih = tt
    go Scanned.no_room w v ih = tt

pub links-of-measured : (s : List ℕ) → AllMeasured (links_of s)
unfolding links_of
links-of-measured s = links-measured s 0 0

-- every length and place that the single-link call answers is at most that of the longest document
abbrev pub Small : Outcome → Type 0
Small o =
    (o.bytes ≤ document_len_max)
    × (o.skipped ≤ document_len_max)
    × (o.consumed ≤ document_len_max)
    × (o.first ≤ document_len_max)
    × (o.second ≤ document_len_max)

refusal-small : (number n : ℕ) (f g : List ℕ) → n ≤ document_len_max → Small (refusal number n f g)
refusal-small number n f g h = (h, omega arith, omega arith, omega arith, omega arith)

handed-small : (m : ℕ) (f g : List ℕ) (z : Scanned) → m ≤ document_len_max → Inside 0 m z → Sized z → Small (handed f g z)
handed-small m f g (found k x y i c) h w v =
    by-test Small (ltb (length f) (length x)) _ _ (λ e. refusal-small 7 (length x) f g (omega arith))
    (λ e. by-test Small (ltb (length g) (length y)) _ _ (λ e. refusal-small 7 (length y) f g (omega arith))
    (λ e. (omega arith, omega arith, omega arith, omega arith, omega arith)))
handed-small m f g nothing h w v = refusal-small 9 0 f g (omega arith)
handed-small m f g Scanned.no_room h w v = refusal-small 9 0 f g (omega arith)

pub single-small : (s : List ℕ) (place : ℕ) (f g : List ℕ) → Small (single_of s place f g)
unfolding single_of scan_of
single-small s place f g =
    by-test Small (ltb document_len_max (length s)) _ _ (λ e. refusal-small 2 0 f g (omega arith))
    (λ e. read (ltb-false document_len_max (length s) e) (outside_of s) refl)
  where
    read :
        length s ≤ document_len_max → (o : Option ℕ) → outside_of s ≡ o
        → Small (elim o [
          | Some n ↦ refusal 4 n f g
          | None ↦ elim (is_place place s) [ true ↦ handed f g (scan_of (drop place s)) | false ↦ refusal 8 0 f g ]
        ])
    read h (Some n) e = refusal-small 4 n f g (omega (arith, outside-within s n e))
    read h None e =
        by-test Small (is_place place s) _ _
        (λ e. let rest = drop place s in
        handed-small (length rest) f g (scan_of rest) (omega (arith, length-drop place s)) (scan-inside rst rst-consuming rest) (scan-sized rest))
        (λ e. refusal-small 8 0 f g (omega arith))
