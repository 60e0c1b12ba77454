-- The laws of specs/Single.antt, by the code's tests: which places are refused; how two strings that stand in a scratch are handed
-- over; what the call answers. A scratch as long as the longest document is enough for the scanner and holds what it finds.
-- Assumes nothing.
use Rattle.std.proofs.Common.{Option, Some, None, Result, Ok, Err}
use Rattle.std.specs.Prelude.{is_some, is_ok, MatchResult}
use Rattle.restructured_text.specs.declared.ParseError.{ParseError}
use Rattle.restructured_text.specs.declared.ParseError.TheVariants.{NotFound, NoRoom}
use Prim.Native.Nat.{ℕ, ◌+◌, ◌-◌, ◌<◌, ◌≤◌}
use mathlib.Core.Path.{refl, ◌≡◌, sym, ap, ◌∙◌}
use mathlib.Core.Logic.{◌⊎◌, inl, inr, ⊎_elim}
use lib.Dec.{eqb}
use mathlib.Core.List.{List}
use mathlib.Core.Bool.{Bool, true, false, not, true≢false}
use native.Mathlib.Omega.{arith}
use lib.ListN.{length, take, drop, replicate, length-drop, length-replicate}
use borrow.Author.Tests.{lt-ltb, le-ltb, eq-eqb, ne_eqb}
use Rattle.rst_bytes.specs.Domain.{char_of, outside_of}
use Rattle.rst_bytes.proofs.Lists.{part-from, drop-end}
use Rattle.rst_bytes.proofs.TestLaws.{lt-or-le}
use Rattle.restructured_text.specs.declared.Span.{Span}
use Rattle.parse.specs.declared.Link.{Link}
use Rattle.parse.specs.declared.Link.TheVariants.{Text2Dest, TextLabel2Dest, Text2Label, Label2Dest, Label2Label}
use Rattle.parse.specs.Link.{Scanned, link_of, scanned_of, LinkEnds, lent}
use Rattle.parse.specs.Scan.{scan_of}
use Rattle.parse.specs.Single.{Outcome, refusal, document_len_max, is_inside, is_place, handed, single_of}
use Rattle.parse.specs.Inner.{LinkWithin}
use Rattle.parse.proofs.ScanLaws.{scan-of-within}
use Rattle.parse.proofs.RoundLaws.{lent-enough}

-- What is inside a character.
module _ (s : List ℕ) where
  inside-end : length s ≡ 0 → is_inside s ≡ false
  inside-end e = rw (eq-eqb (length s) 0 e, is_inside)

  inside-starts : (n point : ℕ) → 0 < length s → char_of s ≡ Some (n, point) → is_inside s ≡ false
  inside-starts n point h e = rw (ne_eqb (length s) 0 (λ z. omega arith), e, is_inside)

  inside-nothing : 0 < length s → char_of s ≡ None → is_inside s ≡ true
  inside-nothing h e = rw (ne_eqb (length s) 0 (λ z. omega arith), e, is_inside)

-- A place past the document, at its end, where a character starts, and where none does.
module _ (place : ℕ) (s : List ℕ) where
  pub place-past : length s < place → false ≡ is_place place s
  unfolding is_place
  place-past h = rw (lt-ltb (length s) place h, is_place)

  within : (t : Bool) → place ≤ length s → is_inside (drop place s) ≡ t → is_place place s ≡ not t
  unfolding is_place
  within t h e = rw (le-ltb (length s) place h, e, is_place)

  pub place_end : place ≡ length s → eqb place (length s) ≡ is_place place s
  place_end e = eq-eqb place (length s) e ∙ sym (within false (omega arith) (inside-end (drop place s) (omega (arith, length-drop place s))))

  place-starts : (n point : ℕ) → place < length s → char_of (drop place s) ≡ Some (n, point) → true ≡ is_place place s
  place-starts n point h e = sym (within false (omega arith) (inside-starts (drop place s) n point (omega (arith, length-drop place s)) e))

  place_inside : place < length s → char_of (drop place s) ≡ None → false ≡ is_place place s
  place_inside h e = sym (within true (omega arith) (inside-nothing (drop place s) (omega (arith, length-drop place s)) e))

  -- elsewhere than at the end it is one where a character starts; past it none does
  pub place-else : (place ≡ length s → ⊥) → is_some (char_of (drop place s)) ≡ is_place place s
  unfolding char_of
  place-else h = ⊎_elim past before (lt-or-le (length s) place)
    where
      past : length s < place → is_some (char_of (drop place s)) ≡ is_place place s
      past a = ap (λ (r : List ℕ). is_some (char_of r)) (drop-end s place (omega arith)) ∙ place-past a

      before : place ≤ length s → is_some (char_of (drop place s)) ≡ is_place place s
      before a = go (char_of (drop place s)) refl
        where
          at : place < length s
          at = ⊎_elim (λ b. b) (λ b. absurd (h (omega arith))) (lt-or-le place (length s))

          go : (x : Option (ℕ × ℕ)) → char_of (drop place s) ≡ x → is_some x ≡ is_place place s
          go (Some (n, point)) e = place-starts n point at e
          go None e = place_inside at e

-- a place of the document is not past it
pub place-le : (place : ℕ) (s : List ℕ) → true ≡ is_place place s → place ≤ length s
place-le place s e = go (lt-or-le (length s) place)
  where
    go : (length s < place) ⊎ (place ≤ length s) → place ≤ length s
    go (inl h) = absurd (true≢false (e ∙ sym (place-past place s h)))
    go (inr h) = h

-- The call's answer, by what its tests said.
module _ (s : List ℕ) (place : ℕ) (f g : List ℕ) where
  pub single-long : document_len_max < length s → refusal 2 0 f g ≡ single_of s place f g
  unfolding single_of
  single-long h = rw (lt-ltb document_len_max (length s) h, single_of)

  module _ (h : length s ≤ document_len_max) where
    pub single-outside : (n : ℕ) → outside_of s ≡ Some n → refusal 4 n f g ≡ single_of s place f g
    unfolding single_of
    single-outside n e = rw (le-ltb document_len_max (length s) h, e, single_of)

    pub single-unplaced : outside_of s ≡ None → is_place place s ≡ false → refusal 8 0 f g ≡ single_of s place f g
    unfolding single_of
    single-unplaced e p = rw (le-ltb document_len_max (length s) h, e, p, single_of)

    pub single-scanned :
        (z : Scanned) (o : Outcome) → outside_of s ≡ None → is_place place s ≡ true → scan_of (drop place s) ≡ z → o ≡ handed f g z
        → o ≡ single_of s place f g
    unfolding single_of
    single-scanned z o e p q r = rw (le-ltb document_len_max (length s) h, e, p, q, single_of) r

-- What the scanner found from the place on, by its answer x, which is y: the scratch is n zeros, which is long enough, and was left as d.
pub scan-answered :
    (s : List ℕ) (place n : ℕ) (d : List ℕ) (x y : Result Link ParseError) → length s ≤ n
    → scanned_of x d ≡ lent (take (length s - place) (drop place s)) (replicate n 0) (scan_of (take (length s - place) (drop place s)))
    → x ≡ y → scan_of (drop place s) ≡ scanned_of y d
scan-answered s place n d x y h e f =
    let l : length {A = ℕ} (replicate n 0) ≡ n = length-replicate n 0 in
    let g = lent-enough (drop place s) (replicate n 0) (scan_of (drop place s)) (omega (arith, l, length-drop place s)) in
    g ∙ sym (rw (part-from s place) at e) ∙ ap (λ (z : Result Link ParseError). scanned_of z d) f

-- two spans that end within k bytes, which stand in the document from the place on, end within the n bytes that it has at most
ends-within :
    (a b : Span) (s : List ℕ) (place n m k : ℕ) → length s ≤ n → (0 < k) × (m + k ≤ length (drop place s))
    → (a.start + a.len ≤ k) × (b.start + b.len ≤ k) → (a.start + a.len ≤ n) × (b.start + b.len ≤ n)
ends-within a b s place n m k h v w = (omega (arith, length-drop place s), omega (arith, length-drop place s))

-- what `x.map_err(f)?` goes on with, and what it returns where f always gives d
pub mapped :
    {X E D : Type 0} (Q : E → Type 0) (x : Result X E) (r : Result X D) {a : X} → MatchResult x (λ y. r ≡ Ok y) Q → is_ok r ≡ is_ok x → r ≡ Ok a
    → x ≡ Ok a
mapped Q (Ok b) r e h f = cc
mapped Q (Err b) r e h f = absurd (true≢false (sym (ap is_ok f) ∙ h))

pub unmapped : {X E D : Type 0} (x : Result X E) (r : Result X D) {d : D} → is_ok r ≡ is_ok x → r ≡ Err d → (b : E) × (x ≡ Err b)
unmapped (Ok b) r h f = absurd (true≢false (sym h ∙ ap is_ok f))
unmapped (Err b) r h f = (b, refl)

-- where nothing is found, whatever the reason
pub handed-none : (e : ParseError) (f g d : List ℕ) → refusal 9 0 f g ≡ handed f g (scanned_of (Err e) d)
handed-none NotFound f g d = refl
handed-none NoRoom f g d = refl

-- and so the strings of a link that was found
pub link-within : (s : List ℕ) (place : ℕ) (d : List ℕ) (n : ℕ) (x : Link) → length s ≤ n → scan_of (drop place s) ≡ link_of x d → LinkEnds x → LinkWithin n x
link-within s place d n (Text2Dest a b m l) h e w = ends-within a b s place n m l h (scan-of-within (drop place s) _ _ _ m l e) w
link-within s place d n (TextLabel2Dest a b m l) h e w = ends-within a b s place n m l h (scan-of-within (drop place s) _ _ _ m l e) w
link-within s place d n (Text2Label a b m l) h e w = ends-within a b s place n m l h (scan-of-within (drop place s) _ _ _ m l e) w
link-within s place d n (Label2Dest a b m l) h e w = ends-within a b s place n m l h (scan-of-within (drop place s) _ _ _ m l e) w
link-within s place d n (Label2Label a b m l) h e w = ends-within a b s place n m l h (scan-of-within (drop place s) _ _ _ m l e) w
