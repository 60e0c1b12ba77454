-- How many bytes a label has up to the backtick that closes it. Each byte of the line is one more, an escape two; over a line's end it is a space more, and
-- the indent and three spaces, which the text leaves out, count once more.
-- Assumes nothing.
use Rattle.std.proofs.Common.{Option, Some, None}
use Prim.Native.Nat.{ℕ, zero, suc, ◌+◌, ◌-◌, ◌*◌, ◌/◌, ◌<◌, ◌≤◌}
use native.Mathlib.Omega.{arith}
use native.Mathlib.Nat.{suc-mul, zero-mul, mul_comm, le-div_iff_mul-le}
use mathlib.Core.Path.{◌≡◌, refl, sym, ap, subst, subst⁻¹, ◌∙◌}
use mathlib.Core.List.{List, [], ◌∷◌, ◌++◌}
use mathlib.Core.Bool.{Bool, true, false, false≢true}
use lib.Dec.{eqb}
use lib.ListN.{length, drop, length-append}
use borrow.Author.Tests.{ne_eqb, lt-ltb}
use Rattle.std.proofs.lemmas.Bool.{and_parts, or_right}
use Rattle.rst_bytes.specs.Escaped.{is_escapable, taking}
use Rattle.rst_bytes.specs.Line.{not_line_ending_of}
use Rattle.rst_bytes.specs.Tag.{starts_with}
use Rattle.rst_bytes.proofs.EscapedLaws.{refused-taken, taken_is, taken-from, taken-later, taken_back}
use Rattle.rst_bytes.proofs.TagLaws.{starts-append}
use Rattle.rst_bytes.proofs.LineLaws.{ending-none, not-line-ending-le}
use Rattle.restructured_text.specs.Block.{three, further_of}
use Rattle.restructured_text.specs.Delimited.{backticked_of}
use Rattle.restructured_text.specs.Label.{label_len_max}
use Rattle.restructured_text.proofs.DelimitedLaws.{delimited-is}
use Rattle.targetless.specs.declared.verdict.Verdict.{Verdict}
use Rattle.targetless.specs.declared.state.Size.{Size}
use Rattle.targetless.specs.Indents.{Rising}
use Rattle.targetless.specs.Verdict.{joined_of, is_further, Blank, judged_of, either_of, up_to_of, lone_of, Tells, ends_line}
use Rattle.targetless.specs.Runs.{label_run, is_long, no_label, more, ended, SizeOf, Sized}
use Rattle.targetless.proofs.TextLaws.{text-byte, text-end, text-further, line-here, line-stops, further-lf-other, further-none-at, crlf-here, crlf-text}
use Rattle.targetless.proofs.BlankLaws.{space-cases, blank-next, blank-three, blank-joined}
use Rattle.targetless.proofs.VerdictLaws.{judged-lone, judged-up-to, lone_is, tells-either, lf-taken}
use Rattle.targetless.proofs.RunLaws.{taking-alone, taking-byte, taking-here, taking-pair, taking-wrong}

abbrev pub none : Size
none = record { kept = 0; ends = 0 }

-- The texts.
module _ (z : Size) (m : ℕ) where
  size-empty : SizeOf z m []
  unfolding starts_with
  size-empty zero e f = absurd (false≢true f)
  size-empty (suc k) e f = absurd (false≢true f)

  size-alone : (b : ℕ) → eqb b 0x5C ≡ true → SizeOf z m (b ∷ [])
  size-alone b h k e f = absurd (refused-taken k (sym (taking-alone 0x60 0 b h) ∙ e))

  size-wrong : (b c : ℕ) (r : List ℕ) → eqb b 0x5C ≡ true → is_escapable c ≡ false → SizeOf z m (b ∷ c ∷ r)
  size-wrong b c r h g k e f = absurd (refused-taken k (sym (taking-wrong 0x60 0 b c r h g) ∙ e))

  -- a byte that is passed
  size-byte : (b : ℕ) (r : List ℕ) → eqb b 0x5C ≡ false → eqb b 0x60 ≡ false → SizeOf z m r → SizeOf (more z 1) m (b ∷ r)
  size-byte b r h g t k e f =
      let w = taken_back 0x60 0x60 1 r k (sym (taking-byte 0x60 0 b r h g) ∙ e) in
      let y : k ≡ suc (k - 1) = omega (arith, w.0) in
      let u = t (k - 1) w.1 (ap (λ (n : ℕ). starts_with (0x60 ∷ []) (drop n (b ∷ r))) (sym y) ∙ f) in
      omega (arith, w.0, u)

  -- a backslash with the byte that it takes along
  size-pair : (b c : ℕ) (r : List ℕ) → eqb b 0x5C ≡ true → is_escapable c ≡ true → SizeOf z m r → SizeOf (more z 2) m (b ∷ c ∷ r)
  size-pair b c r h g t k e f =
      let w = taken_back 0x60 0x60 2 r k (sym (taking-pair 0x60 0 b c r h g) ∙ e) in
      let y : k ≡ suc (suc (k - 2)) = omega (arith, w.0) in
      let u = t (k - 2) w.1 (ap (λ (n : ℕ). starts_with (0x60 ∷ []) (drop n (b ∷ c ∷ r))) (sym y) ∙ f) in
      omega (arith, w.0, u)

  -- an escaped space: what is counted from it on, and one more
  size-spaced : (b : ℕ) (r : List ℕ) → eqb b 0x5C ≡ true → SizeOf z m (0x20 ∷ r) → SizeOf (more z 1) m (b ∷ 0x20 ∷ r)
  unfolding is_escapable
  size-spaced b r h t k e f =
      let w = taken_back 0x60 0x60 2 r k (sym (taking-pair 0x60 0 b 0x20 r h refl) ∙ e) in
      let y : k ≡ suc (suc (k - 2)) = omega (arith, w.0) in
      let x : 1 + (k - 2) ≡ suc (k - 2) = omega arith in
      let u =
      t (suc (k - 2)) (taking-byte 0x60 0 0x20 r refl refl ∙ taken-later 0x60 0x60 1 r (k - 2) w.1 ∙ ap Some x)
      (ap (λ (n : ℕ). starts_with (0x60 ∷ []) (drop n (b ∷ 0x20 ∷ r))) (sym y) ∙ f) in
      omega (arith, w.0, u)

  -- the backtick that closes it
  size-tick : (b : ℕ) (r : List ℕ) → eqb b 0x5C ≡ false → eqb b 0x60 ≡ true → SizeOf none m (b ∷ r)
  size-tick b r h g k e f =
      let w = taken_is 0 k (sym (taking-here 0x60 0 b r h g) ∙ e) in
      omega (arith, w)

  -- blanks in front
  taking-blanks : (q r : List ℕ) (a : ℕ) → Blank q → taking 0x60 0x60 false a (q ++ r) ≡ taking 0x60 0x60 false (a + length q) r
  taking-blanks [] r a blank =
      let y : a ≡ a + 0 = omega arith in
      ap (λ (n : ℕ). taking 0x60 0x60 false n r) y
  taking-blanks (c ∷ q) r a blank =
      let is = blank 0 (omega arith) in
      let y : a + 1 + length q ≡ a + suc (length q) = omega arith in
      taking-byte 0x60 a c (q ++ r)
      (space-cases (λ b. eqb b 0x5C ≡ false) c is refl refl)
      (space-cases (λ b. eqb b 0x60 ≡ false) c is refl refl)
      ∙ taking-blanks q r (a + 1) (blank-next c q blank)
      ∙ ap (λ (n : ℕ). taking 0x60 0x60 false n r) y

  drop-blanks : (q r : List ℕ) (k : ℕ) → drop (length q + k) (q ++ r) ≡ drop k r
  drop-blanks [] r k =
      let y : 0 + k ≡ k = omega arith in
      ap (λ (n : ℕ). drop n r) y
  drop-blanks (c ∷ q) r k =
      let y : suc (length q) + k ≡ suc (length q + k) = omega arith in
      ap (λ (n : ℕ). drop n (c ∷ q ++ r)) y ∙ drop-blanks q r k

  -- a space, and blanks that the text leaves out
  size-line : (q r : List ℕ) → Blank q → length q ≡ m → SizeOf z m (q ++ r) → SizeOf (ended z) m (0x20 ∷ r)
  size-line q r blank long t k e f =
      let w = taken_back 0x60 0x60 1 r k (sym (taking-byte 0x60 0 0x20 r refl refl) ∙ e) in
      let y : k ≡ suc (k - 1) = omega (arith, w.0) in
      let g : starts_with (0x60 ∷ []) (drop (k - 1) r) ≡ true = ap (λ (n : ℕ). starts_with (0x60 ∷ []) (drop n (0x20 ∷ r))) (sym y) ∙ f in
      let o : 0 + length q ≡ length q = omega arith in
      let u =
      t (length q + (k - 1))
      (taking-blanks q r 0 blank ∙ ap (λ (n : ℕ). taking 0x60 0x60 false n r) o ∙ taken-later 0x60 0x60 (length q) r (k - 1) w.1)
      (ap (starts_with (0x60 ∷ [])) (drop-blanks q r (k - 1)) ∙ g) in
      let x : (z.ends + 1) * m ≡ z.ends * m + m = ap (λ (n : ℕ). n * m) (omega arith) ∙ suc-mul z.ends m in
      omega (arith, w.0, u, x, long)

-- A text.
module _ (z : Size) where
  -- a byte that is passed
  pub sized-byte : (b : ℕ) (l : List ℕ) → ends_line b ≡ false → (b ≡ 0x5C → ⊥) → (b ≡ 0x60 → ⊥) → Sized z l → Sized (more z 1) (b ∷ l)
  sized-byte b l e f g t =
      record {
        kept = omega (arith, t.kept);
        ends = omega (arith, t.ends);
        is = λ indent n blank j.
            let w = text-byte b l e indent n j in
            subst⁻¹ (SizeOf (more z 1) (length indent + 3)) w.2 (size-byte z (length indent + 3) b _ (ne_eqb _ _ f) (ne_eqb _ _ g) (t.is indent w.0 blank w.1));
      }

  -- a backslash before a line's end
  pub sized-line : (c : ℕ) (l : List ℕ) → ends_line c ≡ true → Sized z (c ∷ l) → Sized (more z 1) (0x5C ∷ c ∷ l)
  sized-line c l e t =
      record {
        kept = omega (arith, t.kept);
        ends = omega (arith, t.ends);
        is = λ indent n blank j.
            let w = text-byte 0x5C (c ∷ l) refl indent n j in
            subst⁻¹ (SizeOf (more z 1) (length indent + 3)) w.2 (go indent w.0 (line-stops c l w.0 e w.1) (t.is indent w.0 blank w.1));
      }
    where
      further : (indent : List ℕ) (x : Option (ℕ × ℕ)) → further_of indent (c ∷ l) ≡ x → SizeOf z (length indent + 3) (joined_of indent 0 (c ∷ l)) → SizeOf (more z 1) (length indent + 3) (0x5C ∷ joined_of indent 0 (c ∷ l))
      further indent (Some (a, m)) g v =
          let o = text-further indent (c ∷ l) a m g in
          subst⁻¹ (λ (x : List ℕ). SizeOf (more z 1) (length indent + 3) (0x5C ∷ x)) o (size-spaced z (length indent + 3) 0x5C (joined_of indent m (drop a (c ∷ l))) refl (subst (SizeOf z (length indent + 3)) o v))
      further indent None g v =
          subst⁻¹ (λ (x : List ℕ). SizeOf (more z 1) (length indent + 3) (0x5C ∷ x)) (text-end indent (c ∷ l) g) (size-alone (more z 1) (length indent + 3) 0x5C refl)

      go : (indent : List ℕ) (k : ℕ) → k ≡ 0 → SizeOf z (length indent + 3) (joined_of indent k (c ∷ l)) → SizeOf (more z 1) (length indent + 3) (0x5C ∷ joined_of indent k (c ∷ l))
      go indent k y v =
          subst⁻¹ (λ (x : ℕ). SizeOf (more z 1) (length indent + 3) (0x5C ∷ joined_of indent x (c ∷ l))) y
          (further indent (further_of indent (c ∷ l)) refl (subst (λ (x : ℕ). SizeOf z (length indent + 3) (joined_of indent x (c ∷ l))) y v))

  -- before a byte that it takes along
  pub sized-pair : (c : ℕ) (l : List ℕ) → ends_line c ≡ false → is_escapable c ≡ true → Sized z l → Sized (more z 2) (0x5C ∷ c ∷ l)
  sized-pair c l e g t =
      record {
        kept = omega (arith, t.kept);
        ends = omega (arith, t.ends);
        is = λ indent n blank j.
            let w = text-byte 0x5C (c ∷ l) refl indent n j in
            let y = text-byte c l e indent w.0 w.1 in
            subst⁻¹ (SizeOf (more z 2) (length indent + 3)) (w.2 ∙ ap (λ (x : List ℕ). 0x5C ∷ x) y.2) (size-pair z (length indent + 3) 0x5C c _ refl g (t.is indent y.0 blank y.1));
      }

  -- LF
  pub sized-lf : (l : List ℕ) (m : ℕ) → not_line_ending_of l ≡ Some m → Sized z l → Sized (ended z) (10 ∷ l)
  sized-lf l m line t =
      record {
        kept = omega (arith, t.kept);
        ends = omega (arith, t.ends);
        is = λ indent n blank j.
            subst⁻¹ (λ (k : ℕ). SizeOf (ended z) (length indent + 3) (joined_of indent k (10 ∷ l))) (taken_is n 0 (sym j ∙ line-here l))
            (go indent blank (starts_with (indent ++ three) l) refl);
      }
    where
      go : (indent : List ℕ) → Blank indent → (x : Bool) → starts_with (indent ++ three) l ≡ x → SizeOf (ended z) (length indent + 3) (joined_of indent 0 (10 ∷ l))
      go indent blank true e =
          let q = indent ++ three in
          let w = lf-taken indent l blank m line e in
          subst⁻¹ (SizeOf (ended z) (length indent + 3)) (text-further indent (10 ∷ l) (suc (length q)) w.0 w.2)
          (size-line z (length indent + 3) q (joined_of indent w.0 (drop (length q) l)) (blank-three indent blank) (length-append indent three)
          (subst (SizeOf z (length indent + 3)) (blank-joined indent q l m w.0 (blank-three indent blank) e line w.1) (t.is indent m blank line)))
      go indent blank false e =
          subst⁻¹ (SizeOf (ended z) (length indent + 3)) (text-end indent (10 ∷ l) (further-lf-other indent l e)) (size-empty (ended z) (length indent + 3))

  -- CR LF
  pub sized-cr : (l : List ℕ) → Sized z (10 ∷ l) → Sized z (13 ∷ 10 ∷ l)
  sized-cr l t =
      record {
        kept = omega (arith, t.kept);
        ends = omega (arith, t.ends);
        is = λ indent n blank j.
            subst⁻¹ (λ (k : ℕ). SizeOf z (length indent + 3) (joined_of indent k (13 ∷ 10 ∷ l))) (taken_is n 0 (sym j ∙ crlf-here l))
            (subst⁻¹ (SizeOf z (length indent + 3)) (crlf-text indent l) (t.is indent 0 blank (line-here l)));
      }

  -- a line that is refused
  pub sized-refused : (b : ℕ) (l : List ℕ) → not_line_ending_of (b ∷ l) ≡ None → Sized z l → Sized z (b ∷ l)
  sized-refused b l h t =
      record { kept = omega (arith, t.kept); ends = omega (arith, t.ends); is = λ indent n blank j. absurd (refused-taken n (sym h ∙ j)) }

-- what no label goes on with
none_sized : (s : List ℕ) → ((indent : List ℕ) (n : ℕ) → Blank indent → not_line_ending_of s ≡ Some n → SizeOf none (length indent + 3) (joined_of indent n s)) → Sized none s
none_sized s f = record { kept = omega arith; ends = omega arith; is = f }

-- the backtick
pub sized-tick : (l : List ℕ) → Sized none (0x60 ∷ l)
sized-tick l =
    none_sized (0x60 ∷ l) (λ indent n blank j.
    let w = text-byte 0x60 l refl indent n j in
    subst⁻¹ (SizeOf none (length indent + 3)) w.2 (size-tick none (length indent + 3) 0x60 _ refl refl))

-- a backslash that refuses what it stands in: the last byte, ..
pub sized-last : Sized none (0x5C ∷ [])
sized-last =
    none_sized (0x5C ∷ []) (λ indent n blank j.
    let w = text-byte 0x5C [] refl indent n j in
    let o : w.0 ≡ 0 = omega (arith, not-line-ending-le [] w.0 w.1) in
    subst⁻¹ (SizeOf none (length indent + 3)) (w.2 ∙ ap (λ (k : ℕ). 0x5C ∷ joined_of indent k []) o ∙ ap (λ (x : List ℕ). 0x5C ∷ x) (text-end indent [] (further-none-at indent [] (ending-none [] refl))))
    (size-alone none (length indent + 3) 0x5C refl))

-- .. or before a byte that it may not stand before
pub sized-wrong : (c : ℕ) (l : List ℕ) → ends_line c ≡ false → is_escapable c ≡ false → Sized none (0x5C ∷ c ∷ l)
sized-wrong c l e g =
    none_sized (0x5C ∷ c ∷ l) (λ indent n blank j.
    let w = text-byte 0x5C (c ∷ l) refl indent n j in
    let y = text-byte c l e indent w.0 w.1 in
    subst⁻¹ (SizeOf none (length indent + 3)) (w.2 ∙ ap (λ (x : List ℕ). 0x5C ∷ x) y.2) (size-wrong none (length indent + 3) 0x5C c _ refl g))

-- where no further line can follow
pub sized-none : (s : List ℕ) → not_line_ending_of s ≡ Some 0 → ((indent : List ℕ) → Blank indent → further_of indent s ≡ None) → Sized none s
sized-none s h g =
    none_sized s (λ indent n blank j.
    subst⁻¹ (λ (k : ℕ). SizeOf none (length indent + 3) (joined_of indent k s)) (taken_is n 0 (sym j ∙ h))
    (subst⁻¹ (SizeOf none (length indent + 3)) (text-end indent s (g indent blank)) (size-empty none (length indent + 3))))

-- Labels behind a backtick.
module _ {ranks : List ℕ} (s : List ℕ) (label : Verdict) (z : Size) (t : Tells ranks label_run label s) (q : Sized z s) where
  -- it is too long
  long-text :
      (indent : List ℕ) (n : ℕ) → Blank indent → not_line_ending_of s ≡ Some n → z.ends * (length indent + 3) + 1000 ≤ z.kept
      → is_long (backticked_of false (0x60 ∷ joined_of indent n s)) ≡ true
  long-text indent n blank e h = go (backticked_of false (0x60 ∷ joined_of indent n s)) refl
    where
      go : (x : Option ℕ) → backticked_of false (0x60 ∷ joined_of indent n s) ≡ x → is_long x ≡ true
      go (Some k) g =
          let r = joined_of indent n s in
          let d = delimited-is (0x60 ∷ []) 0x60 0x60 (0x60 ∷ 0x5F ∷ []) (0x60 ∷ r) k g in
          let o : 0 + k ≡ k = omega arith in
          let w = q.is indent n blank e k (taken-from 0x60 0x60 0 r k d.inner ∙ ap Some o) (and_parts _ _ (sym (starts-append (0x60 ∷ []) (0x5F ∷ []) (drop k r)) ∙ d.ends)).0 in
          lt-ltb label_len_max k (omega (arith, h, w))
      go None g = refl

  -- for each indent
  pub label-everywhere : z.ends ≡ 0 → 1000 ≤ z.kept → (v : Verdict) → Tells ranks no_label v s
  label-everywhere a b v =
      record {
        told = λ indent n blank e j.
            let o : z.ends * (length indent + 3) ≡ 0 = ap (λ (x : ℕ). x * (length indent + 3)) a ∙ zero-mul (length indent + 3) in
            or_right (label_run (joined_of indent n s)) _ (long-text indent n blank e (omega (arith, b, o)));
      }

  -- for short ones
  pub label-far : Rising ranks → 0 < z.ends → 1000 ≤ z.kept → Tells ranks no_label (either_of label (lone_of (up_to_of ranks ((z.kept - 1000) / z.ends)) false)) s
  label-far rising a b = tells-either label_run (λ r. is_long (backticked_of false (0x60 ∷ r))) label (lone_of (up_to_of ranks ((z.kept - 1000) / z.ends)) false) s t far
    where
      far : Tells ranks (λ r. is_long (backticked_of false (0x60 ∷ r))) (lone_of (up_to_of ranks ((z.kept - 1000) / z.ends)) false) s
      far = record { told = λ indent n blank e. go indent n blank e (is_further (further_of indent (drop n s))) }
        where
          go :
              (indent : List ℕ) (n : ℕ) → Blank indent → not_line_ending_of s ≡ Some n → (x : Bool) → judged_of ranks (lone_of (up_to_of ranks ((z.kept - 1000) / z.ends)) false) x (length indent) ≡ true
              → is_long (backticked_of false (0x60 ∷ joined_of indent n s)) ≡ true
          go indent n blank e true j =
              let w = judged-up-to ranks rising ((z.kept - 1000) / z.ends) (length indent) (judged-lone ranks (up_to_of ranks ((z.kept - 1000) / z.ends)) false (length indent) j) in
              let y = (le-div_iff_mul-le a).0 w in
              let o = mul_comm (length indent + 3) z.ends in
              long-text indent n blank e (omega (arith, b, y, o))
          go indent n blank e false j = absurd (false≢true (lone_is ranks (up_to_of ranks ((z.kept - 1000) / z.ends)) false (length indent) j))
