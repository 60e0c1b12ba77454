-- The laws of `specs/Label.antt`: simple labels and references by the code's tests, where text and label stand, and that LF and a
-- tail without a backtick behind the input change nothing: a word ends at LF.
-- Assumes nothing.
use Rattle.std.proofs.Common.{Option, Some, None}
use Rattle.restructured_text.specs.Spans.{Spans}
use Prim.Native.Nat.{ℕ, ◌+◌, ◌-◌, ◌<◌, ◌≤◌}
use native.Mathlib.Omega.{arith}
use mathlib.Core.Path.{◌≡◌, refl, sym, subst, subst⁻¹, ◌∙◌}
use mathlib.Core.List.{List, [], ◌∷◌, ◌++◌}
use mathlib.Core.Bool.{Bool, true, false, ◌&&◌, or-true, and-false}
use mathlib.Core.Logic.{◌⊎◌, inl, inr}
use lib.Dec.{eqb, leb, ltb}
use lib.ListN.{length, drop, take, length-drop}
use lib.Seq.{length-take-le, take-append-le, drop-append-le}
use borrow.Author.Tests.{eq-eqb, ne_eqb, eqb-true, eqb-false, le-leb, lt-leb, leb-true, leb-false, lt-ltb, le-ltb, ltb-true, ltb-false}
use Rattle.rst_bytes.specs.Appending.{free}
use Rattle.rst_bytes.specs.Tag.{starts_with}
use Rattle.rst_bytes.specs.Domain.{char_of, run}
use Rattle.rst_bytes.specs.Word.{is_ascii_word, is_word, in_ranges, word_ranges, word_of}
use Rattle.rst_bytes.proofs.TagLaws.{starts-le}
use Rattle.rst_bytes.proofs.WordLaws.{word-within, word-lf}
use Rattle.restructured_text.specs.declared.Span.{Span}
use Rattle.restructured_text.specs.declared.label.Label.{Label}
use Rattle.restructured_text.specs.Delimited.{ends_with, backticked_of}
use Rattle.restructured_text.specs.Text2target.{text2target_of}
use Rattle.restructured_text.specs.Label.{run_label_of, word_label_of, raw_label_of, label_len_max, simple_label_of, both_of, form_of, parse_text2label_of}
use Rattle.restructured_text.proofs.DelimitedLaws.{ends-le, backticked-within, backticked-lf, starts-underscore}
use Rattle.restructured_text.proofs.Text2targetLaws.{form-none, Apart, text2target-apart, text2target-lf}

-- A run of word characters, by the code's tests: it has w bytes, which are r.
module _ (s r : List ℕ) (w : ℕ) (iw : w ≡ word_of s) (ir : r ≡ take w s) where
  pub word_two : 3 ≤ w → ends_with (0x5F ∷ 0x5F ∷ []) r ≡ true → word_label_of s ≡ Some ((record { start = 0; len = w - 2 }), (w - 1))
  unfolding word_label_of
  word_two h e = simp (← iw, ← ir, le-leb 3 w h, e, run_label_of, word_label_of)

  module _ (n : (w < 3) ⊎ (ends_with (0x5F ∷ 0x5F ∷ []) r ≡ false)) where
    not-two : (leb 3 w && ends_with (0x5F ∷ 0x5F ∷ []) r) ≡ false
    not-two = go n
      where
        go : (w < 3) ⊎ (ends_with (0x5F ∷ 0x5F ∷ []) r ≡ false) → (leb 3 w && ends_with (0x5F ∷ 0x5F ∷ []) r) ≡ false
        go (inl h) = simp (lt-leb 3 w h)
        go (inr e) = simp (e, and-false)

    pub word-one : ends_with (0x5F ∷ []) r ≡ true → word_label_of s ≡ Some ((record { start = 0; len = w - 1 }), w)
    unfolding word_label_of
    word-one e = simp (← iw, ← ir, not-two, e, run_label_of, word_label_of)

    pub word_none : ends_with (0x5F ∷ []) r ≡ false → word_label_of s ≡ None
    unfolding word_label_of
    word_none e = simp (← iw, ← ir, not-two, e, run_label_of, word_label_of)

-- A raw label, in backticks or a word.
pub raw-quoted : (s : List ℕ) (n : ℕ) → backticked_of false s ≡ Some n → raw_label_of s ≡ Some ((record { start = 1; len = n }), (n + 3))
unfolding raw_label_of
raw-quoted s n e = simp (e, raw_label_of)

pub raw_word : (s : List ℕ) → backticked_of false s ≡ None → raw_label_of s ≡ word_label_of s
unfolding raw_label_of
raw_word s e = simp (e, raw_label_of)

-- a backtick is no word character
word-backtick : (r : List ℕ) → word_label_of (0x60 ∷ r) ≡ None
unfolding word_label_of word_of run char_of is_word is_ascii_word in_ranges word_ranges ends_with
word-backtick r = refl

-- A simple label, by the length of the raw one.
pub simple-none : (s : List ℕ) → raw_label_of s ≡ None → simple_label_of s ≡ None
unfolding simple_label_of
simple-none s e = simp (e, simple_label_of)

module _ (s : List ℕ) (l : Label) (n : ℕ) (e : raw_label_of s ≡ Some (l, n)) where
  pub simple-empty : l.len ≡ 0 → simple_label_of s ≡ None
  unfolding simple_label_of
  simple-empty h = simp (e, eq-eqb _ _ h, simple_label_of)

  pub simple-long : label_len_max < l.len → simple_label_of s ≡ None
  unfolding simple_label_of
  simple-long h = simp (e, lt-ltb _ _ h, or-true, simple_label_of)

  pub simple-named : (l.len ≡ 0 → ⊥) → l.len ≤ label_len_max → simple_label_of s ≡ Some (l, n)
  unfolding simple_label_of
  simple-named h g = simp (e, ne_eqb _ _ h, le-ltb _ _ g, simple_label_of)

-- The label form, else a simple label.
pub form-label : (s : List ℕ) (a b : Span) (n : ℕ) → text2target_of false true s ≡ Some (a, b, n) → form_of s ≡ Some (a, b, n)
unfolding form_of
form-label s a b n e = simp (e, form_of)

pub form-simple : (s : List ℕ) (x : Option (Label × ℕ)) → text2target_of false true s ≡ None → simple_label_of s ≡ x → form_of s ≡ both_of x
unfolding form_of
form-simple s x e f = simp (e, f, form_of)

-- A '_' that still follows: v is what stands behind the form.
pub reference-none : (s : List ℕ) → form_of s ≡ None → parse_text2label_of s ≡ None
unfolding parse_text2label_of
reference-none s e = simp (e, parse_text2label_of)

module _ (s v : List ℕ) (a b : Span) (n : ℕ) (e : form_of s ≡ Some (a, b, n)) (iv : v ≡ drop n s) where
  pub reference-anonymous : starts_with (0x5F ∷ []) v ≡ true → parse_text2label_of s ≡ Some (a, (record { start = n; len = 1 }), (n + 1))
  unfolding parse_text2label_of
  reference-anonymous f = simp (e, ← iv, f, parse_text2label_of)

  pub reference-named : starts_with (0x5F ∷ []) v ≡ false → parse_text2label_of s ≡ Some (a, b, n)
  unfolding parse_text2label_of
  reference-named f = simp (e, ← iv, f, parse_text2label_of)

-- a backtick that begins no backticked run begins no reference
pub reference-refused : (r : List ℕ) → backticked_of false (0x60 ∷ r) ≡ None → parse_text2label_of (0x60 ∷ r) ≡ None
reference-refused r e =
    reference-none (0x60 ∷ r) (form-simple (0x60 ∷ r) None (form-none false true (0x60 ∷ r) e) (simple-none (0x60 ∷ r) (raw_word (0x60 ∷ r) e ∙ word-backtick r)))

-- A label that ends before the n bytes that are consumed of a text of `size` bytes.
abbrev pub Standing : ℕ → Option (Label × ℕ) → Type 0
Standing size (Some (l, n)) = (l.start + l.len < n) × (n ≤ size)
Standing size None = Unit {0}

word-standing : (s : List ℕ) → Standing (length s) (word_label_of s)
word-standing s = two (leb 3 (word_of s)) (ends_with (0x5F ∷ 0x5F ∷ []) (take (word_of s) s)) refl refl
  where
    within : word_of s ≤ length s
    within = word-within s

    size : length (take (word_of s) s) ≡ word_of s
    size = length-take-le (word_of s) s within

    one : (word_of s < 3) ⊎ (ends_with (0x5F ∷ 0x5F ∷ []) (take (word_of s) s) ≡ false) → (x : Bool) → ends_with (0x5F ∷ []) (take (word_of s) s) ≡ x → Standing (length s) (word_label_of s)
    one h true e =
        let g = ends-le (0x5F ∷ []) (take (word_of s) s) e in
        subst⁻¹ (Standing (length s)) (word-one s _ (word_of s) refl refl h e) (omega (arith, g, size), within)
    one h false e = subst⁻¹ (Standing (length s)) (word_none s _ (word_of s) refl refl h e) tt

    two : (x y : Bool) → leb 3 (word_of s) ≡ x → ends_with (0x5F ∷ 0x5F ∷ []) (take (word_of s) s) ≡ y → Standing (length s) (word_label_of s)
    two true true l e =
        let g = leb-true 3 (word_of s) l in
        subst⁻¹ (Standing (length s)) (word_two s _ (word_of s) refl refl g e) (omega arith, omega (arith, within))
    two true false l e = one (inr e) _ refl
    two false y l e = one (inl (leb-false 3 (word_of s) l)) _ refl

raw-standing : (s : List ℕ) → Standing (length s) (raw_label_of s)
raw-standing s = go (backticked_of false s) refl
  where
    go : (x : Option ℕ) → backticked_of false s ≡ x → Standing (length s) (raw_label_of s)
    go (Some n) e =
        let w = backticked-within false s n e in
        subst⁻¹ (Standing (length s)) (raw-quoted s n e) (omega arith, omega arith)
    go None e = subst⁻¹ (Standing (length s)) (raw_word s e) (word-standing s)

-- a simple label is a raw one, or none
simple-cases : (s : List ℕ) → (simple_label_of s ≡ raw_label_of s) ⊎ (simple_label_of s ≡ None)
simple-cases s = go (raw_label_of s) refl
  where
    long : (l : Label) (n : ℕ) → raw_label_of s ≡ Some (l, n) → (l.len ≡ 0 → ⊥) → (x : Bool) → ltb label_len_max l.len ≡ x → (simple_label_of s ≡ raw_label_of s) ⊎ (simple_label_of s ≡ None)
    long l n e h true f = inr (simple-long s l n e (ltb-true _ _ f))
    long l n e h false f = inl (simple-named s l n e h (ltb-false _ _ f) ∙ sym e)

    empty : (l : Label) (n : ℕ) → raw_label_of s ≡ Some (l, n) → (x : Bool) → eqb l.len 0 ≡ x → (simple_label_of s ≡ raw_label_of s) ⊎ (simple_label_of s ≡ None)
    empty l n e true f = inr (simple-empty s l n e (eqb-true _ _ f))
    empty l n e false f = long l n e (eqb-false _ _ f) _ refl

    go : (x : Option (Label × ℕ)) → raw_label_of s ≡ x → (simple_label_of s ≡ raw_label_of s) ⊎ (simple_label_of s ≡ None)
    go (Some (l, n)) e = empty l n e _ refl
    go None e = inr (simple-none s e)

-- a simple label stands within what it consumed
pub simple-standing : (s : List ℕ) → Standing (length s) (simple_label_of s)
simple-standing s = go (simple-cases s)
  where
    go : (simple_label_of s ≡ raw_label_of s) ⊎ (simple_label_of s ≡ None) → Standing (length s) (simple_label_of s)
    go (inl e) = subst⁻¹ (Standing (length s)) e (raw-standing s)
    go (inr e) = subst⁻¹ (Standing (length s)) e tt

-- Text and label, the same or one behind the other, within the n bytes, at least one, that are consumed of a text of `size` bytes.
abbrev pub Placed : ℕ → Option Spans → Type 0
Placed size (Some (a, b, n)) =
    ((a ≡ b) ⊎ (a.start + a.len ≤ b.start)) × (a.start + a.len ≤ n) × (b.start + b.len ≤ n) × (n ≤ size) × (0 < n)
Placed size None = Unit {0}

pub form-placed : (s : List ℕ) → Placed (length s) (form_of s)
form-placed s = go (text2target_of false true s) refl (text2target-apart false true s)
  where
    both : (x : Option (Label × ℕ)) → Standing (length s) x → Placed (length s) (both_of x)
    both (Some (l, n)) w = (inl refl, omega arith, omega arith, w.1, omega arith)
    both None w = tt

    go : (x : Option Spans) → text2target_of false true s ≡ x → Apart (length s) (text2target_of false true s) → Placed (length s) (form_of s)
    go (Some (a, b, n)) e w =
        let v = subst (Apart (length s)) e w in
        subst⁻¹ (Placed (length s)) (form-label s a b n e) (inr v.0, omega (arith, v.0, v.1), v.1, v.2, v.3)
    go None e w = subst⁻¹ (Placed (length s)) (form-simple s _ e refl) (both (simple_label_of s) (simple-standing s))

-- text and label of a reference stand so
pub reference-placed : (s : List ℕ) → Placed (length s) (parse_text2label_of s)
reference-placed s = go (form_of s) refl (form-placed s)
  where
    more : (a b : Span) (n : ℕ) → form_of s ≡ Some (a, b, n) → Placed (length s) (Some (a, b, n)) → (x : Bool) → starts_with (0x5F ∷ []) (drop n s) ≡ x → Placed (length s) (parse_text2label_of s)
    more a b n e w true f =
        let g = starts-le (0x5F ∷ []) (drop n s) f in
        subst⁻¹ (Placed (length s)) (reference-anonymous s _ a b n e refl f)
        (inr w.1, omega (arith, w.1), omega arith, omega (arith, g, length-drop n s), omega arith)
    more a b n e w false f = subst⁻¹ (Placed (length s)) (reference-named s _ a b n e refl f) w

    go : (x : Option Spans) → form_of s ≡ x → Placed (length s) (form_of s) → Placed (length s) (parse_text2label_of s)
    go (Some (a, b, n)) e w = more a b n e (subst (Placed (length s)) e w) _ refl
    go None e w = subst⁻¹ (Placed (length s)) (reference-none s e) tt

-- LF and a tail without a backtick behind the input.
module _ (s t : List ℕ) where
  word-label-lf : word_label_of (s ++ 10 ∷ t) ≡ word_label_of s
  unfolding word_label_of
  word-label-lf = simp (word-lf s t, take-append-le (word_of s) s (10 ∷ t) (word-within s))

  module _ (h : free 0x60 0x60 t ≡ true) where
    raw-lf : raw_label_of (s ++ 10 ∷ t) ≡ raw_label_of s
    raw-lf = go (backticked_of false s) refl
      where
        go : (x : Option ℕ) → backticked_of false s ≡ x → raw_label_of (s ++ 10 ∷ t) ≡ raw_label_of s
        go (Some n) e = raw-quoted (s ++ 10 ∷ t) n (backticked-lf false s t h ∙ e) ∙ sym (raw-quoted s n e)
        go None e = raw_word (s ++ 10 ∷ t) (backticked-lf false s t h ∙ e) ∙ word-label-lf ∙ sym (raw_word s e)

    pub simple-lf : simple_label_of (s ++ 10 ∷ t) ≡ simple_label_of s
    unfolding simple_label_of
    simple-lf = simp (raw-lf, simple_label_of)

    form-lf : form_of (s ++ 10 ∷ t) ≡ form_of s
    form-lf = go (text2target_of false true s) refl
      where
        go : (x : Option Spans) → text2target_of false true s ≡ x → form_of (s ++ 10 ∷ t) ≡ form_of s
        go (Some (a, b, n)) e = form-label (s ++ 10 ∷ t) a b n (text2target-lf false true s t h ∙ e) ∙ sym (form-label s a b n e)
        go None e = form-simple (s ++ 10 ∷ t) _ (text2target-lf false true s t h ∙ e) simple-lf ∙ sym (form-simple s _ e refl)

    pub reference-lf : parse_text2label_of (s ++ 10 ∷ t) ≡ parse_text2label_of s
    reference-lf = go (form_of s) refl (form-placed s)
      where
        more : (a b : Span) (n : ℕ) → form_of s ≡ Some (a, b, n) → n ≤ length s → (x : Bool) → starts_with (0x5F ∷ []) (drop n s) ≡ x → parse_text2label_of (s ++ 10 ∷ t) ≡ parse_text2label_of s
        more a b n e w true f =
            reference-anonymous (s ++ 10 ∷ t) _ a b n (form-lf ∙ e) (sym (drop-append-le n s (10 ∷ t) w)) (starts-underscore (drop n s) t ∙ f)
            ∙ sym (reference-anonymous s _ a b n e refl f)
        more a b n e w false f =
            reference-named (s ++ 10 ∷ t) _ a b n (form-lf ∙ e) (sym (drop-append-le n s (10 ∷ t) w)) (starts-underscore (drop n s) t ∙ f)
            ∙ sym (reference-named s _ a b n e refl f)

        go : (x : Option Spans) → form_of s ≡ x → Placed (length s) (form_of s) → parse_text2label_of (s ++ 10 ∷ t) ≡ parse_text2label_of s
        go (Some (a, b, n)) e w =
            let v = subst (Placed (length s)) e w in
            more a b n e v.3 _ refl
        go None e w = reference-none (s ++ 10 ∷ t) (form-lf ∙ e) ∙ sym (reference-none s e)
