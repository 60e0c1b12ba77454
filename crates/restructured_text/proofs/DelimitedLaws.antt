-- The laws of `specs/Delimited.antt`: a part between two tags by the code's tests, and what it says when it is taken; what a text
-- ends with; and that LF and a tail without stop bytes behind the text change nothing: an open part stays open, and a closing tag at
-- the end of the text is followed by LF.
-- Assumes nothing.
use Rattle.std.proofs.Common.{Option, Some, None}
use Prim.Native.Nat.{ℕ, ◌+◌, ◌-◌, ◌<◌, ◌≤◌}
use native.Mathlib.Omega.{arith}
use mathlib.Core.Path.{◌≡◌, refl, sym, ap, ◌∙◌}
use mathlib.Core.List.{List, [], ◌∷◌, ◌++◌}
use mathlib.Core.Bool.{Bool, true, false, ◌&&◌, false≢true}
use mathlib.Core.Logic.{⊎_elim}
use lib.Dec.{leb, eqb}
use lib.ListN.{length, drop, length-drop}
use lib.Seq.{drop-append-le}
use borrow.Author.Tests.{eq-eqb, ne_eqb, eqb-true, leb-true, le-leb, lt-leb}
use lib.Pointwise.{pointwise, pointwise_long}
use Rattle.std.proofs.lemmas.Bool.{false_from_ne_true}
use Rattle.rst_bytes.specs.Appending.{free}
use Rattle.rst_bytes.specs.Escaped.{escaped_of, is_stop}
use Rattle.rst_bytes.specs.Tag.{starts_with}
use Rattle.rst_bytes.proofs.Lists.{drop-end}
use Rattle.rst_bytes.proofs.TestLaws.{lt-or-le}
use Rattle.rst_bytes.proofs.EscapedLaws.{refused-taken, taken_is, taken-le, refused-lf, taken-lf, open-lf}
use Rattle.rst_bytes.proofs.TagLaws.{starts-le, starts-lf}
use Rattle.restructured_text.specs.Delimited.{delimited_of, ends_with, closing, backticked_of}

-- By the code's tests: u is what stands behind the first tag, and v what stands behind the part.
module _ (l : List ℕ) (p q : ℕ) (r s : List ℕ) where
  pub delimited-none : starts_with l s ≡ false → delimited_of l p q r s ≡ None
  unfolding delimited_of
  delimited-none e = simp (e, delimited_of)

  module _ (u : List ℕ) (e : starts_with l s ≡ true) (is : u ≡ drop (length l) s) where
    pub delimited-refused : escaped_of p q u ≡ None → delimited_of l p q r s ≡ None
    unfolding delimited_of
    delimited-refused f = simp (e, ← is, f, delimited_of)

    module _ (n : ℕ) (v : List ℕ) (f : escaped_of p q u ≡ Some n) (iv : v ≡ drop n u) where
      pub delimited-taken : starts_with r v ≡ true → delimited_of l p q r s ≡ Some n
      unfolding delimited_of
      delimited-taken g = simp (e, ← is, f, ← iv, g, delimited_of)

      pub delimited-unclosed : starts_with r v ≡ false → delimited_of l p q r s ≡ None
      unfolding delimited_of
      delimited-unclosed g = simp (e, ← is, f, ← iv, g, delimited_of)

-- a part of n bytes is taken
pub record Delimited (l : List ℕ) (p q : ℕ) (r s : List ℕ) (n : ℕ) : Type 0 where
  pub begins : starts_with l s ≡ true
  pub inner : escaped_of p q (drop (length l) s) ≡ Some n
  pub ends : starts_with r (drop n (drop (length l) s)) ≡ true

-- a delimited part that is taken has its tags
pub delimited-is : (l : List ℕ) (p q : ℕ) (r s : List ℕ) (n : ℕ) → delimited_of l p q r s ≡ Some n → Delimited l p q r s n
delimited-is l p q r s n e = begins (starts_with l s) refl
  where
    ends : (m : ℕ) → starts_with l s ≡ true → escaped_of p q (drop (length l) s) ≡ Some m → (x : Bool) → starts_with r (drop m (drop (length l) s)) ≡ x → Delimited l p q r s n
    ends m b i true f =
        let k : m ≡ n = taken_is m n (sym (delimited-taken l p q r s _ b refl m _ i refl f) ∙ e) in
        record { begins = b; inner = i ∙ ap Some k; ends = ap (λ (j : ℕ). starts_with r (drop j (drop (length l) s))) (sym k) ∙ f }
    ends m b i false f = absurd (refused-taken n (sym (delimited-unclosed l p q r s _ b refl m _ i refl f) ∙ e))

    inner : starts_with l s ≡ true → (x : Option ℕ) → escaped_of p q (drop (length l) s) ≡ x → Delimited l p q r s n
    inner b (Some m) i = ends m b i _ refl
    inner b None i = absurd (refused-taken n (sym (delimited-refused l p q r s _ b refl i) ∙ e))

    begins : (x : Bool) → starts_with l s ≡ x → Delimited l p q r s n
    begins true b = inner b _ refl
    begins false b = absurd (refused-taken n (sym (delimited-none l p q r s b) ∙ e))

-- the tags and the part lie within the text
pub delimited-within : (l : List ℕ) (p q : ℕ) (r s : List ℕ) (n : ℕ) → delimited_of l p q r s ≡ Some n → length l + n + length r ≤ length s
delimited-within l p q r s n e =
    let d = delimited-is l p q r s n e in
    let a = starts-le l s d.begins in
    let b = taken-le p q (drop (length l) s) n d.inner in
    let c = starts-le r (drop n (drop (length l) s)) d.ends in
    omega (arith, length-drop n (drop (length l) s), length-drop (length l) s)

-- a list that is not empty does not begin the empty one
starts-empty : (r : List ℕ) → 0 < length r → starts_with r [] ≡ false
unfolding starts_with
starts-empty [] h = absurd (omega arith)
starts-empty (b ∷ r) h = refl

-- LF and t behind the text
module _ (l : List ℕ) (p q : ℕ) (r s t : List ℕ) (k : is_stop p q 10 ≡ false) (h : free p q t ≡ true) (fl : free 10 10 l ≡ true) (fr : free 10 10 r ≡ true) (pr : 0 < length r) where
  module _ (b : starts_with l s ≡ true) where
    u : List ℕ
    u = drop (length l) s

    b' : starts_with l (s ++ 10 ∷ t) ≡ true
    b' = starts-lf l s t fl ∙ b

    is : u ++ 10 ∷ t ≡ drop (length l) (s ++ 10 ∷ t)
    unfolding u
    is = sym (drop-append-le (length l) s (10 ∷ t) (starts-le l s b))

    -- a part that ends before a stop byte
    closed : (n : ℕ) → escaped_of p q u ≡ Some n → n < length u → delimited_of l p q r (s ++ 10 ∷ t) ≡ delimited_of l p q r s
    unfolding u
    closed n e g = go (starts_with r (drop n u)) refl
      where
        iv : drop n u ++ 10 ∷ t ≡ drop n (u ++ 10 ∷ t)
        iv = sym (drop-append-le n u (10 ∷ t) (omega arith))

        go : (x : Bool) → starts_with r (drop n u) ≡ x → delimited_of l p q r (s ++ 10 ∷ t) ≡ delimited_of l p q r s
        go true f =
            delimited-taken l p q r (s ++ 10 ∷ t) (u ++ 10 ∷ t) b' is n _ (taken-lf p q u t n e g) iv (starts-lf r (drop n u) t fr ∙ f)
            ∙ sym (delimited-taken l p q r s u b refl n _ e refl f)
        go false f =
            delimited-unclosed l p q r (s ++ 10 ∷ t) (u ++ 10 ∷ t) b' is n _ (taken-lf p q u t n e g) iv (starts-lf r (drop n u) t fr ∙ f)
            ∙ sym (delimited-unclosed l p q r s u b refl n _ e refl f)

    -- a part that runs to the end of the text
    runs : (n : ℕ) → escaped_of p q u ≡ Some n → length u ≤ n → delimited_of l p q r (s ++ 10 ∷ t) ≡ delimited_of l p q r s
    unfolding u
    runs n e g = longer ∙ sym (delimited-unclosed l p q r s u b refl n [] e (sym (drop-end u n g)) (starts-empty r pr))
      where
        whole : escaped_of p q u ≡ Some (length u)
        whole =
            let w = taken-le p q u n e in
            let z : n ≡ length u = omega arith in
            e ∙ ap Some z

        longer : delimited_of l p q r (s ++ 10 ∷ t) ≡ None
        longer =
            ⊎_elim
            (λ f. delimited-refused l p q r (s ++ 10 ∷ t) (u ++ 10 ∷ t) b' is f)
            (λ f. delimited-unclosed l p q r (s ++ 10 ∷ t) (u ++ 10 ∷ t) b' is _ [] f (sym (drop-end (u ++ 10 ∷ t) (length (u ++ 10 ∷ t)) (omega arith))) (starts-empty r pr))
            (open-lf p q u t k h whole)

    part : (x : Option ℕ) → escaped_of p q u ≡ x → delimited_of l p q r (s ++ 10 ∷ t) ≡ delimited_of l p q r s
    unfolding u
    part None e =
        delimited-refused l p q r (s ++ 10 ∷ t) (u ++ 10 ∷ t) b' is (refused-lf p q u t e) ∙ sym (delimited-refused l p q r s u b refl e)
    part (Some n) e = ⊎_elim (λ g. closed n e g) (λ g. runs n e g) (lt-or-le n (length u))

  delimited-lf : delimited_of l p q r (s ++ 10 ∷ t) ≡ delimited_of l p q r s
  delimited-lf = go (starts_with l s) refl
    where
      go : (x : Bool) → starts_with l s ≡ x → delimited_of l p q r (s ++ 10 ∷ t) ≡ delimited_of l p q r s
      go true b = part b _ refl
      go false b = delimited-none l p q r (s ++ 10 ∷ t) (starts-lf l s t fl ∙ b) ∙ sym (delimited-none l p q r s b)

-- A text is as long as what it ends with.
pub ends-le : (t s : List ℕ) → ends_with t s ≡ true → length t ≤ length s
unfolding ends_with
ends-le t s e = go (leb (length t) (length s)) refl e
  where
    go : (x : Bool) → leb (length t) (length s) ≡ x → (x && starts_with t (drop (length s - length t) s)) ≡ true → length t ≤ length s
    go true f g = leb-true (length t) (length s) f
    go false f g = absurd (false≢true g)

-- a backticked run and its backticks lie within the text
pub backticked-within : (anonym : Bool) (s : List ℕ) (n : ℕ) → backticked_of anonym s ≡ Some n → n + 1 + length (closing anonym) ≤ length s
backticked-within anonym s n e =
    let w = delimited-within (0x60 ∷ []) 0x60 0x60 (closing anonym) s n e in
    omega arith

-- another byte than a backtick begins none
pub backticked-other : (anonym : Bool) (b : ℕ) (s : List ℕ) → (b ≡ 0x60 → ⊥) → backticked_of anonym (b ∷ s) ≡ None
unfolding starts_with
backticked-other anonym b s h = delimited-none (0x60 ∷ []) 0x60 0x60 (closing anonym) (b ∷ s) (simp (ne_eqb b 0x60 h, starts_with))

-- a tail without a backtick keeps a backticked run
pub backticked-lf : (anonym : Bool) (s t : List ℕ) → free 0x60 0x60 t ≡ true → backticked_of anonym (s ++ 10 ∷ t) ≡ backticked_of anonym s
unfolding is_stop free
backticked-lf true s t h = delimited-lf (0x60 ∷ []) 0x60 0x60 (closing true) s t refl h refl refl (omega arith)
backticked-lf false s t h = delimited-lf (0x60 ∷ []) 0x60 0x60 (closing false) s t refl h refl refl (omega arith)

-- nor is '_' at the front changed by LF and what follows it
pub starts-underscore : (s t : List ℕ) → starts_with (0x5F ∷ []) (s ++ 10 ∷ t) ≡ starts_with (0x5F ∷ []) s
unfolding free is_stop
starts-underscore s t = starts-lf (0x5F ∷ []) s t refl

-- what a text ends with, as the library has it
pointwise-same : (t s : List ℕ) → length t ≡ length s → pointwise eqb t s ≡ starts_with t s
unfolding starts_with
pointwise-same [] [] h = refl
pointwise-same [] (b ∷ s) h = absurd (omega arith)
pointwise-same (c ∷ t) [] h = absurd (omega arith)
pointwise-same (c ∷ t) (b ∷ s) h = go (eqb b c) refl (pointwise-same t s (omega arith))
  where
    go : (x : Bool) → eqb b c ≡ x → pointwise eqb t s ≡ starts_with t s → (eqb c b && pointwise eqb t s) ≡ elim (eqb b c) [ true ↦ starts_with t s | false ↦ false ]
    go true e h = simp (e, eq-eqb c b (sym (eqb-true b c e))) h
    go false e h = simp (e, ne_eqb c b (λ f. false≢true (sym e ∙ eq-eqb b c (sym f)))) refl

pub ends-pointwise : (t s : List ℕ) → pointwise eqb t (drop (length s - length t) s) ≡ ends_with t s
unfolding ends_with
ends-pointwise t s = ⊎_elim short enough (lt-or-le (length s) (length t))
  where
    short : length s < length t → pointwise eqb t (drop (length s - length t) s) ≡ (leb (length t) (length s) && starts_with t (drop (length s - length t) s))
    short h = simp (lt-leb (length t) (length s) h) (false_from_ne_true _ (λ e. omega (arith, pointwise_long eqb t _ e, length-drop (length s - length t) s)))

    enough : length t ≤ length s → pointwise eqb t (drop (length s - length t) s) ≡ (leb (length t) (length s) && starts_with t (drop (length s - length t) s))
    enough h = simp (le-leb (length t) (length s) h) (pointwise-same t (drop (length s - length t) s) (omega (arith, length-drop (length s - length t) s)))
