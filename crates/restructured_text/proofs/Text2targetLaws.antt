-- The laws of `specs/Text2target.antt`: the forms by the code's tests, where text and target stand, and that LF and a tail without
-- a backtick behind the input change nothing.
-- Assumes nothing.
use Rattle.std.proofs.Common.{Option, Some, None}
use Rattle.restructured_text.specs.Spans.{Spans}
use Prim.Native.Nat.{ℕ, suc, ◌+◌, ◌-◌, ◌<◌, ◌≤◌}
use native.Mathlib.Omega.{arith}
use mathlib.Core.Path.{◌≡◌, refl, sym, ap, subst, subst⁻¹, ◌∙◌}
use mathlib.Core.List.{List, [], ◌∷◌, ◌++◌}
use mathlib.Core.Bool.{Bool, true, false, ◌||◌, true≢false}
use lib.Dec.{eqb}
use lib.ListN.{length, drop, take, get_or, length-take, length-drop, length-append, take-append-drop}
use lib.Seq.{length-take-le, take-append-le, drop-append-le, take-append-add, drop-append-add, take-take, drop-drop, get_or-take, get_or-drop}
use borrow.Author.Tests.{eq-eqb, ne_eqb, eqb-true, eqb-false}
use Rattle.rst_bytes.specs.Appending.{free}
use Rattle.rst_bytes.specs.Escaped.{is_stop, taking, escaped_of}
use Rattle.rst_bytes.specs.Tag.{starts_with}
use Rattle.rst_bytes.specs.Trim.{trim_of}
use Rattle.rst_bytes.proofs.EscapedLaws.{refused-taken, taken_is, taken-le, taken-from, at-stop, at_plain, at-end, taken_back, taking-le, taking-over, taking-fewer, taking-front, escaped-over}
use Rattle.rst_bytes.proofs.Lists.{drop-next, drop-end}
use Rattle.rst_bytes.proofs.TrimLaws.{trim-within}
use Rattle.restructured_text.specs.Delimited.{delimited_of, ends_with, closing, backticked_of}
use Rattle.restructured_text.specs.Text2target.{target_of, bracketed_of, inside_of, behind_of, text2target_of}
use Rattle.restructured_text.proofs.PartLaws.{part-front}
use Rattle.restructured_text.proofs.DelimitedLaws.{delimited-none, delimited-taken, delimited-is, starts-underscore, backticked-within, backticked-lf}

-- the part from 1 to k + 1, as `&s[1..k + 1]` has it
pub part-one : (s : List ℕ) (k : ℕ) → take (k + 1 - 1) (drop 1 s) ≡ take k (drop 1 s)
part-one s k =
    let e : k + 1 - 1 ≡ k = omega arith in
    ap (λ (j : ℕ). take j (drop 1 s)) e

-- A target, by its last byte.
pub target-dropped : (label : Bool) (t : List ℕ) → ends_with (0x5F ∷ []) t ≡ true → label ≡ true → target_of label t ≡ Some (length t - 1)
unfolding target_of
target-dropped label t e l = rw l (simp (e, target_of))

pub target-no-destination : (label : Bool) (t : List ℕ) → ends_with (0x5F ∷ []) t ≡ true → label ≡ false → target_of label t ≡ None
unfolding target_of
target-no-destination label t e l = rw l (simp (e, target_of))

pub target-no-label : (label : Bool) (t : List ℕ) → ends_with (0x5F ∷ []) t ≡ false → label ≡ true → target_of label t ≡ None
unfolding target_of
target-no-label label t e l = rw l (simp (e, target_of))

pub target-all : (label : Bool) (t : List ℕ) → ends_with (0x5F ∷ []) t ≡ false → label ≡ false → target_of label t ≡ Some (length t)
unfolding target_of
target-all label t e l = rw l (simp (e, target_of))

-- What stands between the backticks, by the code's tests: `rest` begins with the bracket.
module _ (label : Bool) (s : List ℕ) where
  pub inside-refused : escaped_of 0x3C 0x3C s ≡ None → inside_of label s ≡ None
  unfolding inside_of
  inside-refused e = simp (e, inside_of)

  module _ (m : ℕ) (rest : List ℕ) (e : escaped_of 0x3C 0x3C s ≡ Some m) (is : rest ≡ drop m s) where
    pub inside-open : delimited_of (0x3C ∷ []) 0x3C 0x3E (0x3E ∷ []) rest ≡ None → inside_of label s ≡ None
    unfolding inside_of
    inside-open f = simp (e, ← is, f, inside_of)

    module _ (k : ℕ) (f : delimited_of (0x3C ∷ []) 0x3C 0x3E (0x3E ∷ []) rest ≡ Some k) where
      pub inside-more : (k + 2 ≡ length rest → ⊥) → inside_of label s ≡ None
      unfolding inside_of
      inside-more g = simp (e, ← is, f, ne_eqb _ _ g, bracketed_of, inside_of)

      module _ (t : List ℕ) (g : k + 2 ≡ length rest) (it : t ≡ take k (drop 1 rest)) where
        pub inside-wrong : target_of label t ≡ None → inside_of label s ≡ None
        unfolding inside_of
        inside-wrong h = simp (e, ← is, f, eq-eqb _ _ g, ← it, h, bracketed_of, inside_of)

        pub inside-parsed : (n : ℕ) (text : List ℕ) → target_of label t ≡ Some n → text ≡ take (trim_of (take m s)) (take m s) → inside_of label s ≡ Some ((record { start = 0; len = length text }), (record { start = m + 1; len = n }), (length s))
        unfolding inside_of
        inside-parsed n text h j =
            let l : length text ≡ trim_of (take m s) = ap length j ∙ length-take-le (trim_of (take m s)) (take m s) (trim-within (take m s)) in
            simp (e, ← is, f, eq-eqb _ _ g, ← it, h, l, bracketed_of, inside_of)

-- The whole, by the code's tests: `end` bytes are consumed.
module _ (anonym label : Bool) (s : List ℕ) where
  pub form-none : backticked_of anonym s ≡ None → text2target_of anonym label s ≡ None
  unfolding text2target_of
  form-none e = simp (e, text2target_of)

  module _ (n : ℕ) (v : List ℕ) (e : backticked_of anonym s ≡ Some n) (iv : v ≡ drop (n + 1 + length (closing anonym)) s) where
    form-more : starts_with (0x5F ∷ []) v ≡ true → text2target_of anonym label s ≡ None
    unfolding text2target_of
    form-more f = simp (e, ← iv, f, text2target_of)

    form-inside : (w : List ℕ) → starts_with (0x5F ∷ []) v ≡ false → w ≡ take n (drop 1 s) → text2target_of anonym label s ≡ behind_of (n + 1 + length (closing anonym)) (inside_of label w)
    unfolding text2target_of
    form-inside w f iw = simp (e, ← iv, f, ← iw, text2target_of)

-- Spans that stand one behind the other within the n bytes, at least one, that are consumed of a text of
-- `size` bytes.
abbrev pub Apart : ℕ → Option Spans → Type 0
Apart size (Some (a, b, n)) = (a.start + a.len ≤ b.start) × (b.start + b.len ≤ n) × (n ≤ size) × (0 < n)
Apart size None = Unit {0}

-- a target is no longer than it was
target-le : (label : Bool) (t : List ℕ) (n : ℕ) → target_of label t ≡ Some n → n ≤ length t
target-le label t n e = go label (ends_with (0x5F ∷ []) t) refl refl
  where
    go : (l x : Bool) → label ≡ l → ends_with (0x5F ∷ []) t ≡ x → n ≤ length t
    go true true l f = let k = taken_is _ _ (sym (target-dropped label t f l) ∙ e) in omega arith
    go true false l f = absurd (refused-taken n (sym (target-no-label label t f l) ∙ e))
    go false true l f = absurd (refused-taken n (sym (target-no-destination label t f l) ∙ e))
    go false false l f = let k = taken_is _ _ (sym (target-all label t f l) ∙ e) in omega arith

-- text and target stand apart between the backticks
pub inside-apart : (label : Bool) (s : List ℕ) → Apart (length s) (inside_of label s)
inside-apart label s = text (escaped_of 0x3C 0x3C s) refl
  where
    target : (m k : ℕ) → escaped_of 0x3C 0x3C s ≡ Some m → delimited_of (0x3C ∷ []) 0x3C 0x3E (0x3E ∷ []) (drop m s) ≡ Some k → k + 2 ≡ length (drop m s) → (x : Option ℕ) → target_of label (take k (drop 1 (drop m s))) ≡ x → Apart (length s) (inside_of label s)
    target m k e f g None h = subst⁻¹ (Apart (length s)) (inside-wrong label s m _ e refl k f _ g refl h) tt
    target m k e f g (Some n) h =
        let l = target-le label (take k (drop 1 (drop m s))) n h in
        let w = trim-within (take m s) in
        let y = taken-le 0x3C 0x3C s m e in
        subst⁻¹ (Apart (length s)) (inside-parsed label s m _ e refl k f _ g refl n _ h refl) (
          omega (arith, length-take (trim_of (take m s)) (take m s), length-take m s),
          omega (arith, length-take k (drop 1 (drop m s)), length-drop m s),
          omega arith,
          omega (arith, length-drop m s),
        )

    bracket : (m k : ℕ) → escaped_of 0x3C 0x3C s ≡ Some m → delimited_of (0x3C ∷ []) 0x3C 0x3E (0x3E ∷ []) (drop m s) ≡ Some k → (x : Bool) → eqb (k + 2) (length (drop m s)) ≡ x → Apart (length s) (inside_of label s)
    bracket m k e f true g = target m k e f (eqb-true _ _ g) _ refl
    bracket m k e f false g = subst⁻¹ (Apart (length s)) (inside-more label s m _ e refl k f (eqb-false _ _ g)) tt

    opened : (m : ℕ) → escaped_of 0x3C 0x3C s ≡ Some m → (x : Option ℕ) → delimited_of (0x3C ∷ []) 0x3C 0x3E (0x3E ∷ []) (drop m s) ≡ x → Apart (length s) (inside_of label s)
    opened m e (Some k) f = bracket m k e f _ refl
    opened m e None f = subst⁻¹ (Apart (length s)) (inside-open label s m _ e refl f) tt

    text : (x : Option ℕ) → escaped_of 0x3C 0x3C s ≡ x → Apart (length s) (inside_of label s)
    text (Some m) e = opened m e _ refl
    text None e = subst⁻¹ (Apart (length s)) (inside-refused label s e) tt

-- and so they do in the whole
pub text2target-apart : (anonym label : Bool) (s : List ℕ) → Apart (length s) (text2target_of anonym label s)
text2target-apart anonym label s = run (backticked_of anonym s) refl
  where
    moved : (n : ℕ) (x : Option Spans) → n + 1 + length (closing anonym) ≤ length s → Apart n x → Apart (length s) (behind_of (n + 1 + length (closing anonym)) x)
    moved n (Some (a, b, k)) h w = (omega arith, omega arith, h, omega arith)
    moved n None h w = tt

    more : (n : ℕ) → backticked_of anonym s ≡ Some n → (x : Bool) → starts_with (0x5F ∷ []) (drop (n + 1 + length (closing anonym)) s) ≡ x → Apart (length s) (text2target_of anonym label s)
    more n e true f = subst⁻¹ (Apart (length s)) (form-more anonym label s n _ e refl f) tt
    more n e false f =
        let h = backticked-within anonym s n e in
        let l : length (take n (drop 1 s)) ≡ n = length-take-le n (drop 1 s) (omega (arith, length-drop 1 s)) in
        subst⁻¹ (Apart (length s)) (form-inside anonym label s n _ e refl _ f refl)
        (moved n (inside_of label (take n (drop 1 s))) h (subst (λ (k : ℕ). Apart k (inside_of label (take n (drop 1 s)))) l (inside-apart label (take n (drop 1 s)))))

    run : (x : Option ℕ) → backticked_of anonym s ≡ x → Apart (length s) (text2target_of anonym label s)
    run (Some n) e = more n e _ refl
    run None e = subst⁻¹ (Apart (length s)) (form-none anonym label s e) tt

-- LF and a tail without a backtick behind the input change nothing
pub text2target-lf : (anonym label : Bool) (s t : List ℕ) → free 0x60 0x60 t ≡ true → text2target_of anonym label (s ++ 10 ∷ t) ≡ text2target_of anonym label s
text2target-lf anonym label s t h = run (backticked_of anonym s) refl
  where
    more : (n : ℕ) → backticked_of anonym s ≡ Some n → (x : Bool) → starts_with (0x5F ∷ []) (drop (n + 1 + length (closing anonym)) s) ≡ x → text2target_of anonym label (s ++ 10 ∷ t) ≡ text2target_of anonym label s
    more n e x f =
        let w = backticked-within anonym s n e in
        let iv = sym (drop-append-le (n + 1 + length (closing anonym)) s (10 ∷ t) w) in
        let iw : take n (drop 1 s) ≡ take n (drop 1 (s ++ 10 ∷ t)) = sym (ap (take n) (drop-append-le 1 s (10 ∷ t) (omega arith)) ∙ take-append-le n (drop 1 s) (10 ∷ t) (omega (arith, length-drop 1 s))) in
        let e' = backticked-lf anonym s t h ∙ e in
        let f' = starts-underscore (drop (n + 1 + length (closing anonym)) s) t ∙ f in
        go x f f' e' iv iw
      where
        go : (x : Bool) → starts_with (0x5F ∷ []) (drop (n + 1 + length (closing anonym)) s) ≡ x → starts_with (0x5F ∷ []) (drop (n + 1 + length (closing anonym)) s ++ 10 ∷ t) ≡ x → backticked_of anonym (s ++ 10 ∷ t) ≡ Some n → drop (n + 1 + length (closing anonym)) s ++ 10 ∷ t ≡ drop (n + 1 + length (closing anonym)) (s ++ 10 ∷ t) → take n (drop 1 s) ≡ take n (drop 1 (s ++ 10 ∷ t)) → text2target_of anonym label (s ++ 10 ∷ t) ≡ text2target_of anonym label s
        go true f f' e' iv iw = form-more anonym label (s ++ 10 ∷ t) n _ e' iv f' ∙ sym (form-more anonym label s n _ e refl f)
        go false f f' e' iv iw = form-inside anonym label (s ++ 10 ∷ t) n _ e' iv _ f' iw ∙ sym (form-inside anonym label s n _ e refl _ f refl)

    run : (x : Option ℕ) → backticked_of anonym s ≡ x → text2target_of anonym label (s ++ 10 ∷ t) ≡ text2target_of anonym label s
    run (Some n) e = more n e _ refl
    run None e = form-none anonym label (s ++ 10 ∷ t) (backticked-lf anonym s t h ∙ e) ∙ sym (form-none anonym label s e)

-- The first spans are none; or the second are the same with k more bytes of text before them, where the text begins at place t.
abbrev pub Longer : ℕ → ℕ → Option Spans → Option Spans → Type 0
Longer t k (Some (a, b, n)) y =
    (a.start ≡ t) × (y ≡ Some ((record { start = t; len = k + a.len }), (record { start = k + b.start; len = b.len }), (k + n)))
Longer t k None y = Unit {0}

-- spans that begin and end at the same places
spans-same : (t n : ℕ) {a a' b b' c c' : ℕ} → a ≡ a' → b ≡ b' → c ≡ c' → ◌≡◌ {A = Option Spans} (Some (record { start = t; len = a }, record { start = b; len = n }, c)) (Some (record { start = t; len = a' }, record { start = b'; len = n }, c'))
spans-same t n {a} {a'} {b} {b'} {c} {c'} e f g =
    ap (λ (x : ℕ). Some ((record { start = t; len = x }), (record { start = b; len = n }), c)) e
    ∙ ap (λ (x : ℕ). Some ((record { start = t; len = a' }), (record { start = x; len = n }), c)) f
    ∙ ap (λ (x : ℕ). Some ((record { start = t; len = a' }), (record { start = b'; len = n }), x)) g

-- spans of the inside as spans of the whole
longer-behind : (k n n' : ℕ) (x y : Option Spans) → n' ≡ k + n → Longer 0 k x y → Longer 1 k (behind_of n x) (behind_of n' y)
longer-behind k n n' (Some (a, b, m)) y h w =
    let z : a.start + 1 ≡ 1 = omega (arith, w.0) in
    let u : k + b.start + 1 ≡ k + (b.start + 1) = omega arith in
    (z, ap (behind_of n') w.1 ∙ spans-same 1 b.len refl u h)
longer-behind k n n' None y h w = tt

-- A text l that `escaped` takes as a whole, and behind which a text is trimmed as if it stood alone: what is found behind l is found
-- with l in front of it too.
module _
    (label : Bool) (l : List ℕ) (some : 0 < length l) (ticked : taking 0x60 0x60 false 0 l ≡ Some (length l))
    (angled : taking 0x3C 0x3C false 0 l ≡ Some (length l)) (trimmed : (t : List ℕ) → trim_of (l ++ t) ≡ length l + trim_of t)
  where
    inside-longer : (s : List ℕ) → Longer 0 (length l) (inside_of label s) (inside_of label (l ++ s))
    unfolding is_stop
    inside-longer s = text (escaped_of 0x3C 0x3C s) refl
      where
        trim-len : (m : ℕ) → length (take (trim_of (take (length l + m) (l ++ s))) (take (length l + m) (l ++ s))) ≡ length l + length (take (trim_of (take m s)) (take m s))
        trim-len m =
            omega (
              arith,
              length-take-le (trim_of (take m s)) (take m s) (trim-within (take m s)),
              length-take-le (trim_of (take (length l + m) (l ++ s))) (take (length l + m) (l ++ s)) (trim-within (take (length l + m) (l ++ s))),
              ap trim_of (take-append-add l s m),
              trimmed (take m s),
            )

        target : (m k : ℕ) → escaped_of 0x3C 0x3C s ≡ Some m → delimited_of (0x3C ∷ []) 0x3C 0x3E (0x3E ∷ []) (drop m s) ≡ Some k → k + 2 ≡ length (drop m s) → (x : Option ℕ) → target_of label (take k (drop 1 (drop m s))) ≡ x → Longer 0 (length l) (inside_of label s) (inside_of label (l ++ s))
        target m k e f g None h = subst⁻¹ (λ (x : Option Spans). Longer 0 (length l) x (inside_of label (l ++ s))) (inside-wrong label s m _ e refl k f _ g refl h) tt
        target m k e f g (Some n) h =
            let e' = escaped-over 0x3C 0x3C l s m refl some angled e in
            let z : length l + m + 1 ≡ length l + (m + 1) = omega arith in
            subst⁻¹ (λ (x : Option Spans). Longer 0 (length l) x (inside_of label (l ++ s))) (inside-parsed label s m _ e refl k f _ g refl n _ h refl) (
              refl,
              inside-parsed label (l ++ s) (length l + m) (drop m s) e' (sym (drop-append-add l s m)) k f _ g refl n _ h refl ∙ spans-same 0 n (trim-len m) z (length-append l s),
            )

        bracket : (m k : ℕ) → escaped_of 0x3C 0x3C s ≡ Some m → delimited_of (0x3C ∷ []) 0x3C 0x3E (0x3E ∷ []) (drop m s) ≡ Some k → (x : Bool) → eqb (k + 2) (length (drop m s)) ≡ x → Longer 0 (length l) (inside_of label s) (inside_of label (l ++ s))
        bracket m k e f true g = target m k e f (eqb-true _ _ g) _ refl
        bracket m k e f false g = subst⁻¹ (λ (x : Option Spans). Longer 0 (length l) x (inside_of label (l ++ s))) (inside-more label s m _ e refl k f (eqb-false _ _ g)) tt

        opened : (m : ℕ) → escaped_of 0x3C 0x3C s ≡ Some m → (x : Option ℕ) → delimited_of (0x3C ∷ []) 0x3C 0x3E (0x3E ∷ []) (drop m s) ≡ x → Longer 0 (length l) (inside_of label s) (inside_of label (l ++ s))
        opened m e (Some k) f = bracket m k e f _ refl
        opened m e None f = subst⁻¹ (λ (x : Option Spans). Longer 0 (length l) x (inside_of label (l ++ s))) (inside-open label s m _ e refl f) tt

        text : (x : Option ℕ) → escaped_of 0x3C 0x3C s ≡ x → Longer 0 (length l) (inside_of label s) (inside_of label (l ++ s))
        text (Some m) e = opened m e _ refl
        text None e = subst⁻¹ (λ (x : Option Spans). Longer 0 (length l) x (inside_of label (l ++ s))) (inside-refused label s e) tt

    pub text2target-longer : (anonym : Bool) (s : List ℕ) → Longer 1 (length l) (text2target_of anonym label (0x60 ∷ s)) (text2target_of anonym label (0x60 ∷ l ++ s))
    unfolding is_stop starts_with
    text2target-longer anonym s = run (backticked_of anonym (0x60 ∷ s)) refl
      where
        more : (n : ℕ) → backticked_of anonym (0x60 ∷ s) ≡ Some n → (x : Bool) → starts_with (0x5F ∷ []) (drop (n + 1 + length (closing anonym)) (0x60 ∷ s)) ≡ x → Longer 1 (length l) (text2target_of anonym label (0x60 ∷ s)) (text2target_of anonym label (0x60 ∷ l ++ s))
        more n e true f = subst⁻¹ (λ (x : Option Spans). Longer 1 (length l) x (text2target_of anonym label (0x60 ∷ l ++ s))) (form-more anonym label (0x60 ∷ s) n _ e refl f) tt
        more n e false f =
            let c = length (closing anonym) in
            let d = delimited-is (0x60 ∷ []) 0x60 0x60 (closing anonym) (0x60 ∷ s) n e in
            let i = escaped-over 0x60 0x60 l s n refl some ticked d.inner in
            let e' : backticked_of anonym (0x60 ∷ l ++ s) ≡ Some (length l + n) = delimited-taken (0x60 ∷ []) 0x60 0x60 (closing anonym) (0x60 ∷ l ++ s) (l ++ s) refl refl (length l + n) (drop n s) i (sym (drop-append-add l s n)) d.ends in
            let z : n + 1 + c ≡ suc (n + c) = omega arith in
            let z' : length l + n + 1 + c ≡ suc (length l + (n + c)) = omega arith in
            let v : drop (n + 1 + c) (0x60 ∷ s) ≡ drop (length l + n + 1 + c) (0x60 ∷ l ++ s) = ap (λ (j : ℕ). drop j (0x60 ∷ s)) z ∙ sym (drop-append-add l s (n + c)) ∙ ap (λ (j : ℕ). drop j (0x60 ∷ l ++ s)) (sym z') in
            let y : length l + n + 1 + c ≡ length l + (n + 1 + c) = omega arith in
            subst⁻¹ (λ (x : Option Spans). Longer 1 (length l) x (text2target_of anonym label (0x60 ∷ l ++ s))) (form-inside anonym label (0x60 ∷ s) n _ e refl (take n s) f refl)
            (subst⁻¹ (Longer 1 (length l) (behind_of (n + 1 + c) (inside_of label (take n s)))) (form-inside anonym label (0x60 ∷ l ++ s) (length l + n) (drop (n + 1 + c) (0x60 ∷ s)) e' v (l ++ take n s) f (sym (take-append-add l s n)))
            (longer-behind (length l) (n + 1 + c) (length l + n + 1 + c) (inside_of label (take n s)) (inside_of label (l ++ take n s)) y (inside-longer (take n s))))

        run : (x : Option ℕ) → backticked_of anonym (0x60 ∷ s) ≡ x → Longer 1 (length l) (text2target_of anonym label (0x60 ∷ s)) (text2target_of anonym label (0x60 ∷ l ++ s))
        run (Some n) e = more n e _ refl
        run None e = subst⁻¹ (λ (x : Option Spans). Longer 1 (length l) x (text2target_of anonym label (0x60 ∷ l ++ s))) (form-none anonym label (0x60 ∷ s) e) tt

-- Where the bytes between the backticks hold nothing, there is no form.
form-empty : (anonym label : Bool) (s : List ℕ) → ((n : ℕ) → backticked_of anonym s ≡ Some n → inside_of label (take n (drop 1 s)) ≡ None) → text2target_of anonym label s ≡ None
form-empty anonym label s h = run (backticked_of anonym s) refl
  where
    more : (n : ℕ) → backticked_of anonym s ≡ Some n → (x : Bool) → starts_with (0x5F ∷ []) (drop (n + 1 + length (closing anonym)) s) ≡ x → text2target_of anonym label s ≡ None
    more n e true f = form-more anonym label s n _ e refl f
    more n e false f = form-inside anonym label s n _ e refl _ f refl ∙ ap (behind_of _) (h n e)

    run : (x : Option ℕ) → backticked_of anonym s ≡ x → text2target_of anonym label s ≡ None
    run (Some n) e = more n e _ refl
    run None e = form-none anonym label s e

-- a byte that is no backtick and no <
tick-only : (b : ℕ) → is_stop 0x60 0x3C b ≡ false → is_stop 0x60 0x60 b ≡ false
unfolding is_stop
tick-only b = go (eqb b 0x60) (eqb b 0x3C)
  where
    go : (x y : Bool) → (x || y) ≡ false → (x || x) ≡ false
    go true y e = e
    go false y e = refl

angle-only : (b : ℕ) → is_stop 0x60 0x3C b ≡ false → is_stop 0x3C 0x3C b ≡ false
unfolding is_stop
angle-only b = go (eqb b 0x60) (eqb b 0x3C)
  where
    go : (x y : Bool) → (x || y) ≡ false → (y || y) ≡ false
    go true y e = absurd (true≢false e)
    go false true e = e
    go false false e = refl

-- a text that is taken as a whole up to both is taken up to each
pub ticked : (l : List ℕ) → taking 0x60 0x3C false 0 l ≡ Some (length l) → taking 0x60 0x60 false 0 l ≡ Some (length l)
ticked l e = taking-fewer 0x60 0x3C 0x60 0x60 tick-only l false 0 (length l) (omega arith) e

pub angled : (l : List ℕ) → taking 0x60 0x3C false 0 l ≡ Some (length l) → taking 0x3C 0x3C false 0 l ≡ Some (length l)
angled l e = taking-fewer 0x60 0x3C 0x3C 0x3C angle-only l false 0 (length l) (omega arith) e

-- A front of k bytes of s is taken as a whole up to both.
module _ (s : List ℕ) (k : ℕ) (e : taking 0x60 0x3C false 0 (take k s) ≡ Some k) (h : k < length s) where
  front-len : length (take k s) ≡ k
  front-len = length-take-le k s (omega arith)

  front : taking 0x60 0x3C false 0 (take k s) ≡ Some (length (take k s))
  front = e ∙ ap Some (sym front-len)

  -- what stands behind it is read up to a backtick, and up to <, as if it stood alone
  tick-over : taking 0x60 0x60 false 0 s ≡ taking 0x60 0x60 false k (drop k s)
  tick-over =
      ap (taking 0x60 0x60 false 0) (sym (take-append-drop k s))
      ∙ taking-over 0x60 0x60 (take k s) (drop k s) false 0 k (omega (arith, front-len)) (ticked (take k s) front ∙ ap Some front-len)

  angle-over : taking 0x3C 0x3C false 0 s ≡ taking 0x3C 0x3C false k (drop k s)
  angle-over =
      ap (taking 0x3C 0x3C false 0) (sym (take-append-drop k s))
      ∙ taking-over 0x3C 0x3C (take k s) (drop k s) false 0 k (omega (arith, front-len)) (angled (take k s) front ∙ ap Some front-len)

  -- if a backtick stands there, it is all that is taken up to one
  tick-taken : get_or s k 0 ≡ 0x60 → taking 0x60 0x60 false 0 s ≡ Some k
  unfolding is_stop
  tick-taken f = tick-over ∙ at-stop 0x60 0x60 s k h (λ (g : get_or s k 0 ≡ 0x5C). absurd (omega (arith, f, g))) (simp (eq-eqb _ _ f))

  -- if < stands there, it is all that is taken up to one, and up to a backtick more is
  angle-taken : get_or s k 0 ≡ 0x3C → taking 0x3C 0x3C false 0 s ≡ Some k
  unfolding is_stop
  angle-taken f = angle-over ∙ at-stop 0x3C 0x3C s k h (λ (g : get_or s k 0 ≡ 0x5C). absurd (omega (arith, f, g))) (simp (eq-eqb _ _ f))

  tick-more : (n : ℕ) → get_or s k 0 ≡ 0x3C → taking 0x60 0x60 false 0 s ≡ Some n → (k + 1 ≤ n) × (taking 0x60 0x60 false 0 (drop (k + 1) s) ≡ Some (n - (k + 1)))
  unfolding is_stop
  tick-more n f g =
      taken_back 0x60 0x60 (k + 1) (drop (k + 1) s) n
      (sym (tick-over ∙ at_plain 0x60 0x60 s k h (λ (z : get_or s k 0 ≡ 0x5C). absurd (omega (arith, f, z))) (rw f refl)) ∙ g)

  -- a text that it is all of has no <
  inside-unbracketed : (label : Bool) → inside_of label (take k s) ≡ None
  unfolding starts_with
  inside-unbracketed label = go (escaped_of 0x3C 0x3C (take k s)) refl
    where
      go : (x : Option ℕ) → escaped_of 0x3C 0x3C (take k s) ≡ x → inside_of label (take k s) ≡ None
      go None f = inside-refused label (take k s) f
      go (Some m) f =
          let z : length (take k s) ≡ 0 + m = taken_is _ _ (sym (angled (take k s) front) ∙ taken-from 0x3C 0x3C 0 (take k s) m f) in
          inside-open label (take k s) m [] f (sym (drop-end (take k s) m (omega arith))) (delimited-none (0x3C ∷ []) 0x3C 0x3E (0x3E ∷ []) [] refl)

-- what is taken up to both is such a front
front-taken : (s : List ℕ) (k : ℕ) → taking 0x60 0x3C false 0 s ≡ Some k → taking 0x60 0x3C false 0 (take k s) ≡ Some k
front-taken s k e = taking-front 0x60 0x3C s false 0 k k (omega arith) e

-- what stands behind a first backtick
module _ (anonym : Bool) (s : List ℕ) (n : ℕ) (e : backticked_of anonym (0x60 ∷ s) ≡ Some n) where
  behind-tick : taking 0x60 0x60 false 0 s ≡ Some n
  behind-tick =
      let z : 0 + n ≡ n = omega arith in
      taken-from 0x60 0x60 0 s n (delimited-is (0x60 ∷ []) 0x60 0x60 (closing anonym) (0x60 ∷ s) n e).inner ∙ ap Some z

-- No < stands before the first unescaped backtick: there is no form.
pub text2target-unbracketed : (anonym label : Bool) (s : List ℕ) (k : ℕ) → taking 0x60 0x3C false 0 s ≡ Some k → k < length s → get_or s k 0 ≡ 0x60 → text2target_of anonym label (0x60 ∷ s) ≡ None
text2target-unbracketed anonym label s k e h f = form-empty anonym label (0x60 ∷ s) inside
  where
    inside : (n : ℕ) → backticked_of anonym (0x60 ∷ s) ≡ Some n → inside_of label (take n s) ≡ None
    inside n g =
        let z : n ≡ k = taken_is _ _ (sym (behind-tick anonym s n g) ∙ tick-taken s k (front-taken s k e) h f) in
        ap (λ (j : ℕ). inside_of label (take j s)) z ∙ inside-unbracketed s k (front-taken s k e) h label

-- a byte that is no < and no >
angle-first : (b : ℕ) → is_stop 0x3C 0x3E b ≡ false → is_stop 0x3C 0x3C b ≡ false
unfolding is_stop
angle-first b = go (eqb b 0x3C) (eqb b 0x3E)
  where
    go : (x y : Bool) → (x || y) ≡ false → (x || x) ≡ false
    go true y e = e
    go false y e = refl

-- a text begins with a byte
starts-byte : (c : ℕ) (s : List ℕ) (k : ℕ) → k < length s → starts_with (c ∷ []) (drop k s) ≡ true → get_or s k 0 ≡ c
unfolding starts_with
starts-byte c s k h e = go (eqb (get_or s k 0) c) refl (ap (starts_with (c ∷ [])) (sym (drop-next s k h)) ∙ e)
  where
    go : (x : Bool) → eqb (get_or s k 0) c ≡ x → starts_with (c ∷ []) (get_or s k 0 ∷ drop (k + 1) s) ≡ true → get_or s k 0 ≡ c
    go true f g = eqb-true _ _ f
    go false f g = absurd (true≢false (sym g ∙ simp (f, starts_with)))

-- a target in brackets that is all of a text, with its >, has no <
target_free : (r : List ℕ) (k : ℕ) → escaped_of 0x3C 0x3E r ≡ Some k → length r ≡ k + 1 → get_or r k 0 ≡ 0x3E → taking 0x3C 0x3C false 0 r ≡ Some (k + 1)
unfolding is_stop
target_free r k e h f =
    let z : 0 + k ≡ k = omega arith in
    let a = taking-front 0x3C 0x3E r false 0 k k (omega arith) (taken-from 0x3C 0x3E 0 r k e ∙ ap Some z) in
    let l : 0 + length (take k r) ≡ k = omega (arith, length-take-le k r (omega arith)) in
    ap (taking 0x3C 0x3C false 0) (sym (take-append-drop k r))
    ∙ taking-over 0x3C 0x3C (take k r) (drop k r) false 0 k l (taking-fewer 0x3C 0x3E 0x3C 0x3C angle-first (take k r) false 0 k l a)
    ∙ at_plain 0x3C 0x3C r k (omega arith) (λ (g : get_or r k 0 ≡ 0x5C). absurd (omega (arith, f, g))) (rw f refl)
    ∙ at-end 0x3C 0x3C r (k + 1) (omega arith)

-- A text that does not end in > holds no target in brackets.
inside-unangled : (label : Bool) (t : List ℕ) → ((k : ℕ) → k + 1 ≡ length t → get_or t k 0 ≡ 0x3E → ⊥) → inside_of label t ≡ None
inside-unangled label t h = text (escaped_of 0x3C 0x3C t) refl
  where
    not-all : (m k : ℕ) → delimited_of (0x3C ∷ []) 0x3C 0x3E (0x3E ∷ []) (drop m t) ≡ Some k → k + 2 ≡ length (drop m t) → ⊥
    not-all m k g i =
        let d = delimited-is (0x3C ∷ []) 0x3C 0x3E (0x3E ∷ []) (drop m t) k g in
        let u : drop 1 (drop m t) ≡ drop (m + 1) t = drop-drop 1 m t in
        let b = starts-byte 0x3E (drop (m + 1) t) k (omega (arith, i, length-drop m t, length-drop (m + 1) t)) (ap (λ (x : List ℕ). starts_with (0x3E ∷ []) (drop k x)) (sym u) ∙ d.ends) in
        h (m + 1 + k) (omega (arith, i, length-drop m t)) (sym (get_or-drop (m + 1) t k 0) ∙ b)

    opened : (m : ℕ) → escaped_of 0x3C 0x3C t ≡ Some m → (x : Option ℕ) → delimited_of (0x3C ∷ []) 0x3C 0x3E (0x3E ∷ []) (drop m t) ≡ x → inside_of label t ≡ None
    opened m g (Some k) i = inside-more label t m _ g refl k i (not-all m k i)
    opened m g None i = inside-open label t m _ g refl i

    text : (x : Option ℕ) → escaped_of 0x3C 0x3C t ≡ x → inside_of label t ≡ None
    text None g = inside-refused label t g
    text (Some m) g = opened m g _ refl

-- So there is no form where the part between the backticks does not end in >.
pub text2target-unangled :
    (anonym label : Bool) (s : List ℕ) (n : ℕ) → taking 0x60 0x60 false 0 s ≡ Some n → ((k : ℕ) → k + 1 ≡ n → get_or s k 0 ≡ 0x3E → ⊥)
    → text2target_of anonym label (0x60 ∷ s) ≡ None
text2target-unangled anonym label s n e h = form-empty anonym label (0x60 ∷ s) inside
  where
    size : length (take n s) ≡ n
    size = length-take-le n s (taking-le 0x60 0x60 s n e)

    inside : (m : ℕ) → backticked_of anonym (0x60 ∷ s) ≡ Some m → inside_of label (take m s) ≡ None
    inside m g =
        let z : m ≡ n = taken_is _ _ (sym (behind-tick anonym s m g) ∙ e) in
        ap (λ (j : ℕ). inside_of label (take j s)) z
        ∙ inside-unangled label (take n s) (λ k i f. h k (omega (arith, i, size)) (sym (get_or-take n s k 0 (omega (arith, i, size))) ∙ f))

-- Two < stand in a text t: at place m, and j bytes behind it.
module _
    (label : Bool) (t : List ℕ) (m j : ℕ) (e : taking 0x60 0x3C false 0 (take m t) ≡ Some m) (h : m < length t) (f : get_or t m 0 ≡ 0x3C)
    (e' : taking 0x60 0x3C false 0 (take j (drop (m + 1) t)) ≡ Some j) (h' : j < length (drop (m + 1) t)) (f' : get_or (drop (m + 1) t) j 0 ≡ 0x3C)
  where
    -- the target would end before the second
    not-all : (k : ℕ) → delimited_of (0x3C ∷ []) 0x3C 0x3E (0x3E ∷ []) (drop m t) ≡ Some k → k + 2 ≡ length (drop m t) → ⊥
    not-all k g i =
        let d = delimited-is (0x3C ∷ []) 0x3C 0x3E (0x3E ∷ []) (drop m t) k g in
        let u : drop 1 (drop m t) ≡ drop (m + 1) t = drop-drop 1 m t in
        let l : length (drop (m + 1) t) ≡ k + 1 = omega (arith, length-drop m t, length-drop (m + 1) t) in
        let b = starts-byte 0x3E (drop (m + 1) t) k (omega arith) (ap (λ (x : List ℕ). starts_with (0x3E ∷ []) (drop k x)) (sym u) ∙ d.ends) in
        let x = target_free (drop (m + 1) t) k (ap (escaped_of 0x3C 0x3E) (sym u) ∙ d.inner) l b in
        omega (arith, taken_is _ _ (sym x ∙ angle-taken (drop (m + 1) t) j e' h' f'))

    inside-opened : inside_of label t ≡ None
    inside-opened = text (escaped_of 0x3C 0x3C t) refl
      where
        bracket : (n k : ℕ) → escaped_of 0x3C 0x3C t ≡ Some n → n ≡ m → delimited_of (0x3C ∷ []) 0x3C 0x3E (0x3E ∷ []) (drop n t) ≡ Some k → inside_of label t ≡ None
        bracket n k g z i = inside-more label t n _ g refl k i (λ x. not-all k (ap (λ (y : ℕ). delimited_of (0x3C ∷ []) 0x3C 0x3E (0x3E ∷ []) (drop y t)) (sym z) ∙ i) (x ∙ ap (λ (y : ℕ). length (drop y t)) z))

        opened : (n : ℕ) → escaped_of 0x3C 0x3C t ≡ Some n → n ≡ m → (x : Option ℕ) → delimited_of (0x3C ∷ []) 0x3C 0x3E (0x3E ∷ []) (drop n t) ≡ x → inside_of label t ≡ None
        opened n g z (Some k) i = bracket n k g z i
        opened n g z None i = inside-open label t n _ g refl i

        text : (x : Option ℕ) → escaped_of 0x3C 0x3C t ≡ x → inside_of label t ≡ None
        text None g = inside-refused label t g
        text (Some n) g =
            let z : 0 + n ≡ m = taken_is _ _ (sym (taken-from 0x3C 0x3C 0 t n g) ∙ angle-taken t m e h f) in
            opened n g (omega arith) _ refl

-- So there is no form where two < stand before the first unescaped backtick.
module _
    (s : List ℕ) (m j : ℕ) (e : taking 0x60 0x3C false 0 s ≡ Some m) (h : m < length s) (f : get_or s m 0 ≡ 0x3C)
    (e' : taking 0x60 0x3C false 0 (drop (m + 1) s) ≡ Some j) (h' : j < length (drop (m + 1) s)) (f' : get_or (drop (m + 1) s) j 0 ≡ 0x3C)
  where
    pub text2target-opened : (anonym label : Bool) → text2target_of anonym label (0x60 ∷ s) ≡ None
    text2target-opened anonym label = form-empty anonym label (0x60 ∷ s) inside
      where
        inside : (n : ℕ) → backticked_of anonym (0x60 ∷ s) ≡ Some n → inside_of label (take n s) ≡ None
        inside n g =
            let a = tick-more s m (front-taken s m e) h n f (behind-tick anonym s n g) in
            let b = tick-more (drop (m + 1) s) j (front-taken (drop (m + 1) s) j e') h' (n - (m + 1)) f' a.1 in
            let l : length (take n s) ≡ n = length-take-le n s (taking-le 0x60 0x60 s n (behind-tick anonym s n g)) in
            inside-opened label (take n s) m j
            (ap (taking 0x60 0x3C false 0) (take-take m n s (omega (arith, a.0))) ∙ front-taken s m e)
            (omega (arith, a.0))
            (get_or-take n s m 0 (omega (arith, a.0)) ∙ f)
            (ap (taking 0x60 0x3C false 0) (part-front (m + 1) j n s (omega (arith, a.0, b.0))) ∙ front-taken (drop (m + 1) s) j e')
            (omega (arith, length-drop (m + 1) (take n s), a.0, b.0))
            (get_or-drop (m + 1) (take n s) j 0 ∙ get_or-take n s (m + 1 + j) 0 (omega (arith, a.0, b.0)) ∙ sym (get_or-drop (m + 1) s j 0) ∙ f')
