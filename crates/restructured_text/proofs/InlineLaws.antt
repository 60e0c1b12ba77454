-- The laws of `specs/Inline.antt`: the strings of an inline form by the raw parts that were copied to a scratch; how many bytes are
-- consumed, and how long the strings are; that there is always room; that nothing is found where no backticked run begins; and that
-- LF and a tail behind the input change nothing.
-- Assumes nothing.
use Rattle.std.proofs.Common.{Option, Some, None}
use Rattle.restructured_text.specs.Spans.{Spans}
use Prim.Native.Nat.{ℕ, suc, ◌+◌, ◌-◌, ◌<◌, ◌≤◌}
use native.Mathlib.Omega.{arith}
use mathlib.Core.Path.{◌≡◌, refl, sym, ap, ◌∙◌}
use mathlib.Core.List.{List, ◌∷◌, ◌++◌}
use mathlib.Core.Bool.{Bool, true, false, true≢false}
use mathlib.Core.Logic.{◌⊎◌, inl, inr}
use lib.ListN.{length, get_or, drop, take}
use lib.Seq.{take-length, take-append-add, drop-append-add}
use Rattle.rst_bytes.specs.Appending.{Tail}
use Rattle.rst_bytes.specs.Escaped.{taking}
use Rattle.rst_bytes.specs.Trim.{trim_of}
use Rattle.restructured_text.specs.declared.Span.{Span}
use Rattle.restructured_text.specs.Inner.{is_refused}
use Rattle.restructured_text.specs.Transform.{Given, whole, refused, text_of, destination_of}
use Rattle.restructured_text.specs.Strings.{Link, link, none, no_room, part, paired, linked, lent}
use Rattle.restructured_text.specs.Delimited.{backticked_of}
use Rattle.restructured_text.specs.Text2target.{text2target_of}
use Rattle.restructured_text.specs.Label.{parse_text2label_of}
use Rattle.restructured_text.specs.Inline.{finished_of, embedded_of, text2dest_of, text_label2dest_of, text2label_of}
use Rattle.restructured_text.proofs.TransformLaws.{text-over}
use Rattle.restructured_text.proofs.StringsLaws.{none-link, none-room, linked-append, linked-front, linked-le, linked-room, lent-enough}
use Rattle.restructured_text.proofs.Text2targetLaws.{form-none, Apart, Longer, ticked, angled, text2target-apart, text2target-lf, text2target-longer, text2target-unbracketed, text2target-unangled, text2target-opened}
use Rattle.restructured_text.proofs.LabelLaws.{Placed, reference-refused, reference-placed, reference-lf}

-- Two spans within the n bytes, at least one, that are consumed of a text of `size` bytes.
abbrev pub Within : ℕ → Option Spans → Type 0
Within size (Some (a, b, n)) = (a.start + a.len ≤ n) × (b.start + b.len ≤ n) × (n ≤ size) × (0 < n)
Within size None = Unit {0}

apart-within : (size : ℕ) (x : Option Spans) → Apart size x → Within size x
apart-within size (Some (a, b, n)) w = (omega arith, w.1, w.2, w.3)
apart-within size None w = tt

placed-within : (size : ℕ) (x : Option Spans) → Placed size x → Within size x
placed-within size (Some (a, b, n)) w = (w.1, w.2, w.3, w.4)
placed-within size None w = tt

-- which the raw parts of an inline form are
text2target-within : (anonym label : Bool) (s : List ℕ) → Within (length s) (text2target_of anonym label s)
text2target-within anonym label s = apart-within (length s) (text2target_of anonym label s) (text2target-apart anonym label s)

reference-within : (s : List ℕ) → Within (length s) (parse_text2label_of s)
reference-within s = placed-within (length s) (parse_text2label_of s) (reference-placed s)

-- The first n bytes of s, in which the raw parts stand, were copied to a scratch d, which is c then: the strings of the parts in c are
-- those of the input.
module _
    (t : Bool) (s d c : List ℕ) (x : Option Spans) (a b : Span) (n : ℕ) (y : Link) (e : x ≡ Some (a, b, n)) (h : length s ≤ length d)
    (k : c ≡ take (length (take n s)) (take n s) ++ drop (length (take n s)) d)
  where
    pub finished-copied : Within (length s) (Some (a, b, n)) → y ≡ linked t c a b n → y ≡ lent s d (finished_of t s x)
    finished-copied w f =
        f
        ∙ ap (λ (l : List ℕ). linked t l a b n) (k ∙ ap (λ (l : List ℕ). l ++ drop (length (take n s)) d) (take-length (take n s)))
        ∙ linked-front t a b n s (drop (length (take n s)) d) w.0 w.1 w.2
        ∙ ap (finished_of t s) (sym e)
        ∙ lent-enough s d (finished_of t s x) h

    -- the second does not stand behind the first: the two are the same
    pub finished-shared : Placed (length s) (Some (a, b, n)) → b.start < a.start + a.len → y ≡ linked t c a a n → y ≡ lent s d (finished_of t s x)
    finished-shared w g f = finished-copied (w.1, w.2, w.3, w.4) (f ∙ ap (λ (z : Span). linked t c a z n) (same w.0))
      where
        same : (a ≡ b) ⊎ (a.start + a.len ≤ b.start) → a ≡ b
        same (inl q) = q
        same (inr q) = absurd (omega arith)

-- What is consumed, and how long the strings are: no longer than the raw parts.
finished-consumed :
    (t : Bool) (s : List ℕ) (z : Option Spans) (x y : List ℕ) (n : ℕ) → Within (length s) z → finished_of t s z ≡ link x y n
    → (0 < n) × (n ≤ length s) × (length x ≤ n) × (length y ≤ n)
finished-consumed t s (Some (a, b, m)) x y n w e =
    let l = linked-le t a b m s x y n e in
    (omega arith, omega arith, omega arith, omega arith)
finished-consumed t s None x y n w e = absurd (none-link x y n e)

-- where one raw part stands behind the other, the two strings together too
finished-apart : (t : Bool) (s : List ℕ) (z : Option Spans) (x y : List ℕ) (n : ℕ) → Apart (length s) z → finished_of t s z ≡ link x y n → length x + length y ≤ n
finished-apart t s (Some (a, b, m)) x y n w e = let l = linked-le t a b m s x y n e in omega arith
finished-apart t s None x y n w e = absurd (none-link x y n e)

-- there is always room
finished-room : (t : Bool) (s : List ℕ) (z : Option Spans) → finished_of t s z ≡ no_room → ⊥
finished-room t s (Some (a, b, m)) e = linked-room t a b m s e
finished-room t s None e = none-room e

-- more behind the input
finished-append : (t : Bool) (s x : List ℕ) (z : Option Spans) → Within (length s) z → finished_of t (s ++ x) z ≡ finished_of t s z
finished-append t s x (Some (a, b, n)) w = linked-append t a b n s x (omega arith) (omega arith)
finished-append t s x None w = refl

-- The three forms.

embedded-consumed : (anonym : Bool) (s x y : List ℕ) (n : ℕ) → embedded_of anonym s ≡ link x y n → (0 < n) × (n ≤ length s) × (length x + length y ≤ n)
embedded-consumed anonym s x y n e =
    let w = finished-consumed true s (text2target_of anonym false s) x y n (text2target-within anonym false s) e in
    (w.0, w.1, finished-apart true s (text2target_of anonym false s) x y n (text2target-apart anonym false s) e)

pub text2dest-consumed : (s x y : List ℕ) (n : ℕ) → text2dest_of s ≡ link x y n → (0 < n) × (n ≤ length s) × (length x + length y ≤ n)
unfolding text2dest_of
text2dest-consumed s x y n e = embedded-consumed true s x y n e

pub text-label2dest-consumed : (s x y : List ℕ) (n : ℕ) → text_label2dest_of s ≡ link x y n → (0 < n) × (n ≤ length s) × (length x + length y ≤ n)
unfolding text_label2dest_of
text-label2dest-consumed s x y n e = embedded-consumed false s x y n e

-- text and label may be the same bytes
pub text2label-consumed : (s x y : List ℕ) (n : ℕ) → text2label_of s ≡ link x y n → (0 < n) × (n ≤ length s) × (length x ≤ n) × (length y ≤ n)
unfolding text2label_of
text2label-consumed s x y n e = finished-consumed false s (parse_text2label_of s) x y n (reference-within s) e

pub text2dest-room : (s : List ℕ) → text2dest_of s ≡ no_room → ⊥
unfolding text2dest_of
text2dest-room s e = finished-room true s (text2target_of true false s) e

pub text-label2dest-room : (s : List ℕ) → text_label2dest_of s ≡ no_room → ⊥
unfolding text_label2dest_of
text-label2dest-room s e = finished-room true s (text2target_of false false s) e

pub text2label-room : (s : List ℕ) → text2label_of s ≡ no_room → ⊥
unfolding text2label_of
text2label-room s e = finished-room false s (parse_text2label_of s) e

-- Nothing is found where no backticked run begins.
pub text2dest-refused : (s : List ℕ) → backticked_of true s ≡ None → text2dest_of s ≡ none
unfolding text2dest_of
text2dest-refused s e = ap (finished_of true s) (form-none true false s e)

pub text-label2dest-refused : (s : List ℕ) → backticked_of false s ≡ None → text_label2dest_of s ≡ none
unfolding text_label2dest_of
text-label2dest-refused s e = ap (finished_of true s) (form-none false false s e)

-- a word may be a reference too, but none begins with a backtick
pub text2label-refused : (r : List ℕ) → backticked_of false (0x60 ∷ r) ≡ None → text2label_of (0x60 ∷ r) ≡ none
unfolding text2label_of
text2label-refused r e = ap (finished_of false (0x60 ∷ r)) (reference-refused r e)

-- LF and a tail behind the input.
module _ (s t : List ℕ) (h : Tail t) where
  embedded-lf : (anonym : Bool) → embedded_of anonym (s ++ 10 ∷ t) ≡ embedded_of anonym s
  embedded-lf anonym =
      ap (finished_of true (s ++ 10 ∷ t)) (text2target-lf anonym false s t h.0)
      ∙ finished-append true s (10 ∷ t) (text2target_of anonym false s) (text2target-within anonym false s)

  pub text2dest-lf : text2dest_of (s ++ 10 ∷ t) ≡ text2dest_of s
  unfolding text2dest_of
  text2dest-lf = embedded-lf true

  pub text-label2dest-lf : text_label2dest_of (s ++ 10 ∷ t) ≡ text_label2dest_of s
  unfolding text_label2dest_of
  text-label2dest-lf = embedded-lf false

  pub text2label-lf : text2label_of (s ++ 10 ∷ t) ≡ text2label_of s
  unfolding text2label_of
  text2label-lf =
      ap (finished_of false (s ++ 10 ∷ t)) (reference-lf s t h.0)
      ∙ finished-append false s (10 ∷ t) (parse_text2label_of s) (reference-within s)

-- An embedded link behind a backtick that stands in the text before < of another.

-- two strings of which the first is refused or not as that of a pair without a link
paired_alike : (g g' h : Given) (n n' : ℕ) → is_refused g ≡ is_refused g' → paired g h n ≡ none → paired g' h n' ≡ none
unfolding is_refused
paired_alike (whole x) (whole x') (whole y) n n' e f = absurd (none-link x y n (sym f))
paired_alike (whole x) (whole x') (refused y) n n' e f = refl
paired_alike (whole x) (refused x') h n n' e f = refl
paired_alike (refused x) (whole x') h n n' e f = absurd (true≢false e)
paired_alike (refused x) (refused x') h n n' e f = refl

module _ (l s : List ℕ) (some : 0 < length l) (open-taken : taking 0x60 0x3C false 0 l ≡ Some (length l)) (trimmed : (t : List ℕ) → trim_of (l ++ t) ≡ length l + trim_of t) where
  -- where there is none with l before it, there is none without
  finished-longer : (x y : Option Spans) → Apart (length (0x60 ∷ s)) x → Longer 1 (length l) x y → finished_of true (0x60 ∷ l ++ s) y ≡ none → finished_of true (0x60 ∷ s) x ≡ none
  finished-longer (Some (a, b, n)) y u w e =
      let i : length l + b.start ≡ suc (length l + (b.start - 1)) = omega (arith, w.0) in
      let j : b.start ≡ suc (b.start - 1) = omega (arith, w.0) in
      let target : drop (length l + b.start) (0x60 ∷ l ++ s) ≡ drop b.start (0x60 ∷ s) = ap (λ (k : ℕ). drop k (0x60 ∷ l ++ s)) i ∙ drop-append-add l s (b.start - 1) ∙ sym (ap (λ (k : ℕ). drop k (0x60 ∷ s)) j) in
      let text : take a.len (drop a.start (0x60 ∷ s)) ≡ take a.len s = ap (λ (k : ℕ). take a.len (drop k (0x60 ∷ s))) w.0 in
      let f = sym (ap (finished_of true (0x60 ∷ l ++ s)) w.1) ∙ e in
      paired_alike (text_of (take (length l + a.len) (l ++ s))) (text_of (part a (0x60 ∷ s))) (destination_of (part b (0x60 ∷ s))) (length l + n) n
      (ap (λ (r : List ℕ). is_refused (text_of r)) (take-append-add l s a.len) ∙ text-over 0x60 0x3C l (take a.len s) open-taken ∙ ap (λ (r : List ℕ). is_refused (text_of r)) (sym text))
      (ap (λ (r : List ℕ). paired (text_of (take (length l + a.len) (l ++ s))) (destination_of (take b.len r)) (length l + n)) (sym target) ∙ f)
  finished-longer None y u w e = refl

  pub embedded-longer : (anonym : Bool) → embedded_of anonym (0x60 ∷ l ++ s) ≡ none → embedded_of anonym (0x60 ∷ s) ≡ none
  embedded-longer anonym e =
      finished-longer (text2target_of anonym false (0x60 ∷ s)) (text2target_of anonym false (0x60 ∷ l ++ s)) (text2target-apart anonym false (0x60 ∷ s))
      (text2target-longer false l some (ticked l open-taken) (angled l open-taken) trimmed anonym s) e

-- Nor is there one where no < stands before the next unescaped backtick.
pub embedded-unbracketed : (s : List ℕ) (k : ℕ) → taking 0x60 0x3C false 0 s ≡ Some k → k < length s → get_or s k 0 ≡ 0x60 → (anonym : Bool) → embedded_of anonym (0x60 ∷ s) ≡ none
embedded-unbracketed s k e h f anonym = ap (finished_of true (0x60 ∷ s)) (text2target-unbracketed anonym false s k e h f)

-- Nor where the part that the backtick begins does not end in >.
pub embedded-unangled : (s : List ℕ) (n : ℕ) → taking 0x60 0x60 false 0 s ≡ Some n → ((k : ℕ) → k + 1 ≡ n → get_or s k 0 ≡ 0x3E → ⊥) → (anonym : Bool) → embedded_of anonym (0x60 ∷ s) ≡ none
embedded-unangled s n e h anonym = ap (finished_of true (0x60 ∷ s)) (text2target-unangled anonym false s n e h)

-- Nor where two do: at place m, and j bytes behind it.
pub embedded-opened :
    (s : List ℕ) (m j : ℕ) → taking 0x60 0x3C false 0 s ≡ Some m → m < length s → get_or s m 0 ≡ 0x3C
    → taking 0x60 0x3C false 0 (drop (m + 1) s) ≡ Some j → j < length (drop (m + 1) s) → get_or (drop (m + 1) s) j 0 ≡ 0x3C
    → (anonym : Bool) → embedded_of anonym (0x60 ∷ s) ≡ none
embedded-opened s m j e h f e' h' f' anonym = ap (finished_of true (0x60 ∷ s)) (text2target-opened s m j e h f e' h' f' anonym false)
