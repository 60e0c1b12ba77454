-- Text without links: where no `_` and no backtick stands before white space, or before the end, no inline form is found. A reference ends
-- with `_` or begins with a backtick, as an embedded link does, and white space is in no word. Where none stands before LF, or before the
-- end, there is no target either: it has a `_` before its name, and none of the bytes before that is LF.
-- Assumes nothing.
use Rattle.std.proofs.Common.{None}
use Prim.Native.Nat.{ℕ, ◌-◌, ◌<◌}
use native.Mathlib.Omega.{arith}
use mathlib.Core.Path.{◌≡◌, refl, sym, ap, ◌∙◌}
use mathlib.Core.List.{List, [], ◌∷◌, ◌++◌, append-nil}
use mathlib.Core.Bool.{Bool, true, false, ◌&&◌, ◌||◌, and-false, true≢false}
use mathlib.Core.Logic.{inr}
use lib.Dec.{leb}
use lib.ListN.{length, drop, take}
use lib.Seq.{take-append-le, drop-append-le}
use Rattle.rst_bytes.specs.Appending.{free}
use Rattle.rst_bytes.specs.Escaped.{is_stop}
use Rattle.rst_bytes.specs.Line.{is_multispace, space0_of}
use Rattle.rst_bytes.specs.Tag.{starts_with}
use Rattle.rst_bytes.specs.Word.{is_ascii_word, word_of}
use Rattle.rst_bytes.proofs.EscapedLaws.{free-drop, free-take}
use Rattle.rst_bytes.proofs.LineLaws.{space0-le, space0-lf, multispace-cases}
use Rattle.rst_bytes.proofs.TagLaws.{starts-free, starts-byte, starts-lf}
use Rattle.rst_bytes.proofs.WordLaws.{word-within, word-ended}
use Rattle.restructured_text.specs.Calm.{calm, Parted, Ended}
use Rattle.restructured_text.specs.Delimited.{ends_with, closing, backticked_of}
use Rattle.restructured_text.specs.Label.{word_label_of, run_label_of}
use Rattle.restructured_text.specs.Strings.{none}
use Rattle.restructured_text.specs.Inline.{finished_of, text2dest_of, text_label2dest_of, text2label_of}
use Rattle.restructured_text.specs.Target.{label2dest_of, label2label_of, starts_target}
use Rattle.restructured_text.proofs.DelimitedLaws.{delimited-none, backticked-other}
use Rattle.restructured_text.proofs.Text2targetLaws.{form-none}
use Rattle.restructured_text.proofs.LabelLaws.{word_none, raw_word, simple-none, form-simple, reference-none}
use Rattle.restructured_text.proofs.InlineLaws.{text2dest-refused, text-label2dest-refused}
use Rattle.restructured_text.proofs.TargetLaws.{no_target}

-- the parts of a calm text are calm
pub calm-drop : (n : ℕ) (s : List ℕ) → calm s ≡ true → calm (drop n s) ≡ true
unfolding calm
calm-drop n s h = free-drop 0x5F 0x60 n s h

calm-take : (n : ℕ) (s : List ℕ) → calm s ≡ true → calm (take n s) ≡ true
unfolding calm
calm-take n s h = free-take 0x5F 0x60 n s h

-- white space is below 80, in no word, and no backtick
abbrev White : ℕ → Type 0
White b = (b < 0x80) × (is_ascii_word b ≡ false) × (free b b (0x60 ∷ []) ≡ true)

white : (b : ℕ) → is_multispace b ≡ true → White b
unfolding is_ascii_word free is_stop
white b h =
    multispace-cases White b h (omega arith, refl, refl) (omega arith, refl, refl) (omega arith, refl, refl) (omega arith, refl, refl)

-- white space and more behind a text, or nothing: what white space does not change
parted : {A : Type 0} (f : List ℕ → A) (x z : List ℕ) → Parted z → ((b : ℕ) → White b → (t : List ℕ) → f (x ++ b ∷ t) ≡ f x) → f (x ++ z) ≡ f x
parted f x [] h g = ap f (append-nil x)
parted f x (b ∷ t) h g = g b (white b h) t

-- LF and more behind a text, or nothing: what LF does not change
ended : {A : Type 0} (f : List ℕ → A) (x z : List ℕ) → Ended z → ((t : List ℕ) → f (x ++ 10 ∷ t) ≡ f x) → f (x ++ z) ≡ f x
ended f x [] h g = ap f (append-nil x)
ended f x (b ∷ t) h g = ap (λ (c : ℕ). f (x ++ c ∷ t)) h ∙ g t

-- bytes that are not calm begin no calm text
not-starts : (p x : List ℕ) → calm x ≡ true → calm p ≡ false → starts_with p x ≡ false
unfolding calm
not-starts p x h k = go (starts_with p x) refl
  where
    go : (b : Bool) → starts_with p x ≡ b → b ≡ false
    go true e = absurd (true≢false (sym (starts-free 0x5F 0x60 p x h e) ∙ k))
    go false e = refl

not-ends : (p x : List ℕ) → calm x ≡ true → calm p ≡ false → ends_with p x ≡ false
unfolding ends_with
not-ends p x h k =
    ap (λ (b : Bool). leb (length p) (length x) && b) (not-starts p (drop (length x - length p) x) (calm-drop (length x - length p) x h) k)
    ∙ and-false (leb (length p) (length x))

-- A calm text x, and z: nothing, or white space and more.
module _ (x z : List ℕ) (h : calm x ≡ true) (e : Parted z) where
  -- no backticked run begins
  no-backtick : (anonym : Bool) → backticked_of anonym (x ++ z) ≡ None
  unfolding calm free is_stop
  no-backtick anonym =
      delimited-none (0x60 ∷ []) 0x60 0x60 (closing anonym) (x ++ z)
      (parted (starts_with (0x60 ∷ [])) x z e (λ b w t. starts-byte b (0x60 ∷ []) x t w.2) ∙ not-starts (0x60 ∷ []) x h refl)

  pub calm-text2dest : text2dest_of (x ++ z) ≡ none
  calm-text2dest = text2dest-refused (x ++ z) (no-backtick true)

  pub calm-text-label2dest : text_label2dest_of (x ++ z) ≡ none
  calm-text-label2dest = text-label2dest-refused (x ++ z) (no-backtick false)

  -- a word that does not end with _
  no_word : word_label_of (x ++ z) ≡ None
  unfolding calm free is_stop
  no_word =
      word_none (x ++ z) (take (word_of x) x) (word_of x) (sym is) (sym (take-append-le (word_of x) x z (word-within x)))
      (inr (not-ends (0x5F ∷ 0x5F ∷ []) _ (calm-take (word_of x) x h) refl)) (not-ends (0x5F ∷ []) _ (calm-take (word_of x) x h) refl)
    where
      is : word_of (x ++ z) ≡ word_of x
      is = parted word_of x z e (λ b w t. word-ended b w.0 w.1 x t)

  pub calm-text2label : text2label_of (x ++ z) ≡ none
  unfolding text2label_of
  calm-text2label =
      ap (finished_of false (x ++ z))
      (reference-none (x ++ z)
      (form-simple (x ++ z) None (form-none false true (x ++ z) (no-backtick false))
      (simple-none (x ++ z) (raw_word (x ++ z) (no-backtick false) ∙ no_word))))

-- at a byte that is no backtick and begins no word there is no reference
pub void-text2label : (b : ℕ) (l : List ℕ) → (b ≡ 0x60 → ⊥) → word_of (b ∷ l) ≡ 0 → text2label_of (b ∷ l) ≡ none
unfolding text2label_of word_label_of ends_with
void-text2label b l h e =
    let tick = backticked-other false b l h in
    let word : word_label_of (b ∷ l) ≡ None = ap (λ (w : ℕ). run_label_of w (take w (b ∷ l))) e in
    ap (finished_of false (b ∷ l))
    (reference-none (b ∷ l) (form-simple (b ∷ l) None (form-none false true (b ∷ l) tick) (simple-none (b ∷ l) (raw_word (b ∷ l) tick ∙ word))))

-- A calm text x, and z: nothing, or LF and more.
module _ (x z : List ℕ) (h : calm x ≡ true) (e : Ended z) where
  -- no target starts
  no-target-starts : starts_target (x ++ z) ≡ false
  unfolding starts_target calm free is_stop
  no-target-starts =
      ap (λ (b : Bool). b || starts_with (0x5F ∷ 0x5F ∷ 0x20 ∷ []) (drop (space0_of (x ++ z)) (x ++ z))) (at (0x2E ∷ 0x2E ∷ 0x20 ∷ 0x5F ∷ []) refl refl)
      ∙ at (0x5F ∷ 0x5F ∷ 0x20 ∷ []) refl refl
    where
      indent : space0_of (x ++ z) ≡ space0_of x
      indent = ended space0_of x z e (space0-lf x)

      at : (p : List ℕ) → calm p ≡ false → free 10 10 p ≡ true → starts_with p (drop (space0_of (x ++ z)) (x ++ z)) ≡ false
      at p k f =
          ap (starts_with p) (ap (λ (n : ℕ). drop n (x ++ z)) indent ∙ drop-append-le (space0_of x) x z (space0-le x))
          ∙ ended (starts_with p) (drop (space0_of x) x) z e (λ t. starts-lf p (drop (space0_of x) x) t f)
          ∙ not-starts p (drop (space0_of x) x) (calm-drop (space0_of x) x h) k

  pub calm-label2label : label2label_of (x ++ z) ≡ none
  unfolding label2label_of
  calm-label2label = no_target true (x ++ z) no-target-starts

  pub calm-label2dest : label2dest_of (x ++ z) ≡ none
  unfolding label2dest_of
  calm-label2dest = no_target false (x ++ z) no-target-starts
