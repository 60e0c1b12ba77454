-- A word label at the front of a line is one at the front of the block's text: a word ends at the line's end, and in the text at the space that joins
-- the next line, or with the text.
-- Assumes nothing.
use Rattle.std.proofs.Common.{Option, Some, None}
use Prim.Native.Nat.{ℕ, ◌-◌, ◌<◌, ◌≤◌}
use native.Mathlib.Omega.{arith}
use mathlib.Core.Path.{◌≡◌, refl, sym, ap, subst⁻¹, ◌∙◌}
use mathlib.Core.List.{List, [], ◌∷◌, ◌++◌, append-nil}
use mathlib.Core.Bool.{Bool, true, false, ◌&&◌}
use mathlib.Core.Logic.{⊎_elim}
use lib.Dec.{eqb, leb, ltb}
use lib.ListN.{length, get_or, drop, take, take-append-drop, get_or-append}
use borrow.Author.Tests.{eqb-true, eq-eqb, ne_eqb, lt-ltb, le-ltb}
use Rattle.std.proofs.lemmas.Bool.{cases_Bool}
use Rattle.rst_bytes.specs.Line.{line_ending_of, not_line_ending_of}
use Rattle.rst_bytes.specs.Word.{is_ascii_word, word_of}
use Rattle.rst_bytes.proofs.Lists.{drop-end}
use Rattle.rst_bytes.proofs.TestLaws.{picks_second, lt-or-le}
use Rattle.rst_bytes.proofs.EscapedLaws.{refused-taken}
use Rattle.rst_bytes.proofs.LineLaws.{not-line-ending-end}
use Rattle.rst_bytes.proofs.WordLaws.{word-within, word-ended}
use Rattle.restructured_text.specs.Block.{further_of, Joining, lines_of}
use Rattle.restructured_text.proofs.BlockLaws.{lines_end, lines-further}
use Rattle.targetless.specs.Verdict.{joined_of}
use Rattle.targetless.specs.Runs.{word_labelled}

-- no word goes on into this text
abbrev Ended : List ℕ → Type 0
Ended [] = Unit {0}
Ended (c ∷ l) = (c < 0x80) × (is_ascii_word c ≡ false)

word-before : (x y : List ℕ) → Ended y → word_of (x ++ y) ≡ word_of x
word-before x [] w = ap word_of (append-nil x)
word-before x (c ∷ y) w = word-ended c w.0 w.1 x y

-- by the word's length
abbrev pub labelled : List ℕ → ℕ → Bool
labelled s m = ltb 1 m && (eqb (get_or s (m - 1) 0) 0x5F && leb m (elim (eqb (get_or s (m - 2) 0) 0x5F) [ true ↦ 1001 | false ↦ 1000 ]))

-- so a word label before it is the same without it
labelled-before : (x y : List ℕ) → Ended y → word_labelled (x ++ y) ≡ word_labelled x
unfolding word_labelled
labelled-before x y w =
    ⊎_elim
    (λ h.
    ap (labelled (x ++ y)) (word-before x y w)
    ∙ ap (λ (c : ℕ). ltb 1 (word_of x) && (eqb c 0x5F && leb (word_of x) (elim (eqb (get_or (x ++ y) (word_of x - 2) 0) 0x5F) [ true ↦ 1001 | false ↦ 1000 ])))
    (get_or-append x y 0 (word_of x - 1) (omega (arith, word-within x)))
    ∙ ap (λ (c : ℕ). ltb 1 (word_of x) && (eqb (get_or x (word_of x - 1) 0) 0x5F && leb (word_of x) (elim (eqb c 0x5F) [ true ↦ 1001 | false ↦ 1000 ])))
    (get_or-append x y 0 (word_of x - 2) (omega (arith, word-within x))))
    (λ h.
    let z : word_of x ≡ 0 = omega arith in
    ap (labelled (x ++ y)) (word-before x y w ∙ z)
    ∙ sym (ap (labelled x) z))
    (lt-or-le 0 (word_of x))

-- a line's end
ending-ended : (l : List ℕ) (j : ℕ) → line_ending_of l ≡ Some j → Ended l
unfolding line_ending_of is_ascii_word
ending-ended [] j e = tt
ending-ended (b ∷ l) j e =
    ⊎_elim
    (λ f. subst⁻¹ (λ (c : ℕ). Ended (c ∷ l)) (eqb-true b 10 f) (omega arith, refl))
    (λ f. ⊎_elim
    (λ g. subst⁻¹ (λ (c : ℕ). Ended (c ∷ l)) (eqb-true b 13 g) (omega arith, refl))
    (λ g. absurd (refused-taken j (sym (picks_second _ _ _ f ∙ picks_second _ _ _ g) ∙ e)))
    (cases_Bool (eqb b 13)))
    (cases_Bool (eqb b 10))

line-ended : (s : List ℕ) (n : ℕ) → not_line_ending_of s ≡ Some n → Ended (drop n s)
line-ended s n e =
    ⊎_elim
    (λ h. ⊎_elim (λ f. ending-ended (drop n s) 1 f) (λ f. ending-ended (drop n s) 2 f) (not-line-ending-end s n e h))
    (λ h. subst⁻¹ Ended (drop-end s n h) tt)
    (lt-or-le n (length s))

-- further lines
lines-ended : (indent s : List ℕ) → Ended (lines_of indent 0 s).text
unfolding is_ascii_word
lines-ended indent s = go (further_of indent s) refl
  where
    go : (x : Option (ℕ × ℕ)) → further_of indent s ≡ x → Ended (lines_of indent 0 s).text
    go (Some (a, n)) e = subst⁻¹ (λ (j : Joining). Ended j.text) (lines-further indent s a n e) (omega arith, refl)
    go None e = subst⁻¹ (λ (j : Joining). Ended j.text) (lines_end indent s e) tt

pub word-joined : (indent s : List ℕ) (n : ℕ) → not_line_ending_of s ≡ Some n → word_labelled s ≡ false → word_labelled (joined_of indent n s) ≡ false
word-joined indent s n e f =
    labelled-before (take n s) (lines_of indent 0 (drop n s)).text (lines-ended indent (drop n s))
    ∙ sym (labelled-before (take n s) (drop n s) (line-ended s n e))
    ∙ ap word_labelled (take-append-drop n s)
    ∙ f

-- A word of w bytes: its last bytes and its length tell.
module _ (v : List ℕ) (w : ℕ) (e : w ≡ word_of v) where
  labelled-is : labelled v w ≡ word_labelled v
  unfolding word_labelled
  labelled-is = ap (labelled v) e

  pub labelled-short : w < 2 → false ≡ word_labelled v
  labelled-short h = sym (simp (le-ltb 1 w (omega arith))) ∙ labelled-is

  module _ (h : 2 ≤ w) where
    pub last_within : w - 1 < length v
    last_within = omega (arith, e, word-within v)

    pub labelled-not : (get_or v (w - 1) 0 ≡ 0x5F → ⊥) → false ≡ word_labelled v
    labelled-not f = sym (simp (lt-ltb 1 w (omega arith), ne_eqb _ _ f)) ∙ labelled-is

    pub labelled-two : get_or v (w - 2) 0 ≡ 0x5F → get_or v (w - 1) 0 ≡ 0x5F → leb w 1001 ≡ word_labelled v
    labelled-two f g = sym (simp (lt-ltb 1 w (omega arith), eq-eqb _ _ g, eq-eqb _ _ f)) ∙ labelled-is

    pub labelled-one : (get_or v (w - 2) 0 ≡ 0x5F → ⊥) → get_or v (w - 1) 0 ≡ 0x5F → leb w 1000 ≡ word_labelled v
    labelled-one f g = sym (simp (lt-ltb 1 w (omega arith), eq-eqb _ _ g, ne_eqb _ _ f)) ∙ labelled-is
