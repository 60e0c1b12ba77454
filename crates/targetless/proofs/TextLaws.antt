-- The texts of blocks from a place on: one byte more in front of a line is one byte more in front of the text; at a line's end the text goes on
-- with a space behind the bytes that are cut, and CR LF ends a line as LF does. Each goes by the first bytes.
-- Assumes nothing.
use Rattle.std.proofs.Common.{Option, Some, None}
use Prim.Native.Nat.{ℕ, suc, ◌+◌, ◌<◌}
use native.Mathlib.Omega.{arith}
use mathlib.Core.Path.{◌≡◌, refl, sym, ap, ◌∙◌}
use mathlib.Core.List.{List, [], ◌∷◌, ◌++◌}
use mathlib.Core.Bool.{Bool, true, false, ◌||◌, true≢false}
use lib.Dec.{eqb}
use lib.ListN.{length, get_or, drop, take, length-append}
use lib.Seq.{drop-drop}
use borrow.Author.Tests.{ne_eqb}
use Rattle.rst_bytes.specs.Line.{starts_lf, line_from, line_ending_of, not_line_ending_of}
use Rattle.rst_bytes.specs.Tag.{starts_with}
use Rattle.rst_bytes.proofs.Lists.{drop-next, part-from}
use Rattle.rst_bytes.proofs.TestLaws.{by-test, by-test₂, neither}
use Rattle.rst_bytes.proofs.EscapedLaws.{refused-taken, taken_is}
use Rattle.rst_bytes.proofs.LineLaws.{ending-lf, ending-crlf}
use Rattle.rst_bytes.proofs.TagLaws.{starts-append}
use Rattle.restructured_text.specs.Block.{three, cut_of, line_at, further_of, Joining, lines_of}
use Rattle.restructured_text.proofs.BlockLaws.{from, cut-none, further-none, lines_end, lines-further}
use Rattle.targetless.specs.Verdict.{joined_of, is_further, ends_line}

-- what is taken, with k bytes before it
abbrev later : ℕ → Option ℕ → Option ℕ
later k (Some n) = Some (k + n)
later k None = None

line-later : (k : ℕ) (l : List ℕ) (n : ℕ) → line_from (k + n) l ≡ later k (line_from n l)
unfolding line_from
line-later k [] n = refl
line-later k (b ∷ l) n =
    let z : k + n + 1 ≡ k + (n + 1) = omega arith in
    by-test₂ (λ x y. x ≡ later k y) (eqb b 10) _ _ _ _
    (λ e. refl)
    (λ e. by-test₂ (λ x y. x ≡ later k y) (eqb b 13) _ _ _ _
    (λ f. by-test₂ (λ x y. x ≡ later k y) (starts_lf l) _ _ _ _ (λ g. refl) (λ g. refl))
    (λ f. ap (λ (m : ℕ). line_from m l) z ∙ line-later k l (n + 1)))

-- neither LF nor CR
pub ends-none : (b : ℕ) → (b ≡ 10 → ⊥) → (b ≡ 13 → ⊥) → ends_line b ≡ false
ends-none b e f = ap (λ (x : Bool). x || eqb b 13) (ne_eqb b 10 e) ∙ ne_eqb b 13 f

-- a text by its first byte
pub first-is : (l : List ℕ) (c : ℕ) → 0 < length l → get_or l 0 0 ≡ c → l ≡ c ∷ drop 1 l
first-is l c h e = drop-next l 0 h ∙ ap (λ (b : ℕ). b ∷ drop 1 l) e

-- with the rest as the code has it
pub first-from : (s : List ℕ) (c : ℕ) → 0 < length s → get_or s 0 0 ≡ c → s ≡ c ∷ from s 1
first-from s c h e = first-is s c h e ∙ ap (λ (l : List ℕ). c ∷ l) (sym (part-from s 1))

-- A byte that ends no line.
module _ (b : ℕ) (l : List ℕ) (e : ends_line b ≡ false) where
  line-more : not_line_ending_of (b ∷ l) ≡ later 1 (not_line_ending_of l)
  unfolding line_from
  line-more =
      let w = neither (eqb b 10) (eqb b 13) e in
      rw (w.0, w.1, line_from) (line-later 1 l 0)

  pub line_refused : not_line_ending_of l ≡ None → not_line_ending_of (b ∷ l) ≡ None
  line_refused f = line-more ∙ ap (later 1) f

  pub line_taken : (m : ℕ) → not_line_ending_of l ≡ Some m → not_line_ending_of (b ∷ l) ≡ Some (1 + m)
  line_taken m f = line-more ∙ ap (later 1) f

  -- the line behind it
  pub line-behind : (n : ℕ) → not_line_ending_of (b ∷ l) ≡ Some n → (m : ℕ) × (not_line_ending_of l ≡ Some m) × (n ≡ suc m)
  line-behind n f = go (not_line_ending_of l) refl
    where
      go : (r : Option ℕ) → not_line_ending_of l ≡ r → (m : ℕ) × (not_line_ending_of l ≡ Some m) × (n ≡ suc m)
      go (Some m) g = (m, g, omega (arith, taken_is n (1 + m) (sym f ∙ line-more ∙ ap (later 1) g)))
      go None g = absurd (refused-taken n (sym (line_refused g) ∙ f))

  pub line-behind-refused : not_line_ending_of (b ∷ l) ≡ None → not_line_ending_of l ≡ None
  line-behind-refused f = go (not_line_ending_of l) refl
    where
      go : (r : Option ℕ) → not_line_ending_of l ≡ r → not_line_ending_of l ≡ None
      go (Some m) g = absurd (refused-taken (1 + m) (sym f ∙ line-more ∙ ap (later 1) g))
      go None g = g

  -- and the text
  pub text-byte :
      (indent : List ℕ) (n : ℕ) → not_line_ending_of (b ∷ l) ≡ Some n
      → (m : ℕ) × (not_line_ending_of l ≡ Some m) × (joined_of indent n (b ∷ l) ≡ b ∷ joined_of indent m l) × (drop n (b ∷ l) ≡ drop m l)
  text-byte indent n f =
      let w = line-behind n f in
      (w.0, w.1, ap (λ (k : ℕ). joined_of indent k (b ∷ l)) w.2, ap (λ (k : ℕ). drop k (b ∷ l)) w.2)

-- CR that no LF follows
pub cr-refused : (l : List ℕ) → starts_with (10 ∷ []) l ≡ false → not_line_ending_of (13 ∷ l) ≡ None
unfolding line_from starts_with
cr-refused [] h = refl
cr-refused (b ∷ l) h = go (eqb b 10) refl h
  where
    go : (x : Bool) → eqb b 10 ≡ x → elim x [ true ↦ true | false ↦ false ] ≡ false → not_line_ending_of (13 ∷ b ∷ l) ≡ None
    go true e f = absurd (true≢false f)
    go false e f = rw (e, line_from) refl

-- At a line's end.
pub line-here : (l : List ℕ) → not_line_ending_of (10 ∷ l) ≡ Some 0
unfolding line_from
line-here l = refl

-- a byte that ends a line, if it is not refused
pub line-stops : (b : ℕ) (l : List ℕ) (n : ℕ) → ends_line b ≡ true → not_line_ending_of (b ∷ l) ≡ Some n → n ≡ 0
unfolding line_from
line-stops b l n e f =
    by-test (λ r. r ≡ Some n → n ≡ 0) (eqb b 10) _ _
    (λ g i. sym (taken_is 0 n i))
    (λ g. by-test (λ r. r ≡ Some n → n ≡ 0) (eqb b 13) _ _
    (λ h. by-test (λ r. r ≡ Some n → n ≡ 0) (starts_lf l) _ _ (λ i j. sym (taken_is 0 n j)) (λ i j. absurd (refused-taken n j)))
    (λ h i. absurd (true≢false (sym e ∙ ap (λ (x : Bool). x || eqb b 13) g ∙ h))))
    f

-- no further line
pub text-end : (indent s : List ℕ) → further_of indent s ≡ None → joined_of indent 0 s ≡ []
text-end indent s e = ap (λ (j : Joining). j.text) (lines_end indent s e)

-- a further line
pub text-further : (indent s : List ℕ) (a m : ℕ) → further_of indent s ≡ Some (a, m) → joined_of indent 0 s ≡ 0x20 ∷ joined_of indent m (drop a s)
text-further indent s a m e =
    ap (λ (j : Joining). j.text) (lines-further indent s a m e)
    ∙ ap (λ (l : List ℕ). 0x20 ∷ (take m (drop a s) ++ (lines_of indent 0 l).text)) (sym (drop-drop m a s))

-- The further line, by its first bytes.

-- behind the a bytes that are cut
further-some : (indent s : List ℕ) (a : ℕ) → cut_of indent s ≡ Some a → further_of indent s ≡ line_at a (not_line_ending_of (drop a s))
unfolding further_of
further-some indent s a e = simp (e, further_of)

-- the indent and three spaces as one list, behind the k bytes of a line's end
cut_at : (indent s : List ℕ) (k : ℕ) → line_ending_of s ≡ Some k → cut_of indent s ≡ elim (starts_with (indent ++ three) (drop k s)) [ true ↦ Some (k + length indent + 3) | false ↦ None ]
unfolding cut_of
cut_at indent s k e = simp (e, starts-append, cut_of)

pub further-at :
    (indent s : List ℕ) (k : ℕ) → line_ending_of s ≡ Some k → further_of indent s
    ≡ elim (starts_with (indent ++ three) (drop k s)) [
      | true ↦ line_at (k + length indent + 3) (not_line_ending_of (drop (k + length indent + 3) s))
      | false ↦ None
    ]
further-at indent s k e = go (starts_with (indent ++ three) (drop k s)) (cut_at indent s k e)
  where
    go : (x : Bool) → cut_of indent s ≡ elim x [ true ↦ Some (k + length indent + 3) | false ↦ None ] → further_of indent s ≡ elim x [ true ↦ line_at (k + length indent + 3) (not_line_ending_of (drop (k + length indent + 3) s)) | false ↦ None ]
    go true f = further-some indent s (k + length indent + 3) f
    go false f = further-none indent s f

pub further-none-at : (indent s : List ℕ) → line_ending_of s ≡ None → further_of indent s ≡ None
further-none-at indent s e = further-none indent s (cut-none indent s e)

-- at LF
module _ (indent l : List ℕ) where
  further-lf :
      further_of indent (10 ∷ l)
      ≡ elim (starts_with (indent ++ three) l) [
        | true ↦ line_at (suc (length (indent ++ three))) (not_line_ending_of (drop (length (indent ++ three)) l))
        | false ↦ None
      ]
  further-lf =
      let z : 1 + length indent + 3 ≡ suc (length (indent ++ three)) = omega (arith, length-append indent three) in
      further-at indent (10 ∷ l) 1 (ending-lf (10 ∷ l) (omega arith) refl)
      ∙ ap (λ (k : ℕ). elim (starts_with (indent ++ three) l) [ true ↦ line_at k (not_line_ending_of (drop k (10 ∷ l))) | false ↦ None ]) z

  -- no indent and three spaces
  pub further-lf-other : starts_with (indent ++ three) l ≡ false → further_of indent (10 ∷ l) ≡ None
  further-lf-other e = further-lf ∙ rw e refl

  -- they stand there
  pub further-lf-starts : starts_with (indent ++ three) l ≡ true → further_of indent (10 ∷ l) ≡ line_at (suc (length (indent ++ three))) (not_line_ending_of (drop (length (indent ++ three)) l))
  further-lf-starts e = further-lf ∙ rw e refl

  -- CR LF
  further-crlf :
      further_of indent (13 ∷ 10 ∷ l)
      ≡ elim (starts_with (indent ++ three) l) [
        | true ↦ line_at (suc (suc (length (indent ++ three)))) (not_line_ending_of (drop (length (indent ++ three)) l))
        | false ↦ None
      ]
  further-crlf =
      let z : 2 + length indent + 3 ≡ suc (suc (length (indent ++ three))) = omega (arith, length-append indent three) in
      further-at indent (13 ∷ 10 ∷ l) 2 (ending-crlf (13 ∷ 10 ∷ l) (omega arith) (λ e. omega (arith, e)) refl refl)
      ∙ ap (λ (k : ℕ). elim (starts_with (indent ++ three) l) [ true ↦ line_at k (not_line_ending_of (drop k (13 ∷ 10 ∷ l))) | false ↦ None ]) z

-- The same further line, with one byte more before it.
abbrev SameLine : Option (ℕ × ℕ) → Option (ℕ × ℕ) → Type 0
SameLine (Some (a, n)) x = x ≡ Some ((suc a), n)
SameLine None x = x ≡ None

same_line : (indent l : List ℕ) → SameLine (further_of indent (10 ∷ l)) (further_of indent (13 ∷ 10 ∷ l))
same_line indent l = rw (further-lf indent l, further-crlf indent l) (go (starts_with (indent ++ three) l) (not_line_ending_of (drop (length (indent ++ three)) l)))
  where
    go :
        (x : Bool) (y : Option ℕ)
        → SameLine
        (elim x [ true ↦ line_at (suc (length (indent ++ three))) y | false ↦ None ])
        (elim x [ true ↦ line_at (suc (suc (length (indent ++ three)))) y | false ↦ None ])
    go true (Some n) = refl
    go true None = refl
    go false y = refl

module _ (indent l : List ℕ) where
  pub crlf-further : is_further (further_of indent (13 ∷ 10 ∷ l)) ≡ is_further (further_of indent (10 ∷ l))
  crlf-further = go (further_of indent (10 ∷ l)) (same_line indent l)
    where
      go : (x : Option (ℕ × ℕ)) → SameLine x (further_of indent (13 ∷ 10 ∷ l)) → is_further (further_of indent (13 ∷ 10 ∷ l)) ≡ is_further x
      go (Some (a, n)) e = ap is_further e
      go None e = ap is_further e

  -- the text is that of LF behind CR
  pub crlf-text : joined_of indent 0 (13 ∷ 10 ∷ l) ≡ joined_of indent 0 (10 ∷ l)
  crlf-text = go (further_of indent (10 ∷ l)) refl (same_line indent l)
    where
      go : (x : Option (ℕ × ℕ)) → further_of indent (10 ∷ l) ≡ x → SameLine x (further_of indent (13 ∷ 10 ∷ l)) → joined_of indent 0 (13 ∷ 10 ∷ l) ≡ joined_of indent 0 (10 ∷ l)
      go (Some (a, n)) e f = text-further indent (13 ∷ 10 ∷ l) (suc a) n f ∙ sym (text-further indent (10 ∷ l) a n e)
      go None e f = text-end indent (13 ∷ 10 ∷ l) f ∙ sym (text-end indent (10 ∷ l) e)

pub crlf-here : (l : List ℕ) → not_line_ending_of (13 ∷ 10 ∷ l) ≡ Some 0
unfolding line_from
crlf-here l = refl
