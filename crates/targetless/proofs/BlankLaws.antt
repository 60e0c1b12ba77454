-- Blanks: what a text begins with, as an indent with three spaces; the blanks that two texts have in common; and a line that begins with blanks, by
-- what stands behind them.
-- Assumes nothing.
use Rattle.std.proofs.Common.{Some, None}
use Prim.Native.Nat.{ℕ, zero, suc, ◌+◌, ◌<◌, ◌≤◌}
use native.Mathlib.Omega.{arith}
use mathlib.Core.Path.{◌≡◌, refl, sym, ap, subst⁻¹, ◌∙◌}
use mathlib.Core.List.{List, [], ◌∷◌, ◌++◌}
use mathlib.Core.Bool.{Bool, true, false, false≢true, true≢false}
use mathlib.Core.Logic.{⊎_elim}
use lib.Dec.{eqb}
use lib.ListN.{length, get_or, drop, length-append}
use borrow.Author.Tests.{eq-eqb, eqb-true}
use Rattle.std.proofs.lemmas.Bool.{cases_Bool}
use Rattle.rst_bytes.specs.Line.{bytes_from, not_line_ending_of, is_space, space0_of}
use Rattle.rst_bytes.specs.Tag.{starts_with}
use Rattle.rst_bytes.proofs.TestLaws.{picks_first, picks_second, or_cases, lt-or-le}
use Rattle.rst_bytes.proofs.EscapedLaws.{taken_is}
use Rattle.rst_bytes.proofs.LineLaws.{bytes_count}
use Rattle.rst_bytes.proofs.TagLaws.{starts-le}
use Rattle.restructured_text.specs.Block.{three}
use Rattle.targetless.specs.Verdict.{joined_of, Blank, ends_line, Shared}
use Rattle.targetless.proofs.TextLaws.{line-behind, line-behind-refused}

-- Blanks.

pub space-cases : (P : ℕ → Type 0) (b : ℕ) → is_space b ≡ true → P 32 → P 9 → P b
unfolding is_space
space-cases P b h space tab =
    ⊎_elim (at 32 space) (λ i. ⊎_elim (at 9 tab) (λ j. absurd (false≢true j)) (or_cases (eqb b 9) _ i)) (or_cases (eqb b 32) _ h)
  where
    at : (n : ℕ) → P n → eqb b n ≡ true → P b
    at n w e = subst⁻¹ P (eqb-true b n e) w

-- they end no line, and are no backslash
pub space-plain : (b : ℕ) → is_space b ≡ true → (ends_line b ≡ false) × (eqb b 0x5C ≡ false)
space-plain b e = space-cases (λ c. (ends_line c ≡ false) × (eqb c 0x5C ≡ false)) b e (refl, refl) (refl, refl)

pub blank-next : (c : ℕ) (q : List ℕ) → Blank (c ∷ q) → Blank q
blank-next c q f i h = f (suc i) (omega arith)

-- so is an indent with three spaces
pub blank-three : (indent : List ℕ) → Blank indent → Blank (indent ++ three)
unfolding is_space
blank-three [] f zero h = refl
blank-three [] f (suc zero) h = refl
blank-three [] f (suc (suc zero)) h = refl
blank-three [] f (suc (suc (suc i))) h = absurd (omega arith)
blank-three (c ∷ indent) f zero h = f 0 (omega arith)
blank-three (c ∷ indent) f (suc i) h = blank-three indent (blank-next c indent f) i (omega arith)

-- What a text begins with.

pub starts-next : (c b : ℕ) (q s : List ℕ) → starts_with (c ∷ q) (b ∷ s) ≡ true → (b ≡ c) × (starts_with q s ≡ true)
unfolding starts_with
starts-next c b q s e = go (eqb b c) refl e
  where
    go : (x : Bool) → eqb b c ≡ x → elim x [ true ↦ starts_with q s | false ↦ false ] ≡ true → (b ≡ c) × (starts_with q s ≡ true)
    go true f g = (eqb-true b c f, g)
    go false f g = absurd (false≢true g)

starts_more : (c b : ℕ) (q s : List ℕ) → b ≡ c → starts_with q s ≡ true → starts_with (c ∷ q) (b ∷ s) ≡ true
unfolding starts_with
starts_more c b q s e f = picks_first (eqb b c) _ _ (eq-eqb b c e) ∙ f

starts-never : (c : ℕ) (q : List ℕ) → starts_with (c ∷ q) [] ≡ false
unfolding starts_with
starts-never c q = refl

pub starts-all : (s : List ℕ) → starts_with [] s ≡ true
unfolding starts_with
starts-all s = refl

starts-get : (q s : List ℕ) → starts_with q s ≡ true → (i : ℕ) → i < length q → get_or s i 0 ≡ get_or q i 0
starts-get [] s e i h = absurd (omega arith)
starts-get (c ∷ q) [] e i h = absurd (false≢true (sym (starts-never c q) ∙ e))
starts-get (c ∷ q) (b ∷ s) e zero h = (starts-next c b q s e).0
starts-get (c ∷ q) (b ∷ s) e (suc i) h = starts-get q s (starts-next c b q s e).1 i (omega arith)

-- so does one that has the same first bytes
starts-same : (q s t : List ℕ) → starts_with q s ≡ true → ((i : ℕ) → i < length q → (i < length t) × (get_or s i 0 ≡ get_or t i 0)) → starts_with q t ≡ true
starts-same [] s t e f = starts-all t
starts-same (c ∷ q) [] t e f = absurd (false≢true (sym (starts-never c q) ∙ e))
starts-same (c ∷ q) (b ∷ s) [] e f = absurd (omega (arith, (f 0 (omega arith)).0))
starts-same (c ∷ q) (b ∷ s) (d ∷ t) e f =
    let w = starts-next c b q s e in
    starts_more c d q t (sym (f 0 (omega arith)).1 ∙ w.0)
    (starts-same q s t w.1 (λ i h.
    let g = f (suc i) (omega arith) in
    (omega (arith, g.0), g.1)))

-- the first blanks that two texts have in common
shared-both : (q s t : List ℕ) (k : ℕ) → Blank q → Shared k s t → starts_with q s ≡ true → starts_with q t ≡ true → length q ≤ k
shared-both q s t k blank shared e f =
    ⊎_elim
    (λ h.
    let get = starts-get q s e k h in
    let same = get ∙ sym (starts-get q t f k h) in
    let no = shared.1 (omega (arith, starts-le q s e)) (omega (arith, starts-le q t f)) same in
    absurd (true≢false (sym (ap is_space get ∙ blank k h) ∙ no)))
    (λ h. h)
    (lt-or-le k (length q))

shared-starts : (q s t : List ℕ) (k : ℕ) → Shared k s t → length q ≤ k → starts_with q s ≡ true → starts_with q t ≡ true
shared-starts q s t k shared h e =
    starts-same q s t e (λ i l.
    let w = shared.0 i (omega (arith, l, h)) in
    (w.1, w.2))

-- an indent with three spaces before both
module _ (indent s t : List ℕ) (k : ℕ) where
  pub shared-fewer : Blank indent → Shared k s t → starts_with (indent ++ three) s ≡ true → starts_with (indent ++ three) t ≡ true → length indent + 3 ≤ k
  shared-fewer blank shared e f = omega (arith, length-append indent three, shared-both (indent ++ three) s t k (blank-three indent blank) shared e f)

  pub shared-more : Shared k s t → length indent + 3 ≤ k → starts_with (indent ++ three) s ≡ true → starts_with (indent ++ three) t ≡ true
  shared-more shared h e = shared-starts (indent ++ three) s t k shared (omega (arith, length-append indent three, h)) e

-- A line that begins with blanks, by what stands behind them.
pub blank-line : (q s : List ℕ) (n : ℕ) → Blank q → starts_with q s ≡ true → not_line_ending_of s ≡ Some n → (k : ℕ) × (not_line_ending_of (drop (length q) s) ≡ Some k)
blank-line [] s n blank e f = (n, f)
blank-line (c ∷ q) [] n blank e f = absurd (false≢true (sym (starts-never c q) ∙ e))
blank-line (c ∷ q) (b ∷ s) n blank e f =
    let w = starts-next c b q s e in
    let y = line-behind b s (space-plain b (ap is_space w.0 ∙ blank 0 (omega arith))).0 n f in
    blank-line q s y.0 (blank-next c q blank) w.1 y.1

pub blank-refused : (q s : List ℕ) → Blank q → starts_with q s ≡ true → not_line_ending_of s ≡ None → not_line_ending_of (drop (length q) s) ≡ None
blank-refused [] s blank e f = f
blank-refused (c ∷ q) [] blank e f = absurd (false≢true (sym (starts-never c q) ∙ e))
blank-refused (c ∷ q) (b ∷ s) blank e f =
    let w = starts-next c b q s e in
    blank-refused q s (blank-next c q blank) w.1 (line-behind-refused b s (space-plain b (ap is_space w.0 ∙ blank 0 (omega arith))).0 f)

-- with them it is the text behind them
pub blank-joined :
    (indent q s : List ℕ) (n k : ℕ) → Blank q → starts_with q s ≡ true → not_line_ending_of s ≡ Some n → not_line_ending_of (drop (length q) s) ≡ Some k
    → joined_of indent n s ≡ q ++ joined_of indent k (drop (length q) s)
blank-joined indent [] s n k blank e f g = ap (λ (i : ℕ). joined_of indent i s) (taken_is n k (sym f ∙ g))
blank-joined indent (c ∷ q) [] n k blank e f g = absurd (false≢true (sym (starts-never c q) ∙ e))
blank-joined indent (c ∷ q) (b ∷ s) n k blank e f g =
    let w = starts-next c b q s e in
    let is : is_space b ≡ true = ap is_space w.0 ∙ blank 0 (omega arith) in
    let y = line-behind b s (space-plain b is).0 n f in
    ap (λ (i : ℕ). joined_of indent i (b ∷ s)) y.2
    ∙ ap (λ (i : ℕ). i ∷ joined_of indent y.0 s) w.0
    ∙ ap (λ (l : List ℕ). c ∷ l) (blank-joined indent q s y.0 k (blank-next c q blank) w.1 y.1 g)

-- Blanks at the front of a list.

-- one more of them
pub blanks-more : (b : ℕ) (l : List ℕ) → is_space b ≡ true → space0_of (b ∷ l) ≡ suc (space0_of l)
unfolding bytes_from
blanks-more b l e =
    let z : bytes_from is_space (0 + 1) l ≡ suc (space0_of l) = omega (arith, bytes_count is_space l (0 + 1)) in
    picks_first _ _ _ e ∙ z

pub blanks-none : (b : ℕ) (l : List ℕ) → is_space b ≡ false → space0_of (b ∷ l) ≡ 0
unfolding bytes_from
blanks-none b l e = picks_second _ _ _ e

-- at least those that it begins with
pub blanks-long : (p l : List ℕ) → Blank p → starts_with p l ≡ true → length p ≤ space0_of l
unfolding starts_with
blanks-long [] l w e = omega arith
blanks-long (c ∷ p) [] w e = absurd (omega (arith, starts-le (c ∷ p) [] e))
blanks-long (c ∷ p) (b ∷ l) w e =
    ⊎_elim
    (λ f.
    let y : is_space b ≡ true = ap is_space (eqb-true b c f) ∙ w 0 (omega arith) in
    let ih = blanks-long p l (blank-next c p w) (sym (picks_first (eqb b c) _ _ f) ∙ e) in
    omega (arith, ih, blanks-more b l y))
    (λ f. absurd (false≢true (sym (picks_second (eqb b c) _ _ f) ∙ e)))
    (cases_Bool (eqb b c))
