-- Calm text is passed: where no `_` and no backtick stands from place i to place j, and a byte that (f) passes and then LF or a blank stand
-- at j, or the text ends there, each round from i on finds nothing and ends at j or before it. So the rounds from i on are those from j
-- on. Before a blank this is so where no line starts, since the `_` of a target may stand behind it.
-- Assumes nothing.
use Rattle.std.proofs.Common.{Option, Some, None}
use Rattle.std.specs.Prelude.{IfSome, MatchOption, slice_index}
use Rattle.memchr.specs.Find.{IsFirstByte, is_byte2}
use Prim.Native.Nat.{ℕ, zero, suc, ◌+◌, ◌-◌, ◌<◌, ◌≤◌}
use native.Mathlib.Nat.{le_refl}
use native.Mathlib.Omega.{arith}
use mathlib.Core.Path.{◌≡◌, refl, sym, ap, subst, subst⁻¹, ◌∙◌}
use mathlib.Core.List.{List, [], ◌∷◌, ◌++◌}
use mathlib.Core.Bool.{Bool, true, false, not, ◌||◌, or-true, true≢false, false≢true}
use mathlib.Core.Logic.{◌⊎◌, inl, inr, ⊎_elim}
use lib.Dec.{ltb, eqb}
use lib.ListN.{length, drop, take, get_or, length-drop, take-append-drop}
use lib.Seq.{drop-drop, get_or-take, get_or-drop, length-take-le}
use borrow.Author.Tests.{eqb-true}
use Rattle.rst_bytes.specs.Appending.{free}
use Rattle.rst_bytes.specs.Escaped.{is_stop}
use Rattle.rst_bytes.specs.Free.{is_other, free_front_of}
use Rattle.rst_bytes.specs.Line.{bytes_from, is_space, is_multispace, space0_of}
use Rattle.rst_bytes.proofs.Lists.{drop-next, drop-end}
use Rattle.rst_bytes.proofs.TestLaws.{by-test, lt-or-le}
use Rattle.rst_bytes.proofs.LineLaws.{bytes-pass, bytes-stop, bytes-within, bytes_count, bytes_each, multispace-cases}
use Rattle.restructured_text.specs.Calm.{calm, Parted, Ended}
use Rattle.restructured_text.proofs.CalmLaws.{calm-drop, calm-text2dest, calm-text-label2dest, calm-text2label, calm-label2label, calm-label2dest}
use Rattle.parse.specs.Link.{Scanned, nothing, behind, or_else}
use Rattle.parse.specs.Forms.{alias, destination, anonymous, named, reference, tried, rst}
use Rattle.parse.specs.Scan.{later, is_lf, lfs_of, is_opening, opening_of, reference_at, block_at, followed, inline_at, is_start, is_plain, passed_of, text_round, blank_round, line_round, round_of, rounds}
use Rattle.parse.specs.Inner.{NoBlock, Behind, LineStart, Skips, Passes}
use Rattle.parse.proofs.FormsLaws.{tried-next}
use Rattle.parse.proofs.ScanLaws.{later-stops, later-passes, rounds-end, rst-consuming}
use Rattle.parse.proofs.RoundLaws.{or_go, round-at, blank-at}

-- from place i on and before place j of s no byte passes the test
abbrev Without : (ℕ → Bool) → ℕ → ℕ → List ℕ → Type 0
Without f i j s = (k : ℕ) → i ≤ k → k < j → f (get_or s k 0) ≡ false

-- none is _ or a backtick
abbrev pub CalmFrom : ℕ → ℕ → List ℕ → Type 0
CalmFrom i j s = Without (is_stop 0x5F 0x60) i j s

-- a byte of what stands from place i on, t, is one of s
pub size : (s t : List ℕ) (i : ℕ) → t ≡ drop i s → length t ≡ length s - i
size s t i e = ap length e ∙ length-drop i s

pub there : (s t : List ℕ) (i k : ℕ) → t ≡ drop i s → i ≤ k → get_or t (k - i) 0 ≡ get_or s k 0
there s t i k e a =
    let z : i + (k - i) ≡ k = omega arith in
    ap (λ (l : List ℕ). get_or l (k - i) 0) e ∙ get_or-drop i s (k - i) 0 ∙ ap (λ (n : ℕ). get_or s n 0) z

passed-over : (s t : List ℕ) (i k : ℕ) → t ≡ drop i s → i ≤ k → (is_byte2 0x5F 0x60 (slice_index t (k - i)) ≡ true → ⊥) → is_stop 0x5F 0x60 (get_or s k 0) ≡ false
unfolding is_stop
passed-over s t i k e a f = ap (is_byte2 0x5F 0x60) (sym (there s t i k e a)) ∙ no (is_byte2 0x5F 0x60 (get_or t (k - i) 0)) f
  where
    no : (x : Bool) → (x ≡ true → ⊥) → x ≡ false
    no true g = absurd (g refl)
    no false g = refl

-- by the search for the first of them in what stands from place i on, t: it is n bytes behind i, or there is none
pub calm-first :
    (s t : List ℕ) (i : ℕ) (r : Option ℕ) → i ≤ length s → t ≡ drop i s → IsFirstByte (is_byte2 0x5F 0x60) t r
    → MatchOption r (CalmFrom i (length s) s) (λ n. (i + n < length s) × CalmFrom i (i + n) s)
calm-first s t i (Some n) h e w = (omega (arith, w.0.high, size s t i e), λ k a b. passed-over s t i k e a (w.0.before (k - i) (omega arith) (omega arith)))
calm-first s t i None h e w = λ k a b. passed-over s t i k e a (w (k - i) (omega arith) (omega (arith, b, a, size s t i e)))

-- none is LF
abbrev pub LinelessFrom : ℕ → ℕ → List ℕ → Type 0
LinelessFrom i j s = Without is_lf i j s

others : (b : ℕ) → is_other 0x5F 0x60 10 b ≡ true → (is_stop 0x5F 0x60 b ≡ false) × (is_lf b ≡ false)
unfolding is_other
others b e = go (is_stop 0x5F 0x60 b) (is_lf b) refl refl e
  where
    go : (x y : Bool) → is_stop 0x5F 0x60 b ≡ x → is_lf b ≡ y → not (x || y) ≡ true → (is_stop 0x5F 0x60 b ≡ false) × (is_lf b ≡ false)
    go true y f g h = absurd (false≢true h)
    go false true f g h = absurd (false≢true h)
    go false false f g h = (f, g)

-- by how many bytes behind i are none of the three
pub line-first :
    (s t : List ℕ) (i n : ℕ) → i ≤ length s → t ≡ drop i s → n ≡ free_front_of 0x5F 0x60 10 t → (i + n ≤ length s) × CalmFrom i (i + n) s × LinelessFrom i (i + n) s
line-first s t i n h e f = (
  omega (arith, f, bytes-within (is_other 0x5F 0x60 10) t, size s t i e),
  λ k a b. (apart k a b).0,
  λ k a b. (apart k a b).1,
)
  where
    apart : (k : ℕ) → i ≤ k → k < i + n → (is_stop 0x5F 0x60 (get_or s k 0) ≡ false) × (is_lf (get_or s k 0) ≡ false)
    apart k a b =
        others (get_or s k 0) (ap (is_other 0x5F 0x60 10) (sym (there s t i k e a)) ∙ bytes_each (is_other 0x5F 0x60 10) t (k - i) (omega (arith, f)))

-- s ends at place j; or LF stands there, behind a byte that (f) passes
abbrev pub Edge : ℕ → List ℕ → Type 0
Edge j s = (length s ≡ j) ⊎ Behind is_lf j s

-- What is found at the front of calm text x, with z behind it: nothing, or LF and more.
module _ (x z : List ℕ) (h : calm x ≡ true) (e : Ended z) where
  no_block : (line : Bool) → block_at rst line (x ++ z) ≡ nothing
  no_block true = tried-next alias (destination ∷ []) (x ++ z) (calm-label2label x z h e) ∙ tried-next destination [] (x ++ z) (calm-label2dest x z h e)
  no_block false = refl

  -- so (b) finds nothing
  line-passes : (line : Bool) → line_round rst line (x ++ z) ≡ blank_round rst line (x ++ z)
  unfolding line_round
  line-passes line = ap (λ (w : Scanned). or_go w (blank_round rst line (x ++ z))) (no_block line)

-- nor does it at no line start
pub line-none : (s : List ℕ) → line_round rst false s ≡ blank_round rst false s
unfolding line_round
line-none s = refl

-- nor where no block begins
line-begun : (s : List ℕ) → NoBlock s → line_round rst true s ≡ blank_round rst true s
unfolding line_round
line-begun s w = ap (λ (z : Scanned). or_go z (blank_round rst true s)) w

-- What is found there with white space and more behind it, or nothing.
module _ (x z : List ℕ) (h : calm x ≡ true) (e : Parted z) where
  no-embedded : tried rst.embedded (x ++ z) ≡ nothing
  no-embedded = tried-next anonymous (named ∷ []) (x ++ z) (calm-text2dest x z h e) ∙ tried-next named [] (x ++ z) (calm-text-label2dest x z h e)

  no-label : tried rst.references (x ++ z) ≡ nothing
  no-label = tried-next reference [] (x ++ z) (calm-text2label x z h e)

-- white space opens nothing
white-opening : (c : ℕ) (z : List ℕ) → is_multispace c ≡ true → opening_of (c ∷ z) ≡ 0
unfolding opening_of is_opening
white-opening c z h = multispace-cases (λ (b : ℕ). opening_of (b ∷ z) ≡ 0) c h refl refl refl refl

-- one byte is skipped, or none
no-reference : (spaced : Bool) (x z : List ℕ) → calm x ≡ true → Parted z → reference_at rst spaced (x ++ z) ≡ nothing
unfolding opening_of is_opening
no-reference false x z h e = refl
no-reference true [] [] h e = ap (behind 0) (no-label [] [] h e)
no-reference true [] (c ∷ z) h e =
    ap (λ (n : ℕ). behind n (tried rst.references (drop n (c ∷ z)))) (white-opening c z e) ∙ ap (behind 0) (no-label [] (c ∷ z) h e)
no-reference true (b ∷ x) z h e =
    by-test (λ n. behind n (tried rst.references (drop n (b ∷ (x ++ z)))) ≡ nothing) (is_opening b) _ _
    (λ f. ap (behind 1) (no-label x z (calm-drop 1 (b ∷ x) h) e))
    (λ f. ap (behind 0) (no-label (b ∷ x) z h e))

-- so (d) and (e) find nothing
module _ (x z : List ℕ) (h : calm x ≡ true) (e : Parted z) where
  text-passes : (spaced : Bool) → text_round rst spaced (x ++ z) ≡ passed_of (x ++ z)
  unfolding text_round inline_at
  text-passes spaced =
      ap (λ (w : Scanned). or_go (followed rst (x ++ z) (or_else w (reference_at rst spaced (x ++ z)))) (passed_of (x ++ z))) (no-embedded x z h e)
      ∙ ap (λ (w : Scanned). or_go (followed rst (x ++ z) w) (passed_of (x ++ z))) (no-reference spaced x z h e)

-- a byte that (f) passes is no LF and no blank
plain-lf : (b : ℕ) → is_plain b ≡ true → is_lf b ≡ false
unfolding is_start
plain-lf b h = go (is_lf b) refl
  where
    go : (t : Bool) → is_lf b ≡ t → t ≡ false
    go true e = absurd (false≢true (sym (ap is_plain (eqb-true b 10 e)) ∙ h))
    go false e = refl

plain-space : (b : ℕ) → is_plain b ≡ true → is_space b ≡ false
unfolding is_start is_space
plain-space b h = go (eqb b 32) (eqb b 9) refl refl
  where
    go : (t u : Bool) → eqb b 32 ≡ t → eqb b 9 ≡ u → is_space b ≡ false
    go true u e f = absurd (false≢true (sym (ap is_plain (eqb-true b 32 e)) ∙ h))
    go false true e f = absurd (false≢true (sym (ap is_plain (eqb-true b 9 f)) ∙ h))
    go false false e f = simp (e, f, is_space)

-- bytes that pass a test end at one that does not
pub bytes-before : (f : ℕ → Bool) (s : List ℕ) (p : ℕ) → p < length s → f (get_or s p 0) ≡ false → (k i : ℕ) → i ≤ p → p ≤ i + k → bytes_from f i (drop i s) ≤ p
bytes-before f s p h e zero i a b =
    let z : p ≡ i = omega arith in
    subst⁻¹ (λ (n : ℕ). n ≤ p) (bytes-stop f s i (omega arith) (ap (λ (n : ℕ). f (get_or s n 0)) (sym z) ∙ e)) a
bytes-before f s p h e (suc k) i a b = go (f (get_or s i 0)) refl (bytes-before f s p h e k (i + 1))
  where
    go : (t : Bool) → f (get_or s i 0) ≡ t → (i + 1 ≤ p → p ≤ i + 1 + k → bytes_from f (i + 1) (drop (i + 1) s) ≤ p) → bytes_from f i (drop i s) ≤ p
    go false g ih = subst⁻¹ (λ (n : ℕ). n ≤ p) (bytes-stop f s i (omega arith) g) a
    go true g ih = subst⁻¹ (λ (n : ℕ). n ≤ p) (bytes-pass f s i (omega arith) g) (⊎_elim less same (lt-or-le i p))
      where
        less : i < p → bytes_from f (i + 1) (drop (i + 1) s) ≤ p
        less c = ih (omega arith) (omega arith)

        same : p ≤ i → bytes_from f (i + 1) (drop (i + 1) s) ≤ p
        same c =
            let z : i ≡ p = omega arith in
            absurd (true≢false (sym g ∙ ap (λ (n : ℕ). f (get_or s n 0)) z ∙ e))

-- a text all of whose bytes are calm
all-calm : (s : List ℕ) → ((k : ℕ) → k < length s → is_stop 0x5F 0x60 (get_or s k 0) ≡ false) → calm s ≡ true
unfolding calm free
all-calm [] h = refl
all-calm (b ∷ s) h = rw (h 0 (omega arith), free) (all-calm s (λ k l. h (suc k) (omega arith)))

-- LF, a space or a tab
abbrev is_break : ℕ → Bool
is_break b = is_lf b || is_space b

-- all three are white space, and (f) stops at them
break-white : (b : ℕ) → is_break b ≡ true → is_multispace b ≡ true
unfolding is_space is_multispace
break-white b h = go (eqb b 32) (eqb b 9) (eqb b 13) (eqb b 10) h
  where
    go : (p q r t : Bool) → (t || (p || (q || false))) ≡ true → (p || (q || (r || (t || false)))) ≡ true
    go true q r t e = refl
    go false true r t e = refl
    go false false true t e = refl
    go false false false true e = refl
    go false false false false e = e

break-start : (b : ℕ) → is_break b ≡ true → is_plain b ≡ false
break-start b h = go (is_plain b) refl
  where
    go : (t : Bool) → is_plain b ≡ t → t ≡ false
    go true e = absurd (false≢true (sym (none (is_lf b) (is_space b) (plain-lf b e) (plain-space b e)) ∙ h))
      where
        none : (p q : Bool) → p ≡ false → q ≡ false → (p || q) ≡ false
        none p q c d = simp (c, d)
    go false e = refl

-- A text s that is calm up to place j, where it ends or where a byte that (f) passes and then LF or a blank stand.
module _ (s : List ℕ) (j : ℕ) (l : j ≤ length s) (g : (length s ≡ j) ⊎ Behind is_break j s) where
  -- place m is at j only where s ends, else before it
  abbrev Short : ℕ → Type 0
  Short m = (m ≤ j) × ((m < j) ⊎ (length s ≡ j))

  parted : Parted (drop j s)
  parted = ⊎_elim (λ e. subst⁻¹ Parted (drop-end s j (omega arith)) tt) (λ w. subst⁻¹ Parted (drop-next s j w.0) (break-white (get_or s j 0) w.3)) g

  -- the bytes from place i on that pass a test which those that (f) passes do not
  reach : (f : ℕ → Bool) → ((b : ℕ) → is_plain b ≡ true → f b ≡ false) → (i : ℕ) → Short i → Short (i + bytes_from f 0 (drop i s))
  reach f np i h = ⊎_elim end line g
    where
      within : i + bytes_from f 0 (drop i s) ≤ length s
      within = omega (arith, h.0, bytes-within f (drop i s), length-drop i s)

      end : length s ≡ j → Short (i + bytes_from f 0 (drop i s))
      end e = (omega (arith, within, e), inr e)

      line : Behind is_break j s → Short (i + bytes_from f 0 (drop i s))
      line w =
          let c : i < j = ⊎_elim (λ a. a) (λ a. omega (arith, a, w.0)) h.1 in
          let b = bytes-before f s (j - 1) (omega (arith, w.0)) (np _ w.2) j i (omega arith) (omega arith) in
          let a : i + bytes_from f 0 (drop i s) ≤ j - 1 = omega (arith, b, bytes_count f (drop i s) i) in
          (omega (arith, a), inl (omega (arith, a, w.1)))

  -- what stands behind it, of which a byte is left
  passed-within : (c : ℕ) → c < j → c + (1 + bytes_from is_plain 0 (drop (c + 1) s)) ≤ j
  passed-within c h = ⊎_elim end line g
    where
      end : length s ≡ j → c + (1 + bytes_from is_plain 0 (drop (c + 1) s)) ≤ j
      end e = omega (arith, h, e, bytes-within is_plain (drop (c + 1) s), length-drop (c + 1) s)

      line : Behind is_break j s → c + (1 + bytes_from is_plain 0 (drop (c + 1) s)) ≤ j
      line w =
          let b = bytes-before is_plain s j w.0 (break-start (get_or s j 0) w.3) j (c + 1) (omega arith) (omega arith) in
          omega (arith, b, bytes_count is_plain (drop (c + 1) s) (c + 1))

  module _ (i : ℕ) (h : i ≤ j) (q : CalmFrom i j s) where
    part : List ℕ
    part = take (j - i) (drop i s)

    part-is : part ++ drop j s ≡ drop i s
    unfolding part
    part-is =
        let e : i + (j - i) ≡ j = omega arith in
        ap (λ (r : List ℕ). take (j - i) (drop i s) ++ r) (ap (λ (n : ℕ). drop n s) (sym e) ∙ sym (drop-drop (j - i) i s))
        ∙ take-append-drop (j - i) (drop i s)

    part-calm : calm part ≡ true
    unfolding part
    part-calm = all-calm (take (j - i) (drop i s)) at
      where
        size : length (take (j - i) (drop i s)) ≡ j - i
        size = length-take-le (j - i) (drop i s) (omega (arith, length-drop i s))

        at : (k : ℕ) → k < length (take (j - i) (drop i s)) → is_stop 0x5F 0x60 (get_or (take (j - i) (drop i s)) k 0) ≡ false
        at k c =
            ap (is_stop 0x5F 0x60) (get_or-take (j - i) (drop i s) k 0 (omega (arith, c, size)) ∙ get_or-drop i s k 0)
            ∙ q (i + k) (omega arith) (omega (arith, c, size))

    pub calm-line : Ended (drop j s) → (line : Bool) → line_round rst line (drop i s) ≡ blank_round rst line (drop i s)
    calm-line e line = subst (λ (r : List ℕ). line_round rst line r ≡ blank_round rst line r) part-is (line-passes part (drop j s) part-calm e line)

    pub calm-text : (spaced : Bool) → text_round rst spaced (drop i s) ≡ passed_of (drop i s)
    calm-text spaced = subst (λ (r : List ℕ). text_round rst spaced r ≡ passed_of r) part-is (text-passes part (drop j s) part-calm parted spaced)

  -- no block is found from place i on: LF stands at j, or s ends there; or no line starts; or none begins behind the LFs at i, and no line starts
  -- later
  abbrev Blockless : Bool → ℕ → Type 0
  Blockless start i =
      Ended (drop j s) ⊎ (((start ≡ false) × LinelessFrom i j s) ⊎ (NoBlock (drop (i + lfs_of (drop i s)) s) × LinelessFrom (i + lfs_of (drop i s)) j s))

  blockless-later : (start : Bool) (i m : ℕ) → i + lfs_of (drop i s) ≤ m → Blockless start i → Blockless false m
  blockless-later start i m h (inl e) = inl e
  blockless-later start i m h (inr (inl w)) = inr (inl (refl, λ k a b. w.1 k (omega arith) b))
  blockless-later start i m h (inr (inr w)) = inr (inl (refl, λ k a b. w.1 k (omega arith) b))

  -- a round from place i on: it passes blanks and some bytes, and ends by j, or finds that there is nothing left
  module _ (i : ℕ) (h : i < j) (q : CalmFrom i j s) (start : Bool) (o : Blockless start i) where
    a : ℕ
    a = i + lfs_of (drop i s)

    c : ℕ
    c = a + space0_of (drop a s)

    short-a : Short a
    unfolding a
    short-a = reach is_lf plain-lf i (omega arith, inl h)

    short-c : Short c
    unfolding c
    short-c = reach is_space plain-space a short-a

    later-calm : (m : ℕ) → i ≤ m → CalmFrom m j s
    later-calm m b k d e = q k (omega arith) e

    -- at no line start there are no LFs
    no-lfs : LinelessFrom i j s → lfs_of (drop i s) ≡ 0
    no-lfs w =
        let b = bytes-stop is_lf s i (omega arith) (w i (le_refl i) h) in
        omega (arith, b, bytes_count is_lf (drop i s) i)

    line-is : line_round rst (start || ltb 0 (lfs_of (drop i s))) (drop a s) ≡ blank_round rst (start || ltb 0 (lfs_of (drop i s))) (drop a s)
    unfolding a
    line-is = ⊎_elim (λ e. calm-line a short-a.0 (later-calm a (omega arith)) e _) (⊎_elim none (λ w. begun w.0 (start || ltb 0 (lfs_of (drop i s))))) o
      where
        begun : NoBlock (drop (i + lfs_of (drop i s)) s) → (t : Bool) → line_round rst t (drop (i + lfs_of (drop i s)) s) ≡ blank_round rst t (drop (i + lfs_of (drop i s)) s)
        begun w false = line-none (drop (i + lfs_of (drop i s)) s)
        begun w true = line-begun (drop (i + lfs_of (drop i s)) s) w

        none : (start ≡ false) × LinelessFrom i j s → line_round rst (start || ltb 0 (lfs_of (drop i s))) (drop a s) ≡ blank_round rst (start || ltb 0 (lfs_of (drop i s))) (drop a s)
        none w =
            let e : (start || ltb 0 (lfs_of (drop i s))) ≡ false = ap (λ (b : Bool). b || ltb 0 (lfs_of (drop i s))) w.0 ∙ ap (ltb 0) (no-lfs w.1) in
            subst⁻¹ (λ (b : Bool). line_round rst b (drop a s) ≡ blank_round rst b (drop a s)) e (line-none (drop a s))

    round_is : later i (round_of rst start (drop i s)) ≡ later c (passed_of (drop c s))
    unfolding a c
    round_is =
        round-at start s i
        ∙ ap (later a) line-is
        ∙ blank-at _ s a
        ∙ ap (later c) (calm-text c short-c.0 (later-calm c (omega arith)) _)

    abbrev Goal : Type 0
    Goal = (rounds rst 0 start i (drop i s) ≡ rounds rst 0 false j (drop j s)) ⊎ ((k : ℕ) × ((rounds rst 0 start i (drop i s) ≡ rounds rst 0 false k (drop k s)) × (i < k) × (k ≤ j) × (i + lfs_of (drop i s) ≤ k)))

    round-goes : Goal
    unfolding passed_of a c
    round-goes = ⊎_elim some none (lt-or-le c j)
      where
        some : c < j → Goal
        some d =
            let e = round_is ∙ ap (λ (r : List ℕ). later c (passed_of r)) (drop-next s c (omega arith)) in
            let w = later-passes rst rst-consuming start s i (omega arith) (c + (1 + bytes_from is_plain 0 (drop (c + 1) s))) e in
            inr (c + (1 + bytes_from is_plain 0 (drop (c + 1) s)), (w.0, w.1, passed-within c d, omega arith))

        none : j ≤ c → Goal
        none d =
            let z : length s ≡ j = ⊎_elim (λ b. omega arith) (λ b. b) short-c.1 in
            let e = round_is ∙ ap (λ (r : List ℕ). later c (passed_of r)) (drop-end s c (omega arith)) in
            inl (later-stops rst rst-consuming start s i (omega arith) nothing e ∙ sym (rounds-end rst false s j (omega arith)))

  -- round after round
  rounds-calm : (k i : ℕ) → j ≤ i + k → i < j → CalmFrom i j s → (start : Bool) → Blockless start i → rounds rst 0 start i (drop i s) ≡ rounds rst 0 false j (drop j s)
  rounds-calm zero i b h q start o = absurd (omega arith)
  rounds-calm (suc k) i b h q start o = go (rounds-calm k) (round-goes i h q start o)
    where
      go :
          ((m : ℕ) → j ≤ m + k → m < j → CalmFrom m j s → (t : Bool) → Blockless t m → rounds rst 0 t m (drop m s) ≡ rounds rst 0 false j (drop j s))
          → (rounds rst 0 start i (drop i s) ≡ rounds rst 0 false j (drop j s)) ⊎ ((m : ℕ) × ((rounds rst 0 start i (drop i s) ≡ rounds rst 0 false m (drop m s)) × (i < m) × (m ≤ j) × (i + lfs_of (drop i s) ≤ m)))
          → rounds rst 0 start i (drop i s) ≡ rounds rst 0 false j (drop j s)
      go ih (inl e) = e
      go ih (inr (m, (e, d, f, g))) = ⊎_elim less same (lt-or-le m j)
        where
          less : m < j → rounds rst 0 start i (drop i s) ≡ rounds rst 0 false j (drop j s)
          less x = e ∙ ih m (omega arith) x (λ n y z. q n (omega arith) z) false (blockless-later start i m g o)

          same : j ≤ m → rounds rst 0 start i (drop i s) ≡ rounds rst 0 false j (drop j s)
          same x = let z : m ≡ j = omega arith in e ∙ ap (λ (n : ℕ). rounds rst 0 false n (drop n s)) z

  skips : (start : Bool) (i : ℕ) → i ≤ j → CalmFrom i j s → Blockless start i → Skips start i j s
  skips start i h q o = (h, l, λ d. rounds-calm j i (omega arith) d q start o)

-- up to the end of a line
pub calm-skips : (s : List ℕ) (j : ℕ) → j ≤ length s → Edge j s → (i : ℕ) → i ≤ j → CalmFrom i j s → (start : Bool) → Skips start i j s
calm-skips s j l g i h q start = skips s j l (⊎_elim inl (λ w. inr (w.0, w.1, w.2, rw w.3 refl)) g) start i h q (inl ended)
  where
    ended : Ended (drop j s)
    ended = ⊎_elim (λ e. subst⁻¹ Ended (drop-end s j (omega arith)) tt) (λ w. subst⁻¹ Ended (drop-next s j w.0) (eqb-true (get_or s j 0) 10 w.3)) g

-- up to a blank, where no line starts but at i, and no block begins there
pub gap-skips : (s : List ℕ) (i j : ℕ) → i ≤ j → Behind is_space j s → CalmFrom i j s → NoBlock (drop (i + lfs_of (drop i s)) s) ⊎ (lfs_of (drop i s) ≡ 0) → LinelessFrom (i + lfs_of (drop i s)) j s → Skips false i j s
gap-skips s i j h w q n o =
    skips s j (omega (arith, w.0)) (inr (w.0, w.1, w.2, rw w.3 (or-true (is_lf (get_or s j 0))))) false i h q
    (inr (⊎_elim (λ b. inr (b, o)) (λ e. inl (refl, λ k a b. o k (omega (arith, e)) b)) n))

-- The last place between i and k at which a line or a word ends: up to it the text is passed, where it is calm up to k.
module _ (s : List ℕ) (i k : ℕ) (h : k ≤ length s) (q : CalmFrom i k s) where
  pub lines-pass : (r : Option ℕ) → IfSome r (λ j. (i < j) × (j ≤ k) × Behind is_lf j s) → IfSome r (λ j. (start : Bool) → Passes start i j s)
  lines-pass (Some j) (d, b, f) = λ start. ((λ e. d), calm-skips s j (omega arith) (inr f) i (omega arith) (λ n x y. q n x (omega arith)) start)
  lines-pass None w = tt

  -- behind the LFs at i, a is the place, no block begins, or there are none
  pub words-pass :
      (a : ℕ) → a ≡ i + lfs_of (drop i s) → NoBlock (drop a s) ⊎ (a ≡ i) → LinelessFrom a k s → (r : Option ℕ)
      → IfSome r (λ j. (a < j) × (j ≤ k) × Behind is_space j s) → IfSome r (λ j. Passes false i j s)
  words-pass a e n o (Some j) (d, b, f) = ((λ x. omega (arith, e, d)), gap-skips s i j (omega (arith, e, d)) f (λ m x y. q m x (omega arith)) none line)
    where
      none : NoBlock (drop (i + lfs_of (drop i s)) s) ⊎ (lfs_of (drop i s) ≡ 0)
      none = ⊎_elim (λ w. inl (subst (λ (m : ℕ). NoBlock (drop m s)) e w)) (λ w. inr (omega (arith, e, w))) n

      line : LinelessFrom (i + lfs_of (drop i s)) j s
      line m x y = o m (omega (arith, e, x)) (omega arith)
  words-pass a e n o None w = tt

-- no more LFs stand at the front than there are bytes
pub lfs_within : (s : List ℕ) → lfs_of s ≤ length s
lfs_within s = bytes-within is_lf s

-- the start of a line behind place i, by what stands there, t
pub line-started :
    (s t : List ℕ) (i n : ℕ) → i ≤ length s → t ≡ drop i s → LineStart n t
    → (i + n ≤ length s) × (i + n ≡ i + lfs_of (drop i s)) × (NoBlock (drop (i + n) s) ⊎ (i + n ≡ i))
line-started s t i n h e w = (
  omega (arith, w.0, size s t i e),
  ap (λ (m : ℕ). i + m) (w.1 ∙ ap lfs_of e),
  ⊎_elim (λ b. inl (subst NoBlock (ap (drop n) e ∙ drop-drop n i s) b)) (λ z. inr (omega (arith, z))) w.2,
)

-- calm from behind the LFs at i on, and so from i on
pub calm-lfs : (s : List ℕ) (i a k : ℕ) → i ≤ length s → a ≡ i + lfs_of (drop i s) → CalmFrom a k s → CalmFrom i k s
unfolding is_stop
calm-lfs s i a k h e q m x y = ⊎_elim lf (λ (l : a ≤ m). q m l y) (lt-or-le m a)
  where
    lf : m < a → is_stop 0x5F 0x60 (get_or s m 0) ≡ false
    lf l =
        let is : is_lf (get_or s m 0) ≡ true = ap is_lf (sym (there s (drop i s) i m refl x)) ∙ bytes_each is_lf (drop i s) (m - i) (omega (arith, e)) in
        ap (is_stop 0x5F 0x60) (eqb-true (get_or s m 0) 10 is)
