-- The laws of `specs/Escaped.antt`. One step of `taking` goes by the next byte; the same holds at a position of a text, by the
-- code's tests; what `escaped` takes, and what it takes of a text behind which LF and more is put, follow by induction.
-- Assumes nothing.
use Rattle.std.proofs.Common.{Option, Some, None}
use Prim.Native.Nat.{ℕ, zero, suc, ◌+◌, ◌-◌, ◌<◌, ◌≤◌}
use mathlib.Core.Path.{◌≡◌, refl, sym, ap, ◌∙◌, subst}
use mathlib.Core.List.{List, [], ◌∷◌, ◌++◌}
use mathlib.Core.Bool.{Bool, true, false, true≢false, false≢true}
use mathlib.Core.Logic.{◌⊎◌, inl, inr, ⊎_elim}
use native.Mathlib.Nat.{not-suc-le-zero, sub_self}
use native.Mathlib.Omega.{arith}
use lib.Dec.{eqb}
use lib.ListN.{length, get_or, drop, take, length-append, length-drop, take-append-drop}
use lib.Seq.{take-nil, take-add, take-take, length-take-le, drop-drop}
use borrow.Author.Tests.{eq-eqb, ne_eqb, eqb-true}
use Rattle.rst_bytes.specs.Escaped.{is_escapable, is_stop, taking, escaped_of}
use Rattle.std.specs.Array.{IsFirstChunk}
use Rattle.rst_bytes.specs.Inner.{taken_on}
use Rattle.rst_bytes.specs.Appending.{free}
use Rattle.rst_bytes.proofs.Lists.{drop-next, drop-two, drop-last, drop-end, part-from}
use Rattle.rst_bytes.proofs.TestLaws.{by-test, by-test₂, or_cases, neither}

-- a backslash refuses, if it is the last byte
alone : (p q n b : ℕ) → eqb b 0x5C ≡ true → taking p q false n (b ∷ []) ≡ None
unfolding taking
alone p q n b e = simp (e, taking)

module _ (p q n b : ℕ) (rest : List ℕ) where
  -- a byte that is no backslash and no stop byte is taken
  pub plain : eqb b 0x5C ≡ false → is_stop p q b ≡ false → taking p q false n (b ∷ rest) ≡ taking p q false (n + 1) rest
  unfolding taking
  plain e f = simp (e, f, taking)

  -- a stop byte ends the part
  stop : eqb b 0x5C ≡ false → is_stop p q b ≡ true → taking p q false n (b ∷ rest) ≡ Some n
  unfolding taking
  stop e f = simp (e, f, taking)

  -- a backslash waits for the next byte
  pub slash : eqb b 0x5C ≡ true → taking p q false n (b ∷ rest) ≡ taking p q true (n + 1) rest
  unfolding taking
  slash e = simp (e, taking)

  -- the byte after it is taken along
  pub pair : is_escapable b ≡ true → taking p q true n (b ∷ rest) ≡ taking p q false (n + 1) rest
  unfolding taking
  pair e = simp (e, taking)

  -- or the backslash refuses
  wrong : is_escapable b ≡ false → taking p q true n (b ∷ rest) ≡ None
  unfolding taking
  wrong e = simp (e, taking)

-- The same at a position of a text, by the code's tests.
module _ (p q : ℕ) (s : List ℕ) (i : ℕ) where
  -- nothing is left
  pub at-end : length s ≤ i → taking p q false i (drop i s) ≡ Some i
  unfolding taking
  at-end h = rw (drop-end s i h) refl

  module _ (h : i < length s) where
    -- a byte that is no backslash and no stop byte
    pub at_plain : (get_or s i 0 ≡ 0x5C → ⊥) → is_stop p q (get_or s i 0) ≡ false → taking p q false i (drop i s) ≡ taking p q false (i + 1) (drop (i + 1) s)
    at_plain e f = rw (drop-next s i h) (plain _ _ _ _ _ (ne_eqb _ _ e) f)

    -- a stop byte
    pub at-stop : (get_or s i 0 ≡ 0x5C → ⊥) → is_stop p q (get_or s i 0) ≡ true → taking p q false i (drop i s) ≡ Some i
    at-stop e f = rw (drop-next s i h) (stop _ _ _ _ _ (ne_eqb _ _ e) f)

    -- a backslash, last
    pub at-alone : length s ≤ i + 1 → get_or s i 0 ≡ 0x5C → taking p q false i (drop i s) ≡ None
    at-alone l e = rw (drop-last s i h l) (alone _ _ _ _ (eq-eqb _ _ e))

  module _ (h : i + 1 < length s) (e : get_or s i 0 ≡ 0x5C) where
    -- a backslash with a byte that it takes along
    pub at_pair : is_escapable (get_or s (i + 1) 0) ≡ true → taking p q false i (drop i s) ≡ taking p q false (i + 2) (drop (i + 2) s)
    at_pair f =
        let two : i + 1 + 1 ≡ i + 2 = omega arith in
        rw (drop-two s i h) (slash _ _ _ _ _ (eq-eqb _ _ e) ∙ pair _ _ _ _ _ f ∙ ap (λ (n : ℕ). taking p q false n (drop (i + 2) s)) two)

    -- a backslash with another byte
    pub at-wrong : is_escapable (get_or s (i + 1) 0) ≡ false → taking p q false i (drop i s) ≡ None
    at-wrong f = rw (drop-two s i h) (slash _ _ _ _ _ (eq-eqb _ _ e) ∙ wrong _ _ _ _ _ f)

-- `escaped_of` by the first byte, by the code's tests.
module _ (p q : ℕ) where
  -- a stop byte
  pub first-stop : (s : List ℕ) → 0 < length s → is_stop p q (get_or s 0 0) ≡ true → escaped_of p q s ≡ None
  unfolding escaped_of
  first-stop [] h e = absurd (not-suc-le-zero h)
  first-stop (b ∷ rest) h e = simp (e, escaped_of)

  -- another byte
  pub first-other : (s : List ℕ) → 0 < length s → is_stop p q (get_or s 0 0) ≡ false → escaped_of p q s ≡ taking p q false 0 s
  unfolding escaped_of
  first-other [] h e = absurd (not-suc-le-zero h)
  first-other (b ∷ rest) h e = simp (e, escaped_of)

-- a stop byte is p or q
pub stop_is : (p q b : ℕ) → is_stop p q b ≡ true → (b ≡ p) ⊎ (b ≡ q)
unfolding is_stop
stop_is p q b h = ⊎_elim (λ e. inl (eqb-true b p e)) (λ e. inr (eqb-true b q e)) (or_cases (eqb b p) (eqb b q) h)

-- m bytes taken of l, counted from n, are at most all, and end before a stop byte if they are not all
record Ends (p q n : ℕ) (l : List ℕ) (m : ℕ) : Type 0 where
  from : n ≤ m
  within : m ≤ n + length l
  ended : m < n + length l → is_stop p q (get_or l (m - n) 0) ≡ true

abbrev EndsOf : ℕ → ℕ → ℕ → List ℕ → Option ℕ → Type 0
EndsOf p q n l (Some m) = Ends p q n l m
EndsOf p q n l None = Unit {0}

-- the same with the byte before
ends-before : (p q n b : ℕ) (l : List ℕ) (r : Option ℕ) → EndsOf p q (n + 1) l r → EndsOf p q n (b ∷ l) r
ends-before p q n b l (Some m) w =
    record {
      from = omega arith;
      within = omega arith;
      ended = λ h.
          let e : m - n ≡ suc (m - (n + 1)) = omega arith in
          rw e (w.ended (omega arith));
    }
ends-before p q n b l None w = tt

-- `taking` ends so
taking-ends : (p q : ℕ) (l : List ℕ) (esc : Bool) (n : ℕ) → EndsOf p q n l (taking p q esc n l)
unfolding taking
taking-ends p q [] true n = tt
taking-ends p q (b ∷ l) true n =
    by-test (EndsOf p q n (b ∷ l)) (is_escapable b) _ _ (λ e. ends-before p q n b l (taking p q false (n + 1) l) (taking-ends p q l false (n + 1))) (λ e. tt)
taking-ends p q [] false n = record { from = omega arith; within = omega arith; ended = λ h. absurd (omega arith) }
taking-ends p q (b ∷ l) false n =
    by-test (EndsOf p q n (b ∷ l)) (eqb b 0x5C) _ _
    (λ e. ends-before p q n b l (taking p q true (n + 1) l) (taking-ends p q l true (n + 1)))
    (λ e. by-test (EndsOf p q n (b ∷ l)) (is_stop p q b) _ _
    (λ f. record { from = omega arith; within = omega arith; ended = λ h. rw sub_self f })
    (λ f. ends-before p q n b l (taking p q false (n + 1) l) (taking-ends p q l false (n + 1))))

-- so what it ends before is a stop byte
pub taking-stop : (p q : ℕ) (l : List ℕ) (m : ℕ) → taking p q false 0 l ≡ Some m → m < length l → is_stop p q (get_or l m 0) ≡ true
taking-stop p q l m e h =
    let w : Ends p q 0 l m = subst (EndsOf p q 0 l) e (taking-ends p q l false 0) in
    let z : m - 0 ≡ m = omega arith in
    rw z at (w.ended (omega arith))

-- and no more is taken than there is
pub taking-le : (p q : ℕ) (l : List ℕ) (m : ℕ) → taking p q false 0 l ≡ Some m → m ≤ length l
taking-le p q l m e =
    let w : Ends p q 0 l m = subst (EndsOf p q 0 l) e (taking-ends p q l false 0) in
    omega (arith, w.within)

-- and so does `escaped_of`
escaped-ends : (p q : ℕ) (s : List ℕ) → EndsOf p q 0 s (escaped_of p q s)
unfolding escaped_of
escaped-ends p q [] = record { from = omega arith; within = omega arith; ended = λ h. absurd (omega arith) }
escaped-ends p q (b ∷ l) = by-test (EndsOf p q 0 (b ∷ l)) (is_stop p q b) _ _ (λ e. tt) (λ e. taking-ends p q (b ∷ l) false 0)

-- no more is taken than there is
pub taken-le : (p q : ℕ) (s : List ℕ) (n : ℕ) → escaped_of p q s ≡ Some n → n ≤ length s
taken-le p q s n e =
    let w : Ends p q 0 s n = subst (EndsOf p q 0 s) e (escaped-ends p q s) in
    omega arith

-- what it ends before is a stop byte
pub taken-stop : (p q : ℕ) (s : List ℕ) (n : ℕ) → escaped_of p q s ≡ Some n → n < length s → is_stop p q (get_or s n 0) ≡ true
taken-stop p q s n e h =
    let w : Ends p q 0 s n = subst (EndsOf p q 0 s) e (escaped-ends p q s) in
    let z : n - 0 ≡ n = omega arith in
    rw z at (w.ended (omega arith))

-- a part is refused or taken
pub refused-taken : (n : ℕ) → None ≡ Some n → ⊥
refused-taken n e = let z : ◌≡◌ {A = ℕ} 0 1 = cc in omega arith

-- and taken in one way
pub taken_is : (m n : ℕ) → Some m ≡ Some n → m ≡ n
taken_is m n e = ap count e
  where
    count : Option ℕ → ℕ
    count (Some k) = k
    count None = m

-- what is taken, with k bytes before it
abbrev later : ℕ → Option ℕ → Option ℕ
later k (Some n) = Some (k + n)
later k None = None

taking-later : (p q k : ℕ) (l : List ℕ) (esc : Bool) (n : ℕ) → taking p q esc (k + n) l ≡ later k (taking p q esc n l)
unfolding taking
taking-later p q k [] true n = refl
taking-later p q k [] false n = refl
taking-later p q k (b ∷ l) true n =
    let z : k + n + 1 ≡ k + (n + 1) = omega arith in
    by-test₂ (λ x y. x ≡ later k y) (is_escapable b) _ _ _ _ (λ e. ap (λ (m : ℕ). taking p q false m l) z ∙ taking-later p q k l false (n + 1)) (λ e. refl)
taking-later p q k (b ∷ l) false n =
    let z : k + n + 1 ≡ k + (n + 1) = omega arith in
    by-test₂ (λ x y. x ≡ later k y) (eqb b 0x5C) _ _ _ _
    (λ e. ap (λ (m : ℕ). taking p q true m l) z ∙ taking-later p q k l true (n + 1))
    (λ e. by-test₂ (λ x y. x ≡ later k y) (is_stop p q b) _ _ _ _
    (λ f. refl)
    (λ f. ap (λ (m : ℕ). taking p q false m l) z ∙ taking-later p q k l false (n + 1)))

-- what is taken is taken counted from k
pub taken-later : (p q k : ℕ) (l : List ℕ) (n : ℕ) → taking p q false 0 l ≡ Some n → taking p q false k l ≡ Some (k + n)
taken-later p q k l n e =
    let z : k ≡ k + 0 = omega arith in
    ap (λ (m : ℕ). taking p q false m l) z ∙ taking-later p q k l false 0 ∙ ap (later k) e

-- what `escaped` takes, counted from k
pub taken-from : (p q k : ℕ) (s : List ℕ) (n : ℕ) → escaped_of p q s ≡ Some n → taking p q false k s ≡ Some (k + n)
unfolding escaped_of taking
taken-from p q k s n e =
    taken-later p q k s n (first s e)
  where
    first : (l : List ℕ) → escaped_of p q l ≡ Some n → taking p q false 0 l ≡ Some n
    first [] f = f
    first (b ∷ l) f = go (is_stop p q b) refl
      where
        go : (x : Bool) → is_stop p q b ≡ x → taking p q false 0 (b ∷ l) ≡ Some n
        go true g = absurd (refused-taken n (sym (first-stop p q (b ∷ l) (omega arith) g) ∙ f))
        go false g = sym (first-other p q (b ∷ l) (omega arith) g) ∙ f

-- of a text that is not empty something is taken
pub taken-pos : (p q b : ℕ) (s : List ℕ) (n : ℕ) → escaped_of p q (b ∷ s) ≡ Some n → 0 < n
taken-pos p q b s zero e = absurd (refused-taken 0 (sym (first-stop p q (b ∷ s) (omega arith) (taken-stop p q (b ∷ s) 0 e (omega arith))) ∙ e))
taken-pos p q b s (suc n) e = omega arith

-- what is taken counted from k is taken
pub taken_back : (p q k : ℕ) (l : List ℕ) (n : ℕ) → taking p q false k l ≡ Some n → (k ≤ n) × (taking p q false 0 l ≡ Some (n - k))
taken_back p q k l n e = go (taking p q false 0 l) refl
  where
    is : later k (taking p q false 0 l) ≡ Some n
    is =
        let z : k + 0 ≡ k = omega arith in
        sym (taking-later p q k l false 0) ∙ ap (λ (m : ℕ). taking p q false m l) z ∙ e

    go : (r : Option ℕ) → taking p q false 0 l ≡ r → (k ≤ n) × (taking p q false 0 l ≡ Some (n - k))
    go (Some m) f =
        let y : k + m ≡ n = taken_is (k + m) n (sym (ap (later k) f) ∙ is) in
        let z : m ≡ n - k = omega arith in
        (omega arith, f ∙ ap Some z)
    go None f = absurd (refused-taken n (sym (ap (later k) f) ∙ is))

-- A text l that is taken as a whole.
module _ (p q : ℕ) where
  -- what stands behind it is read as if it stood alone
  pub taking-over : (l w : List ℕ) (esc : Bool) (n k : ℕ) → n + length l ≡ k → taking p q esc n l ≡ Some k → taking p q esc n (l ++ w) ≡ taking p q false k w
  unfolding taking
  taking-over [] w true n k h e = absurd (refused-taken k e)
  taking-over [] w false n k h e = let z : n ≡ k = omega arith in ap (λ (m : ℕ). taking p q false m w) z
  taking-over (b ∷ l) w true n k h e =
      by-test₂ (λ x y. x ≡ Some k → y ≡ taking p q false k w) (is_escapable b) _ _ _ _
      (λ f. taking-over l w false (n + 1) k (omega arith))
      (λ f g. absurd (refused-taken k g))
      e
  taking-over (b ∷ l) w false n k h e =
      by-test₂ (λ x y. x ≡ Some k → y ≡ taking p q false k w) (eqb b 0x5C) _ _ _ _
      (λ f. taking-over l w true (n + 1) k (omega arith))
      (λ f. by-test₂ (λ x y. x ≡ Some k → y ≡ taking p q false k w) (is_stop p q b) _ _ _ _
      (λ g i. absurd (omega (arith, taken_is n k i)))
      (λ g. taking-over l w false (n + 1) k (omega arith)))
      e

  -- it is taken with fewer stop bytes too
  pub taking-fewer : (r t : ℕ) → ((b : ℕ) → is_stop p q b ≡ false → is_stop r t b ≡ false) → (l : List ℕ) (esc : Bool) (n k : ℕ) → n + length l ≡ k → taking p q esc n l ≡ Some k → taking r t esc n l ≡ Some k
  unfolding taking
  taking-fewer r t w [] true n k h e = e
  taking-fewer r t w [] false n k h e = e
  taking-fewer r t w (b ∷ l) true n k h e =
      by-test₂ (λ x y. x ≡ Some k → y ≡ Some k) (is_escapable b) _ _ _ _
      (λ f. taking-fewer r t w l false (n + 1) k (omega arith))
      (λ f g. g)
      e
  taking-fewer r t w (b ∷ l) false n k h e =
      by-test₂ (λ x y. x ≡ Some k → y ≡ Some k) (eqb b 0x5C) _ _ _ _
      (λ f. taking-fewer r t w l true (n + 1) k (omega arith))
      (λ f. by-test (λ x. x ≡ Some k → elim (is_stop r t b) [ true ↦ Some n | false ↦ taking r t false (n + 1) l ] ≡ Some k) (is_stop p q b) _ _
      (λ g i. absurd (omega (arith, taken_is n k i)))
      (λ g i. by-test (λ y. y ≡ Some k) (is_stop r t b) _ _
      (λ j. absurd (true≢false (sym j ∙ w b g)))
      (λ j. taking-fewer r t w l false (n + 1) k (omega arith) i)))
      e

  -- a text before it that is not empty, and taken as a whole: both are taken
  pub escaped-over : (l w : List ℕ) (n : ℕ) → is_stop p q 0x5C ≡ false → 0 < length l → taking p q false 0 l ≡ Some (length l) → escaped_of p q w ≡ Some n → escaped_of p q (l ++ w) ≡ Some (length l + n)
  escaped-over [] w n c h e f = absurd (omega arith)
  escaped-over (b ∷ l) w n c h e f = go (is_stop p q b) refl (eqb b 0x5C) refl
    where
      over : is_stop p q b ≡ false → escaped_of p q ((b ∷ l) ++ w) ≡ Some (suc (length l) + n)
      over g =
          first-other p q (b ∷ l ++ w) (omega arith) g
          ∙ taking-over (b ∷ l) w false 0 (suc (length l)) (omega arith) e
          ∙ taken-from p q (suc (length l)) w n f

      go : (x : Bool) → is_stop p q b ≡ x → (y : Bool) → eqb b 0x5C ≡ y → escaped_of p q ((b ∷ l) ++ w) ≡ Some (suc (length l) + n)
      go false g y i = over g
      go true g true i = absurd (true≢false (sym g ∙ ap (is_stop p q) (eqb-true b 0x5C i) ∙ c))
      go true g false i = absurd (omega (arith, taken_is 0 (suc (length l)) (sym (stop p q 0 b l i g) ∙ e)))

-- A text l of which bytes are taken.
module _ (p q : ℕ) (c : is_stop p q 0x5C ≡ false) where
  -- up to a stop byte among them, which a backslash takes along, it is taken as a whole
  taking-cut : (l : List ℕ) (esc : Bool) (a n k : ℕ) → taking p q esc a l ≡ Some n → is_stop p q (get_or l k 0) ≡ true → a + k < n → taking p q esc a (take (suc k) l) ≡ Some (a + suc k)
  unfolding taking
  taking-cut [] true a n k e f h = absurd (refused-taken n e)
  taking-cut [] false a n k e f h = absurd (omega (arith, taken_is a n e))
  taking-cut (b ∷ l) true a n zero e f h =
      by-test₂ (λ x y. x ≡ Some n → y ≡ Some (a + 1)) (is_escapable b) _ _ _ _ (λ g i. refl) (λ g i. absurd (refused-taken n i)) e
  taking-cut (b ∷ l) true a n (suc k) e f h =
      let z : a + 1 + suc k ≡ a + suc (suc k) = omega arith in
      by-test₂ (λ x y. x ≡ Some n → y ≡ Some (a + suc (suc k))) (is_escapable b) _ _ _ _
      (λ g i. taking-cut l false (a + 1) n k i f (omega arith) ∙ ap Some z)
      (λ g i. absurd (refused-taken n i))
      e
  taking-cut (b ∷ l) false a n zero e f h =
      by-test (λ x. x ≡ Some n → taking p q false a (b ∷ []) ≡ Some (a + 1)) (eqb b 0x5C) _ _
      (λ g i. absurd (true≢false (sym f ∙ ap (is_stop p q) (eqb-true b 0x5C g) ∙ c)))
      (λ g. by-test (λ x. x ≡ Some n → taking p q false a (b ∷ []) ≡ Some (a + 1)) (is_stop p q b) _ _
      (λ j i. absurd (omega (arith, taken_is a n i)))
      (λ j i. absurd (true≢false (sym f ∙ j))))
      e
  taking-cut (b ∷ l) false a n (suc k) e f h =
      let z : a + 1 + suc k ≡ a + suc (suc k) = omega arith in
      by-test₂ (λ x y. x ≡ Some n → y ≡ Some (a + suc (suc k))) (eqb b 0x5C) _ _ _ _
      (λ g i. taking-cut l true (a + 1) n k i f (omega arith) ∙ ap Some z)
      (λ g. by-test₂ (λ x y. x ≡ Some n → y ≡ Some (a + suc (suc k))) (is_stop p q b) _ _ _ _
      (λ j i. absurd (omega (arith, taken_is a n i)))
      (λ j i. taking-cut l false (a + 1) n k i f (omega arith) ∙ ap Some z))
      e

  -- what stands behind that byte is taken too
  module _ (l : List ℕ) (n k : ℕ) (h : k < n) (e : taking p q false 0 l ≡ Some n) (f : is_stop p q (get_or l k 0) ≡ true) where
    pub cut-front : taking p q false 0 (take (suc k) l) ≡ Some (suc k)
    cut-front =
        let z : 0 + suc k ≡ suc k = omega arith in
        taking-cut l false 0 n k e f (omega arith) ∙ ap Some z

    pub cut-rest : suc k ≤ length l → taking p q false 0 (drop (suc k) l) ≡ Some (n - suc k)
    cut-rest g =
        let u = taking-over p q (take (suc k) l) (drop (suc k) l) false 0 (suc k) (omega (arith, length-take-le (suc k) l g)) cut-front in
        (taken_back p q (suc k) (drop (suc k) l) n (sym u ∙ ap (taking p q false 0) (take-append-drop (suc k) l) ∙ e)).1

-- the bytes that are taken are taken as a whole, if nothing stands behind them
pub taking-front : (p q : ℕ) (l : List ℕ) (esc : Bool) (a k n : ℕ) → a + k ≡ n → taking p q esc a l ≡ Some n → taking p q esc a (take k l) ≡ Some n
unfolding taking
taking-front p q [] esc a k n h e = ap (taking p q esc a) (take-nil k) ∙ e
taking-front p q (b ∷ l) true a zero n h e =
    by-test (λ x. x ≡ Some n → taking p q true a [] ≡ Some n) (is_escapable b) _ _
    (λ f g.
    let w : Ends p q (a + 1) l n = subst (EndsOf p q (a + 1) l) g (taking-ends p q l false (a + 1)) in
    absurd (omega (arith, w.from)))
    (λ f g. g)
    e
taking-front p q (b ∷ l) false a zero n h e = let z : a ≡ n = omega arith in ap Some z
taking-front p q (b ∷ l) true a (suc k) n h e =
    by-test₂ (λ x y. x ≡ Some n → y ≡ Some n) (is_escapable b) _ _ _ _ (λ f. taking-front p q l false (a + 1) k n (omega arith)) (λ f g. g) e
taking-front p q (b ∷ l) false a (suc k) n h e =
    by-test₂ (λ x y. x ≡ Some n → y ≡ Some n) (eqb b 0x5C) _ _ _ _
    (λ f. taking-front p q l true (a + 1) k n (omega arith))
    (λ f. by-test₂ (λ x y. x ≡ Some n → y ≡ Some n) (is_stop p q b) _ _ _ _
    (λ g i. i)
    (λ g. taking-front p q l false (a + 1) k n (omega arith)))
    e

-- the first byte of a text without p and q, and the rest
pub free-next : (p q b : ℕ) (l : List ℕ) → free p q (b ∷ l) ≡ true → (is_stop p q b ≡ false) × (free p q l ≡ true)
unfolding free
free-next p q b l h = go (is_stop p q b) refl h
  where
    go : (t : Bool) → is_stop p q b ≡ t → elim t [ true ↦ false | false ↦ free p q l ] ≡ true → (is_stop p q b ≡ false) × (free p q l ≡ true)
    go true e f = absurd (false≢true f)
    go false e f = (e, f)

-- a byte that is no backslash, by the test for two stop bytes
pub no_slash : (b : ℕ) → is_stop 0x5C 0x5C b ≡ false → eqb b 0x5C ≡ false
unfolding is_stop
no_slash b e = (neither (eqb b 0x5C) (eqb b 0x5C) e).0

-- n bytes behind i that are taken, by what the code has
pub one-over :
    (p q : ℕ) (s : List ℕ) (i n : ℕ) → 0 < n → taking p q false i (take (length s - i) (drop i s)) ≡ taken_on p q i (take (length s - i) (drop i s)) (Some n)
    → taking p q false i (drop i s) ≡ taking p q false (i + n) (drop (i + n) s)
one-over p q s i zero h e = absurd (omega arith)
one-over p q s i (suc k) h e =
    subst (λ (l : List ℕ). taking p q false i l ≡ taking p q false (i + suc k) (drop (suc k) l)) (part-from s i) e ∙ ap (taking p q false (i + suc k)) (drop-drop (suc k) i s)

-- r bytes of the first 16, taken as a whole
pub chunk-taken : (p q : ℕ) (s chunk : List ℕ) (r : ℕ) → IsFirstChunk s chunk 16 → r ≤ 16 → taking p q false 0 (take r chunk) ≡ Some r → (r ≤ length s) × (taking p q false 0 (take r s) ≡ Some r)
chunk-taken p q s chunk r first h e =
    let z : take r chunk ≡ take r s = ap (take r) first.same ∙ take-take r 16 s h in
    (omega (arith, h, first.enough), ap (taking p q false 0) (sym z) ∙ e)

-- r bytes behind k that are taken as a whole: counted from k, what stands behind them is read as if it stood alone
module _ (p q : ℕ) (s : List ℕ) (k r : ℕ) (h : k + r ≤ length s) (e : taking p q false 0 (take r (drop k s)) ≡ Some r) where
  whole-taken : taking p q false k (take r (drop k s)) ≡ Some (k + r)
  whole-taken = taken-later p q k (take r (drop k s)) r e

  pub whole-over : taking p q false k (drop k s) ≡ taking p q false (k + r) (drop (k + r) s)
  whole-over =
      let n : k + length (take r (drop k s)) ≡ k + r = omega (arith, length-take-le r (drop k s) (omega (arith, length-drop k s))) in
      ap (taking p q false k) (sym (take-append-drop r (drop k s)))
      ∙ taking-over p q (take r (drop k s)) (drop r (drop k s)) false k (k + r) n whole-taken
      ∙ ap (taking p q false (k + r)) (drop-drop r k s)

-- the same by what the code has; and with the k bytes they are taken as a whole, if these are
module _ (p q : ℕ) (s : List ℕ) (k r : ℕ) (h : k ≤ length s) (g : r ≤ length (take (length s - k) (drop k s))) (e : taking p q false 0 (take r (take (length s - k) (drop k s))) ≡ Some r) where
  pub front-within : k + r ≤ length s
  front-within = omega (arith, g, ap length (part-from s k), length-drop k s)

  pub front-taken : taking p q false 0 (take r (drop k s)) ≡ Some r
  front-taken = subst (λ (l : List ℕ). taking p q false 0 (take r l) ≡ Some r) (part-from s k) e

  pub front-over : taking p q false k (drop k s) ≡ taking p q false (k + r) (drop (k + r) s)
  front-over = whole-over p q s k r front-within front-taken

  pub front-whole : taking p q false 0 (take k s) ≡ Some k → taking p q false 0 (take (k + r) s) ≡ Some (k + r)
  front-whole f =
      ap (taking p q false 0) (take-add k r s)
      ∙ taking-over p q (take k s) (take r (drop k s)) false 0 k (omega (arith, length-take-le k s h)) f
      ∙ whole-taken p q s k r front-within front-taken

-- one byte more in front of it
pub free_more : (p q b : ℕ) (l : List ℕ) → is_stop p q b ≡ false → free p q l ≡ true → free p q (b ∷ l) ≡ true
unfolding free
free_more p q b l e h = rw (e, free) h

-- its parts
pub free-drop : (p q n : ℕ) (l : List ℕ) → free p q l ≡ true → free p q (drop n l) ≡ true
free-drop p q zero l h = h
free-drop p q (suc n) [] h = h
free-drop p q (suc n) (b ∷ l) h = free-drop p q n l (free-next p q b l h).1

pub free-take : (p q n : ℕ) (l : List ℕ) → free p q l ≡ true → free p q (take n l) ≡ true
unfolding free
free-take p q zero l h = refl
free-take p q (suc n) [] h = refl
free-take p q (suc n) (b ∷ l) h =
    let w = free-next p q b l h in
    free_more p q b (take n l) w.0 (free-take p q n l w.1)

-- a text without p and q is taken as a whole, or refused
taking-free : (p q : ℕ) (l : List ℕ) (esc : Bool) (n k : ℕ) → n + length l ≡ k → free p q l ≡ true → (taking p q esc n l ≡ None) ⊎ (taking p q esc n l ≡ Some k)
unfolding taking
taking-free p q [] true n k e h = inl refl
taking-free p q [] false n k e h = inr (ap Some (omega arith))
taking-free p q (b ∷ l) true n k e h =
    by-test (λ r. (r ≡ None) ⊎ (r ≡ Some k)) (is_escapable b) _ _
    (λ f. taking-free p q l false (n + 1) k (omega arith) (free-next p q b l h).1)
    (λ f. inl refl)
taking-free p q (b ∷ l) false n k e h =
    by-test (λ r. (r ≡ None) ⊎ (r ≡ Some k)) (eqb b 0x5C) _ _
    (λ f. taking-free p q l true (n + 1) k (omega arith) (free-next p q b l h).1)
    (λ f. by-test (λ r. (r ≡ None) ⊎ (r ≡ Some k)) (is_stop p q b) _ _
    (λ g. absurd (true≢false (sym g ∙ (free-next p q b l h).0)))
    (λ g. taking-free p q l false (n + 1) k (omega arith) (free-next p q b l h).1))

-- A text behind which LF and t are put.
module _ (p q : ℕ) (t : List ℕ) where
  -- of m bytes taken of a text that ends at k, and the answer x for the longer text: x is the same if they end before k, and if
  -- not, and LF is no stop byte, goes on from there
  abbrev JoinedOf : ℕ → Option ℕ → Option ℕ → Type 0
  JoinedOf k (Some m) x = (m < k → x ≡ Some m) × (m ≡ k → is_stop p q 10 ≡ false → x ≡ taking p q false m (10 ∷ t))
  JoinedOf k None x = x ≡ None

  -- `taking` goes on so
  taking-joined : (esc : Bool) (n k : ℕ) (s : List ℕ) → n + length s ≡ k → JoinedOf k (taking p q esc n s) (taking p q esc n (s ++ 10 ∷ t))
  unfolding taking is_escapable
  taking-joined true n k [] h = refl
  taking-joined true n k (b ∷ s) h = by-test₂ (JoinedOf k) (is_escapable b) _ _ _ _ (λ e. taking-joined false (n + 1) k s (omega arith)) (λ e. refl)
  taking-joined false n k [] h = (λ l. absurd (omega arith), λ e f. refl)
  taking-joined false n k (b ∷ s) h =
      by-test₂ (JoinedOf k) (eqb b 0x5C) _ _ _ _
      (λ e. taking-joined true (n + 1) k s (omega arith))
      (λ e. by-test₂ (JoinedOf k) (is_stop p q b) _ _ _ _
      (λ f. (λ l. refl, λ g z. absurd (omega arith)))
      (λ f. taking-joined false (n + 1) k s (omega arith)))

  -- and so does `escaped_of`
  escaped-joined : (s : List ℕ) → JoinedOf (length s) (escaped_of p q s) (escaped_of p q (s ++ 10 ∷ t))
  unfolding escaped_of
  escaped-joined [] = (λ l. absurd (omega arith), λ e f. first-other p q (10 ∷ t) (omega arith) f)
  escaped-joined (b ∷ s) = by-test₂ (JoinedOf (suc (length s))) (is_stop p q b) _ _ _ _ (λ e. refl) (λ e. taking-joined false 0 _ (b ∷ s) (omega arith))

-- What `escaped_of` takes of that text.
module _ (p q : ℕ) (s t : List ℕ) where
  joined : (r : Option ℕ) → escaped_of p q s ≡ r → JoinedOf p q t (length s) r (escaped_of p q (s ++ 10 ∷ t))
  joined r e = subst (λ (x : Option ℕ). JoinedOf p q t (length s) x (escaped_of p q (s ++ 10 ∷ t))) e (escaped-joined p q t s)

  -- what is refused stays refused
  pub refused-lf : escaped_of p q s ≡ None → escaped_of p q (s ++ 10 ∷ t) ≡ None
  refused-lf e = joined None e

  -- what ends before a stop byte ends there still
  pub taken-lf : (n : ℕ) → escaped_of p q s ≡ Some n → n < length s → escaped_of p q (s ++ 10 ∷ t) ≡ Some n
  taken-lf n e = (joined (Some n) e).0

  -- what is all of s becomes all of the longer text, or is refused, if LF and t have neither p nor q
  pub open-lf : is_stop p q 10 ≡ false → free p q t ≡ true → escaped_of p q s ≡ Some (length s) → (escaped_of p q (s ++ 10 ∷ t) ≡ None) ⊎ (escaped_of p q (s ++ 10 ∷ t) ≡ Some (length (s ++ 10 ∷ t)))
  open-lf h f e =
      rw ((joined (Some (length s)) e).1 refl h)
      (taking-free p q (10 ∷ t) false (length s) (length (s ++ 10 ∷ t)) (sym (length-append s (10 ∷ t))) (free_more p q 10 t h f))
