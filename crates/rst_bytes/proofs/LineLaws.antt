-- The laws of `specs/Line.antt`. Each answer goes by the first bytes; the loops' definitions go on by one byte at a position of a
-- text; how much is taken, and what is taken of a text behind which LF and more is put, follow by induction.
-- Assumes nothing.
use Rattle.std.proofs.Common.{Option, Some, None}
use Prim.Native.Nat.{ℕ, zero, suc, ◌+◌, ◌-◌, ◌<◌, ◌≤◌}
use mathlib.Core.Path.{◌≡◌, refl, sym, ap, ap₂, ◌∙◌, subst, subst⁻¹}
use mathlib.Core.List.{List, [], ◌∷◌, ◌++◌}
use mathlib.Core.Bool.{Bool, true, false, not, ◌||◌, ◌&&◌, true≢false, false≢true}
use mathlib.Core.Logic.{◌⊎◌, inl, inr, ⊎_elim}
use native.Mathlib.Nat.{not-suc-le-zero, suc-ne-zero, sub_self, add-zero}
use native.Mathlib.Omega.{arith}
use lib.Dec.{eqb}
use lib.ListN.{length, get_or, drop, take}
use denote.Param.Members.{Mut}
use denote.Ref.{Bor}
use Rattle.std.specs.Fn.{CalledAt}
use Rattle.std.specs.Iterator.{Drains}
use Rattle.std.specs.Iterator.Adapters.{take_while_source, take_while_done, take_while_callee, take_while_steps}
use Rattle.std.specs.List.{prefix_len}
use Rattle.std.specs.Slice.Iter.{iter_rest}
use Rattle.std.specs.declared.iter.TakeWhile.{TakeWhile}
use Rattle.std.specs.declared.slice.Iter.{Iter}
use Rattle.std.proofs.iter.Yields.{fronts}
use Rattle.std.proofs.lemmas.Iterator.{YieldsList-from_slice}
use Rattle.std.proofs.lemmas.Iterator.Consumers.{count_from_yields_List}
use Rattle.std.proofs.lemmas.Iterator.Search.{YieldsList-from_take_while}
use Rattle.std.proofs.lemmas.List.Folds.{length-prefix_len}
use borrow.Author.Tests.{eq-eqb, ne_eqb, eqb-true, eqb-false}
use Rattle.rst_bytes.specs.Line.{starts_lf, newline_of, line_ending_of, line_from, not_line_ending_of, is_space, is_multispace, bytes_from, space0_of, space1_of, multispace0_of}
use Rattle.rst_bytes.specs.Escaped.{is_stop}
use Rattle.rst_bytes.specs.Free.{is_other, free_front_of}
use Rattle.rst_bytes.specs.Appending.{free, ends_in_cr, starts_space, Body}
use Rattle.rst_bytes.proofs.Lists.{drop-next, drop-end, part-from}
use Rattle.rst_bytes.proofs.TestLaws.{by-test, by-test₂, or_cases, neither}

-- The two line endings.
module _ (b : ℕ) (l : List ℕ) where
  ends-lf : eqb b 10 ≡ true → line_ending_of (b ∷ l) ≡ Some 1
  unfolding line_ending_of
  ends-lf e = simp (e, line_ending_of)

  ends-crlf : eqb b 10 ≡ false → eqb b 13 ≡ true → starts_lf l ≡ true → line_ending_of (b ∷ l) ≡ Some 2
  unfolding line_ending_of
  ends-crlf e f g = simp (e, f, g, line_ending_of)

-- `line_ending_of` by the first bytes.

-- no byte
pub ending-none : (s : List ℕ) → length s ≡ 0 → line_ending_of s ≡ None
unfolding line_ending_of
ending-none [] h = refl
ending-none (b ∷ l) h = absurd (suc-ne-zero _ h)

-- LF
pub ending-lf : (s : List ℕ) → 0 < length s → get_or s 0 0 ≡ 10 → line_ending_of s ≡ Some 1
ending-lf [] h e = absurd (not-suc-le-zero h)
ending-lf (b ∷ l) h e = ends-lf b l (eq-eqb b 10 e)

-- CR LF
pub ending-crlf : (s : List ℕ) → 1 < length s → (get_or s 0 0 ≡ 10 → ⊥) → get_or s 0 0 ≡ 13 → get_or s 1 0 ≡ 10 → line_ending_of s ≡ Some 2
ending-crlf [] h e f g = absurd (omega arith)
ending-crlf (b ∷ []) h e f g = absurd (omega arith)
ending-crlf (b ∷ c ∷ l) h e f g = ends-crlf b (c ∷ l) (ne_eqb b 10 e) (eq-eqb b 13 f) (eq-eqb c 10 g)

-- a byte of a line that is neither LF nor CR
step-plain : (n b : ℕ) (l : List ℕ) → eqb b 10 ≡ false → eqb b 13 ≡ false → line_from n (b ∷ l) ≡ line_from (n + 1) l
unfolding line_from
step-plain n b l e f = simp (e, f, line_from)

apart : (b : ℕ) → is_stop 10 13 b ≡ false → (eqb b 10 ≡ false) × (eqb b 13 ≡ false)
unfolding is_stop
apart b e = neither (eqb b 10) (eqb b 13) e

-- bytes are counted on from n
pub bytes_count : (f : ℕ → Bool) (s : List ℕ) (n : ℕ) → bytes_from f n s ≡ n + bytes_from f 0 s
unfolding bytes_from
bytes_count f [] n = omega arith
bytes_count f (b ∷ s) n =
    by-test₂ (λ x y. x ≡ n + y) (f b) _ _ _ _
    (λ e. omega (arith, bytes_count f s (n + 1), bytes_count f s (0 + 1)))
    (λ e. omega arith)

-- no more bytes pass than there are
bytes_le : (f : ℕ → Bool) (l : List ℕ) (n k : ℕ) → n + length l ≤ k → bytes_from f n l ≤ k
unfolding bytes_from
bytes_le f [] n k h = omega arith
bytes_le f (b ∷ l) n k h = by-test (λ x. x ≤ k) (f b) _ _ (λ e. bytes_le f l (n + 1) k (omega arith)) (λ e. omega arith)

pub bytes-within : (f : ℕ → Bool) (s : List ℕ) → bytes_from f 0 s ≤ length s
bytes-within f s = bytes_le f s 0 (length s) (omega arith)

-- the first byte passes, or it does not
bytes-first : (f : ℕ → Bool) (b : ℕ) (s : List ℕ) → f b ≡ true → bytes_from f 0 (b ∷ s) ≡ 1 + bytes_from f 0 s
unfolding bytes_from
bytes-first f b s e =
    let one : bytes_from f 0 (b ∷ s) ≡ bytes_from f (0 + 1) s = simp (e, bytes_from) in
    one ∙ bytes_count f s (0 + 1)

bytes-none : (f : ℕ → Bool) (b : ℕ) (s : List ℕ) → f b ≡ false → bytes_from f 0 (b ∷ s) ≡ 0
unfolding bytes_from
bytes-none f b s e = simp (e, bytes_from)

-- k bytes pass, and no more
pub bytes_is : (f : ℕ → Bool) (s : List ℕ) (k : ℕ) → k ≤ length s → ((j : ℕ) → j < k → f (get_or s j 0) ≡ true) → (k < length s → f (get_or s k 0) ≡ false) → bytes_from f 0 s ≡ k
unfolding bytes_from
bytes_is f [] k h pass end = omega arith
bytes_is f (b ∷ s) zero h pass end = bytes-none f b s (end (omega arith))
bytes_is f (b ∷ s) (suc k) h pass end =
    omega (arith, bytes-first f b s (pass 0 (omega arith)), bytes_is f s k (omega arith) (λ j l. pass (suc j) (omega arith)) (λ l. end (omega arith)))

-- each of the bytes that are counted passes
pub bytes_each : (f : ℕ → Bool) (s : List ℕ) (j : ℕ) → j < bytes_from f 0 s → f (get_or s j 0) ≡ true
unfolding bytes_from
bytes_each f [] j h = absurd (omega arith)
bytes_each f (b ∷ s) j h = go (f b) refl j h (bytes_each f s)
  where
    go : (x : Bool) → f b ≡ x → (j : ℕ) → j < bytes_from f 0 (b ∷ s) → ((k : ℕ) → k < bytes_from f 0 s → f (get_or s k 0) ≡ true) → f (get_or (b ∷ s) j 0) ≡ true
    go false e j l each = absurd (omega (arith, l, bytes-none f b s e))
    go true e zero l each = e
    go true e (suc j) l each = each j (omega (arith, l, bytes-first f b s e))

-- of the first m bytes all pass, and then others may; or not all of them do
pub bytes-all : (f : ℕ → Bool) (s : List ℕ) (m : ℕ) → bytes_from f 0 (take m s) ≡ m → bytes_from f 0 s ≡ m + bytes_from f 0 (drop m s)
unfolding bytes_from
bytes-all f s zero e = omega arith
bytes-all f [] (suc m) e = absurd (omega (arith, e))
bytes-all f (b ∷ s) (suc m) e = go (f b) refl (bytes-all f s m)
  where
    go : (x : Bool) → f b ≡ x → (bytes_from f 0 (take m s) ≡ m → bytes_from f 0 s ≡ m + bytes_from f 0 (drop m s)) → bytes_from f 0 (b ∷ s) ≡ suc m + bytes_from f 0 (drop m s)
    go true g more = omega (arith, bytes-first f b s g, more (omega (arith, bytes-first f b (take m s) g, e)))
    go false g more = absurd (omega (arith, bytes-none f b (take m s) g, e))

pub bytes-part : (f : ℕ → Bool) (s : List ℕ) (m : ℕ) → m ≤ length s → bytes_from f 0 (take m s) < m → bytes_from f 0 s ≡ bytes_from f 0 (take m s)
bytes-part f s zero h l = absurd (omega arith)
bytes-part f [] (suc m) h l = absurd (omega arith)
bytes-part f (b ∷ s) (suc m) h l = go (f b) refl (bytes-part f s m (omega arith))
  where
    go : (x : Bool) → f b ≡ x → (bytes_from f 0 (take m s) < m → bytes_from f 0 s ≡ bytes_from f 0 (take m s)) → bytes_from f 0 (b ∷ s) ≡ bytes_from f 0 (b ∷ take m s)
    go true g more = omega (arith, bytes-first f b s g, bytes-first f b (take m s) g, more (omega (arith, bytes-first f b (take m s) g)))
    go false g more = bytes-none f b s g ∙ sym (bytes-none f b (take m s) g)

-- bytes that pass two tests: of those that pass the one, those that pass the other
pub bytes-both : (f g h : ℕ → Bool) → ((b : ℕ) → h b ≡ (f b && g b)) → (s : List ℕ) → bytes_from g 0 (take (bytes_from f 0 s) s) ≡ bytes_from h 0 s
unfolding bytes_from
bytes-both f g h both [] = refl
bytes-both f g h both (b ∷ s) = go (f b) refl (g b) refl (bytes-both f g h both s)
  where
    go : (x : Bool) → f b ≡ x → (y : Bool) → g b ≡ y → bytes_from g 0 (take (bytes_from f 0 s) s) ≡ bytes_from h 0 s → bytes_from g 0 (take (bytes_from f 0 (b ∷ s)) (b ∷ s)) ≡ bytes_from h 0 (b ∷ s)
    go true e y i more =
        let m : bytes_from f 0 (b ∷ s) ≡ suc (bytes_from f 0 s) = bytes-first f b s e ∙ omega arith in
        ap (λ (k : ℕ). bytes_from g 0 (take k (b ∷ s))) m ∙ front y i more
      where
        front : (y : Bool) → g b ≡ y → bytes_from g 0 (take (bytes_from f 0 s) s) ≡ bytes_from h 0 s → bytes_from g 0 (b ∷ take (bytes_from f 0 s) s) ≡ bytes_from h 0 (b ∷ s)
        front true i more = bytes-first g b (take (bytes_from f 0 s) s) i ∙ ap (λ (k : ℕ). 1 + k) more ∙ sym (bytes-first h b s (both b ∙ ap₂ ◌&&◌ e i))
        front false i more = bytes-none g b (take (bytes_from f 0 s) s) i ∙ sym (bytes-none h b s (both b ∙ ap₂ ◌&&◌ e i))
    go false e y i more =
        ap (λ (k : ℕ). bytes_from g 0 (take k (b ∷ s))) (bytes-none f b s e) ∙ sym (bytes-none h b s (both b ∙ ap (λ (t : Bool). t && g b) e))

-- the same bytes pass two tests that are the same
same-from : (f g : ℕ → Bool) → ((b : ℕ) → f b ≡ g b) → (l : List ℕ) (n : ℕ) → bytes_from f n l ≡ bytes_from g n l
unfolding bytes_from
same-from f g h [] n = refl
same-from f g h (b ∷ l) n = rw (h b, bytes_from) (by-test₂ (λ x y. x ≡ y) (g b) _ _ _ _ (λ e. same-from f g h l (n + 1)) (λ e. refl))

pub bytes-same : (f g : ℕ → Bool) → ((b : ℕ) → f b ≡ g b) → (l : List ℕ) → bytes_from f 0 l ≡ bytes_from g 0 l
bytes-same f g h l = same-from f g h l 0

-- neither LF nor CR
abbrev inner : ℕ → Bool
inner b = not (is_stop 10 13 b)

other-inner : (b : ℕ) → is_other 10 13 13 b ≡ inner b
unfolding is_other is_stop
other-inner b = go (eqb b 10) (eqb b 13)
  where
    go : (x y : Bool) → not ((x || y) || y) ≡ not (x || y)
    go true y = refl
    go false true = refl
    go false false = refl

-- the rest of the line is i bytes, if r says that a line ending stands behind them
abbrev pub line_by : ℕ → Option ℕ → Option ℕ
line_by i (Some n) = Some i
line_by i None = None

-- the same by what stands behind them
abbrev line_before : ℕ → List ℕ → Option ℕ
line_before i [] = Some i
line_before i (b ∷ l) = line_by i (line_ending_of (b ∷ l))

-- LF or CR
line-stop : (b : ℕ) (l : List ℕ) (i : ℕ) → is_stop 10 13 b ≡ true → line_from i (b ∷ l) ≡ line_by i (line_ending_of (b ∷ l))
unfolding line_from line_ending_of is_stop
line-stop b l i e = go (eqb b 10) refl (starts_lf l) refl
  where
    h : eqb b 10 ≡ false → eqb b 13 ≡ true
    h f = simp f at e

    go : (x : Bool) → eqb b 10 ≡ x → (y : Bool) → starts_lf l ≡ y → line_from i (b ∷ l) ≡ line_by i (line_ending_of (b ∷ l))
    go true f y g = simp (f, line_from, line_ending_of)
    go false f true g = simp (f, h f, g, line_from, line_ending_of)
    go false f false g = simp (f, h f, g, line_from, line_ending_of)

line-run : (l : List ℕ) (i : ℕ) → line_from i l ≡ line_before (i + bytes_from inner 0 l) (drop (bytes_from inner 0 l) l)
unfolding line_from bytes_from
line-run [] i = ap Some (sym (add-zero i))
line-run (b ∷ l) i = go (is_stop 10 13 b) refl (line-run l (i + 1))
  where
    go : (x : Bool) → is_stop 10 13 b ≡ x → line_from (i + 1) l ≡ line_before (i + 1 + bytes_from inner 0 l) (drop (bytes_from inner 0 l) l) → line_from i (b ∷ l) ≡ line_before (i + bytes_from inner 0 (b ∷ l)) (drop (bytes_from inner 0 (b ∷ l)) (b ∷ l))
    go true e ih = rw (e, bytes_from) (rw add-zero (line-stop b l i e))
    go false e ih =
        let v = apart b e in
        let n : bytes_from inner (0 + 1) l ≡ suc (bytes_from inner 0 l) = omega (arith, bytes_count inner l (0 + 1)) in
        let z : i + 1 + bytes_from inner 0 l ≡ i + suc (bytes_from inner 0 l) = omega arith in
        step-plain i b l v.0 v.1 ∙ ih ∙ rw (e, bytes_from, n) (ap (λ (k : ℕ). line_before k (drop (bytes_from inner 0 l) l)) z)

-- The rest of the line by the code: n bytes at the front are neither LF nor CR.
module _ (s : List ℕ) (n : ℕ) (e : n ≡ free_front_of 10 13 13 s) where
  line-behind : not_line_ending_of s ≡ line_before n (drop n s)
  line-behind =
      let m : n ≡ bytes_from inner 0 s = e ∙ bytes-same (is_other 10 13 13) inner other-inner s in
      let z : 0 + bytes_from inner 0 s ≡ n = omega (arith, m) in
      line-run s 0 ∙ ap₂ line_before z (ap (λ (k : ℕ). drop k s) (sym m))

  -- they are all
  pub line-whole : n ≡ length s → not_line_ending_of s ≡ Some n
  line-whole g = line-behind ∙ ap (line_before n) (drop-end s n (omega arith))

  -- or the answer r is that of the line ending behind them
  pub line-ends : (n ≡ length s → ⊥) → (r : Option ℕ) → r ≡ line_ending_of (take (length s - n) (drop n s)) → not_line_ending_of s ≡ line_by n r
  line-ends g r w =
      let d = drop-next s n (omega (arith, e, bytes-within (is_other 10 13 13) s)) in
      line-behind ∙ ap (line_before n) d ∙ ap (λ (l : List ℕ). line_by n (line_ending_of l)) (sym d ∙ sym (part-from s n)) ∙ ap (line_by n) (sym w)

-- One step of `bytes_from` at a position of a text, by the test.
module _ (f : ℕ → Bool) (s : List ℕ) (i : ℕ) where
  -- nothing is left
  pub bytes-end : length s ≤ i → bytes_from f i (drop i s) ≡ i
  unfolding bytes_from
  bytes-end h = rw (drop-end s i h) refl

  -- a byte that passes
  pub bytes-pass : i < length s → f (get_or s i 0) ≡ true → bytes_from f i (drop i s) ≡ bytes_from f (i + 1) (drop (i + 1) s)
  unfolding bytes_from
  bytes-pass h e = rw (drop-next s i h) (rw (e, bytes_from) refl)

  -- another byte
  pub bytes-stop : i < length s → f (get_or s i 0) ≡ false → bytes_from f i (drop i s) ≡ i
  unfolding bytes_from
  bytes-stop h e = rw (drop-next s i h) (rw (e, bytes_from) refl)

-- `space1_of` by `space0_of`.

-- there is none
pub space1-none : (s : List ℕ) → space0_of s ≡ 0 → space1_of s ≡ None
unfolding space1_of
space1-none s e = simp (eq-eqb _ _ e, space1_of)

-- there is one
pub space1-some : (s : List ℕ) → (space0_of s ≡ 0 → ⊥) → space1_of s ≡ Some (space0_of s)
unfolding space1_of
space1-some s e = simp (ne_eqb _ _ e, space1_of)

-- What is taken, if anything is, is at least one byte and at most k bytes.
abbrev SomeIn : ℕ → Option ℕ → Type 0
SomeIn k (Some n) = (0 < n) × (n ≤ k)
SomeIn k None = Unit {0}

-- so `newline`
newline-in : (s : List ℕ) → SomeIn (length s) (newline_of s)
unfolding newline_of
newline-in [] = tt
newline-in (b ∷ l) = by-test (SomeIn (suc (length l))) (eqb b 10) _ _ (λ e. (omega arith, omega arith)) (λ e. tt)

-- no more is taken than there is
pub newline-le : (s : List ℕ) (n : ℕ) → newline_of s ≡ Some n → n ≤ length s
newline-le s n e = (subst (SomeIn (length s)) e (newline-in s)).1

-- something is taken
pub newline-pos : (s : List ℕ) (n : ℕ) → newline_of s ≡ Some n → 0 < n
newline-pos s n e = (subst (SomeIn (length s)) e (newline-in s)).0

-- so `line_ending`
line-ending-in : (s : List ℕ) → SomeIn (length s) (line_ending_of s)
unfolding line_ending_of
line-ending-in [] = tt
line-ending-in (b ∷ []) =
    by-test (SomeIn 1) (eqb b 10) _ _ (λ e. (omega arith, omega arith)) (λ e. by-test (SomeIn 1) (eqb b 13) _ _ (λ f. tt) (λ f. tt))
line-ending-in (b ∷ c ∷ l) =
    by-test (SomeIn (suc (suc (length l)))) (eqb b 10) _ _
    (λ e. (omega arith, omega arith))
    (λ e. by-test (SomeIn (suc (suc (length l)))) (eqb b 13) _ _
    (λ f. by-test (SomeIn (suc (suc (length l)))) (eqb c 10) _ _ (λ g. (omega arith, omega arith)) (λ g. tt))
    (λ f. tt))

-- no more is taken than there is
pub line-ending-le : (s : List ℕ) (n : ℕ) → line_ending_of s ≡ Some n → n ≤ length s
line-ending-le s n e = (subst (SomeIn (length s)) e (line-ending-in s)).1

-- something is taken
pub line-ending-pos : (s : List ℕ) (n : ℕ) → line_ending_of s ≡ Some n → 0 < n
line-ending-pos s n e = (subst (SomeIn (length s)) e (line-ending-in s)).0

-- there are no more than there are bytes
pub space0-le : (s : List ℕ) → space0_of s ≤ length s
space0-le s = bytes-within is_space s

-- there are no more than there are bytes
pub multispace0-le : (s : List ℕ) → multispace0_of s ≤ length s
multispace0-le s = bytes-within is_multispace s

-- so `space1`
space1-in : (s : List ℕ) → SomeIn (length s) (space1_of s)
unfolding space1_of
space1-in s =
    by-test (SomeIn (length s)) (eqb (space0_of s) 0) _ _
    (λ e. tt)
    (λ e. (omega (arith, eqb-false (space0_of s) 0 e), space0-le s))

-- no more is taken than there is
pub space1-le : (s : List ℕ) (n : ℕ) → space1_of s ≡ Some n → n ≤ length s
space1-le s n e = (subst (SomeIn (length s)) e (space1-in s)).1

-- something is taken
pub space1-pos : (s : List ℕ) (n : ℕ) → space1_of s ≡ Some n → 0 < n
space1-pos s n e = (subst (SomeIn (length s)) e (space1-in s)).0

-- m bytes passed of l, counted from n, are at most all, and end before a line ending if they are not all
record Passed (n : ℕ) (l : List ℕ) (m : ℕ) : Type 0 where
  from : n ≤ m
  within : m ≤ n + length l
  ended : m < n + length l → (line_ending_of (drop (m - n) l) ≡ Some 1) ⊎ (line_ending_of (drop (m - n) l) ≡ Some 2)

abbrev PassedOf : ℕ → List ℕ → Option ℕ → Type 0
PassedOf n l (Some m) = Passed n l m
PassedOf n l None = Unit {0}

-- the same with the byte before
passed-before : (n b : ℕ) (l : List ℕ) (r : Option ℕ) → PassedOf (n + 1) l r → PassedOf n (b ∷ l) r
passed-before n b l (Some m) w =
    record {
      from = omega arith;
      within = omega arith;
      ended = λ h.
          let e : m - n ≡ suc (m - (n + 1)) = omega arith in
          rw e (w.ended (omega arith));
    }
passed-before n b l None w = tt

-- `line_from` passes so many
line-passed : (l : List ℕ) (n : ℕ) → PassedOf n l (line_from n l)
unfolding line_from
line-passed [] n = record { from = omega arith; within = omega arith; ended = λ h. absurd (omega arith) }
line-passed (b ∷ l) n =
    by-test (PassedOf n (b ∷ l)) (eqb b 10) _ _
    (λ e. record { from = omega arith; within = omega arith; ended = λ h. rw sub_self (inl (ends-lf b l e)) })
    (λ e. by-test (PassedOf n (b ∷ l)) (eqb b 13) _ _
    (λ f. by-test (PassedOf n (b ∷ l)) (starts_lf l) _ _
    (λ g. record { from = omega arith; within = omega arith; ended = λ h. rw sub_self (inr (ends-crlf b l e f g)) })
    (λ g. tt))
    (λ f. passed-before n b l (line_from (n + 1) l) (line-passed l (n + 1))))

-- no more is taken than there is
pub not-line-ending-le : (s : List ℕ) (n : ℕ) → not_line_ending_of s ≡ Some n → n ≤ length s
not-line-ending-le s n e =
    let w : Passed 0 s n = subst (PassedOf 0 s) e (line-passed s 0) in
    omega arith

-- what it ends before is a line ending
pub not-line-ending-end : (s : List ℕ) (n : ℕ) → not_line_ending_of s ≡ Some n → n < length s → (line_ending_of (drop n s) ≡ Some 1) ⊎ (line_ending_of (drop n s) ≡ Some 2)
not-line-ending-end s n e h =
    let w : Passed 0 s n = subst (PassedOf 0 s) e (line-passed s 0) in
    let z : n - 0 ≡ n = omega arith in
    rw z at (w.ended (omega arith))

-- what is left of a text that does not end in CR does not either
pub body-drop : (s : List ℕ) (n : ℕ) → Body s → Body (drop n s)
unfolding ends_in_cr
body-drop [] zero h = refl
body-drop [] (suc n) h = refl
body-drop (b ∷ s) zero h = h
body-drop (b ∷ []) (suc n) h = body-drop [] n refl
body-drop (b ∷ c ∷ s) (suc n) h = body-drop (c ∷ s) n h

-- A text behind which LF and t are put.

-- the count is the same, if the byte behind does not pass
pub bytes-append : (f : ℕ → Bool) (b : ℕ) (t : List ℕ) → f b ≡ false → (s : List ℕ) (n : ℕ) → bytes_from f n (s ++ b ∷ t) ≡ bytes_from f n s
unfolding bytes_from
bytes-append f b t h [] n = rw (h, bytes_from) refl
bytes-append f b t h (c ∷ s) n = by-test₂ ◌≡◌ (f c) _ _ _ _ (λ e. bytes-append f b t h s (n + 1)) (λ e. refl)

-- the spaces and tabs at the front stay as they are
pub space0-lf : (s t : List ℕ) → space0_of (s ++ 10 ∷ t) ≡ space0_of s
unfolding is_space
space0-lf s t = bytes-append is_space 10 t refl s 0

-- and so, if there has to be one
pub space1-lf : (s t : List ℕ) → space1_of (s ++ 10 ∷ t) ≡ space1_of s
unfolding space1_of
space1-lf s t = ap (λ (n : ℕ). elim (eqb n 0) [ true ↦ None | false ↦ Some n ]) (space0-lf s t)

-- LF at the front of a text that is not empty goes by its first byte
pub newline-lf : (b : ℕ) (s t : List ℕ) → newline_of ((b ∷ s) ++ 10 ∷ t) ≡ newline_of (b ∷ s)
unfolding newline_of
newline-lf b s t = refl

-- a line ending at the front of a text that is not just CR goes by the text
pub line-ending-lf : (b : ℕ) (s t : List ℕ) → Body (b ∷ s) → line_ending_of ((b ∷ s) ++ 10 ∷ t) ≡ line_ending_of (b ∷ s)
unfolding line_ending_of ends_in_cr
line-ending-lf b [] t h = by-test₂ ◌≡◌ (eqb b 10) _ _ _ _ (λ e. refl) (λ e. by-test₂ ◌≡◌ (eqb b 13) _ _ _ _ (λ f. absurd (true≢false (sym f ∙ h))) (λ f. refl))
line-ending-lf b (c ∷ s) t h = refl

-- `line_from` ends at that LF, or where it ended
line-append : (t s : List ℕ) (n : ℕ) → Body s → line_from n (s ++ 10 ∷ t) ≡ line_from n s
unfolding line_from ends_in_cr
line-append t [] n h = refl
line-append t (b ∷ []) n h = by-test₂ ◌≡◌ (eqb b 10) _ _ _ _ (λ e. refl) (λ e. by-test₂ ◌≡◌ (eqb b 13) _ _ _ _ (λ f. absurd (true≢false (sym f ∙ h))) (λ f. refl))
line-append t (b ∷ c ∷ s) n h =
    by-test₂ ◌≡◌ (eqb b 10) _ _ _ _ (λ e. refl) (λ e. by-test₂ ◌≡◌ (eqb b 13) _ _ _ _ (λ f. refl) (λ f. line-append t (c ∷ s) (n + 1) h))

-- the rest of the line is the same, if LF makes no CR a line ending
pub not-line-ending-lf : (s t : List ℕ) → Body s → not_line_ending_of (s ++ 10 ∷ t) ≡ not_line_ending_of s
not-line-ending-lf s t h = line-append t s 0 h

-- The spaces and tabs at the front of a text.

-- the count in the library's words
pub bytes-prefix_len : (f : ℕ → Bool) (s : List ℕ) → bytes_from f 0 s ≡ prefix_len f s
unfolding bytes_from
bytes-prefix_len f [] = refl
bytes-prefix_len f (b ∷ s) = go (f b) refl (omega (arith, bytes_count f s (0 + 1), bytes-prefix_len f s))
  where
    go : (t : Bool) → f b ≡ t → bytes_from f (0 + 1) s ≡ 1 + prefix_len f s → bytes_from f 0 (b ∷ s) ≡ prefix_len f (b ∷ s)
    go true e h = rw (e, bytes_from) h
    go false e h = rw (e, bytes_from) refl

-- what `s.iter().take_while(..).count()` answers, by the clauses of its calls
pub bytes-take_while :
    {F : Type 0} {w : TakeWhile (Iter ℕ) F} (g : Mut F (Bor (Bor ℕ) × Unit {0}) Bool) (f : ℕ → Bool) (s : List ℕ) {p : F} (n : ℕ)
    → ((xs : List (Bor ℕ)) × Drains (take_while_steps fronts g) w xs × (n ≡ length xs))
    → iter_rest (take_while_source w) ≡ s → take_while_callee w ≡ p → take_while_done w ≡ false
    → ((x : Bor ℕ) (b : Bool) (q : F) → CalledAt g p x b q → (q ≡ p) × (b ≡ f x.now)) → n ≡ bytes_from f 0 s
bytes-take_while {w = w} g f s n ran rest callee done passes =
    count_from_yields_List w n ran (YieldsList-from_take_while g f (YieldsList-from_slice s rest) callee done passes)
    ∙ length-prefix_len f s ∙ sym (bytes-prefix_len f s)

-- one more than behind a space or a tab
space0-next : (b : ℕ) (s : List ℕ) → is_space b ≡ true → space0_of (b ∷ s) ≡ suc (space0_of s)
unfolding bytes_from
space0-next b s e = rw (e, bytes_from) (omega (arith, bytes_count is_space s (0 + 1)))

-- none before another byte
space0-none : (b : ℕ) (s : List ℕ) → is_space b ≡ false → space0_of (b ∷ s) ≡ 0
unfolding bytes_from
space0-none b s e = rw (e, bytes_from) refl

-- a space or a tab is no LF
space-no-lf : (b : ℕ) → is_space b ≡ true → is_stop 10 10 b ≡ false
unfolding is_space is_stop
space-no-lf b h =
    let n : eqb b 10 ≡ false = ne_eqb b 10 (λ e. true≢false (sym h ∙ ap is_space e)) in
    simp n

-- they add no LF to a text without LF
pub space0-free : (s u : List ℕ) → free 10 10 u ≡ true → free 10 10 (take (space0_of s) s ++ u) ≡ true
unfolding free bytes_from
space0-free [] u h = h
space0-free (b ∷ s) u h = go (is_space b) refl (space0-free s u h)
  where
    go : (t : Bool) → is_space b ≡ t → free 10 10 (take (space0_of s) s ++ u) ≡ true → free 10 10 (take (space0_of (b ∷ s)) (b ∷ s) ++ u) ≡ true
    go true e ih = rw (space0-next b s e) (rw (space-no-lf b e, free) ih)
    go false e ih = rw (space0-none b s e) h

-- a text that begins with a space or a tab does so with them before it
pub space0-starts : (s u : List ℕ) → starts_space u ≡ true → starts_space (take (space0_of s) s ++ u) ≡ true
unfolding starts_space bytes_from
space0-starts [] u h = h
space0-starts (b ∷ s) u h = go (is_space b) refl
  where
    go : (t : Bool) → is_space b ≡ t → starts_space (take (space0_of (b ∷ s)) (b ∷ s) ++ u) ≡ true
    go true e = rw (space0-next b s e) e
    go false e = rw (space0-none b s e) h

-- white space is one of four bytes
pub multispace-cases : (P : ℕ → Type 0) (b : ℕ) → is_multispace b ≡ true → P 32 → P 9 → P 13 → P 10 → P b
unfolding is_multispace
multispace-cases P b h space tab cr lf =
    ⊎_elim (at 32 space)
    (λ i. ⊎_elim (at 9 tab)
    (λ j. ⊎_elim (at 13 cr)
    (λ k. ⊎_elim (at 10 lf) (λ l. absurd (false≢true l)) (or_cases (eqb b 10) _ k))
    (or_cases (eqb b 13) _ j))
    (or_cases (eqb b 9) _ i))
    (or_cases (eqb b 32) _ h)
  where
    at : (n : ℕ) → P n → eqb b n ≡ true → P b
    at n w e = subst⁻¹ P (eqb-true b n e) w
