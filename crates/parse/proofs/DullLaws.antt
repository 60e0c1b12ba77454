-- Dull text is passed: from a byte that is no LF, no blank and no backtick, or a backtick at which no embedded link begins, a round where no line starts
-- goes on to a later byte, and finds nothing; so it does from blanks before a byte at which no reference begins. So the rounds from there on are
-- those from the end of such text on.
-- Assumes nothing.
use Prim.Native.Nat.{ℕ, zero, suc, ◌+◌, ◌-◌, ◌<◌, ◌≤◌}
use native.Mathlib.Nat.{le_refl}
use native.Mathlib.Omega.{arith}
use mathlib.Core.Path.{◌≡◌, refl, sym, ap, ◌∙◌}
use mathlib.Core.List.{List, [], ◌∷◌}
use mathlib.Core.Bool.{Bool, true, false, not, ◌||◌, ◌&&◌, true≢false, false≢true}
use mathlib.Core.Logic.{◌⊎◌, inl, inr, ⊎_elim}
use lib.Dec.{ltb, eqb}
use lib.ListN.{length, drop, take, get_or, length-drop}
use lib.Seq.{get_or-take, get_or-drop, length-take-le}
use borrow.Author.Tests.{eqb-true, eqb-false, eq-eqb, ltb-true, lt-ltb}
use Rattle.rst_bytes.specs.Domain.{run}
use Rattle.rst_bytes.specs.Free.{is_other, free_front_of}
use Rattle.rst_bytes.specs.Escaped.{is_stop}
use Rattle.rst_bytes.specs.Line.{bytes_from, is_space, space0_of}
use Rattle.rst_bytes.specs.Word.{is_word, is_ascii_word, word_of}
use Rattle.rst_bytes.proofs.Lists.{drop-next}
use Rattle.rst_bytes.proofs.TestLaws.{lt-or-le, neither}
use Rattle.rst_bytes.proofs.LineLaws.{bytes-stop, bytes-within, bytes_count, bytes_each}
use Rattle.rst_bytes.proofs.WordLaws.{word-ended}
use Rattle.restructured_text.proofs.CalmLaws.{void-text2label}
use Rattle.parse.specs.Link.{Scanned, nothing, behind}
use Rattle.parse.specs.Forms.{reference, tried, rst}
use Rattle.parse.specs.Scan.{passes, later, is_lf, lfs_of, is_opening, opening_of, reference_at, followed, is_start, is_plain, passed_of, text_round, line_round, round_of, rounds}
use Rattle.parse.specs.Inner.{Tick, NoLink, Barren, Skips, Passes, Dull, is_void}
use Rattle.parse.proofs.FormsLaws.{tried-next}
use Rattle.parse.proofs.ScanLaws.{later-passes, rst-consuming}
use Rattle.parse.proofs.RoundLaws.{or_go, round-at, blank-at}
use Rattle.parse.proofs.BacktickLaws.{each-later, other-unlinked, unlinked-inline}
use Rattle.parse.proofs.CalmLaws.{bytes-before, line-none}

-- What the search for LF, a space or a tab says of the bytes that it passes, and of the one at which it ends.

passed-dull : (b : ℕ) → is_other 10 32 9 b ≡ true → (is_lf b ≡ false) × (is_space b ≡ false)
unfolding is_other is_stop is_space
passed-dull b e = go (eqb b 10) (eqb b 32) (eqb b 9) e
  where
    go : (x y z : Bool) → not ((x || y) || z) ≡ true → (x ≡ false) × ((y || (z || false)) ≡ false)
    go true y z h = absurd (false≢true h)
    go false true z h = absurd (false≢true h)
    go false false true h = absurd (false≢true h)
    go false false false h = (refl, refl)

ended-start : (b : ℕ) → is_other 10 32 9 b ≡ false → is_plain b ≡ false
unfolding is_other is_stop is_start
ended-start b e = go (eqb b 10) (eqb b 32) (eqb b 9) _ e
  where
    go : (x y z r : Bool) → not ((x || y) || z) ≡ false → not (x || (y || (z || r))) ≡ false
    go true y z r h = refl
    go false true z r h = refl
    go false false true r h = refl
    go false false false r h = absurd (true≢false h)

-- nor is a byte at which (f) does not stop one of them, or a backtick
plain-dull : (b : ℕ) → is_plain b ≡ true → (is_lf b ≡ false) × (is_space b ≡ false) × (eqb b 0x60 ≡ false)
unfolding is_space is_start
plain-dull b e = go (eqb b 10) (eqb b 32) (eqb b 9) (eqb b 0x60) _ e
  where
    go : (x y z t r : Bool) → not (x || (y || (z || (t || r)))) ≡ true → (x ≡ false) × ((y || (z || false)) ≡ false) × (t ≡ false)
    go true y z t r h = absurd (false≢true h)
    go false true z t r h = absurd (false≢true h)
    go false false true t r h = absurd (false≢true h)
    go false false false true r h = absurd (false≢true h)
    go false false false false r h = (refl, refl, refl)

-- where bytes that pass a test end
bytes_end : (f : ℕ → Bool) (s : List ℕ) → bytes_from f 0 s < length s → f (get_or s (bytes_from f 0 s) 0) ≡ false
unfolding bytes_from
bytes_end f [] h = absurd (omega arith)
bytes_end f (b ∷ s) h = go (f b) refl (bytes_end f s)
  where
    one : f b ≡ true → bytes_from f 0 (b ∷ s) ≡ suc (bytes_from f 0 s)
    one e = rw (e, bytes_from) (omega (arith, bytes_count f s (0 + 1)))

    nil : f b ≡ false → bytes_from f 0 (b ∷ s) ≡ 0
    nil e = rw (e, bytes_from) refl

    go : (t : Bool) → f b ≡ t → (bytes_from f 0 s < length s → f (get_or s (bytes_from f 0 s) 0) ≡ false) → f (get_or (b ∷ s) (bytes_from f 0 (b ∷ s)) 0) ≡ false
    go true e ih = ap (λ (n : ℕ). f (get_or (b ∷ s) n 0)) (one e) ∙ ih (omega (arith, h, one e))
    go false e ih = ap (λ (n : ℕ). f (get_or (b ∷ s) n 0)) (nil e) ∙ e

-- What no reference begins at.

void-apart : (b : ℕ) → is_void b ≡ true → (ltb b 0x80 ≡ true) × (is_lf b ≡ false) × (eqb b 0x60 ≡ false) × (is_opening b ≡ false) × (is_word b ≡ false)
unfolding is_void
void-apart b e = go (ltb b 0x80) (is_lf b) (eqb b 0x60) (is_opening b) (is_word b) e
  where
    go : (l x y z t : Bool) → (l && not (x || (y || (z || t)))) ≡ true → (l ≡ true) × (x ≡ false) × (y ≡ false) × (z ≡ false) × (t ≡ false)
    go false x y z t h = absurd (false≢true h)
    go true true y z t h = absurd (false≢true h)
    go true false true z t h = absurd (false≢true h)
    go true false false true t h = absurd (false≢true h)
    go true false false false true h = absurd (false≢true h)
    go true false false false false h = (refl, refl, refl, refl, refl)

no-word : word_of [] ≡ 0
unfolding word_of run
no-word = refl

void-reference : (b : ℕ) (l : List ℕ) → is_void b ≡ true → reference_at rst true (b ∷ l) ≡ nothing
unfolding opening_of is_word
void-reference b l e =
    let w = void-apart b e in
    let word : word_of (b ∷ l) ≡ 0 = word-ended b (ltb-true b 0x80 w.0) (neither (is_ascii_word b) _ w.4).0 [] l ∙ no-word in
    let opening : opening_of (b ∷ l) ≡ 0 = rw (w.3, opening_of) refl in
    ap (λ (n : ℕ). behind n (tried rst.references (drop n (b ∷ l)))) opening
    ∙ ap (behind 0) (tried-next reference [] (b ∷ l) (void-text2label b l (eqb-false b 0x60 w.2) word))

-- a blank is no LF
space-lf : (b : ℕ) → is_space b ≡ true → is_lf b ≡ false
unfolding is_space
space-lf b e = go (is_lf b) refl
  where
    go : (t : Bool) → is_lf b ≡ t → t ≡ false
    go true f = absurd (false≢true (sym (ap is_space (eqb-true b 10 f)) ∙ e))
    go false f = refl

-- Of s, from place i up to place b, the part t, m bytes are passed by that search.
module _ (s t : List ℕ) (i b m : ℕ) (h : i ≤ b) (within : b ≤ length s) (is : t ≡ take (b - i) (drop i s)) (e : m ≡ free_front_of 10 32 9 t) where
  part-size : length t ≡ b - i
  part-size = ap length is ∙ length-take-le (b - i) (drop i s) (omega (arith, length-drop i s))

  part-at : (k : ℕ) → i ≤ k → k < b → get_or t (k - i) 0 ≡ get_or s k 0
  part-at k x y =
      let z : i + (k - i) ≡ k = omega arith in
      ap (λ (l : List ℕ). get_or l (k - i) 0) is
      ∙ get_or-take (b - i) (drop i s) (k - i) 0 (omega arith)
      ∙ get_or-drop i s (k - i) 0
      ∙ ap (λ (q : ℕ). get_or s q 0) z

  searched-within : i + m ≤ b
  searched-within = omega (arith, e, bytes-within (is_other 10 32 9) t, part-size)

  searched : (k : ℕ) → i ≤ k → k < i + m → (is_lf (get_or s k 0) ≡ false) × (is_space (get_or s k 0) ≡ false)
  searched k x y =
      passed-dull (get_or s k 0) (ap (is_other 10 32 9) (sym (part-at k x (omega (arith, searched-within)))) ∙ bytes_each (is_other 10 32 9) t (k - i) (omega (arith, e)))

  -- backticks are taken along before place n
  module _ (n : ℕ) (g : i < b → b ≤ n) where
    pub dull-before : i + m < b → Dull n i (i + m) s
    dull-before l =
        let z : i + m - i ≡ bytes_from (is_other 10 32 9) 0 t = omega (arith, e) in
        let at : get_or t (bytes_from (is_other 10 32 9) 0 t) 0 ≡ get_or s (i + m) 0 = ap (λ (k : ℕ). get_or t k 0) (sym z) ∙ part-at (i + m) (omega arith) l in
        record {
          behind = omega arith;
          within = omega arith;
          dull = λ k x y. ((searched k x y).0, (searched k x y).1, λ c. omega (arith, g (omega arith)));
          edge = inr (omega arith, ended-start (get_or s (i + m) 0) (ap (is_other 10 32 9) (sym at) ∙ bytes_end (is_other 10 32 9) t (omega (arith, l, e, part-size))));
        }

    -- and from b on bytes at which (f) does not stop
    pub dull-beyond : b ≤ i + m → (j : ℕ) → j ≡ b + bytes_from is_plain 0 (drop b s) → Dull n i j s
    dull-beyond l j of =
        record {
          behind = omega (arith, of);
          within = inside;
          dull = λ k x y. ⊎_elim (λ (f : k < b). before k x f) (λ (f : b ≤ k). beyond k f y) (lt-or-le k b);
          edge = ⊎_elim (λ (f : j < length s). inr (f, stop f)) (λ (f : length s ≤ j). inl (omega (arith, f, inside))) (lt-or-le j (length s));
        }
      where
        inside : j ≤ length s
        inside = omega (arith, of, bytes-within is_plain (drop b s), length-drop b s)

        before : (k : ℕ) → i ≤ k → k < b → (is_lf (get_or s k 0) ≡ false) × (is_space (get_or s k 0) ≡ false) × (get_or s k 0 ≡ 0x60 → k < n)
        before k x f = ((searched k x (omega arith)).0, (searched k x (omega arith)).1, λ c. omega (arith, g (omega arith)))

        at : (k : ℕ) → b ≤ k → get_or (drop b s) (k - b) 0 ≡ get_or s k 0
        at k f = get_or-drop b s (k - b) 0 ∙ ap (λ (q : ℕ). get_or s q 0) (omega arith)

        beyond : (k : ℕ) → b ≤ k → k < j → (is_lf (get_or s k 0) ≡ false) × (is_space (get_or s k 0) ≡ false) × (get_or s k 0 ≡ 0x60 → k < n)
        beyond k f y =
            let w = plain-dull (get_or s k 0) (ap is_plain (sym (at k f)) ∙ bytes_each is_plain (drop b s) (k - b) (omega (arith, of))) in
            (w.0, w.1, λ c. absurd (true≢false (sym (eq-eqb _ _ c) ∙ w.2)))

        stop : j < length s → is_plain (get_or s j 0) ≡ false
        stop f =
            let z : bytes_from is_plain 0 (drop b s) ≡ j - b = omega (arith, of) in
            ap is_plain (sym (at j (omega (arith, of)))) ∙ ap (λ (q : ℕ). is_plain (get_or (drop b s) q 0)) (sym z) ∙ bytes_end is_plain (drop b s) (omega (arith, of, length-drop b s))

-- A round where no line starts, at a byte that is no LF: it passes blanks, and then (d) to (f) are tried.
module _ (s : List ℕ) (i : ℕ) (h : i < length s) (e : is_lf (get_or s i 0) ≡ false) where
  no-lfs : lfs_of (drop i s) ≡ 0
  no-lfs = omega (arith, bytes-stop is_lf s i h e, bytes_count is_lf (drop i s) i)

  pub quiet-round : later i (round_of rst false (drop i s)) ≡ later (i + space0_of (drop i s)) (text_round rst (ltb 0 (space0_of (drop i s))) (drop (i + space0_of (drop i s)) s))
  quiet-round =
      let z : i + 0 ≡ i = omega arith in
      round-at false s i
      ∙ ap (λ (n : ℕ). later (i + n) (line_round rst (false || ltb 0 n) (drop (i + n) s))) no-lfs
      ∙ ap (λ (a : ℕ). later a (line_round rst false (drop a s))) z
      ∙ ap (later i) (line-none (drop i s))
      ∙ blank-at false s i

-- At place c no embedded link begins, and no reference if `spaced`: (f) passes a byte and what follows it.
module _ (s : List ℕ) (c : ℕ) (h : c < length s) (spaced : Bool) (d : tried rst.embedded (drop c s) ≡ nothing) (f : reference_at rst spaced (drop c s) ≡ nothing) where
  pub text-passed : later c (text_round rst spaced (drop c s)) ≡ passes (c + (1 + bytes_from is_plain 0 (drop (c + 1) s)))
  unfolding text_round passed_of
  text-passed =
      ap (λ (w : Scanned). later c (or_go w (passed_of (drop c s)))) (unlinked-inline spaced s c h d ∙ ap (followed rst (drop c s)) f)
      ∙ ap (λ (r : List ℕ). later c (passed_of r)) (drop-next s c h)

  -- which ends by a place at which (f) stops, or where s ends
  pub passed-by : (j : ℕ) → c < j → j ≤ length s → (length s ≡ j) ⊎ ((j < length s) × (is_plain (get_or s j 0) ≡ false)) → c + (1 + bytes_from is_plain 0 (drop (c + 1) s)) ≤ j
  passed-by j l g edge =
      ⊎_elim
      (λ (x : length s ≡ j). omega (arith, x, l, bytes-within is_plain (drop (c + 1) s), length-drop (c + 1) s))
      (λ x. omega (arith, bytes-before is_plain s j x.0 x.1 j (c + 1) (omega arith) (omega arith), bytes_count is_plain (drop (c + 1) s) (c + 1)))
      edge

-- the same of a round that begins at c, a byte that is no LF and no blank
solid-round : (s : List ℕ) (c : ℕ) → c < length s → is_lf (get_or s c 0) ≡ false → is_space (get_or s c 0) ≡ false → tried rst.embedded (drop c s) ≡ nothing → later c (round_of rst false (drop c s)) ≡ passes (c + (1 + bytes_from is_plain 0 (drop (c + 1) s)))
solid-round s c h e f d =
    let none : space0_of (drop c s) ≡ 0 = omega (arith, bytes-stop is_space s c h f, bytes_count is_space (drop c s) c) in
    let z : c + 0 ≡ c = omega arith in
    quiet-round s c h e
    ∙ ap (λ (q : ℕ). later (c + q) (text_round rst (ltb 0 q) (drop (c + q) s))) none
    ∙ ap (λ (a : ℕ). later a (text_round rst false (drop a s))) z
    ∙ text-passed s c h false d refl

module _ (s : List ℕ) (n j : ℕ) where
  -- no embedded link begins in dull text
  unlinked : (i k : ℕ) → Barren i n s → Dull n i j s → i ≤ k → k < j → tried rst.embedded (drop k s) ≡ nothing
  unlinked i k barren w a b = go (eqb (get_or s k 0) 0x60) refl
    where
      go : (t : Bool) → eqb (get_or s k 0) 0x60 ≡ t → tried rst.embedded (drop k s) ≡ nothing
      go true e = let x = eqb-true _ _ e in barren k a ((w.dull k a b).2 x) x
      go false e = other-unlinked s k (omega (arith, w.within)) (eqb-false _ _ e)

  -- what is dull from i on is so from a later place on
  dull-later : (i k : ℕ) → i ≤ k → k ≤ j → Dull n i j s → Dull n k j s
  dull-later i k a b w = record { behind = b; within = w.within; dull = λ q x y. w.dull q (omega arith) y; edge = w.edge }

  -- round after round
  rounds-dull : (m i : ℕ) → j ≤ i + m → i < j → Barren i n s → Dull n i j s → rounds rst 0 false i (drop i s) ≡ rounds rst 0 false j (drop j s)
  rounds-dull zero i b h barren w = absurd (omega arith)
  rounds-dull (suc m) i b h barren w =
      let at = w.dull i (le_refl i) h in
      let inside : i < length s = omega (arith, w.within) in
      let round = solid-round s i inside at.0 at.1 (unlinked i i barren w (le_refl i) h) in
      let next : ℕ = i + (1 + bytes_from is_plain 0 (drop (i + 1) s)) in
      let passed = later-passes rst rst-consuming false s i inside next round in
      let by : next ≤ j = passed-by s i inside false (unlinked i i barren w (le_refl i) h) refl j h w.within w.edge in
      go (rounds-dull m) next passed.0 passed.1 by
    where
      go :
          ((k : ℕ) → j ≤ k + m → k < j → Barren k n s → Dull n k j s → rounds rst 0 false k (drop k s) ≡ rounds rst 0 false j (drop j s)) → (k : ℕ)
          → rounds rst 0 false i (drop i s) ≡ rounds rst 0 false k (drop k s) → i < k → k ≤ j → rounds rst 0 false i (drop i s) ≡ rounds rst 0 false j (drop j s)
      go ih k e d f =
          ⊎_elim
          (λ (x : k < j). e ∙ ih k (omega arith) x (each-later (Tick NoLink) s i k n (omega arith) barren) (dull-later i k (omega arith) f w))
          (λ (x : j ≤ k).
          let z : k ≡ j = omega arith in
          e ∙ ap (λ (q : ℕ). rounds rst 0 false q (drop q s)) z)
          (lt-or-le k j)

  dull-skips : (i : ℕ) → Barren i n s → Dull n i j s → Skips false i j s
  dull-skips i barren w = (w.behind, w.within, λ d. rounds-dull j i (omega arith) d barren w)

  pub dull-passes : (i : ℕ) → i < j → Barren i n s → Dull n i j s → Passes false i j s
  dull-passes i h barren w = ((λ e. h), dull-skips i barren w)

  -- behind blanks from i on, before a byte at which no reference begins
  pub void-passes : (i c : ℕ) → c ≡ i + space0_of (drop i s) → i < c → c < length s → is_void (get_or s c 0) ≡ true → Barren i n s → Dull n c j s → Passes false i j s
  void-passes i c is a h v barren w =
      let m = space0_of (drop i s) in
      let b = get_or s c 0 in
      let apart = void-apart b v in
      let zero : i + 0 ≡ i = omega arith in
      let blank : is_space (get_or s i 0) ≡ true = ap (λ (q : ℕ). is_space (get_or s q 0)) (sym zero) ∙ ap is_space (sym (get_or-drop i s 0 0)) ∙ bytes_each is_space (drop i s) 0 (omega (arith, is)) in
      let solid : is_space b ≡ false = ap (λ (q : ℕ). is_space (get_or s q 0)) is ∙ ap is_space (sym (get_or-drop i s m 0)) ∙ bytes_end is_space (drop i s) (omega (arith, is, length-drop i s)) in
      let d = other-unlinked s c h (eqb-false b 0x60 apart.2) in
      let f : reference_at rst true (drop c s) ≡ nothing = ap (reference_at rst true) (drop-next s c h) ∙ void-reference b (drop (c + 1) s) v in
      let some : ltb 0 m ≡ true = lt-ltb 0 m (omega (arith, is)) in
      let round =
      quiet-round s i (omega arith) (space-lf (get_or s i 0) blank)
      ∙ ap (λ (t : Bool). later (i + m) (text_round rst t (drop (i + m) s))) some
      ∙ ap (λ (q : ℕ). later q (text_round rst true (drop q s))) (sym is)
      ∙ text-passed s c h true d f in
      let next : ℕ = c + (1 + bytes_from is_plain 0 (drop (c + 1) s)) in
      let passed = later-passes rst rst-consuming false s i (omega arith) next round in
      let there = later-passes rst rst-consuming false s c h next (solid-round s c h apart.1 solid d) in
      let same : rounds rst 0 false i (drop i s) ≡ rounds rst 0 false c (drop c s) = passed.0 ∙ sym there.0 in
      ((λ e. omega (arith, a, w.behind)), (omega (arith, a, w.behind), w.within, λ e. same ∙ on))
    where
      on : rounds rst 0 false c (drop c s) ≡ rounds rst 0 false j (drop j s)
      on =
          ⊎_elim
          (λ (x : c < j). rounds-dull j c (omega arith) x (each-later (Tick NoLink) s i c n (omega (arith, a)) barren) w)
          (λ (x : j ≤ c).
          let z : c ≡ j = omega (arith, x, w.behind) in
          ap (λ (q : ℕ). rounds rst 0 false q (drop q s)) z)
          (lt-or-le c j)
