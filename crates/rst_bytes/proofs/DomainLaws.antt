-- The laws of characters and of runs of them: the character at a position, lengths, one step of a run, bytes that are all below 80, and
-- what a byte below 80 behind the text changes. Up to `char-low` they go by the two kinds of characters; the laws of `run` need only these.
-- Assumes nothing.
use Rattle.std.proofs.Common.{Option, Some, None}
use Prim.Native.Nat.{ℕ, zero, suc, ◌+◌, ◌-◌, ◌<◌, ◌≤◌}
use native.Mathlib.Nat.{add-zero, add_assoc}
use native.Mathlib.Omega.{arith}
use mathlib.Core.Path.{◌≡◌, refl, sym, ap, ◌∙◌}
use mathlib.Core.Logic.{◌⊎◌, inl, inr, ⊎_elim}
use mathlib.Core.List.{List, [], ◌∷◌, ◌++◌}
use mathlib.Core.Bool.{Bool, true, false, and-false, and-eq-true_iff}
use lib.Dec.{ltb, leb, eqb}
use lib.ListN.{length, get_or, drop, length-drop, length-append}
use lib.Seq.{get_or-drop, drop-drop}
use borrow.Author.Tests.{ltb-true, leb-true, eqb-true, lt-ltb, le-ltb, lt-leb, ne_eqb}
use Rattle.std.proofs.lemmas.Option.{none-some, some_pair_parts}
use Rattle.rst_bytes.specs.Tests.{between}
use Rattle.rst_bytes.specs.Domain.{is_pair, point_of, pair_of, char_of, run, any, outside_of}
use Rattle.rst_bytes.proofs.Lists.{drop-next, drop-end}
use Rattle.rst_bytes.proofs.TestLaws.{or_cases, lt-or-le}

-- the bytes of a pair
pub record Bounds (b c : ℕ) : Type 0 where
  pub first-low : 0xC2 ≤ b
  pub second-low : 0x80 ≤ c
  pub second-high : c ≤ 0xBF

pub pair-bounds : (b c : ℕ) → is_pair b c ≡ true → Bounds b c
unfolding is_pair
pair-bounds b c e =
    ⊎_elim
    (λ w.
    let x = (and-eq-true_iff (between 0xC2 0xC8 b) (between 0x80 0xBF c)).0 w in
    let y = (and-eq-true_iff (leb 0xC2 b) (leb b 0xC8)).0 x.0 in
    let z = (and-eq-true_iff (leb 0x80 c) (leb c 0xBF)).0 x.1 in
    record {
      first-low = leb-true _ _ y.0;
      second-low = leb-true _ _ z.0;
      second-high = leb-true _ _ z.1;
    })
    (λ w.
    let x = (and-eq-true_iff (eqb b 0xC9) (between 0x80 0x8F c)).0 w in
    let y = eqb-true b 0xC9 x.0 in
    let z = (and-eq-true_iff (leb 0x80 c) (leb c 0x8F)).0 x.1 in
    record {
      first-low = omega arith;
      second-low = leb-true _ _ z.0;
      second-high = omega (arith, leb-true c 0x8F z.1);
    })
    (or_cases _ _ e)

-- The character at a position, by the tests of the code.
module _ (s : List ℕ) (i : ℕ) where
  pub at-end : length s ≤ i → char_of (drop i s) ≡ None
  unfolding char_of
  at-end h = rw (drop-end s i h) refl

  pub at_one : i < length s → get_or s i 0 < 0x80 → char_of (drop i s) ≡ Some (1, (get_or s i 0))
  unfolding char_of
  at_one h l = rw (drop-next s i h) (simp (lt-ltb _ _ l, char_of))

-- A character has one byte below 80, or two that are a pair.
pub record One (s : List ℕ) (n p : ℕ) : Type 0 where
  pub len : n ≡ 1
  pub point : p ≡ get_or s 0 0
  pub low : get_or s 0 0 < 0x80
  pub some : 0 < length s

pub record Two (s : List ℕ) (n p : ℕ) : Type 0 where
  pub len : n ≡ 2
  pub point : p ≡ point_of (get_or s 0 0) (get_or s 1 0)
  pub pair : is_pair (get_or s 0 0) (get_or s 1 0) ≡ true
  pub some : 1 < length s

-- a character starts, or none does
pub clash : (s : List ℕ) (n p : ℕ) → char_of s ≡ None → char_of s ≡ Some (n, p) → ⊥
clash s n p d e = none-some (n, p) (sym d ∙ e)

pub char-cases : (s : List ℕ) (n p : ℕ) → char_of s ≡ Some (n, p) → One s n p ⊎ Two s n p
unfolding char_of
char-cases [] n p e = absurd (none-some (n, p) e)
char-cases (b ∷ s) n p e = first (ltb b 0x80) refl
  where
    second : (l : List ℕ) (x : Bool) → is_pair b (get_or l 0 0) ≡ x → pair_of b l ≡ Some (n, p) → Two (b ∷ l) n p
    second [] x q u = absurd (none-some (n, p) u)
    second (c ∷ l) false q u = absurd (none-some (n, p) (simp (q, pair_of) at u))
    second (c ∷ l) true q u =
        let v : ◌≡◌ {A = Option (ℕ × ℕ)} (Some (2, (point_of b c))) (Some (n, p)) = simp (q, pair_of) at u in
        let w = some_pair_parts 2 n (point_of b c) p v in record { len = sym w.0; point = sym w.1; pair = q; some = omega arith }

    first : (x : Bool) → ltb b 0x80 ≡ x → One (b ∷ s) n p ⊎ Two (b ∷ s) n p
    first true q =
        let v : ◌≡◌ {A = Option (ℕ × ℕ)} (Some (1, b)) (Some (n, p)) = simp (q, char_of) at e in
        let w = some_pair_parts 1 n b p v in inl (record { len = sym w.0; point = sym w.1; low = ltb-true b 0x80 q; some = omega arith })
    first false q = inr (second s (is_pair b (get_or s 0 0)) refl (simp (q, char_of) at e))

-- a character has a byte at least, and no more than there are
pub char-within : (s : List ℕ) (n p : ℕ) → char_of s ≡ Some (n, p) → (0 < n) × (n ≤ length s)
char-within s n p e =
    ⊎_elim
    (λ (w : One s n p). (omega (arith, w.len), omega (arith, w.len, w.some)))
    (λ (w : Two s n p). (omega (arith, w.len), omega (arith, w.len, w.some)))
    (char-cases s n p e)

low-no-pair : (b c : ℕ) → b < 0xC2 → is_pair b c ≡ false
unfolding is_pair
low-no-pair b c h = simp (lt-leb 0xC2 b h, ne_eqb b 0xC9 (λ e. omega arith))

-- the second byte of a pair starts no character
second_none : (s : List ℕ) → 0x80 ≤ get_or s 0 0 → get_or s 0 0 ≤ 0xBF → char_of s ≡ None
unfolding char_of
second_none [] l u = refl
second_none (c ∷ []) l u = simp (le-ltb c 0x80 l, char_of)
second_none (c ∷ d ∷ s) l u = simp (le-ltb c 0x80 l, char_of, low-no-pair c d (omega arith), pair_of)

-- no character starts inside another
pub char-inside : (s : List ℕ) (n p j : ℕ) → char_of s ≡ Some (n, p) → 0 < j → j < n → char_of (drop j s) ≡ None
char-inside s n p j e h l =
    ⊎_elim
    (λ (w : One s n p). absurd (omega (arith, w.len)))
    (λ (w : Two s n p).
    let b = pair-bounds (get_or s 0 0) (get_or s 1 0) w.pair in
    let i : j ≡ 1 = omega (arith, w.len) in
    let g : get_or (drop 1 s) 0 0 ≡ get_or s 1 0 = get_or-drop 1 s 0 0 in
    rw i (second_none (drop 1 s) (rw g b.second-low) (rw g b.second-high)))
    (char-cases s n p e)

-- the same at a position
pub inside-at : (s : List ℕ) (k n p j : ℕ) → char_of (drop k s) ≡ Some (n, p) → k < j → j < k + n → char_of (drop j s) ≡ None
inside-at s k n p j e h l =
    let i : k + (j - k) ≡ j = omega arith in
    rw i at (ap char_of (sym (drop-drop (j - k) k s)) ∙ char-inside (drop k s) n p (j - k) e (omega arith) (omega arith))

-- A byte below 80 is a character by itself, and no second byte of one.
module _ (c : ℕ) (l : c < 0x80) where
  low-no-second : (b : ℕ) → is_pair b c ≡ false
  unfolding is_pair
  low-no-second b = simp (lt-leb 0x80 c l, and-false)

  low-char : (t : List ℕ) → char_of (c ∷ t) ≡ Some (1, c)
  unfolding char_of
  low-char t = simp (lt-ltb c 0x80 l, char_of)

  -- behind a text it leaves the character at its front
  pub char-low : (b : ℕ) (s t : List ℕ) → char_of ((b ∷ s) ++ c ∷ t) ≡ char_of (b ∷ s)
  unfolding char_of
  char-low b [] t = go (ltb b 0x80) refl
    where
      go : (x : Bool) → ltb b 0x80 ≡ x → char_of (b ∷ c ∷ t) ≡ char_of (b ∷ [])
      go true q = simp (q, char_of)
      go false q = simp (q, char_of, low-no-second b, pair_of)
  char-low b (d ∷ s) t = refl

module _ (f : ℕ → Bool) where
  -- what is left of a character is passed
  run-skip : (k n : ℕ) (s : List ℕ) → k ≤ length s → run f k n s ≡ run f 0 (n + k) (drop k s)
  unfolding run
  run-skip zero n s h = rw add-zero refl
  run-skip (suc k) n [] h = absurd (omega arith)
  run-skip (suc k) n (b ∷ s) h =
      let e : n + 1 + k ≡ n + suc k = omega arith in
      run-skip k (n + 1) s (omega arith) ∙ ap (λ (m : ℕ). run f 0 m (drop k s)) e

  -- a character that passes the test is taken
  run-cons : (n b : ℕ) (s : List ℕ) (len p : ℕ) → char_of (b ∷ s) ≡ Some (len, p) → f p ≡ true → run f 0 n (b ∷ s) ≡ run f (len - 1) (n + 1) s
  unfolding run
  run-cons n b s len p e u = simp (e, u, run)

  pub run-taken : (n : ℕ) (s : List ℕ) (len p : ℕ) → char_of s ≡ Some (len, p) → f p ≡ true → run f 0 n s ≡ run f 0 (n + len) (drop len s)
  run-taken n [] len p e u = absurd (omega (arith, char-within [] len p e))
  run-taken n (b ∷ s) len p e u =
      let w = char-within (b ∷ s) len p e in
      let k : len ≡ suc (len - 1) = omega arith in
      let m : n + 1 + (len - 1) ≡ n + len = omega arith in
      run-cons n b s len p e u ∙ run-skip (len - 1) (n + 1) s (omega arith) ∙ ap (λ (i : ℕ). run f 0 i (drop (len - 1) s)) m
      ∙ ap (λ (i : ℕ). run f 0 (n + len) (drop i (b ∷ s))) (sym k)

  -- one that does not ends the run
  pub run-ended : (n : ℕ) (s : List ℕ) (len p : ℕ) → char_of s ≡ Some (len, p) → f p ≡ false → run f 0 n s ≡ n
  unfolding run
  run-ended n [] len p e u = refl
  run-ended n (b ∷ s) len p e u = simp (e, u, run)

  -- and so does a byte that starts none
  pub run_none : (n : ℕ) (s : List ℕ) → char_of s ≡ None → run f 0 n s ≡ n
  unfolding run
  run_none n [] e = refl
  run_none n (b ∷ s) e = simp (e, run)

  -- The same at a position.
  module _ (s : List ℕ) (i : ℕ) where
    pub at-taken : (len p : ℕ) → char_of (drop i s) ≡ Some (len, p) → f p ≡ true → run f 0 i (drop i s) ≡ run f 0 (i + len) (drop (i + len) s)
    at-taken len p e u = run-taken i (drop i s) len p e u ∙ ap (run f 0 (i + len)) (drop-drop len i s)

  -- what is counted before is added
  shift : (m k n : ℕ) (s : List ℕ) → run f k (m + n) s ≡ m + run f k n s
  unfolding run
  shift m k n [] = refl
  shift m (suc k) n (b ∷ s) = ap (λ (i : ℕ). run f k i s) (add_assoc m n 1) ∙ shift m k (n + 1) s
  shift m zero n (b ∷ s) = go (λ k. shift m k (n + 1) s) (char_of (b ∷ s)) refl
    where
      Rest : Type 0
      Rest = (k : ℕ) → run f k (m + (n + 1)) s ≡ m + run f k (n + 1) s

      taken : Rest → (len p : ℕ) → char_of (b ∷ s) ≡ Some (len, p) → (u : Bool) → f p ≡ u → run f 0 (m + n) (b ∷ s) ≡ m + run f 0 n (b ∷ s)
      taken rest len p e false u = run-ended (m + n) (b ∷ s) len p e u ∙ ap (◌+◌ m) (sym (run-ended n (b ∷ s) len p e u))
      taken rest len p e true u =
          run-cons (m + n) b s len p e u ∙ ap (λ (i : ℕ). run f (len - 1) i s) (add_assoc m n 1) ∙ rest (len - 1)
          ∙ ap (◌+◌ m) (sym (run-cons n b s len p e u))

      go : Rest → (x : Option (ℕ × ℕ)) → char_of (b ∷ s) ≡ x → run f 0 (m + n) (b ∷ s) ≡ m + run f 0 n (b ∷ s)
      go rest None e = run_none (m + n) (b ∷ s) e ∙ ap (◌+◌ m) (sym (run_none n (b ∷ s) e))
      go rest (Some (len, p)) e = taken rest len p e (f p) refl

  pub run-from : (n : ℕ) (s : List ℕ) → run f 0 n s ≡ n + run f 0 0 s
  run-from n s = ap (λ (i : ℕ). run f 0 i s) (sym (add-zero n)) ∙ shift n 0 0 s

  -- A byte below 80 behind a text: a run that ends before the end of the text ends there still, and any other goes on at that byte. x is
  -- the run of the text, y that of the text with the byte and t.
  module _ (c : ℕ) (l : c < 0x80) where
    abbrev SeamOf : ℕ → ℕ → ℕ → List ℕ → List ℕ → Type 0
    SeamOf x y n s t = ((x < n + length s) × (y ≡ x)) ⊎ ((x ≡ n + length s) × (y ≡ run f 0 (n + length s) (c ∷ t)))

    carry : (x y n b : ℕ) (s t : List ℕ) → SeamOf x y (n + 1) s t → SeamOf x y n (b ∷ s) t
    carry x y n b s t w =
        let e : n + 1 + length s ≡ n + suc (length s) = omega arith in
        ⊎_elim (λ k. inl (omega arith, k.1)) (λ k. inr (omega arith, k.1 ∙ ap (λ (m : ℕ). run f 0 m (c ∷ t)) e)) w

    pub seam : (k n : ℕ) (s t : List ℕ) → k ≤ length s → SeamOf (run f k n s) (run f k n (s ++ c ∷ t)) n s t
    unfolding run
    seam zero n [] t h =
        let e : n ≡ n + 0 = omega arith in
        inr (e, ap (λ (m : ℕ). run f 0 m (c ∷ t)) e)
    seam (suc k) n [] t h = absurd (omega arith)
    seam (suc k) n (b ∷ s) t h = carry _ _ n b s t (seam k (n + 1) s t (omega arith))
    seam zero n (b ∷ s) t h = go (λ k i. seam k (n + 1) s t i) (char_of (b ∷ s)) refl
      where
        stays : run f 0 n (b ∷ s) ≡ n → run f 0 n ((b ∷ s) ++ c ∷ t) ≡ n → SeamOf (run f 0 n (b ∷ s)) (run f 0 n ((b ∷ s) ++ c ∷ t)) n (b ∷ s) t
        stays e d = inl (omega (arith, e), d ∙ sym e)

        Rest : Type 0
        Rest = (k : ℕ) → k ≤ length s → SeamOf (run f k (n + 1) s) (run f k (n + 1) (s ++ c ∷ t)) (n + 1) s t

        taken : Rest → (len p : ℕ) → char_of (b ∷ s) ≡ Some (len, p) → (u : Bool) → f p ≡ u → SeamOf (run f 0 n (b ∷ s)) (run f 0 n ((b ∷ s) ++ c ∷ t)) n (b ∷ s) t
        taken rest len p e false u = stays (run-ended n (b ∷ s) len p e u) (run-ended n ((b ∷ s) ++ c ∷ t) len p (char-low c l b s t ∙ e) u)
        taken rest len p e true u =
            let w = char-within (b ∷ s) len p e in
            rw (run-cons n b s len p e u, run-cons n b (s ++ c ∷ t) len p (char-low c l b s t ∙ e) u)
            (carry _ _ n b s t (rest (len - 1) (omega arith)))

        go : Rest → (x : Option (ℕ × ℕ)) → char_of (b ∷ s) ≡ x → SeamOf (run f 0 n (b ∷ s)) (run f 0 n ((b ∷ s) ++ c ∷ t)) n (b ∷ s) t
        go rest None e = stays (run_none n (b ∷ s) e) (run_none n ((b ∷ s) ++ c ∷ t) (char-low c l b s t ∙ e))
        go rest (Some (len, p)) e = taken rest len p e (f p) refl

    -- a test that the byte does not pass: the run stays as it is
    pub run-low : f c ≡ false → (s t : List ℕ) → run f 0 0 (s ++ c ∷ t) ≡ run f 0 0 s
    run-low u s t =
        ⊎_elim
        (λ w. w.1)
        (λ w. w.1 ∙ run-ended (0 + length s) (c ∷ t) 1 c (low-char c l t) u ∙ sym w.0)
        (seam 0 0 s t (omega arith))

  -- a run is within what there is
  pub run-within : (s : List ℕ) → run f 0 0 s ≤ length s
  run-within s = ⊎_elim (λ w. omega arith) (λ w. omega arith) (seam 10 (omega arith) 0 0 s [] (omega arith))

-- a character at a position is within what there is
pub char-at-within : (s : List ℕ) (i n p : ℕ) → i ≤ length s → char_of (drop i s) ≡ Some (n, p) → (0 < n) × (i + n ≤ length s)
char-at-within s i n p h e =
    let w = char-within (drop i s) n p e in
    (w.0, omega (arith, w.1, length-drop i s))

-- the characters at the front end before the end, or at it
outside-yes : (s : List ℕ) (n : ℕ) → run any 0 0 s ≡ n → n < length s → outside_of s ≡ Some n
unfolding outside_of
outside-yes s n e h = simp (e, lt-ltb n (length s) h, outside_of)

outside-no : (s : List ℕ) (n : ℕ) → run any 0 0 s ≡ n → length s ≤ n → outside_of s ≡ None
unfolding outside_of
outside-no s n e h = simp (e, le-ltb n (length s) h, outside_of)

-- reading came to a byte that starts no character
pub outside-at : (s : List ℕ) (i : ℕ) → i < length s → run any 0 0 s ≡ run any 0 i (drop i s) → char_of (drop i s) ≡ None → outside_of s ≡ Some i
outside-at s i h e n = outside-yes s i (e ∙ run_none any i (drop i s) n) h

-- reading came to the end
pub outside-nowhere : (s : List ℕ) (i : ℕ) → length s ≤ i → run any 0 0 s ≡ run any 0 i (drop i s) → outside_of s ≡ None
outside-nowhere s i h e = outside-no s i (e ∙ run_none any i (drop i s) (at-end s i h)) h

-- where every byte is below 80 each is a character, up to the end
ascii_run : (n : ℕ) (s : List ℕ) → ((i : ℕ) → get_or s i 0 < 0x80) → run any 0 n s ≡ n + length s
unfolding run
ascii_run n [] f = sym (add-zero n)
ascii_run n (b ∷ s) f =
    run-cons any n b s 1 b (at_one (b ∷ s) 0 (omega arith) (f 0)) refl ∙ ascii_run (n + 1) s (λ i. f (suc i)) ∙ omega arith

pub outside-ascii : (s : List ℕ) → ((i : ℕ) → get_or s i 0 < 0x80) → outside_of s ≡ None
outside-ascii s f = outside-no s (0 + length s) (ascii_run 0 s f) (omega arith)

-- the place is within the document
pub outside-within : (s : List ℕ) (n : ℕ) → outside_of s ≡ Some n → n < length s
outside-within s n e = ⊎_elim (λ l. inside (run any 0 0 s) refl l) (λ l. absurd (never (sym (outside-no s _ refl l) ∙ e))) (lt-or-le (run any 0 0 s) (length s))
  where
    never : None ≡ Some n → ⊥
    never q = let z : ◌≡◌ {A = ℕ} 0 1 = cc in omega arith

    inside : (x : ℕ) → run any 0 0 s ≡ x → x < length s → n < length s
    inside x q l =
        let r : Some x ≡ Some n = sym (outside-yes s x q l) ∙ e in
        let i : x ≡ n = cc in
        omega arith

-- the first place of two, the second counted from m on
abbrev pub later : ℕ → Option ℕ → Option ℕ
later m (Some n) = Some (m + n)
later m None = None

abbrev pub earlier : Option ℕ → Option ℕ → Option ℕ
earlier (Some n) o = Some n
earlier None o = o

-- a document, a line feed and a tail leave the domain where the document does, else where the tail does
pub outside-lf : (s t : List ℕ) → outside_of (s ++ 10 ∷ t) ≡ earlier (outside_of s) (later (length s + 1) (outside_of t))
outside-lf s t = ⊎_elim (λ w. before w.0 w.1) (λ w. behind w.0 w.1) (seam any 10 (omega arith) 0 0 s t (omega arith))
  where
    before : run any 0 0 s < 0 + length s → run any 0 0 (s ++ 10 ∷ t) ≡ run any 0 0 s → outside_of (s ++ 10 ∷ t) ≡ earlier (outside_of s) (later (length s + 1) (outside_of t))
    before l e =
        simp (outside-yes s (run any 0 0 s) refl (omega arith))
        (outside-yes (s ++ 10 ∷ t) (run any 0 0 s) e (omega (arith, length-append s (10 ∷ t))))

    behind : run any 0 0 s ≡ 0 + length s → run any 0 0 (s ++ 10 ∷ t) ≡ run any 0 (0 + length s) (10 ∷ t) → outside_of (s ++ 10 ∷ t) ≡ earlier (outside_of s) (later (length s + 1) (outside_of t))
    behind l e =
        let r : run any 0 0 (s ++ 10 ∷ t) ≡ 0 + length s + 1 + run any 0 0 t =
        e ∙ run-taken any (0 + length s) (10 ∷ t) 1 10 (low-char 10 (omega arith) t) refl ∙ run-from any (0 + length s + 1) t in
        simp (outside-no s (run any 0 0 s) refl (omega arith))
        (⊎_elim
        (λ (h : run any 0 0 t < length t).
        simp (outside-yes t (run any 0 0 t) refl h)
        (outside-yes (s ++ 10 ∷ t) (length s + 1 + run any 0 0 t) (r ∙ omega arith) (omega (arith, length-append s (10 ∷ t)))))
        (λ (h : length t ≤ run any 0 0 t).
        simp (outside-no t (run any 0 0 t) refl h)
        (outside-no (s ++ 10 ∷ t) (length s + 1 + run any 0 0 t) (r ∙ omega arith) (omega (arith, length-append s (10 ∷ t)))))
        (lt-or-le (run any 0 0 t) (length t)))
