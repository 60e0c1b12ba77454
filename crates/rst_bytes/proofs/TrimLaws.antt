-- The laws of `trim_of`: a front after which only blank characters stand, and at whose end no blank character ends, is the trimmed
-- text. For if only blank characters stood from an earlier place on, one of them would end there, or go past it; and no character
-- goes past a place where another starts.
-- Assumes nothing.
use Rattle.std.proofs.Common.{Option, Some, None}
use Prim.Native.Nat.{ℕ, zero, suc, ◌+◌, ◌-◌, ◌<◌, ◌≤◌}
use native.Mathlib.Omega.{arith}
use mathlib.Core.Path.{◌≡◌, refl, sym, ap, subst, subst⁻¹, ◌∙◌}
use mathlib.Core.Logic.{◌⊎◌, inl, inr, ⊎_elim}
use mathlib.Core.List.{List, [], ◌∷◌, ◌++◌, append_assoc}
use mathlib.Core.Bool.{Bool, true, false, false≢true, and-eq-true_iff}
use lib.ListN.{length, get_or, get_or-eq_default, drop, take, length-drop}
use lib.Dec.{leb}
use lib.Seq.{drop-drop, take-suc, length-take-le, get_or-take, get_or-drop}
use Rattle.rst_bytes.proofs.Lists.{drop-two}
use Rattle.rst_bytes.proofs.TestLaws.{lt-or-le, or_cases}
use borrow.Author.Tests.{eqb-true, eq-eqb, leb-true}
use Rattle.std.proofs.Common.{le-leb}
use Rattle.std.proofs.lemmas.List.{take-take}
use Rattle.rst_bytes.specs.Domain.{char_of, is_pair, run}
use Rattle.rst_bytes.specs.Trim.{is_blank, blank_of, blanks, trim_of}
use Rattle.rst_bytes.proofs.DomainLaws.{One, Two, at_one, pair-bounds, clash, char-cases, char-within, inside-at, run-taken, run-ended, run_none, run-from}

-- a blank character of n bytes stands at the front
record Blank (s : List ℕ) (n : ℕ) : Type 0 where
  point : ℕ
  char : char_of s ≡ Some (n, point)
  blank : is_blank point ≡ true

pub blank-yes : (s : List ℕ) (n p : ℕ) → char_of s ≡ Some (n, p) → is_blank p ≡ true → blank_of s ≡ n
unfolding blank_of
blank-yes s n p e u = simp (e, u, blank_of)

pub blank-no : (s : List ℕ) (n p : ℕ) → char_of s ≡ Some (n, p) → is_blank p ≡ false → blank_of s ≡ 0
unfolding blank_of
blank-no s n p e u = simp (e, u, blank_of)

pub blank_none : (s : List ℕ) → char_of s ≡ None → blank_of s ≡ 0
unfolding blank_of
blank_none s e = simp (e, blank_of)

-- a length that is not 0 is that of a blank character
blank-is : (s : List ℕ) (n : ℕ) → blank_of s ≡ n → 0 < n → Blank s n
blank-is s n e h = go (char_of s) refl
  where
    taken : (len p : ℕ) → char_of s ≡ Some (len, p) → (u : Bool) → is_blank p ≡ u → Blank s n
    taken len p q false u = absurd (omega (arith, blank-no s len p q u, e))
    taken len p q true u =
        let l : len ≡ n = sym (blank-yes s len p q u) ∙ e in
        record { point = p; char = q ∙ ap (λ (i : ℕ). Some (i, p)) l; blank = u }

    go : (x : Option (ℕ × ℕ)) → char_of s ≡ x → Blank s n
    go None q = absurd (omega (arith, blank_none s q, e))
    go (Some (len, p)) q = taken len p q (is_blank p) refl

all-blank : (s : List ℕ) → blanks s ≡ true → run is_blank 0 0 s ≡ length s
unfolding blanks
all-blank s e = eqb-true (run is_blank 0 0 s) (length s) e

blanks-is : (s : List ℕ) → run is_blank 0 0 s ≡ length s → blanks s ≡ true
unfolding blanks
blanks-is s e = eq-eqb (run is_blank 0 0 s) (length s) e

pub blanks-none : blanks [] ≡ true
unfolding blanks run
blanks-none = refl

-- blank characters after a blank character
blanks-more : (s : List ℕ) (n : ℕ) → Blank s n → blanks (drop n s) ≡ true → blanks s ≡ true
blanks-more s n w e =
    let r : run is_blank 0 0 s ≡ 0 + n + run is_blank 0 0 (drop n s) = run-taken is_blank 0 s n w.point w.char w.blank ∙ run-from is_blank (0 + n) (drop n s) in
    blanks-is s (omega (arith, r, all-blank (drop n s) e, length-drop n s, char-within s n w.point w.char))

-- the same at a position
pub blanks-back : (s : List ℕ) (i k n : ℕ) → i + k ≡ n → 0 < k → blank_of (drop i s) ≡ k → blanks (drop n s) ≡ true → blanks (drop i s) ≡ true
blanks-back s i k n e h b r =
    blanks-more (drop i s) k (blank-is (drop i s) k b h) (ap blanks (drop-drop k i s ∙ ap (λ (j : ℕ). drop j s) e) ∙ r)

-- blank characters, if any, are one and blank characters after it
record First (s : List ℕ) : Type 0 where
  len : ℕ
  blank : Blank s len
  rest : blanks (drop len s) ≡ true

blanks-first : (s : List ℕ) → blanks s ≡ true → 0 < length s → First s
blanks-first s e h = go (char_of s) refl
  where
    all : run is_blank 0 0 s ≡ length s
    all = all-blank s e

    taken : (len p : ℕ) → char_of s ≡ Some (len, p) → (u : Bool) → is_blank p ≡ u → First s
    taken len p q false u = absurd (omega (arith, all, run-ended is_blank 0 s len p q u))
    taken len p q true u =
        let r : run is_blank 0 0 s ≡ 0 + len + run is_blank 0 0 (drop len s) = run-taken is_blank 0 s len p q u ∙ run-from is_blank (0 + len) (drop len s) in
        record {
          len = len;
          blank = record { point = p; char = q; blank = u };
          rest = blanks-is (drop len s) (omega (arith, r, all, length-drop len s));
        }

    go : (x : Option (ℕ × ℕ)) → char_of s ≡ x → First s
    go None q = absurd (omega (arith, all, run_none is_blank 0 s q))
    go (Some (len, p)) q = taken len p q (is_blank p) refl

-- the shortest front is the one that no shorter one undercuts
trim-is : (s : List ℕ) (n : ℕ) → n ≤ length s → blanks (drop n s) ≡ true → ((k : ℕ) → k < n → blanks (drop k s) ≡ false) → trim_of s ≡ n
unfolding trim_of
trim-is [] n h e f = omega arith
trim-is (b ∷ s) zero h e f = simp (e, trim_of)
trim-is (b ∷ s) (suc n) h e f =
    let z : blanks (b ∷ s) ≡ false = f 0 (omega arith) in
    simp (z, trim_of) (ap suc (trim-is s n (omega arith) e (λ k l. f (suc k) (omega arith))))

-- Only blank characters stand from n on, and no blank character ends at n.
pub record Ends (s : List ℕ) (n : ℕ) : Type 0 where
  pub within : n ≤ length s
  pub after : blanks (drop n s) ≡ true
  pub no_one : 0 < n → blank_of (drop (n - 1) s) ≡ 1 → ⊥
  pub no-two : 1 < n → blank_of (drop (n - 2) s) ≡ 2 → ⊥

module _ (s : List ℕ) (n : ℕ) (w : Ends s n) where
  -- a blank character before n ends before n, where the claim for later places holds, or at n, or goes past it: no character
  -- then starts at n, but a blank one does
  meets : (k len : ℕ) → k < n → Blank (drop k s) len → (k + len < n → ⊥) → ⊥
  meets k len h b ih =
      ⊎_elim ih (λ (le : n ≤ k + len). ⊎_elim (λ (lt : n < k + len). past lt) (λ (ge : k + len ≤ n). ends (omega arith)) (lt-or-le n (k + len))) (lt-or-le (k + len) n)
    where
      size : (len ≡ 1) ⊎ (len ≡ 2)
      size = ⊎_elim (λ (o : One (drop k s) len b.point). inl o.len) (λ (o : Two (drop k s) len b.point). inr o.len) (char-cases (drop k s) len b.point b.char)

      is : blank_of (drop k s) ≡ len
      is = blank-yes (drop k s) len b.point b.char b.blank

      ends : k + len ≡ n → ⊥
      ends e =
          ⊎_elim
          (λ (o : len ≡ 1).
          let i : k ≡ n - 1 = omega arith in
          w.no_one (omega arith) (rw i at is ∙ o))
          (λ (o : len ≡ 2).
          let i : k ≡ n - 2 = omega arith in
          w.no-two (omega arith) (rw i at is ∙ o))
          size

      past : n < k + len → ⊥
      past lt =
          let l = char-within (drop k s) len b.point b.char in
          let a : 0 < length (drop n s) = omega (arith, length-drop n s, length-drop k s, w.within) in
          let f = blanks-first (drop n s) w.after a in
          let none = inside-at s k len b.point n b.char (omega arith) lt in
          clash (drop n s) f.len f.blank.point none f.blank.char

  none_before : (d k : ℕ) → n ≤ k + d → k < n → blanks (drop k s) ≡ true → ⊥
  none_before zero k e h t = absurd (omega arith)
  none_before (suc d) k e h t =
      let f = blanks-first (drop k s) t (omega (arith, length-drop k s, w.within)) in
      let l = char-within (drop k s) f.len f.blank.point f.blank.char in
      meets k f.len h f.blank
      (λ lt. none_before d (k + f.len) (omega arith) lt (ap blanks (sym (drop-drop f.len k s)) ∙ f.rest))

  pub ends-trim : trim_of s ≡ n
  ends-trim = trim-is s n w.within w.after (λ k l. not-blank k l (blanks (drop k s)) refl)
    where
      not-blank : (k : ℕ) → k < n → (x : Bool) → blanks (drop k s) ≡ x → blanks (drop k s) ≡ false
      not-blank k l false e = e
      not-blank k l true e = absurd (none_before n k (omega arith) l e)

-- From the end: only blank characters stand behind x, a front part of s.
pub record Trimmed (s x : List ℕ) : Type 0 where
  pub within : length x ≤ length s
  pub front : x ≡ take (length x) s
  pub after : blanks (drop (length x) s) ≡ true

-- a code point below 80 that is blank, and one that is blank
low-blank : (p : ℕ) → ((9 ≤ p) × (p ≤ 13)) ⊎ (p ≡ 32) → is_blank p ≡ true
unfolding is_blank
low-blank p (inl w) = simp (le-leb 9 p w.0, le-leb p 13 w.1)
low-blank p (inr e) = rw e refl

blank-cases : (p : ℕ) → is_blank p ≡ true → (((9 ≤ p) × (p ≤ 13)) ⊎ (p ≡ 32)) ⊎ ((p ≡ 0x85) ⊎ (p ≡ 0xA0))
unfolding is_blank
blank-cases p e =
    ⊎_elim
    (λ f. ⊎_elim
    (λ g. ⊎_elim
    (λ h. let w = (and-eq-true_iff (leb 9 p) (leb p 13)).0 h in inl (inl (leb-true 9 p w.0, leb-true p 13 w.1)))
    (λ h. inl (inr (eqb-true p 32 h)))
    (or_cases _ _ g))
    (λ g. inr (inl (eqb-true p 0x85 g)))
    (or_cases _ _ f))
    (λ f. inr (inr (eqb-true p 0xA0 f)))
    (or_cases _ _ e)

-- U+0085 and 00A0
blank-two : (c : ℕ) (l : List ℕ) → (c ≡ 0x85) ⊎ (c ≡ 0xA0) → blank_of (0xC2 ∷ c ∷ l) ≡ 2
unfolding blank_of char_of is_pair is_blank
blank-two c l (inl e) = rw e refl
blank-two c l (inr e) = rw e refl

module _ (s x : List ℕ) (w : Trimmed s x) where
  front-byte : (i : ℕ) → i < length x → get_or s i 0 ≡ get_or x i 0
  front-byte i h = sym (ap (λ (l : List ℕ). get_or l i 0) w.front ∙ get_or-take (length x) s i 0 h)

  -- without k bytes that are a blank character
  without : (k : ℕ) → 0 < k → k ≤ length x → blank_of (drop (length x - k) s) ≡ k → Trimmed s (take (length x - k) x)
  without k z h b =
      let m : length (take (length x - k) x) ≡ length x - k = length-take-le (length x - k) x (omega arith) in
      record {
        within = omega (arith, w.within, m);
        front = ap (take (length x - k)) w.front ∙ take-take (length x - k) (length x) s (omega arith) ∙ ap (λ (i : ℕ). take i s) (sym m);
        after = ap (λ (i : ℕ). blanks (drop i s)) m ∙ blanks-back s (length x - k) k (length x) (omega arith) z b w.after;
      }

  pub without-one :
      ((9 ≤ get_or x (length x - 1) 0) × (get_or x (length x - 1) 0 ≤ 13)) ⊎ (get_or x (length x - 1) 0 ≡ 32)
      → Trimmed s (take (length x - 1) x)
  without-one d =
      let h : 0 < length x =
      ⊎_elim
      (λ l. l)
      (λ l.
      let z : get_or x (length x - 1) 0 ≡ 0 = get_or-eq_default x 0 (omega (arith, l)) in
      ⊎_elim (λ v. omega (arith, v.0, z)) (λ v. omega (arith, v, z)) d)
      (lt-or-le 0 (length x)) in
      let e = front-byte (length x - 1) (omega arith) in
      let low : get_or x (length x - 1) 0 < 0x80 = ⊎_elim (λ v. omega (arith, v.1)) (λ v. omega arith) d in
      without 1 (omega arith) (omega arith)
      (blank-yes (drop (length x - 1) s) 1 (get_or s (length x - 1) 0) (at_one s (length x - 1) (omega (arith, w.within)) (omega (arith, e, low))) (ap is_blank e ∙ low-blank _ d))

  pub without-two :
      1 < length x → get_or x (length x - 2) 0 ≡ 0xC2 → (get_or x (length x - 1) 0 ≡ 0x85) ⊎ (get_or x (length x - 1) 0 ≡ 0xA0)
      → Trimmed s (take (length x - 2) x)
  without-two h b d =
      let i : length x - 2 + 1 ≡ length x - 1 = omega arith in
      let two = drop-two s (length x - 2) (omega (arith, w.within)) in
      let first = front-byte (length x - 2) (omega arith) ∙ b in
      let second = ap (λ (j : ℕ). get_or s j 0) i ∙ front-byte (length x - 1) (omega arith) in
      without 2 (omega arith) (omega arith)
      (ap blank_of (two ∙ ap (λ (c : ℕ). c ∷ get_or s (length x - 2 + 1) 0 ∷ drop (length x - 2 + 2) s) first)
      ∙ blank-two _ _ (subst⁻¹ (λ (c : ℕ). (c ≡ 0x85) ⊎ (c ≡ 0xA0)) second d))

  -- where neither is left
  pub trimmed-whole :
      (0 < length x → ((9 ≤ get_or x (length x - 1) 0) × (get_or x (length x - 1) 0 ≤ 13)) ⊎ (get_or x (length x - 1) 0 ≡ 32) → ⊥)
      → (1 < length x → get_or x (length x - 2) 0 ≡ 0xC2 → (get_or x (length x - 1) 0 ≡ 0x85) ⊎ (get_or x (length x - 1) 0 ≡ 0xA0) → ⊥)
      → x ≡ take (trim_of s) s
  trimmed-whole one two = w.front ∙ ap (λ (n : ℕ). take n s) (sym (ends-trim s (length x) (record { within = w.within; after = w.after; no_one = no-one; no-two = no_two })))
    where
      no-one : 0 < length x → blank_of (drop (length x - 1) s) ≡ 1 → ⊥
      no-one h e =
          let b = blank-is (drop (length x - 1) s) 1 e (omega arith) in
          let g = get_or-drop (length x - 1) s 0 0 in
          let f = front-byte (length x - 1) (omega arith) in
          ⊎_elim
          (λ (o : One (drop (length x - 1) s) 1 b.point).
          let i : length x - 1 + 0 ≡ length x - 1 = omega arith in
          let p : b.point ≡ get_or x (length x - 1) 0 = o.point ∙ g ∙ ap (λ (j : ℕ). get_or s j 0) i ∙ f in
          ⊎_elim (λ v. one h (subst (λ (c : ℕ). ((9 ≤ c) × (c ≤ 13)) ⊎ (c ≡ 32)) p v)) (λ v. ⊎_elim (λ u. omega (arith, o.low, o.point, u)) (λ u. omega (arith, o.low, o.point, u)) v) (blank-cases b.point b.blank))
          (λ (o : Two (drop (length x - 1) s) 1 b.point). absurd (omega (arith, o.len)))
          (char-cases (drop (length x - 1) s) 1 b.point b.char)

      no_two : 1 < length x → blank_of (drop (length x - 2) s) ≡ 2 → ⊥
      no_two h e =
          let b = blank-is (drop (length x - 2) s) 2 e (omega arith) in
          let i : length x - 2 + 0 ≡ length x - 2 = omega arith in
          let j : length x - 2 + 1 ≡ length x - 1 = omega arith in
          let f = get_or-drop (length x - 2) s 0 0 ∙ ap (λ (m : ℕ). get_or s m 0) i ∙ front-byte (length x - 2) (omega arith) in
          let g = get_or-drop (length x - 2) s 1 0 ∙ ap (λ (m : ℕ). get_or s m 0) j ∙ front-byte (length x - 1) (omega arith) in
          ⊎_elim
          (λ (o : One (drop (length x - 2) s) 2 b.point). absurd (omega (arith, o.len)))
          (λ (o : Two (drop (length x - 2) s) 2 b.point).
          let k = pair-bounds _ _ o.pair in
          ⊎_elim
          (λ v. absurd (⊎_elim (λ u. omega (arith, k.first-low, k.second-low, o.point, u.1)) (λ u. omega (arith, k.first-low, k.second-low, o.point, u)) v))
          (λ v. ⊎_elim
          (λ u. two h (omega (arith, k.first-low, k.second-low, k.second-high, o.point, u, f)) (inl (omega (arith, k.first-low, k.second-low, k.second-high, o.point, u, g))))
          (λ u. two h (omega (arith, k.first-low, k.second-low, k.second-high, o.point, u, f)) (inr (omega (arith, k.first-low, k.second-low, k.second-high, o.point, u, g))))
          v)
          (blank-cases b.point b.blank))
          (char-cases (drop (length x - 2) s) 2 b.point b.char)

-- for the goals that nothing more is blank
pub ruleset whole = (trimmed-whole)

-- the trimmed text is within what there is
pub trim-within : (s : List ℕ) → trim_of s ≤ length s
unfolding trim_of
trim-within [] = omega arith
trim-within (b ∷ s) = go (blanks (b ∷ s)) refl (trim-within s)
  where
    go : (x : Bool) → blanks (b ∷ s) ≡ x → trim_of s ≤ length s → trim_of (b ∷ s) ≤ suc (length s)
    go true e h = simp (e, trim_of) (omega arith)
    go false e h = simp (e, trim_of) (omega arith)

-- A text with a backtick: it is no blank character, nor the second byte of one.

-- blank characters are a byte and blank characters, or two bytes of one character and blank characters
blanks-next : (b : ℕ) (s : List ℕ) → blanks (b ∷ s) ≡ true → ((is_blank b ≡ true) × (blanks s ≡ true)) ⊎ ((is_pair b (get_or s 0 0) ≡ true) × (blanks (drop 1 s) ≡ true))
blanks-next b s e =
    let f = blanks-first (b ∷ s) e (omega arith) in
    ⊎_elim
    (λ (o : One (b ∷ s) f.len f.blank.point). inl (ap is_blank (sym o.point) ∙ f.blank.blank, ap (λ (n : ℕ). blanks (drop n (b ∷ s))) (sym o.len) ∙ f.rest))
    (λ (o : Two (b ∷ s) f.len f.blank.point). inr (o.pair, ap (λ (n : ℕ). blanks (drop n (b ∷ s))) (sym o.len) ∙ f.rest))
    (char-cases (b ∷ s) f.len f.blank.point f.blank.char)

backtick-unblank : is_blank 0x60 ≡ false
unfolding is_blank
backtick-unblank = refl

blanks-backtick : (a b : List ℕ) → blanks (a ++ 0x60 ∷ b) ≡ true → ⊥
blanks-backtick [] b e =
    ⊎_elim
    (λ w. false≢true (sym backtick-unblank ∙ w.0))
    (λ w. absurd (omega (arith, (pair-bounds _ _ w.0).first-low)))
    (blanks-next 0x60 b e)
blanks-backtick (x ∷ []) b e =
    ⊎_elim
    (λ w. blanks-backtick [] b w.1)
    (λ w. absurd (omega (arith, (pair-bounds _ _ w.0).second-low)))
    (blanks-next x (0x60 ∷ b) e)
blanks-backtick (x ∷ y ∷ a) b e =
    ⊎_elim (λ w. blanks-backtick (y ∷ a) b w.1) (λ w. blanks-backtick a b w.1) (blanks-next x (y ∷ a ++ 0x60 ∷ b) e)

-- a byte from which on not only blank characters stand
trim-next : (b : ℕ) (s : List ℕ) → (blanks (b ∷ s) ≡ true → ⊥) → trim_of (b ∷ s) ≡ suc (trim_of s)
unfolding trim_of
trim-next b s h = go (blanks (b ∷ s)) refl
  where
    go : (x : Bool) → blanks (b ∷ s) ≡ x → trim_of (b ∷ s) ≡ suc (trim_of s)
    go true e = absurd (h e)
    go false e = simp (e, trim_of)

trim-backtick : (a b : List ℕ) → trim_of (a ++ 0x60 ∷ b) ≡ length a + suc (trim_of b)
trim-backtick [] b = omega (arith, trim-next 0x60 b (blanks-backtick [] b))
trim-backtick (x ∷ a) b = omega (arith, trim-next x (a ++ 0x60 ∷ b) (blanks-backtick (x ∷ a) b), trim-backtick a b)

-- behind a backtick at place k of l, t is trimmed as if it stood alone
pub trim-behind : (l t : List ℕ) (k : ℕ) → k < length l → get_or l k 0 ≡ 0x60 → trim_of (take (suc k) l ++ t) ≡ suc k + trim_of t
trim-behind l t k h e =
    let a : take (suc k) l ++ t ≡ take k l ++ 0x60 ∷ t = ap (λ (x : List ℕ). x ++ t) (take-suc l k 0 h ∙ ap (λ (b : ℕ). take k l ++ (b ∷ [])) e) ∙ append_assoc (take k l) (0x60 ∷ []) t in
    omega (arith, ap trim_of a, trim-backtick (take k l) t, length-take-le k l (omega arith))
