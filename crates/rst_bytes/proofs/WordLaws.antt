-- A table of ranges that passes `apart`: its ends rise, and the first range that does not end below a number tells whether the number is in
-- one; bytes below 80 in a word; and words before a line feed.
-- Assumes nothing.
use Prim.Native.Nat.{ℕ, zero, suc, ◌≤◌, ◌<◌}
use native.Mathlib.Omega.{arith}
use mathlib.Core.Path.{◌≡◌, refl, sym, ◌∙◌}
use mathlib.Core.List.{List, [], ◌∷◌, ◌++◌}
use mathlib.Core.Bool.{Bool, true, false, ◌&&◌, or-false, and-false}
use lib.Dec.{T, leb, ltb, leb→le, ltb→lt}
use lib.ListN.{length, get_or}
use borrow.Author.Tests.{le-leb, lt-leb, ne_eqb, leb-false, ltb-true, ltb-false}
use Rattle.std.proofs.Common.{Option, Some, None}
use Rattle.std.specs.List.{slice_get}
use Rattle.std.specs.List.Sorted.{IsNonDecreasingBy, IsPartitionPoint}
use Rattle.rst_bytes.specs.Word.{in_ranges, word_ranges, is_ascii_word, is_word, word_of}
use Rattle.rst_bytes.specs.Inner.{apart}
use Rattle.rst_bytes.proofs.DomainLaws.{run-within, run-low}

and_left : (a b : Bool) → T (a && b) → T a
and_left true b t = tt
and_left false b t = t

and_right : (a b : Bool) → T (a && b) → T b
and_right true b t = t
and_right false b t = absurd t

-- What the test says of the first range, of the one behind it, and of those behind the first.
ordered : (r : ℕ × ℕ) (t : List (ℕ × ℕ)) → T (apart (r ∷ t)) → r.0 ≤ r.1
unfolding apart
ordered r [] u = leb→le r.0 r.1 u
ordered r (q ∷ t) u = leb→le r.0 r.1 (and_left (leb r.0 r.1) _ u)

next-above : (r q : ℕ × ℕ) (t : List (ℕ × ℕ)) → T (apart (r ∷ q ∷ t)) → r.1 < q.0
unfolding apart
next-above r q t u = ltb→lt r.1 q.0 (and_left (ltb r.1 q.0) _ (and_right (leb r.0 r.1) _ u))

behind : (r : ℕ × ℕ) (t : List (ℕ × ℕ)) → T (apart (r ∷ t)) → T (apart t)
unfolding apart
behind r [] u = tt
behind r (q ∷ t) u = and_right (ltb r.1 q.0) (apart (q ∷ t)) (and_right (leb r.0 r.1) _ u)

-- so the ends rise
pub ends-rise : (t : List (ℕ × ℕ)) → T (apart t) → IsNonDecreasingBy (λ r. r.1) t
ends-rise [] u i j d le h = absurd (omega arith)
ends-rise (r ∷ t) u zero zero d le h = omega arith
ends-rise (r ∷ t) u (suc i) zero d le h = absurd (omega arith)
ends-rise (r ∷ t) u (suc i) (suc j) d le h = ends-rise t (behind r t u) i j d (omega arith) (omega arith)
ends-rise (r ∷ []) u zero (suc j) d le h = absurd (omega arith)
ends-rise (r ∷ q ∷ t) u zero (suc j) d le h =
    omega (arith, next-above r q t u, ordered q t (behind r (q ∷ t) u), ends-rise (q ∷ t) (behind r (q ∷ t) u) 0 j d (omega arith) (omega arith))

-- what is below the first range is in none
below : (c : ℕ) (t : List (ℕ × ℕ)) → T (apart t) → c < (get_or t 0 (0, 0)).0 → in_ranges c t ≡ false
unfolding in_ranges
below c [] u h = refl
below c (r ∷ []) u h = simp (lt-leb r.0 c h)
below c (r ∷ q ∷ t) u h =
    simp (lt-leb r.0 c h) (below c (q ∷ t) (behind r (q ∷ t) u) (omega (arith, ordered r (q ∷ t) u, next-above r q t u)))

-- whether there is such a range, and it begins at or below c
abbrev pub begins_by : ℕ → Option (ℕ × ℕ) → Bool
begins_by c (Some r) = leb r.0 c
begins_by c None = false

-- only the first range that does not end below c can have it, and has it unless it begins above
pub in_first : (c : ℕ) (t : List (ℕ × ℕ)) → T (apart t) → (k : ℕ) → IsPartitionPoint (λ r. ltb r.1 c ≡ true) (λ r. ltb r.1 c ≡ false) t k → in_ranges c t ≡ begins_by c (slice_get t k)
unfolding in_ranges
in_first c [] u k p = refl
in_first c (r ∷ t) u zero p = go (leb r.0 c) refl
  where
    high : leb c r.1 ≡ true
    high = le-leb c r.1 (ltb-false r.1 c (p.1 0 (0, 0) (omega arith) (omega arith)))

    go : (x : Bool) → leb r.0 c ≡ x → in_ranges c (r ∷ t) ≡ leb r.0 c
    go true e = simp (e, high)
    go false e = below c (r ∷ t) u (leb-false r.0 c e) ∙ sym e
in_first c (r ∷ t) u (suc k) p =
    simp (lt-leb c r.1 (ltb-true r.1 c (p.0 0 (0, 0) (omega arith) (omega arith))), and-false)
    (in_first c t (behind r t u) k ((λ i e l h. p.0 (suc i) e (omega arith) (omega arith)), (λ i e l h. p.1 (suc i) e (omega arith) (omega arith))))

-- below 80 only the ASCII part counts, and from 80 on only the ranges
pub word_low : (c : ℕ) → c < 0x80 → is_word c ≡ is_ascii_word c
unfolding is_word apart word_ranges
word_low c h = simp (below c word_ranges tt (omega arith), or-false)

pub word-high : (c : ℕ) → 0x80 ≤ c → is_word c ≡ in_ranges c word_ranges
unfolding is_word is_ascii_word
word-high c h = simp (lt-leb c 0x39 (omega arith), lt-leb c 0x5A (omega arith), lt-leb c 0x7A (omega arith), ne_eqb c 0x2D (λ e. omega arith), ne_eqb c 0x5F (λ e. omega arith), and-false)

-- a word is within what there is
pub word-within : (s : List ℕ) → word_of s ≤ length s
unfolding word_of
word-within s = run-within is_word s

-- a byte below 80 that is no word character ends a word
pub word-ended : (c : ℕ) → c < 0x80 → is_ascii_word c ≡ false → (s t : List ℕ) → word_of (s ++ c ∷ t) ≡ word_of s
unfolding word_of
word-ended c l e s t = run-low is_word c l (word_low c l ∙ e) s t

pub word-lf : (s t : List ℕ) → word_of (s ++ 10 ∷ t) ≡ word_of s
unfolding is_ascii_word
word-lf s t = word-ended 10 (omega arith) refl s t
