-- The laws of names: which is anonymous, the bytes of a numbered one, and that two are the same where they are equal.
-- Assumes nothing.
use Rattle.std.proofs.Common.{ℕ, suc, ◌≡◌, ◌+◌, ◌*◌, ◌%◌, ◌/◌, ◌<◌, ◌≤◌, refl, sym, ap, subst, ◌∙◌, arith, Bool, true, false, ◌&&◌, eqb, ltb, List, [], ◌∷◌, ◌++◌, length, get_or, drop, set, zero-add}
use lib.Seq.{sets, sets-eq}
use borrow.Author.Tests.{eq-eqb, ne_eqb, eqb-true, lt-ltb, le-ltb}
use Rattle.iterator.specs.Collect.{digit, decimal, numbered, is_anonymous}
use Rattle.std.specs.List.{fold}
use Rattle.iterator.specs.Index.{bucket_from}
use Rattle.iterator.specs.Resolve.{same}

-- Anonymous names: one of a single byte is, if the byte is `_`
pub anonymous-one : (x : List ℕ) → length x ≡ 1 → get_or x 0 0 ≡ 0x5F → true ≡ is_anonymous x
unfolding is_anonymous
anonymous-one [] e f = absurd (omega arith)
anonymous-one (b ∷ []) e f = sym (eq-eqb b 0x5F f)
anonymous-one (b ∷ c ∷ x) e f = absurd (omega arith)

-- no other is
pub anonymous-other : (x : List ℕ) → (length x ≡ 1 → get_or x 0 0 ≡ 0x5F → ⊥) → false ≡ is_anonymous x
unfolding is_anonymous
anonymous-other [] h = refl
anonymous-other (b ∷ []) h = sym (ne_eqb b 0x5F (h refl))
anonymous-other (b ∷ c ∷ x) h = refl

-- Numbered names

-- the digits, by whether the number is below 10 and whether it is below 100
abbrev decimal_by : Bool → Bool → ℕ → List ℕ
decimal_by s t n =
    elim s [
      | true ↦ digit n ∷ []
      | false ↦ elim t [ true ↦ digit (n / 10) ∷ digit n ∷ [] | false ↦ digit (n / 100) ∷ digit (n / 10) ∷ digit n ∷ [] ]
    ]

decimal-one : (n : ℕ) → n < 10 → decimal n ≡ digit n ∷ []
unfolding decimal
decimal-one n h = ap (λ (t : Bool). decimal_by t (ltb n 100) n) (lt-ltb n 10 h)

decimal-two : (n : ℕ) → 10 ≤ n → n < 100 → decimal n ≡ digit (n / 10) ∷ digit n ∷ []
unfolding decimal
decimal-two n g h =
    ap (λ (t : Bool). decimal_by t (ltb n 100) n) (le-ltb n 10 g) ∙ ap (λ (t : Bool). decimal_by false t n) (lt-ltb n 100 h)

decimal-three : (n : ℕ) → 100 ≤ n → decimal n ≡ digit (n / 100) ∷ digit (n / 10) ∷ digit n ∷ []
unfolding decimal
decimal-three n g =
    ap (λ (t : Bool). decimal_by t (ltb n 100) n) (le-ltb n 10 (omega arith))
    ∙ ap (λ (t : Bool). decimal_by false t n) (le-ltb n 100 g)

-- a numbered name at the front of w, and how many bytes it is
abbrev pub Front : ℕ → List ℕ → List ℕ → ℕ → Type 0
Front n w w' k =
    record { written : w' ≡ numbered n ++ drop (length (numbered n)) w; size : k ≡ length (numbered n) }

front-digits :
    (n : ℕ) (w digits : List ℕ) → decimal n ≡ digits → suc (length digits) ≤ length w
    → Front n w (sets w 0 (0x5F ∷ digits)) (suc (length digits))
front-digits n w digits e h =
    let P : List ℕ → Type 0 = λ x.
    record {
      written : sets w 0 (0x5F ∷ digits) ≡ 0x5F ∷ (x ++ drop (suc (length x)) w);
      size : suc (length digits) ≡ suc (length x);
    } in
    subst P (sym e) (record { written = rw zero-add at (sets-eq (0x5F ∷ digits) w 0 (omega arith)); size = refl })

-- `_` and the digits, stored one after the other
module _ (n : ℕ) (w : List ℕ) (h : 4 ≤ length w) where
  pub front-one : (a : ℕ) → n < 10 → a ≡ digit n → Front n w (set (set w 0 0x5F) 1 a) 2
  front-one a g p = front-digits n w (a ∷ []) (rw p (decimal-one n g)) (omega arith)

  pub front-two :
      (a b : ℕ) → 10 ≤ n → n < 100 → a ≡ digit (n / 10) → b ≡ digit n → Front n w (set (set (set w 0 0x5F) 1 a) 2 b) 3
  front-two a b l g p q = front-digits n w (a ∷ b ∷ []) (rw (p, q) (decimal-two n l g)) (omega arith)

  pub front-three :
      (a b c : ℕ) → 100 ≤ n → a ≡ digit (n / 100) → b ≡ digit (n / 10) → c ≡ digit n
      → Front n w (set (set (set (set w 0 0x5F) 1 a) 2 b) 3 c) 4
  front-three a b c l p q r = front-digits n w (a ∷ b ∷ c ∷ []) (rw (p, q, r) (decimal-three n l)) (omega arith)

-- how many bytes they are
pub numbered-length : (n : ℕ) → (2 ≤ length (numbered n)) × (length (numbered n) ≤ 4)
unfolding decimal
numbered-length n = go (ltb n 10) (ltb n 100)
  where
    go : (s t : Bool) → (2 ≤ suc (length (decimal_by s t n))) × (suc (length (decimal_by s t n)) ≤ 4)
    go true t = (omega arith, omega arith)
    go false true = (omega arith, omega arith)
    go false false = (omega arith, omega arith)

-- Names are the same if they are equal
pub same_refl : (x : List ℕ) → same x x ≡ true
unfolding same
same_refl [] = refl
same_refl (b ∷ x) = rw (eq-eqb b b refl) (same_refl x)

pub same-equal : (x y : List ℕ) → same x y ≡ true → x ≡ y
unfolding same
same-equal [] [] e = refl
same-equal [] (c ∷ y) e = cc
same-equal (b ∷ x) [] e = cc
same-equal (b ∷ x) (c ∷ y) e = go (eqb b c) refl e (same-equal x y)
  where
    go : (t : Bool) → eqb b c ≡ t → (t && same x y) ≡ true → (same x y ≡ true → x ≡ y) → b ∷ x ≡ c ∷ y
    go true f g ih = rw (eqb-true b c f, ih g)
    go false f g ih = cc

-- and else they are not
pub same-other : (x y : List ℕ) → (x ≡ y → ⊥) → same x y ≡ false
same-other x y h = go (same x y) refl
  where
    go : (t : Bool) → same x y ≡ t → same x y ≡ false
    go true e = absurd (h (same-equal x y e))
    go false e = e

-- The bucket of a name, by a fold that wraps after each step
pub bucket-fold : (x : List ℕ) (h : ℕ) → fold (λ h b. (h * 9 % 256 + b) % 256) h x ≡ bucket_from h x
unfolding bucket_from
bucket-fold [] h = refl
bucket-fold (b ∷ x) h =
    let e : (h * 9 % 256 + b) % 256 ≡ (h * 9 + b) % 256 = omega arith in
    bucket-fold x ((h * 9 % 256 + b) % 256) ∙ ap (λ k. bucket_from k x) e
