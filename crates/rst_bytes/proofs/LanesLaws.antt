-- The laws of `specs/Lanes.antt`: one bit of what is made of numbers; which lanes vectors say pass a test; and how many bytes of a vector
-- are taken, by the bits of those that a backslash takes along.
-- Assumes nothing.
use Rattle.std.proofs.Common.{◌≡◌, ℕ, zero, suc, ◌+◌, ◌-◌, ◌*◌, ◌/◌, ◌%◌, ◌^◌, ◌<◌, ◌≤◌, min, max, Bool, true, false, not, ◌&&◌, ◌||◌, eqb, cond, List, [], ◌∷◌, get_or, length, take, Some, refl, sym, ap, ap₂, ◌∙◌, subst, arith, w64, bit_and, bit_or, ⊎_elim, true≢false}
use mathlib.Core.Bool.{and-false, and-eq-true_iff}
use lib.Seq.{length-take-le}
use Rattle.std.proofs.lemmas.List.{get_or-take, get_or-map}
use Rattle.std.specs.Int.{bit_at}
use Rattle.std.proofs.lemmas.Nat.{le_or_r, or_lt, one_shl}
use Rattle.std.proofs.lemmas.Nat.Bits.{bit_at_and, bit_at_or, bit_at_not, bit_at-trailing_zeros, bit_at_set_same, bit_at_set_other, shr_and_one, bit_at_cat_low, bit_at_cat_high, bit_at-zero}
use Rattle.std.proofs.lemmas.Bool.{cases_lt}
use Rattle.std.proofs.Common.{pow_pos}
use lib.Count.{count_trailing_zeros}
use Rattle.std.proofs.lemmas.Simd.{bit_mask_l, zip2_splat, zip2_of_maps, map-map, Each1-get_or}
use lib.Lanes.{mask_l, zip2, top, Each1}
use Rattle.std.proofs.Common.{replicate, map, Fits, w8}
use mathlib.Core.Bool.{beq}
use native.Mathlib.Nat.{mod-lt, zero-lt-suc, le_of_suc-le-suc, not-suc-le-zero, add-zero}
use Rattle.rst_bytes.specs.Lanes.{test, Marks}
use Rattle.rst_bytes.specs.Escaped.{is_escapable, is_stop, taking}
use Rattle.rst_bytes.proofs.EscapedLaws.{plain, slash, pair}

-- one bit is 0 or 1
bit_cases : (P : ℕ → Type 0) → P 0 → P 1 → (x : ℕ) → x < 2 → P x
bit_cases P p q zero h = p
bit_cases P p q (suc zero) h = q
bit_cases P p q (suc (suc r)) h = absurd (not-suc-le-zero (le_of_suc-le-suc (le_of_suc-le-suc h)))

bit_lt : (n i : ℕ) → bit_at n i < 2
bit_lt n i = mod-lt (n / 2 ^ i) (zero-lt-suc 1)

two_bits : (P : ℕ → ℕ → Type 0) → P 0 0 → P 0 1 → P 1 0 → P 1 1 → (a b i : ℕ) → P (bit_at a i) (bit_at b i)
two_bits P p q r s a b i =
    bit_cases (λ x. P x (bit_at b i)) (bit_cases (P 0) p q (bit_at b i) (bit_lt b i)) (bit_cases (P 1) r s (bit_at b i) (bit_lt b i)) (bit_at a i) (bit_lt a i)

pub test-and : (a b i : ℕ) → test (bit_and a b) i ≡ (test a i && test b i)
unfolding test
test-and a b i = ap (λ n. eqb n 1) (bit_at_and a b i) ∙ two_bits (λ x y. eqb (min x y) 1 ≡ (eqb x 1 && eqb y 1)) refl refl refl refl a b i

pub test-or : (a b i : ℕ) → test (bit_or a b) i ≡ (test a i || test b i)
unfolding test
test-or a b i = ap (λ n. eqb n 1) (bit_at_or a b i) ∙ two_bits (λ x y. eqb (max x y) 1 ≡ (eqb x 1 || eqb y 1)) refl refl refl refl a b i

pub test-not : (a i : ℕ) → a < 2 ^ 64 → i < 64 → test (2 ^ 64 - 1 - a) i ≡ not (test a i)
unfolding test
test-not a i ha hi = ap (λ n. eqb n 1) (bit_at_not w64 a i ha hi) ∙ bit_cases (λ x. eqb (1 - x) 1 ≡ not (eqb x 1)) refl refl (bit_at a i) (bit_lt a i)

pub test-mask_l : (ms : List Bool) (i : ℕ) → test (mask_l ms) i ≡ get_or ms i false
unfolding test
test-mask_l ms i = ap (λ x. eqb x 1) (bit_mask_l ms i) ∙ back (get_or ms i false)
  where
    back : (b : Bool) → eqb (cond b 1 0) 1 ≡ b
    back true = refl
    back false = refl

-- the lowest 64 bits
low-bits : (n i : ℕ) → i < 64 → bit_at (n % 2 ^ 64) i ≡ bit_at n i
low-bits n i h =
    let is : n / 2 ^ 64 * 2 ^ 64 + n % 2 ^ 64 ≡ n = omega arith in
    sym (bit_at_cat_low (n / 2 ^ 64) 64 (n % 2 ^ 64) i h) ∙ ap (λ x. bit_at x i) is

-- Vectors whose lanes are made of those of v: all ones where a lane holds b, and what joins two of them.
abbrev hit : ℕ → ℕ → ℕ
hit a b = cond (eqb a b) 255 0

module _ (v : List ℕ) where
  pub lanes-hit : (b : ℕ) → length v ≡ 16 → zip2 hit v (replicate 16 b) ≡ map (λ x. hit x b) v
  lanes-hit b long = zip2_splat hit v 16 b long

  pub or-lanes : (f g : ℕ → ℕ) {a b : List ℕ} → a ≡ map f v → b ≡ map g v → zip2 bit_or a b ≡ map (λ x. bit_or (f x) (g x)) v
  or-lanes f g e h = zip2_of_maps bit_or f g v e h

-- the bits of a vector's lanes, where its lanes are f of those of v: they tell which of these pass t, if f says so of each byte
abbrev says : (ℕ → ℕ) → (ℕ → Bool) → ℕ → Bool
says f t zero = true
says f t (suc n) = beq (top 7 (f n)) (t n) && says f t n

said : (f : ℕ → ℕ) (t : ℕ → Bool) (n : ℕ) → says f t n ≡ true → (x : ℕ) → x < n → top 7 (f x) ≡ t x
said f t zero h x l = absurd (omega arith)
said f t (suc n) h x l =
    let w = (and-eq-true_iff (beq (top 7 (f n)) (t n)) (says f t n)).0 h in
    ⊎_elim
    (λ (g : x < n). said f t n w.1 x g)
    (λ (g : n ≤ x).
    let z : n ≡ x = omega arith in
    subst (λ y. top 7 (f y) ≡ t y) z (same _ _ w.0))
    (cases_lt x n)
  where
    same : (a b : Bool) → beq a b ≡ true → a ≡ b
    same true true e = refl
    same true false e = sym e
    same false true e = e
    same false false e = refl

pub lanes-tell : (f : ℕ → ℕ) (t : ℕ → Bool) (v z : List ℕ) → (length v ≡ 16) × Each1 (Fits w8) v → z ≡ map f v → says f t 256 ≡ true → Marks t v (mask_l (map (top 7) z) % 2 ^ 64)
unfolding test
lanes-tell f t v z fits e all k h =
    let within : k < length v = omega (arith, fits.0) in
    ap (λ n. eqb n 1) (low-bits (mask_l (map (top 7) z)) k (omega arith))
    ∙ test-mask_l (map (top 7) z) k
    ∙ ap (λ l. get_or l k false) (ap (map (top 7)) e ∙ map-map (top 7) f v)
    ∙ get_or-map (λ x. top 7 (f x)) v k 0 false within
    ∙ said f t 256 all (get_or v k 0) (Each1-get_or (Fits w8) v k 0 within fits.1).fits

-- the lowest bit that is set beside bit n, which is n or below it
pub lowest-set :
    (m n : ℕ) → m < 2 ^ 64 → n < 64 → let k = count_trailing_zeros 64 (bit_or m (1 * 2 ^ n % 2 ^ 64)) in
    (k ≤ n) × ((j : ℕ) → j < k → test m j ≡ false) × (k < n → test m k ≡ true)
unfolding test
lowest-set m n l h =
    let both = bit_or m (1 * 2 ^ n % 2 ^ 64) in
    let at = bit_at_set_same w64 m n h in
    let off = bit_at_set_other w64 m n h in
    let some : 0 < both = omega (arith, pow_pos n, le_or_r m (1 * 2 ^ n % 2 ^ 64), one_shl n 64 h) in
    let z = bit_at-trailing_zeros w64 both some (or_lt 64 m (1 * 2 ^ n % 2 ^ 64) l (mod-lt (1 * 2 ^ n) (pow_pos 64))) in
    let k = count_trailing_zeros 64 both in
    let le : k ≤ n = ⊎_elim (λ (g : n < k). absurd (omega (arith, at, z.2 n g))) (λ g. g) (cases_lt n k) in (
      le,
      λ j g. ap (λ x. eqb x 1) (sym (off j (λ e. omega (arith, e, g, le))) ∙ z.2 j g),
      λ g. ap (λ x. eqb x 1) (sym (off k (λ e. omega (arith, e, g))) ∙ z.1),
    )

-- a bit below it
pub bit-before : (m k : ℕ) → test m 0 ≡ false → bit_and (m / 2 ^ k) 1 ≤ k
unfolding test
bit-before m zero e =
    let z : bit_at m 0 ≡ 0 = bit_cases (λ x. eqb x 1 ≡ false → x ≡ 0) (λ f. refl) (λ f. absurd (true≢false f)) (bit_at m 0) (bit_lt m 0) e in
    omega (arith, shr_and_one m 0, z)
bit-before m (suc k) e = omega (arith, shr_and_one m (suc k), bit_lt m (suc k))

-- and without it
pub bit-off : (m k : ℕ) → k - bit_and (m / 2 ^ k) 1 ≡ cond (test m k) (k - 1) k
unfolding test
bit-off m k = ap (λ x. k - x) (shr_and_one m k) ∙ bit_cases (λ x. k - x ≡ cond (eqb x 1) (k - 1) k) (omega arith) refl (bit_at m k) (bit_lt m k)

-- bits moved up by one place
test-up : (y i : ℕ) → suc i < 64 → test (y * 2 ^ 1 % 2 ^ 64) (suc i) ≡ test y i
unfolding test
test-up y i h =
    let is : y * 2 ^ 1 + 0 ≡ y * 2 ^ 1 = omega arith in
    let one : suc i - 1 ≡ i = omega arith in
    let up : bit_at (y * 2 ^ 1 + 0) (suc i) ≡ bit_at y i = bit_at_cat_high y 1 0 (suc i) (omega arith) (omega arith) ∙ ap (bit_at y) one in
    ap (λ x. eqb x 1) (low-bits (y * 2 ^ 1) (suc i) h ∙ ap (λ x. bit_at x (suc i)) (sym is) ∙ up)

test-up_first : (y : ℕ) → test (y * 2 ^ 1 % 2 ^ 64) 0 ≡ false
unfolding test
test-up_first y =
    let is : y * 2 ^ 1 + 0 ≡ y * 2 ^ 1 = omega arith in
    ap (λ x. eqb x 1) (low-bits (y * 2 ^ 1) 0 (omega arith) ∙ ap (λ x. bit_at x 0) (sym is) ∙ bit_at_cat_low y 1 0 0 (omega arith) ∙ bit_at-zero 0)

pub up_first : (m y : ℕ) → m ≡ y * 2 ^ 1 % 2 ^ 64 → test m 0 ≡ false
up_first m y is = ap (λ n. test n 0) is ∙ test-up_first y

-- Bytes that are taken, where x tells of each whether a backslash takes it along.
module _ (p q : ℕ) where
  -- the byte goes on being taken
  abbrev Goes : Bool → ℕ → Type 0
  Goes true b = is_escapable b ≡ true
  Goes false b = is_stop p q b ≡ false

  pub taken-by :
      (l : List ℕ) (x : ℕ → Bool) (n : ℕ) → ((k : ℕ) → k < length l → x (suc k) ≡ (eqb (get_or l k 0) 0x5C && not (x k)))
      → ((k : ℕ) → k < length l → Goes (x k) (get_or l k 0)) → x (length l) ≡ false → taking p q (x 0) n l ≡ Some (n + length l)
  unfolding taking
  taken-by [] x n next goes end = ap (λ e. taking p q e n []) end ∙ ap Some (sym (add-zero n))
  taken-by (b ∷ l) x n next goes end =
      go (x 0) refl (goes 0 (omega arith)) (eqb b 0x5C) refl
      (taken-by l (λ k. x (suc k)) (n + 1) (λ k h. next (suc k) (omega arith)) (λ k h. goes (suc k) (omega arith)) end ∙ ap Some (omega arith))
    where
      one : (e s : Bool) → x 0 ≡ e → eqb b 0x5C ≡ s → x 1 ≡ (s && not e)
      one e s f g = next 0 (omega arith) ∙ ap₂ (λ u v. u && not v) g f

      go : (e : Bool) → x 0 ≡ e → Goes e b → (s : Bool) → eqb b 0x5C ≡ s → taking p q (x 1) (n + 1) l ≡ Some (n + suc (length l)) → taking p q (x 0) n (b ∷ l) ≡ Some (n + suc (length l))
      go true f g s h later =
          let z : (s && not true) ≡ false = and-false s in
          ap (λ e. taking p q e n (b ∷ l)) f ∙ pair p q n b l g ∙ ap (λ e. taking p q e (n + 1) l) (sym (one true s f h ∙ z)) ∙ later
      go false f g true h later =
          ap (λ e. taking p q e n (b ∷ l)) f ∙ slash p q n b l h ∙ ap (λ e. taking p q e (n + 1) l) (sym (one false true f h)) ∙ later
      go false f g false h later =
          ap (λ e. taking p q e n (b ∷ l)) f ∙ plain p q n b l h g ∙ ap (λ e. taking p q e (n + 1) l) (sym (one false false f h)) ∙ later

-- How many bytes of a vector are taken, by its bits: those of backslashes, of p and q, of what a backslash takes along, and of the bytes
-- that are taken along, each behind a backslash that is not one of them.
module _ (p q : ℕ) (v : List ℕ) (slashes ends pairs along : ℕ) where
  -- where taking may end
  abbrev pub bad : ℕ
  bad = bit_or (bit_and ends (2 ^ 64 - 1 - along)) (bit_and along (2 ^ 64 - 1 - pairs))

  module _ (long : length v ≡ 16) (small : along < 2 ^ 64) (fits : pairs < 2 ^ 64) (at-slash : Marks (λ c. eqb c 0x5C) v slashes) (at-end : Marks (is_stop p q) v ends) (at-pair : Marks is_escapable v pairs)
      (is : along ≡ bit_and slashes (2 ^ 64 - 1 - along) * 2 ^ 1 % 2 ^ 64) where
    along-first : test along 0 ≡ false
    along-first = up_first along (bit_and slashes (2 ^ 64 - 1 - along)) is

    along-next : (i : ℕ) → i < 16 → test along (suc i) ≡ (eqb (get_or v i 0) 0x5C && not (test along i))
    along-next i h =
        ap (λ m. test m (suc i)) is
        ∙ test-up (bit_and slashes (2 ^ 64 - 1 - along)) i (omega arith)
        ∙ test-and slashes (2 ^ 64 - 1 - along) i
        ∙ ap₂ ◌&&◌ (at-slash i h) (test-not along i small (omega arith))

    goes-by : (i : ℕ) → i < 16 → test bad i ≡ false → Goes p q (test along i) (get_or v i 0)
    goes-by i h e =
        let w : ((test ends i && not (test along i)) || (test along i && not (test pairs i))) ≡ false =
        sym (test-or (bit_and ends (2 ^ 64 - 1 - along)) (bit_and along (2 ^ 64 - 1 - pairs)) i
        ∙ ap₂ ◌||◌ (test-and ends (2 ^ 64 - 1 - along) i ∙ ap (λ t. test ends i && t) (test-not along i small (omega arith))) (test-and along (2 ^ 64 - 1 - pairs) i ∙ ap (λ t. test along i && t) (test-not pairs i fits (omega arith))))
        ∙ e in
        go (test along i) (test ends i) (test pairs i) (at-end i h) (at-pair i h) w
      where
        go : (x s t : Bool) → s ≡ is_stop p q (get_or v i 0) → t ≡ is_escapable (get_or v i 0) → ((s && not x) || (x && not t)) ≡ false → Goes p q x (get_or v i 0)
        go true s true f g j = sym g
        go true true false f g j = absurd (true≢false j)
        go true false false f g j = absurd (true≢false j)
        go false true t f g j = absurd (true≢false j)
        go false false t f g j = sym f

    -- up to a place before which taking does not end
    module _ (k : ℕ) (le : k ≤ 16) (below : (j : ℕ) → j < k → test bad j ≡ false) where
      taken-whole : (r : ℕ) → r ≤ k → test along r ≡ false → taking p q false 0 (take r v) ≡ Some r
      taken-whole r h e =
          let n : length (take r v) ≡ r = length-take-le r v (omega arith) in
          let at = λ (i : ℕ) (g : i < length (take r v)). get_or-take r v i 0 (omega arith) in
          ap (λ x. taking p q x 0 (take r v)) (sym along-first)
          ∙ taken-by p q (take r v) (test along) 0
          (λ i g. along-next i (omega arith) ∙ ap (λ b. eqb b 0x5C && not (test along i)) (sym (at i g)))
          (λ i g. subst (Goes p q (test along i)) (sym (at i g)) (goes-by i (omega arith) (below i (omega arith))))
          (ap (test along) n ∙ e)
          ∙ ap Some (omega (arith, n))

      pub taken-lanes : (r : ℕ) → r ≡ cond (test along k) (k - 1) k → (r ≤ 16) × (taking p q false 0 (take r v) ≡ Some r)
      taken-lanes r e = go k refl (test along k) refl
        where
          go : (m : ℕ) → m ≡ k → (t : Bool) → test along k ≡ t → (r ≤ 16) × (taking p q false 0 (take r v) ≡ Some r)
          go m f false g =
              let z : r ≡ k = e ∙ ap (λ t. cond t (k - 1) k) g in
              (omega (arith, z), taken-whole r (omega (arith, z)) (ap (test along) z ∙ g))
          go zero f true g = absurd (true≢false (sym g ∙ ap (test along) (sym f) ∙ along-first))
          go (suc i) f true g =
              let z : r ≡ i = e ∙ ap (λ t. cond t (k - 1) k) g ∙ omega arith in
              let w : (eqb (get_or v i 0) 0x5C && not (test along i)) ≡ true = sym (along-next i (omega arith)) ∙ ap (test along) f ∙ g in
              let y : not (test along i) ≡ true = ((and-eq-true_iff _ _).0 w).1 in
              (omega (arith, z), taken-whole r (omega (arith, z)) (ap (test along) z ∙ off (test along i) y))
            where
              off : (t : Bool) → not t ≡ true → t ≡ false
              off true j = sym j
              off false j = refl
