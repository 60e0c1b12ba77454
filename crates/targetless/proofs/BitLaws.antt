-- The bits of numbers: where both are set, where one is, and which ones the lowest n are.
-- Assumes nothing.
use Rattle.std.proofs.Common.{◌≡◌, ℕ, ◌-◌, ◌/◌, ◌%◌, ◌^◌, ◌<◌, true, ◌⊎◌, inl, inr, ⊎_elim, sym, ◌∙◌, arith, bit_and, bit_or, eqb-true, eq-eqb, leb, leb-true, leb-false}
use Rattle.std.specs.Int.{w128}
use Rattle.std.proofs.Math.Pow.{pow-lt}
use Rattle.std.proofs.lemmas.Nat.Bits.{shr_and_one, bit_at-zero, bit_at_and, bit_at_or, bit_at_above, bit_at_ones, bit_at_ones_above, bit_at_not}
use Rattle.rst_bytes.proofs.TestLaws.{by-test, lt-or-le}
use Rattle.targetless.specs.Verdict.{ones, bit_at, ones_of}

-- a bit is a digit
pub bit_is : (x k : ℕ) → bit_at x k ≡ true → x / 2 ^ k % 2 ≡ 1
unfolding bit_at
bit_is x k e = sym (shr_and_one x k) ∙ eqb-true _ _ e

bit-set : (x k : ℕ) → x / 2 ^ k % 2 ≡ 1 → bit_at x k ≡ true
unfolding bit_at
bit-set x k e = eq-eqb _ _ (shr_and_one x k ∙ e)

-- of both
pub bit-both : (a b k : ℕ) → bit_at (bit_and a b) k ≡ true → (bit_at a k ≡ true) × (bit_at b k ≡ true)
bit-both a b k e =
    let d = sym (bit_at_and a b k) ∙ bit_is (bit_and a b) k e in
    (bit-set a k (omega (arith, d)), bit-set b k (omega (arith, d)))

-- of one of them
pub bit-either : (a b k : ℕ) → bit_at (bit_or a b) k ≡ true → (bit_at a k ≡ true) ⊎ (bit_at b k ≡ true)
bit-either a b k e =
    let d = sym (bit_at_or a b k) ∙ bit_is (bit_or a b) k e in
    ⊎_elim (λ h. inr (bit-set b k (omega (arith, d, h)))) (λ h. inl (bit-set a k (omega (arith, d, h)))) (lt-or-le (a / 2 ^ k % 2) 1)

-- no bit of a number that is too small
pub bit-small : (x k : ℕ) → x < 2 ^ k → bit_at x k ≡ true → ⊥
bit-small x k h e = omega (arith, bit_is x k e, bit_at_above x k k h (omega arith))

pub bit-none : (k : ℕ) → bit_at 0 k ≡ true → ⊥
bit-none k e = omega (arith, bit_is 0 k e, bit_at-zero k)

-- the lowest n bits
pub bit-ones : (n k : ℕ) → bit_at (ones_of n) k ≡ true → k < n
unfolding ones_of
bit-ones n k =
    by-test (λ (x : ℕ). bit_at x k ≡ true → k < n) (leb 128 n) ones (2 ^ n - 1)
    (λ h e. ⊎_elim (λ l. omega (arith, leb-true 128 n h, l)) (λ l. absurd (omega (arith, bit_is ones k e, bit_at_ones_above 128 k l))) (lt-or-le k 128))
    (λ h e. ⊎_elim (λ l. l) (λ l. absurd (omega (arith, bit_is (2 ^ n - 1) k e, bit_at_ones_above n k l))) (lt-or-le k n))

-- the others
pub bit-beyond : (n k : ℕ) → k < n → bit_at (ones - ones_of n) k ≡ true → ⊥
unfolding ones_of
bit-beyond n k h =
    by-test (λ (x : ℕ). bit_at (ones - x) k ≡ true → ⊥) (leb 128 n) ones (2 ^ n - 1)
    (λ e. bit-none k)
    (λ e f.
    let l : n < 128 = leb-false 128 n e in
    let p : 2 ^ n < 2 ^ 128 = pow-lt l in
    omega (arith, bit_is (ones - (2 ^ n - 1)) k f, bit_at_not w128 (2 ^ n - 1) k (omega (arith, p)) (omega (arith, h, l)), bit_at_ones n k h))
