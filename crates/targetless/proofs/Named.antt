-- Laws that docs/ names and that no other proof uses now: numbers of the lowest bits, what is told at a place of a text, and bytes or
-- numbers that are zeroed one by one.
-- Assumes nothing.
use Rattle.std.proofs.Common.{Some}
use Prim.Native.Nat.{ℕ, suc, ◌+◌, ◌-◌, ◌*◌, ◌/◌, ◌%◌, ◌^◌, ◌<◌, ◌≤◌}
use native.Mathlib.Omega.{arith}
use native.Mathlib.Nat.{mul_assoc, one-mul, pow-le-pow_right}
use mathlib.Core.Path.{◌≡◌, refl, sym, ap, subst⁻¹, ◌∙◌}
use mathlib.Core.List.{List, [], ◌∷◌, ◌++◌, append-nil}
use mathlib.Core.Bool.{Bool, true, false, true≢false}
use lib.Dec.{leb}
use borrow.Author.Fill.{fill_more}
use lib.ListN.{length, get_or, drop, set, replicate, drop_of_length-le, length-set}
use lib.Bits.{shifted_even}
use lib.Pow.{pow-add, pow_pos, shl_exact, shl-shr, ones_lt}
use borrow.Author.Tests.{eq-eqb, leb-true}
use Rattle.std.proofs.lemmas.List.{get_or-drop}
use Rattle.rst_bytes.specs.Line.{not_line_ending_of}
use Rattle.rst_bytes.specs.Tag.{starts_with}
use Rattle.rst_bytes.proofs.Lists.{drop-next}
use Rattle.rst_bytes.proofs.TestLaws.{by-test}
use Rattle.targetless.specs.Verdict.{ones, ones_of, bit_at, joined_of, ends_line, everything, nothing, Tells}
use Rattle.targetless.specs.Runs.{plain_stop}
use Rattle.targetless.proofs.BitLaws.{bit_is}
use Rattle.targetless.proofs.VerdictLaws.{tells-nothing}
use Rattle.targetless.proofs.StateLaws.{starts-one, first-not, plain-open}

-- the lowest n bits
pub ones_small : (n : ℕ) → ones_of n < 2 ^ n
unfolding ones_of
ones_small n =
    by-test (λ (x : ℕ). x < 2 ^ n) (leb 128 n) ones (2 ^ n - 1)
    (λ e.
    let h : 2 ^ 128 ≤ 2 ^ n = pow-le-pow_right (omega arith) (leb-true 128 n e) in
    omega (arith, h))
    (λ e. ones_lt n)

pub ones_pos : (n : ℕ) → n < 64 → 1 ≤ (1 * 2 ^ n) % 18446744073709551616
ones_pos n h = subst⁻¹ (λ (x : ℕ). 1 ≤ x) (shl_exact {a = 1} 1 n 64 (omega arith) (omega arith) ∙ one-mul (2 ^ n)) (pow_pos n)

-- none of them is set in what is shifted over them
pub bit_shifted : (a n k : ℕ) → k < n → bit_at (a * 2 ^ n) k ≡ true → ⊥
bit_shifted a n k h e =
    let d = n - k - 1 in
    let z : n ≡ suc d + k = omega arith in
    let q : a * 2 ^ n / 2 ^ k ≡ a * 2 ^ suc d =
    ap (λ (m : ℕ). a * 2 ^ m / 2 ^ k) z ∙ ap (λ (m : ℕ). a * m / 2 ^ k) (pow-add 2 (suc d) k) ∙ ap (λ (m : ℕ). m / 2 ^ k) (sym (mul_assoc a (2 ^ suc d) (2 ^ k))) ∙ shl-shr (a * 2 ^ suc d) k in
    omega (arith, sym (ap (λ (y : ℕ). y % 2) q ∙ shifted_even a d) ∙ bit_is (a * 2 ^ n) k e)

module _ {ranks : List ℕ} where
  -- nothing is told
  pub tells_none : (s : List ℕ) (i : ℕ) (g : List ℕ → Bool) → Tells ranks g nothing (drop i s)
  tells_none s i g = tells-nothing g (drop i s)

-- with a byte that is no space a text begins only if the line does
pub first_byte_lem :
    (indent s : List ℕ) (i n c : ℕ) → (c ≡ 0x20 → ⊥) → not_line_ending_of (drop i s) ≡ Some n → starts_with (c ∷ []) (drop i s) ≡ false
    → starts_with (c ∷ []) (joined_of indent n (drop i s)) ≡ false
first_byte_lem indent s i n c f e k = first-not c (drop i s) f (other (drop i s) k) indent n e
  where
    other : (l : List ℕ) → starts_with (c ∷ []) l ≡ false → 0 < length l → get_or l 0 0 ≡ c → ⊥
    other [] q h z = absurd (omega arith)
    other (b ∷ l) q h z = absurd (true≢false (sym (starts-one c b l ∙ eq-eqb b c z) ∙ q))

module _ {ranks : List ℕ} where
  -- behind a colon stands another byte of the line than a space
  pub plain_other :
      (s : List ℕ) (i : ℕ) → i < length s → get_or s i 0 ≡ 0x3A → i + 1 < length s → ends_line (get_or s (i + 1) 0) ≡ false
      → (get_or s (i + 1) 0 ≡ 0x20 → ⊥) → Tells ranks plain_stop everything (drop i s)
  plain_other s i h f j q g =
      let is : drop i s ≡ 0x3A ∷ drop (i + 1) s = drop-next s i h ∙ ap (λ (b : ℕ). b ∷ drop (i + 1) s) f in
      let b : get_or (drop (i + 1) s) 0 0 ≡ get_or s (i + 1) 0 = get_or-drop (i + 1) s 0 0 ∙ ap (λ (k : ℕ). get_or s k 0) (omega arith) in
      subst⁻¹ (Tells ranks plain_stop everything) is (plain-open (drop (i + 1) s) (λ l. (λ e. g (sym b ∙ e), ap ends_line b ∙ q)))

-- a is what d was, with 0 in each place below i
pub record Cleared (d a : List ℕ) (i : ℕ) : Type 0 where
  pub within : i ≤ length d
  pub holds : a ≡ replicate i 0 ++ drop i d
  pub long : length a ≡ length d

pub clear_none : (d : List ℕ) → Cleared d d 0
clear_none d = record { within = omega arith; holds = refl; long = refl }

pub clear-more : (d a : List ℕ) (i : ℕ) → i < length a → Cleared d a i → Cleared d (set a i 0) (i + 1)
clear-more d a i h w =
    record { within = omega arith; holds = rw w.holds (fill_more i 0 d (omega arith)); long = length-set a i 0 ∙ w.long }

pub clear-all : (d a : List ℕ) (i : ℕ) → length a ≤ i → Cleared d a i → a ≡ replicate (length d) 0
clear-all d a i h w =
    let e : length d ≡ i = omega arith in
    rw e (w.holds ∙ rw (drop_of_length-le d {i = i} (omega arith)) (append-nil (replicate i 0)))
