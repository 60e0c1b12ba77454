-- A list from a position on, by its next one and two elements, in the code's `i + 1` and `i + 2`.
-- Assumes nothing.
use Prim.Native.Nat.{ℕ, suc, ◌+◌, ◌-◌, ◌<◌, ◌≤◌}
use mathlib.Core.Path.{◌≡◌, sym, ap, ◌∙◌}
use mathlib.Core.List.{List, [], ◌∷◌, ◌++◌}
use native.Mathlib.Numerals.{add-one}
use native.Mathlib.Omega.{arith}
use lib.ListN.{length, get_or, drop, take, drop_of_length-le, length-drop}
use lib.Seq.{drop-cons, take_all, take-length}

module _ (s : List ℕ) (i : ℕ) where
  pub drop-next : i < length s → drop i s ≡ get_or s i 0 ∷ drop (i + 1) s
  drop-next h = rw add-one (drop-cons s i 0 h)

  pub drop-two : i + 1 < length s → drop i s ≡ get_or s i 0 ∷ get_or s (i + 1) 0 ∷ drop (i + 2) s
  drop-two h =
      let e : i + 2 ≡ suc (i + 1) = omega arith in
      drop-next (omega arith) ∙ rw e (ap (λ (l : List ℕ). get_or s i 0 ∷ l) (drop-cons s (i + 1) 0 h))

  -- nothing is left
  pub drop-end : length s ≤ i → drop i s ≡ []
  drop-end e = drop_of_length-le s e

  -- the last element
  pub drop-last : i < length s → length s ≤ i + 1 → drop i s ≡ get_or s i 0 ∷ []
  drop-last h e = drop-next h ∙ ap (λ (l : List ℕ). get_or s i 0 ∷ l) (drop_of_length-le s e)

-- the part from a position on, as `&s[a..]` has it
pub part-from : (s : List ℕ) (a : ℕ) → take (length s - a) (drop a s) ≡ drop a s
part-from s a = take_all (length s - a) (drop a s) (omega (arith, length-drop a s))

-- what a copy of x to the front of y leaves, with x as a front part of itself
pub as-front : (x y : List ℕ) {z : List ℕ} → z ≡ x ++ drop (length x) y → z ≡ take (length x) x ++ drop (length x) y
as-front x y e = e ∙ ap (λ (l : List ℕ). l ++ drop (length x) y) (sym (take-length x))
