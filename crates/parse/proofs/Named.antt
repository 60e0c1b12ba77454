-- Laws that docs/ names and that no other proof uses now: which of two strings does not fit, and how long a part of a text is.
-- Assumes nothing.
use Prim.Native.Nat.{ℕ, ◌-◌, ◌<◌, ◌≤◌}
use mathlib.Core.Path.{◌≡◌, ap}
use mathlib.Core.List.{List}
use native.Mathlib.Omega.{arith}
use lib.ListN.{length, take, drop, length-drop}
use borrow.Author.Tests.{lt-ltb, le-ltb}
use Rattle.rst_bytes.proofs.Lists.{part-from}
use Rattle.parse.specs.Link.{Kind, found}
use Rattle.parse.specs.Single.{refusal, handed}

-- two strings by their lengths: the first does not fit, or the second
module _ (k : Kind) (x y f g : List ℕ) (i j m n : ℕ) (p : length x ≡ i) (q : length y ≡ j) where
  pub first_short : length f < i → refusal 7 i f g ≡ handed f g (found k x y m n)
  first_short h = rw (lt-ltb (length f) (length x) (omega arith), p, handed)

  pub second_short : i ≤ length f → length g < j → refusal 7 j f g ≡ handed f g (found k x y m n)
  second_short h h' = rw (le-ltb (length f) (length x) (omega arith), lt-ltb (length g) (length y) (omega arith), q, handed)

-- a part from a place on has room where the whole text has
pub part_room : (k : ℕ) (s d : List ℕ) → length s ≤ length d → length (take (length s - k) (drop k s)) ≤ length d
part_room k s d h = omega (arith, ap length (part-from s k), length-drop k s)
