-- Laws that docs/ names and that no other proof uses now: one step of a definition by its first bytes, and a test of two.
-- Assumes nothing.
use Rattle.std.proofs.Common.{Some, None}
use Prim.Native.Nat.{ℕ, ◌+◌, ◌-◌, ◌<◌, ◌≤◌}
use native.Mathlib.Nat.{add-zero}
use native.Mathlib.Omega.{arith}
use mathlib.Core.Path.{◌≡◌, refl, sym, ◌∙◌}
use mathlib.Core.Logic.{⊎_elim}
use mathlib.Core.List.{List, [], ◌∷◌, ◌++◌}
use mathlib.Core.Bool.{Bool, true, false, ◌&&◌, and-false, and-eq-true_iff}
use lib.Dec.{ltb}
use lib.ListN.{length, get_or, drop, take}
use lib.Seq.{take-add}
use borrow.Author.Tests.{lt-ltb, le-ltb, ne_eqb}
use Rattle.rst_bytes.specs.Domain.{is_pair, point_of, pair_of, char_of, run, any}
use Rattle.rst_bytes.specs.Line.{line_from}
use Rattle.rst_bytes.specs.Appending.{free}
use Rattle.rst_bytes.proofs.Lists.{drop-next, drop-two, drop-last}
use Rattle.rst_bytes.proofs.EscapedLaws.{free-next, free_more}
use Rattle.rst_bytes.proofs.TestLaws.{lt-or-le}

pub and_kept : (a b : Bool) → b ≡ true → (a && b) ≡ a
and_kept true b e = e
and_kept false b e = refl

module _ (s : List ℕ) (i : ℕ) where
  -- from 80 on: no character starts at the last byte; two bytes are one if they are a pair
  pub at_last : i < length s → length s ≤ i + 1 → 0x80 ≤ get_or s i 0 → char_of (drop i s) ≡ None
  unfolding char_of
  at_last h e l = rw (drop-last s i h e) (simp (le-ltb _ _ l, char_of))

  pub at_pair : i + 1 < length s → 0x80 ≤ get_or s i 0 → is_pair (get_or s i 0) (get_or s (i + 1) 0) ≡ true → char_of (drop i s) ≡ Some (2, (point_of (get_or s i 0) (get_or s (i + 1) 0)))
  unfolding char_of
  at_pair h l e = rw (drop-two s i h) (simp (le-ltb _ _ l, e, char_of, pair_of))

  pub at_none : i + 1 < length s → 0x80 ≤ get_or s i 0 → is_pair (get_or s i 0) (get_or s (i + 1) 0) ≡ false → char_of (drop i s) ≡ None
  unfolding char_of
  at_none h l e = rw (drop-two s i h) (simp (le-ltb _ _ l, e, char_of, pair_of))

  -- a line goes on behind a byte that is neither LF nor CR
  pub line_plain : (get_or s i 0 ≡ 10 → ⊥) → i < length s → (get_or s i 0 ≡ 13 → ⊥) → line_from i (drop i s) ≡ line_from (i + 1) (drop (i + 1) s)
  unfolding line_from
  line_plain e h f = rw (drop-next s i h) (simp (ne_eqb _ _ e, ne_eqb _ _ f, line_from))

-- of two numbers the greater alone decides whether both are below 80
greater-second : (a b : ℕ) (x : Bool) → a < b → (ltb a 0x80 && (ltb b 0x80 && x)) ≡ (ltb b 0x80 && x)
greater-second a b x h =
    ⊎_elim
    (λ (l : b < 0x80). simp (lt-ltb a 0x80 (omega arith)))
    (λ (l : 0x80 ≤ b). simp (le-ltb b 0x80 l, and-false))
    (lt-or-le b 0x80)

-- every byte is below 80
unfoldable pub is_ascii : List ℕ → Bool
is_ascii [] = true
is_ascii (b ∷ s) = ltb b 0x80 && is_ascii s

-- the same by the greatest so far and the bytes from a place on
pub ascii_more : (s : List ℕ) (i top : ℕ) → i < length s → top < get_or s i 0 → (ltb top 0x80 && is_ascii (drop i s)) ≡ (ltb (get_or s i 0) 0x80 && is_ascii (drop (i + 1) s))
unfolding is_ascii
ascii_more s i top h l = rw (drop-next s i h) (greater-second top (get_or s i 0) (is_ascii (drop (i + 1) s)) l)

-- where every byte is below 80 each is a character, up to the end
pub ascii_run : (n : ℕ) (s : List ℕ) → is_ascii s ≡ true → run any 0 n s ≡ n + length s
unfolding run is_ascii char_of
ascii_run n [] e = sym (add-zero n)
ascii_run n (b ∷ s) e =
    let w = (and-eq-true_iff (ltb b 0x80) (is_ascii s)).0 e in
    let one : run any 0 n (b ∷ s) ≡ run any 0 (n + 1) s = simp (w.0, char_of, run) in
    one ∙ ascii_run (n + 1) s w.1 ∙ omega arith

-- a text is free up to a place, and from there on for 16 bytes
module _ (p q : ℕ) where
  free-append : (l t : List ℕ) → free p q l ≡ true → free p q t ≡ true → free p q (l ++ t) ≡ true
  free-append [] t e f = f
  free-append (b ∷ l) t e f =
      let w = free-next p q b l e in
      free_more p q b (l ++ t) w.0 (free-append l t w.1 f)

  pub free_step : (s : List ℕ) (i : ℕ) → free p q (take i s) ≡ true → free p q (take (i + 16 - i) (drop i s)) ≡ true → free p q (take (i + 16) s) ≡ true
  free_step s i f g =
      let z : i + 16 - i ≡ 16 = omega arith in
      rw (take-add i 16 s) (free-append (take i s) (take 16 (drop i s)) f (rw z at g))
