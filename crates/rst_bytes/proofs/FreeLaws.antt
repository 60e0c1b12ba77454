-- The laws of `specs/Free.antt` for the code that passes 16 bytes at a time: i bytes of s were passed, and of the 16 behind them n pass.
-- Assumes nothing.
use Prim.Native.Nat.{ℕ, ◌+◌, ◌-◌, ◌<◌, ◌≤◌}
use mathlib.Core.Path.{◌≡◌, sym, ap, ◌∙◌, subst}
use mathlib.Core.List.{List}
use mathlib.Core.Bool.{Bool}
use native.Mathlib.Omega.{arith}
use lib.ListN.{length, drop, take, length-drop}
use lib.Seq.{drop-drop, length-take-le}
use Rattle.std.specs.Array.{IsFirstChunk}
use Rattle.rst_bytes.specs.Line.{bytes_from}
use Rattle.rst_bytes.proofs.Lists.{part-from}
use Rattle.rst_bytes.proofs.LineLaws.{bytes-within, bytes-all, bytes-part}

module _ (f : ℕ → Bool) (s chunk : List ℕ) (i n : ℕ) (le : i ≤ length s) (passed : bytes_from f 0 s ≡ i + bytes_from f 0 (drop i s)) where
  module _ (first : IsFirstChunk (take (length s - i) (drop i s)) chunk 16) (told : n ≡ bytes_from f 0 chunk) where
    front : chunk ≡ take 16 (drop i s)
    front = first.same ∙ ap (take 16) (part-from s i)

    enough : 16 ≤ length (drop i s)
    enough = subst (λ l. 16 ≤ length l) (part-from s i) first.enough

    -- the sum is a place of s
    pub chunk-within : i + n ≤ length s
    chunk-within =
        let z : n ≡ bytes_from f 0 (take 16 (drop i s)) = told ∙ ap (bytes_from f 0) front in
        omega (arith, z, length-drop i s, enough, bytes-within f (take 16 (drop i s)), length-take-le 16 (drop i s) enough)

    -- not all of them
    pub chunk-stops : n < 16 → i + n ≡ bytes_from f 0 s
    chunk-stops h =
        let z : n ≡ bytes_from f 0 (take 16 (drop i s)) = told ∙ ap (bytes_from f 0) front in
        omega (arith, passed, bytes-part f (drop i s) 16 enough (omega (arith, z)), z)

    -- all
    pub chunk-passes : 16 ≤ n → (i + n ≤ length s) × (bytes_from f 0 s ≡ i + n + bytes_from f 0 (drop (i + n) s))
    chunk-passes h =
        let z : n ≡ bytes_from f 0 (take 16 (drop i s)) = told ∙ ap (bytes_from f 0) front in
        let most : n ≤ 16 = omega (arith, z, bytes-within f (take 16 (drop i s)), length-take-le 16 (drop i s) enough) in
        let full : 16 ≡ n = omega (arith, h, most) in
        let all : bytes_from f 0 (drop i s) ≡ n + bytes_from f 0 (drop n (drop i s)) = bytes-all f (drop i s) n (sym (z ∙ ap (λ (m : ℕ). bytes_from f 0 (take m (drop i s))) full)) in
        let rest : bytes_from f 0 (drop n (drop i s)) ≡ bytes_from f 0 (drop (i + n) s) = ap (bytes_from f 0) (drop-drop n i s) in
        (omega (arith, length-drop i s, enough, most), omega (arith, passed, all, rest))
