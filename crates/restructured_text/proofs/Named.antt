-- Laws that docs/ names and that no other proof uses now: what is not cut, and what a text ends with, by parts as the code has them.
-- Assumes nothing.
use Rattle.std.proofs.Common.{Some, None}
use Prim.Native.Nat.{ℕ, ◌-◌, ◌≤◌}
use mathlib.Core.Path.{◌≡◌, sym, ap, ◌∙◌}
use mathlib.Core.List.{List}
use mathlib.Core.Bool.{true, false}
use lib.ListN.{length, drop}
use borrow.Author.Tests.{le-leb}
use Rattle.rst_bytes.specs.Line.{line_ending_of}
use Rattle.rst_bytes.specs.Tag.{starts_with}
use Rattle.rst_bytes.proofs.Lists.{part-from}
use Rattle.restructured_text.specs.Block.{three, cut_of}
use Rattle.restructured_text.specs.Delimited.{ends_with}
use Rattle.restructured_text.proofs.BlockLaws.{from}

-- nothing is cut where the indent stands behind a line's end, of k bytes, and no three spaces behind it
module _ (indent s : List ℕ) (k : ℕ) (e : line_ending_of s ≡ Some k) (f : starts_with indent (from s k) ≡ true) where
  behind : starts_with three (from (from s k) (length indent)) ≡ starts_with three (drop (length indent) (drop k s))
  behind = ap (starts_with three) (part-from (from s k) (length indent) ∙ ap (drop (length indent)) (part-from s k))

  pub cut_short : starts_with three (from (from s k) (length indent)) ≡ false → cut_of indent s ≡ None
  unfolding cut_of
  cut_short g = simp (e, rw part-from at f, sym behind ∙ g, cut_of)

-- v is the last part of the text, as long as t
pub ends_last : (t s v : List ℕ) → length t ≤ length s → v ≡ drop (length s - length t) s → starts_with t v ≡ ends_with t s
unfolding ends_with
ends_last t s v h e = simp (le-leb (length t) (length s) h, e)
