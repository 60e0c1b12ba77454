-- Before the place stands what s has there, and from it on what stood there.
-- Assumes nothing.
use Rattle.std.proofs.Common.{◌≡◌, length, take, drop}
use Rattle.rst_bytes.proofs.copy.copy.Given as goal

abbrev pub invariant-loop-i : goal.invariant-loop-i
invariant-loop-i l =
    (l.i-end ≡ length l.s) × (length l.d ≡ length l.initial.d) × (take l.i l.d ≡ take l.i l.s) × (drop l.i l.d ≡ drop l.i l.initial.d)
