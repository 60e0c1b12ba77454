-- `word_run` meets its contract. The loop's invariant: the word characters up to i are passed, and the run goes on at i.
-- Assumes nothing.
use Prim.Native.Nat.{◌≤◌, ◌-◌}
use mathlib.Core.Path.{◌≡◌}
use lib.ListN.{length, drop}
use Rattle.rst_bytes.specs.Domain.{run}
use Rattle.rst_bytes.specs.Word.{is_word}
use Rattle.rst_bytes.proofs.word.word_run.Given as goal

abbrev pub invariant-loop-len : goal.invariant-loop-len
invariant-loop-len l = (l.i ≤ length l.s) × (run is_word 0 0 l.s ≡ run is_word 0 l.i (drop l.i l.s))

abbrev pub decreases-loop-len : goal.decreases-loop-len
decreases-loop-len l = length l.s - l.i
