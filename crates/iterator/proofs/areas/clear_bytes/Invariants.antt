-- `areas::clear_bytes` meets its contract: from part k on all is zero.
-- Assumes nothing.
use Rattle.std.proofs.Common.{◌≡◌, ◌-◌, ◌*◌, length, drop, replicate}
use Rattle.iterator.proofs.areas.clear_bytes.Given as goal

abbrev pub invariant-loop-k : goal.invariant-loop-k
invariant-loop-k l = drop (l.k * 512) l.bytes ≡ replicate (length l.fn.bytes - l.k * 512) 0
