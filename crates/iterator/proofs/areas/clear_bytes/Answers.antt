-- `areas::clear_bytes` meets its contract: the end is zeroed, and then each part before it.
-- Assumes nothing.
use Rattle.std.proofs.Common.{refl, arith}
use Rattle.iterator.proofs.AreaLaws.{none-behind, back-same}
use Rattle.iterator.proofs.areas.clear_bytes.Goals as goal

pub loop-k-init : goal.loop-k-init
loop-k-init c = back-same _ _ _ _ _ _ _ (omega arith) (omega arith) refl (none-behind 0 c.args.bytes.now) c.clear.ensures

pub loop-k-preserved : goal.loop-k-preserved
loop-k-preserved c = back-same _ _ _ _ _ _ _ (omega arith) (omega arith) (omega arith) c.loop-k.invariant c.clear_part.ensures
