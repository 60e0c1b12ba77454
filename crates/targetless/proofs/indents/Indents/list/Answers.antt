-- Each turn puts down how many are shorter, and there may be one more from then on.
use Rattle.std.proofs.Common.{◌≤◌, ◌∙◌, arith}
use lib.ListN.{length-set}
use Rattle.targetless.proofs.IndentsLaws.{rises-more, rising-all}
use Rattle.targetless.proofs.indents.Indents.list.Goals as goal
use Rattle.targetless.proofs.indents.Indents.list.Goals.{then-noted-eq1+then-shorter-lt-MOST, else-noted-eq1}

pub loop-k-preserved : goal.loop-k-preserved
loop-k-preserved c =
    let w : (c.loop-k.shorter ≤ c.if-noted-eq1.shorter) × (c.if-noted-eq1.shorter ≤ 127) =
    elim c.if-noted-eq1.branch [
      | then-noted-eq1+then-shorter-lt-MOST w ↦ (omega (arith, w.shorter-is), omega (arith, w.shorter-is, w.if-shorter-lt-MOST))
      | else-noted-eq1 w ↦ (omega (arith, w.shorter-is), omega (arith, w.shorter-is, c.loop-k.invariant.1))
    ] in
    (rises-more c.loop-k.self.ranks c.loop-k.k c.loop-k.shorter c.if-noted-eq1.shorter (omega (arith, c.loop-k.invariant.2, c.loop-k-test.true)) w.0 c.loop-k.invariant.0, w.1, length-set c.loop-k.self.ranks c.loop-k.k c.loop-k.shorter ∙ c.loop-k.invariant.2)

pub returns : goal.returns
returns c = rising-all c.loop-k.self.ranks c.loop-k.k c.loop-k.shorter (omega arith) c.loop-k.invariant.0
