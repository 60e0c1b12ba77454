use Rattle.std.proofs.Common.{refl}
use Rattle.targetless.specs.Verdict.{bit_at}
use Rattle.targetless.proofs.verdict.bit.Goals as goal

pub returns : goal.returns
unfolding bit_at
returns c = refl
