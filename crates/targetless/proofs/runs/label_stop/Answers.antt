-- What follows the backtick tells.
use Rattle.std.proofs.Common.{arith}
use Rattle.targetless.proofs.VerdictLaws.{tells-nothing}
use Rattle.targetless.proofs.StateLaws.{label-open}
use Rattle.targetless.proofs.runs.label_stop.Goals as goal

pub returns-in-95 : goal.returns-in-95
returns-in-95 c ranks = tells-nothing _ _

pub returns-in_default : goal.returns-in_default
returns-in_default c ranks = label-open c.args.rest.now (λ h e. omega arith)

pub returns-in_default-2 : goal.returns-in_default-2
returns-in_default-2 c ranks = label-open c.args.rest.now (λ h e. omega arith)
