-- What follows the backtick tells.
use Rattle.std.proofs.Common.{arith}
use Rattle.targetless.proofs.VerdictLaws.{tells-nothing}
use Rattle.targetless.proofs.StateLaws.{closed-tick}
use Rattle.targetless.proofs.runs.closed_stop.Goals as goal

pub returns-in-58 : goal.returns-in-58
returns-in-58 c ranks = closed-tick c.args.rest.now (omega arith) (omega arith) (omega arith)

pub returns-in_default : goal.returns-in_default
returns-in_default c ranks = tells-nothing _ _

pub returns-in_default-2 : goal.returns-in_default-2
returns-in_default-2 c ranks = tells-nothing _ _

pub returns-in_default-3 : goal.returns-in_default-3
returns-in_default-3 c ranks = tells-nothing _ _
