-- What follows the backtick tells.
use Rattle.std.proofs.Common.{arith}
use Rattle.targetless.proofs.StateLaws.{quoted-open, quoted-plain}
use Rattle.targetless.proofs.runs.quoted_stop.Goals as goal

pub returns-in-58 : goal.returns-in-58
returns-in-58 c ranks t = quoted-plain c.args.rest.now c.args.plain (omega arith) (omega arith) t

pub returns-in_default : goal.returns-in_default
returns-in_default c ranks t = quoted-open c.args.rest.now (λ h e. omega arith)

pub returns-in_default-2 : goal.returns-in_default-2
returns-in_default-2 c ranks t = quoted-open c.args.rest.now (λ h e. omega arith)
