-- `names::is_anonymous` meets its contract: by the length of the name and its byte.
-- Assumes nothing.
use Rattle.std.proofs.Common.{arith}
use Rattle.iterator.proofs.NamesLaws.{anonymous-one, anonymous-other}
use Rattle.iterator.proofs.names.is_anonymous.Goals as goal

pub returns-in-95 : goal.returns-in-95
returns-in-95 c = anonymous-one _ (omega arith) (omega arith)

pub returns-in_default : goal.returns-in_default
returns-in_default c = anonymous-other _ (λ e f. omega arith)

pub returns-in_default-2 : goal.returns-in_default-2
returns-in_default-2 c = anonymous-other _ (λ e f. omega arith)

pub returns-in_default-3 : goal.returns-in_default-3
returns-in_default-3 c = anonymous-other _ (λ e f. omega arith)
