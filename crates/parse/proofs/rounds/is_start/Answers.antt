-- The table says what the test says.
use Rattle.std.proofs.Common.{arith}
use Rattle.parse.proofs.StartsLaws.{starts-at}
use Rattle.parse.proofs.rounds.is_start.Goals as goal

pub returns : goal.returns
returns c = rw c.from.ensures (starts-at c.args.b (omega arith))
