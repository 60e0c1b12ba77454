-- `rounds::may_embed` meets its contract: no embedded link begins at another byte than a backtick.
-- Assumes nothing.
use Rattle.std.proofs.Common.{rules}
use Rattle.parse.proofs.BacktickLaws.{other-unlinked}
use Rattle.parse.proofs.rounds.may_embed.Goals as goal

pub returns-else-byte-eq96-clause-none : goal.returns-else-byte-eq96-clause-none
returns-else-byte-eq96-clause-none c e = other-unlinked c.args.place.text.now c.args.place.at c.requires.inside (search rules)
