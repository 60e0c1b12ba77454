-- `rounds::text_round` meets its contract: where the text ends there is nothing, and both other rounds promise the same.
-- Assumes nothing.
use Rattle.std.proofs.Common.{arith}
use Rattle.parse.proofs.RoundLaws.{text-end}
use Rattle.parse.proofs.rounds.text_round.Goals as goal

pub returns-then-place-clause-step : goal.returns-then-place-clause-step
returns-then-place-clause-step c =
    let p = c.args.place in
    text-end c.args.spaced p.text.now p.at (omega arith)
