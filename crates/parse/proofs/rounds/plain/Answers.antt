-- `rounds::plain` meets its contract: the bytes at the front that pass are counted.
-- Assumes nothing.
use Rattle.std.proofs.Common.{rules, tests}
use Rattle.rst_bytes.proofs.LineLaws.{bytes-take_while}
use Rattle.parse.specs.Scan.{is_plain}
use Rattle.parse.proofs.rounds.plain.Goals as goal

pub returns : goal.returns
returns c = bytes-take_while _ is_plain c.args.s.now _ c.count.ensures.ran (cc) c.take_while.ensures.closure c.take_while.ensures.done (λ x b q k. search (rules, tests))
