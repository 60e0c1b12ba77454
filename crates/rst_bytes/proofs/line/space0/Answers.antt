-- `line::space0` meets its contract: the bytes at the front that pass are counted.
-- Assumes nothing.
use Rattle.std.proofs.Common.{rules, tests}
use Rattle.rst_bytes.specs.Line.{is_space}
use Rattle.rst_bytes.proofs.LineLaws.{bytes-take_while}
use Rattle.rst_bytes.proofs.line.space0.Goals as goal

pub returns : goal.returns
returns c = bytes-take_while _ is_space c.args.s.now _ c.count.ensures.ran (cc) c.take_while.ensures.closure c.take_while.ensures.done (λ x b q k. search (rules, tests))
