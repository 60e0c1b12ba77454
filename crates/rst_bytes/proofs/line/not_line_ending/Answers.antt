-- `line::not_line_ending` meets its contract: bytes that are neither LF nor CR are passed, and what stands behind them tells.
-- Assumes nothing.
use Rattle.std.proofs.Common.{◌∙◌, sym, ap}
use Rattle.rst_bytes.proofs.LineLaws.{line_by, line-whole, line-ends}
use Rattle.rst_bytes.proofs.line.not_line_ending.Goals as goal

pub returns-then-i-s : goal.returns-then-i-s
returns-then-i-s c = sym (line-whole c.args.s.now _ c.free_front-i.ensures.front c.if-i-s.true)

pub returns : goal.returns
returns c = sym (line-ends c.args.s.now _ c.free_front-i.ensures.front c.if-i-s.false _ c.line_ending.ensures ∙ ap (line_by _) c.in_ok-line_ending.was)

pub returns-in_err-line_ending : goal.returns-in_err-line_ending
returns-in_err-line_ending c =
    rw c.from_residual.ensures (sym (line-ends c.args.s.now _ c.free_front-i.ensures.front c.if-i-s.false _ c.line_ending.ensures ∙ ap (line_by _) c.in_err-line_ending.was))
