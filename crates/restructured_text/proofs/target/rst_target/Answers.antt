-- `target::rst_target` meets its contract: that of the block's reader; and where no target starts there is none.
-- Assumes nothing.
use mathlib.Core.Path.{sym, ◌∙◌}
use Rattle.restructured_text.proofs.TargetLaws.{undefined}
use Rattle.restructured_text.proofs.target.rst_target.Goals as goal

pub returns-else-scratch-s : goal.returns-else-scratch-s
returns-else-scratch-s c =
    undefined c.args.s.now (sym c.starts_target.ensures ∙ c.if-starts_target.false) c.args.scratch.now c.if-scratch-s.false
