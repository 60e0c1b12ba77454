-- The size tells for which indents a label is too long.
use Rattle.std.proofs.Common.{arith}
use Rattle.targetless.specs.Verdict.{everything}
use Rattle.targetless.proofs.SizeLaws.{label-everywhere, label-far}
use Rattle.targetless.proofs.state.State.no_label.Goals as goal

pub returns-then-size-eq0 : goal.returns-then-size-eq0
returns-then-size-eq0 c s t = label-everywhere s c.args.self.label c.args.self.size t.label t.size c.if-size-eq0.true c.if-size-lt-TOO_LONG.false everything

pub returns : goal.returns
returns c s t = rw (c.bitor.ensures, c.with_lone.ensures, c.up_to-long.ensures) (label-far s c.args.self.label c.args.self.size t.label t.size c.requires (omega (arith, c.if-size-eq0.false)) c.if-size-lt-TOO_LONG.false)
