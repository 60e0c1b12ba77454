-- What follows the colon tells.
use Rattle.std.proofs.Common.{sym, ◌∙◌, arith}
use Rattle.targetless.proofs.StateLaws.{plain-target, plain-line, plain-open}
use Rattle.targetless.proofs.walk.Walk.plain_stop.Goals as goal

pub returns-in-32 : goal.returns-in-32
returns-in-32 c = plain-target c.args.rest.now c.args.self.now.far.target (omega arith) (omega arith) c.requires.far.target

pub returns-in-len1-up : goal.returns-in-len1-up
returns-in-len1-up c = plain-line c.args.rest.now c.args.self.now.stop c.requires.stop

pub returns-in_default : goal.returns-in_default
returns-in_default c = plain-open c.args.rest.now (λ h. absurd (omega arith))

pub returns-in_default-2 : goal.returns-in_default-2
returns-in_default-2 c = plain-open c.args.rest.now (λ h. (λ e. omega arith, sym c.ends_line.ensures ∙ c.if-ends_line.false))
