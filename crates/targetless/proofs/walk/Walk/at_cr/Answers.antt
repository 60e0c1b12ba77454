-- Before LF what is kept is that of LF; else the line is refused.
use Rattle.std.proofs.Common.{rules, arith}
use Rattle.targetless.proofs.WalkLaws.{walked-cr, walked-refused, lf-first, lf-other}
use Rattle.targetless.proofs.walk.Walk.at_cr.Goals as goal

pub returns-in-10 : goal.returns-in-10
returns-in-10 c = walked-cr c.args.self.now c.args.rest.now c.requires (lf-first c.args.rest.now (omega arith) (omega arith))

pub returns : goal.returns
returns c = walked-refused c.args.self.now c.args.rest.now c.requires (lf-other c.args.rest.now (λ h e. search rules))
