-- `calm::Calm::pass` meets its contract: other text is passed, or lines are, or words.
-- Assumes nothing.
use Rattle.std.proofs.Common.{Bool, sym, subst}
use Rattle.parse.specs.Inner.{Passes}
use Rattle.parse.proofs.calm.Calm.pass.Goals as goal

pub returns-in-Some : goal.returns-in-Some
returns-in-Some c = subst (λ (b : Bool). Passes b c.args.i c.in-Some.next c.args.s.now) (sym c.if-not-start.true) c.in-Some.ensures
