-- Before a line that is refused none follows, and else each run goes on over the line's end.
use Rattle.std.proofs.Common.{subst}
use Rattle.rst_bytes.proofs.Lists.{part-from}
use Rattle.targetless.specs.Verdict.{Shared}
use Rattle.targetless.proofs.WalkLaws.{walked-alone, walked-lf}
use Rattle.targetless.proofs.walk.Walk.at_lf.Goals as goal

pub returns-in_default : goal.returns-in_default
returns-in_default c = walked-alone c.args.self.now c.args.rest.now c.requires c.in_default.is

pub returns : goal.returns
returns c = walked-lf c.args.self.now c.args.rest.now c.requires c.in-Some.next c.shared_blanks-shared.result c.in-Some.is (subst (Shared c.shared_blanks-shared.result c.args.rest.now) (part-from c.args.rest.now _) c.shared_blanks-shared.ensures) c.over-near.result c.line_stop.result c.over-near.ensures c.line_stop.ensures
