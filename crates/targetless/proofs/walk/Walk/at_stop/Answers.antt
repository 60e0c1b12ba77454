-- A byte of a line goes on with the runs, and it is no blank.
use Rattle.std.proofs.Common.{get_or, refl, arith}
use mathlib.Core.Path.{subst⁻¹}
use Rattle.targetless.specs.Runs.{StateTells}
use Rattle.targetless.proofs.TextLaws.{first-from}
use Rattle.targetless.proofs.WalkLaws.{walked-byte}
use Rattle.targetless.proofs.walk.Walk.at_stop.Goals as goal

pub returns : goal.returns
returns c =
    walked-byte c.args.v.now c.args.self.now c.state_at-near.result (omega arith) c.requires.line c.requires.walked
    (subst⁻¹ (StateTells _ c.state_at-near.result) (first-from c.args.v.now (get_or c.args.v.now 0 0) (omega arith) refl) c.state_at-near.ensures) c.requires.solid
