-- `lanes::escapables` meets its contract: of each byte what is computed of a lane that holds it.
-- Assumes nothing.
use Rattle.std.proofs.Common.{ℕ, refl}
use Rattle.rst_bytes.specs.Escaped.{is_escapable}
use Rattle.rst_bytes.proofs.LanesLaws.{lanes-hit, or-lanes, lanes-tell}
use Rattle.rst_bytes.proofs.lanes.escapables.Goals as goal

pub returns : goal.returns
unfolding is_escapable
returns c =
    let v = c.args.v in
    let is = λ (b : ℕ). lanes-hit v b c.fits-v.0 in
    lanes-tell _ is_escapable v _ c.fits-v (or-lanes v _ _ (or-lanes v _ _ (or-lanes v _ _ (or-lanes v _ _ (or-lanes v _ _ (or-lanes v _ _ (is 32) (is 96)) (is 58)) (is 60)) (is 62)) (is 95)) (is 92)) refl
