-- `lanes::equal_to` meets its contract: a comparison with a splat, lane by lane.
-- Assumes nothing.
use Rattle.std.proofs.Common.{ℕ, eqb, false, map, ap, ◌∙◌, arith, w8}
use Rattle.std.proofs.lemmas.Simd.{bitmask_splat}
use Rattle.std.proofs.lemmas.List.{get_or-map}
use Rattle.rst_bytes.specs.Lanes.{test}
use Rattle.rst_bytes.proofs.LanesLaws.{test-mask_l}
use Rattle.rst_bytes.proofs.lanes.equal_to.Goals as goal

pub returns : goal.returns
returns c k h =
    let f = λ (x : ℕ). eqb x c.args.b in
    ap (λ n. test n k) (bitmask_splat w8 eqb c.args.v 16 c.args.b c.fits-v.0 (omega arith)) ∙ test-mask_l (map f c.args.v) k ∙ get_or-map f c.args.v k 0 false (omega (arith, c.fits-v.0))
