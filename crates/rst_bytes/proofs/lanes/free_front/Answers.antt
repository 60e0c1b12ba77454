-- `lanes::free_front` meets its contract: the lowest bit is the first lane that holds one of the three.
-- Assumes nothing.
use Rattle.std.proofs.Common.{ℕ, ◌<◌, not, ◌||◌, ap, ap₂, sym, ◌∙◌, arith}
use Rattle.rst_bytes.specs.Escaped.{is_stop}
use Rattle.rst_bytes.specs.Free.{is_other}
use Rattle.rst_bytes.proofs.LanesLaws.{test-or}
use Rattle.rst_bytes.proofs.LineLaws.{bytes_is}
use Rattle.rst_bytes.proofs.lanes.free_front.Goals as goal

pub returns : goal.returns
unfolding is_other is_stop
returns c =
    let s = c.args in
    let m = c.lowest in
    let at = λ (k : ℕ) (h : k < 16).
    test-or _ c.equal_to-3.result k
    ∙ ap₂ ◌||◌ (test-or c.equal_to.result c.equal_to-2.result k ∙ ap₂ ◌||◌ (c.equal_to.ensures k h) (c.equal_to-2.ensures k h)) (c.equal_to-3.ensures k h) in
    sym
    (bytes_is (is_other s.p s.q s.x) s.v m.result (omega (arith, m.ensures.within, c.fits-v.0))
    (λ j h. ap not (sym (at j (omega (arith, m.ensures.within))) ∙ m.ensures.below j h))
    (λ h. ap not (sym (at m.result (omega (arith, h, c.fits-v.0))) ∙ m.ensures.at (omega (arith, h, c.fits-v.0)))))
