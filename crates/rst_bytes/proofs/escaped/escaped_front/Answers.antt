-- `escaped::escaped_front` meets its contract: what is taken of each 16 bytes is taken behind the bytes before them.
-- Assumes nothing.
use Rattle.std.proofs.Common.{refl, arith}
use Rattle.rst_bytes.specs.Escaped.{taking}
use Rattle.rst_bytes.proofs.EscapedLaws.{chunk-taken, front-within, front-whole}
use Rattle.rst_bytes.proofs.escaped.escaped_front.Goals as goal

pub loop-chunk-init : goal.loop-chunk-init
unfolding taking
loop-chunk-init c = (omega arith, refl)

pub returns-then-n-lt15-clause-taken : goal.returns-then-n-lt15-clause-taken
returns-then-n-lt15-clause-taken c =
    let s = c.args in
    let l = c.loop-chunk in
    let n = c.taken_front-n in
    let w = chunk-taken s.p s.q _ c.in-Some.chunk.now n.result c.in-Some.ensures.cases n.ensures.within n.ensures.taken in
    front-whole s.p s.q s.s.now l.i n.result l.invariant.0 w.0 w.1 l.invariant.1

pub loop-chunk-preserved : goal.loop-chunk-preserved
loop-chunk-preserved c =
    let s = c.args in
    let l = c.loop-chunk in
    let n = c.taken_front-n in
    let w = chunk-taken s.p s.q _ c.in-Some.chunk.now n.result c.in-Some.ensures.cases n.ensures.within n.ensures.taken in
    (front-within s.p s.q s.s.now l.i n.result l.invariant.0 w.0 w.1, front-whole s.p s.q s.s.now l.i n.result l.invariant.0 w.0 w.1 l.invariant.1)
