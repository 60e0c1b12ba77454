-- `free::free_front` meets its contract: by each 16 bytes, and by the last ones.
-- Assumes nothing.
use Rattle.std.proofs.Common.{rules, tests, arith, ap, ◌∙◌}
use Rattle.rst_bytes.specs.Line.{bytes_from}
use Rattle.rst_bytes.specs.Free.{is_other}
use Rattle.rst_bytes.proofs.Lists.{part-from}
use Rattle.rst_bytes.proofs.LineLaws.{bytes-take_while}
use Rattle.rst_bytes.proofs.FreeLaws.{chunk-within, chunk-stops, chunk-passes}
use Rattle.rst_bytes.proofs.free.free_front.Goals as goal

pub overflow_add-i : goal.overflow_add-i
overflow_add-i c =
    let s = c.args in
    let l = c.loop-chunk in
    record { fits = omega (arith, chunk-within (is_other s.p s.q s.x) s.s.now c.in-Some.chunk.now l.i c.free_front-n.result l.invariant.0 l.invariant.1 c.in-Some.ensures.cases c.free_front-n.ensures) }

pub returns-then-n-lt16-clause-front : goal.returns-then-n-lt16-clause-front
returns-then-n-lt16-clause-front c =
    let s = c.args in
    let l = c.loop-chunk in
    chunk-stops (is_other s.p s.q s.x) s.s.now c.in-Some.chunk.now l.i c.free_front-n.result l.invariant.0 l.invariant.1 c.in-Some.ensures.cases c.free_front-n.ensures c.if-n-lt16.true

pub loop-chunk-preserved : goal.loop-chunk-preserved
loop-chunk-preserved c =
    let s = c.args in
    let l = c.loop-chunk in
    chunk-passes (is_other s.p s.q s.x) s.s.now c.in-Some.chunk.now l.i c.free_front-n.result l.invariant.0 l.invariant.1 c.in-Some.ensures.cases c.free_front-n.ensures c.if-n-lt16.false

pub returns-clause-front : goal.returns-clause-front
returns-clause-front c =
    let s = c.args in
    let f = is_other s.p s.q s.x in
    let l = c.loop-chunk in
    let n = bytes-take_while _ f _ _ c.count.ensures.ran (cc) c.take_while.ensures.closure c.take_while.ensures.done (λ x b q k. search (rules, tests)) in
    omega (arith, l.invariant.1, n ∙ ap (bytes_from f 0) (part-from s.s.now l.i))
