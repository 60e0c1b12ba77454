-- `transform::unescape` meets its contract. The loop's invariant is `At`: i bytes are read and n written, from n on the text is as
-- it was, and what was written stands before what the rest gives. One law of the definition at i for each way through the body.
-- The measure is what is left to read.
-- Assumes nothing.
use mathlib.Core.Path.{sym, ◌∙◌}
use native.Mathlib.Omega.{arith}
use Rattle.restructured_text.proofs.TransformLaws.{unescaped-start, skip, write, ends-bad, ends-well, at-end, at-alone, at_other, at-wrong, at_byte, at-nothing}
use Rattle.restructured_text.proofs.transform.unescape.Goals as goal
use Rattle.restructured_text.proofs.transform.unescape.Goals.{then-gives_itself, else-gives_itself}

pub loop-i-init : goal.loop-i-init
loop-i-init c = unescaped-start _ _ _ c.free_front-front.ensures.front

pub returns-in_err-e : goal.returns-in_err-e
returns-in_err-e c =
    let l = c.loop-i in
    rw c.from_residual.ensures (ends-bad l.invariant (at-alone _ _ _ l.d l.i (omega arith) c.in_err-e.ensures.lookup.3 c.if-b-eq92.true))

pub returns-then-not-is_escapable : goal.returns-then-not-is_escapable
returns-then-not-is_escapable c =
    let l = c.loop-i in
    let there = c.in_ok-e.ensures.lookup.3 in
    ends-bad l.invariant (at-wrong _ _ _ l.d l.i _ there.0 c.if-b-eq92.true (there.1 0) (sym c.is_escapable.ensures ∙ c.if-not-is_escapable.true))

pub loop-i-preserved-then-b-eq92 : goal.loop-i-preserved-then-b-eq92
loop-i-preserved-then-b-eq92 c =
    let l = c.loop-i in
    let there = c.in_ok-e.ensures.lookup.3 in
    let taken = sym c.is_escapable.ensures ∙ c.if-not-is_escapable.false in
    elim c.if-gives_itself.branch [
      | then-gives_itself w ↦ rw (w.d-is, w.n-is)
          (write l.invariant 2 _ (omega arith) (omega arith) (at_byte _ l.d l.i _ there.0 c.if-b-eq92.true (there.1 0) taken (sym c.gives_itself.ensures ∙ w.if-gives_itself.true)))
      | else-gives_itself w ↦ rw (w.d-is, w.n-is)
          (skip l.invariant 2 (omega arith) (at-nothing _ l.d l.i _ there.0 c.if-b-eq92.true (there.1 0) taken (sym c.gives_itself.ensures ∙ w.if-gives_itself.false)))
    ]

pub loop-i-preserved : goal.loop-i-preserved
loop-i-preserved c =
    let l = c.loop-i in
    write l.invariant 1 _ (omega arith) (omega arith) (at_other _ _ _ l.d l.i (omega arith) c.if-b-eq92.false)

pub returns : goal.returns
returns c =
    let l = c.loop-i in ends-well l.invariant (at-end _ _ _ l.d l.i (omega arith))
