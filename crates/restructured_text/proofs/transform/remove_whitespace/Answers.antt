-- `transform::remove_whitespace` meets its contract. The loop's invariant is `At`: i bytes are read and n written, from n on the
-- text is as it was, and what was written stands before what the rest gives. One law of the definition at i for each way through
-- the body; an escape writes its two bytes. The measure is what is left to read.
-- Assumes nothing.
use mathlib.Core.Path.{sym, ◌∙◌}
use native.Mathlib.Omega.{arith}
use Rattle.restructured_text.proofs.TransformLaws.{kept-start, skip, write, write_two, ends-bad, ends-well, at-end, at-alone, at-wrong, at-two, at-blank, at-unblank}
use Rattle.restructured_text.proofs.transform.remove_whitespace.Goals as goal
use Rattle.restructured_text.proofs.transform.remove_whitespace.Goals.{then-not-is_whitespace, else-not-is_whitespace}

pub loop-i-init : goal.loop-i-init
loop-i-init c = kept-start _ _ c.bare-front.ensures

pub returns-in_err-e : goal.returns-in_err-e
returns-in_err-e c =
    let l = c.loop-i in
    rw c.from_residual.ensures (ends-bad l.invariant (at-alone _ _ _ l.d l.i (omega arith) c.in_err-e.ensures.lookup.3 c.if-b-eq92.true))

pub returns-then-not-is_destination_escapable : goal.returns-then-not-is_destination_escapable
returns-then-not-is_destination_escapable c =
    let l = c.loop-i in
    let there = c.in_ok-e.ensures.lookup.3 in
    ends-bad l.invariant (at-wrong _ _ _ l.d l.i _ there.0 c.if-b-eq92.true (there.1 0) (sym c.is_destination_escapable.ensures ∙ c.if-not-is_destination_escapable.true))

pub loop-i-preserved-then-b-eq92 : goal.loop-i-preserved-then-b-eq92
loop-i-preserved-then-b-eq92 c =
    let l = c.loop-i in
    let there = c.in_ok-e.ensures.lookup.3 in
    let taken = sym c.is_destination_escapable.ensures ∙ c.if-not-is_destination_escapable.false in
    write_two l.invariant _ _ (omega arith) (at-two l.d l.i _ there.0 c.if-b-eq92.true (there.1 0) taken)

pub loop-i-preserved : goal.loop-i-preserved
loop-i-preserved c =
    let l = c.loop-i in
    elim c.if-not-is_whitespace.branch [
      | then-not-is_whitespace w ↦ rw (w.d-is, w.n-is)
          (write l.invariant 1 _ (omega arith) (omega arith) (at-unblank l.d l.i (omega arith) c.if-b-eq92.false (sym c.is_whitespace.ensures ∙ w.if-not-is_whitespace.true)))
      | else-not-is_whitespace w ↦ rw (w.d-is, w.n-is)
          (skip l.invariant 1 (omega arith) (at-blank l.d l.i (omega arith) c.if-b-eq92.false (sym c.is_whitespace.ensures ∙ w.if-not-is_whitespace.false)))
    ]

pub returns : goal.returns
returns c =
    let l = c.loop-i in ends-well l.invariant (at-end _ _ _ l.d l.i (omega arith))
