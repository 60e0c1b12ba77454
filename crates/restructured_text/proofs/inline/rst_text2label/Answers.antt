-- `inline::rst_text2label` meets its contract. What is consumed is copied to the scratch, so that the raw parts stand there as they
-- stand in the input. Text and label stand one behind the other, and each is transformed in its place; or they are the same, and one
-- transform gives both.
-- Assumes nothing.
use mathlib.Core.Path.{sym, subst, ◌∙◌}
use mathlib.Core.Bool.{false}
use lib.ListN.{take, length}
use Rattle.rst_bytes.proofs.Lists.{as-front}
use Rattle.rst_bytes.proofs.Variants.{ok_or-some}
use Rattle.restructured_text.specs.Label.{parse_text2label_of}
use Rattle.restructured_text.specs.Inline.{text2label_of}
use Rattle.restructured_text.proofs.LabelLaws.{Placed, reference-placed}
use Rattle.restructured_text.proofs.InlineLaws.{finished-copied, finished-shared}
use Rattle.restructured_text.proofs.inline.rst_text2label.Goals as goal

pub returns-then-text-label-clause-strings : goal.returns-then-text-label-clause-strings
unfolding text2label_of
returns-then-text-label-clause-strings c =
    let w = c.args in
    let e = sym c.rst_parse_text2label.ensures ∙ ok_or-some _ _ c.ok_or.ensures.value c.in_ok-text.was in
    let p = subst (Placed (length w.s.now)) e (reference-placed w.s.now) in
    finished-copied false w.s.now w.scratch.now c.copy.new.d (parse_text2label_of w.s.now) _ _ _ _
    e c.if-scratch-s.false (as-front (take c.in_ok-text.n w.s.now) w.scratch.now c.copy.ensures) (p.1, p.2, p.3, p.4) c.transformed.ensures.strings

pub returns-else-text-label-clause-strings : goal.returns-else-text-label-clause-strings
unfolding text2label_of
returns-else-text-label-clause-strings c =
    let w = c.args in
    let e = sym c.rst_parse_text2label.ensures ∙ ok_or-some _ _ c.ok_or.ensures.value c.in_ok-text.was in
    let p = subst (Placed (length w.s.now)) e (reference-placed w.s.now) in
    finished-shared false w.s.now w.scratch.now c.copy.new.d (parse_text2label_of w.s.now) _ _ _ _
    e c.if-scratch-s.false (as-front (take c.in_ok-text.n w.s.now) w.scratch.now c.copy.ensures) p c.if-text-label.false c.shared.ensures.strings
