-- `inline::embedded` meets its contract. What is consumed is copied to the scratch, so that the raw parts stand there as they stand in
-- the input; text and target stand one behind the other, so that each can be transformed in its place.
-- Assumes nothing.
use mathlib.Core.Path.{sym, subst, ◌∙◌}
use mathlib.Core.Bool.{true, false}
use native.Mathlib.Omega.{arith}
use lib.ListN.{take, length}
use Rattle.rst_bytes.proofs.Lists.{as-front}
use Rattle.rst_bytes.proofs.Variants.{ok_or-some}
use Rattle.restructured_text.specs.Text2target.{text2target_of}
use Rattle.restructured_text.proofs.Text2targetLaws.{Apart, text2target-apart}
use Rattle.restructured_text.proofs.InlineLaws.{finished-copied}
use Rattle.restructured_text.proofs.inline.embedded.Goals as goal

pub returns-clause-strings : goal.returns-clause-strings
returns-clause-strings c =
    let w = c.args in
    let e = sym c.rst_parse_text2target.ensures ∙ ok_or-some _ _ c.ok_or.ensures.value c.in_ok-text.was in
    let p = subst (Apart (length w.s.now)) e (text2target-apart w.anonym false w.s.now) in
    finished-copied true w.s.now w.scratch.now c.copy.new.d (text2target_of w.anonym false w.s.now) _ _ _ _
    e c.if-scratch-s.false (as-front (take c.in_ok-text.n w.s.now) w.scratch.now c.copy.ensures) (omega arith, p.1, p.2, p.3) c.transformed.ensures.strings
