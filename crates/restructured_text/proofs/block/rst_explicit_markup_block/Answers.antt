-- `block::rst_explicit_markup_block` meets its contract: `lent_block` by the scratch's length, `block_of` by the start and the first
-- line. The first line is copied to the front of the scratch, and `join_lines` joins the others to it; the scratch is as long as the
-- text, so both fit.
-- Assumes nothing.
use mathlib.Core.Path.{sym, ◌∙◌}
use native.Mathlib.Omega.{arith}
use lib.ListN.{take}
use Rattle.rst_bytes.proofs.Lists.{as-front}
use Rattle.rst_bytes.proofs.Variants.{ok_or-some, ok_or-none}
use Rattle.restructured_text.proofs.BlockLaws.{from, lent-enough, block_none, block_refused}
use Rattle.restructured_text.proofs.JoinLaws.{first_fits, read_fits, text_fits, rest-room, block-joined}
use Rattle.restructured_text.proofs.block.rst_explicit_markup_block.Goals as goal

pub join_lines-lines-requires : goal.join_lines-lines-requires
join_lines-lines-requires c =
    let start = sym c.block_start.ensures ∙ ok_or-some _ _ c.ok_or.ensures.value c.in_ok-a.was in
    let line = sym c.not_line_ending.ensures ∙ ok_or-some _ _ c.ok_or-2.ensures.value c.in_ok-n.was in
    rest-room _ _ _ _ start line c.args.scratch.now c.if-scratch-s.false _ (as-front (take c.in_ok-n.n (from c.args.s.now c.in_ok-a.a)) c.args.scratch.now c.copy.ensures)

pub returns : goal.returns
returns c =
    let start = sym c.block_start.ensures ∙ ok_or-some _ _ c.ok_or.ensures.value c.in_ok-a.was in
    let line = sym c.not_line_ending.ensures ∙ ok_or-some _ _ c.ok_or-2.ensures.value c.in_ok-n.was in
    block-joined _ _ _ _ start line c.args.scratch.now c.if-scratch-s.false _ (as-front (take c.in_ok-n.n (from c.args.s.now c.in_ok-a.a)) c.args.scratch.now c.copy.ensures) _ c.space0-i.ensures _ _ _ c.join_lines-lines.auto.d c.join_lines-lines.ensures.len c.join_lines-lines.ensures.read c.join_lines-lines.ensures.text

pub returns-in_err-a : goal.returns-in_err-a
returns-in_err-a c =
    let args = c.args in
    let left = ok_or-none _ _ c.from_residual.result c.ok_or.ensures.value c.in_err-a.was c.from_residual.ensures in
    rw left.1 (sym (lent-enough args.header.now args.s.now args.scratch.now c.if-scratch-s.false ∙ block_none _ _ (sym c.block_start.ensures ∙ left.0)))

pub returns-in_err-n : goal.returns-in_err-n
returns-in_err-n c =
    let args = c.args in
    let start = sym c.block_start.ensures ∙ ok_or-some _ _ c.ok_or.ensures.value c.in_ok-a.was in
    let left = ok_or-none _ _ c.from_residual-in_err-n.result c.ok_or-2.ensures.value c.in_err-n.was c.from_residual-in_err-n.ensures in
    rw left.1 (sym (lent-enough args.header.now args.s.now args.scratch.now c.if-scratch-s.false ∙ block_refused _ _ _ start (sym c.not_line_ending.ensures ∙ left.0)))

pub overflow_add-result : goal.overflow_add-result
overflow_add-result c =
    let start = sym c.block_start.ensures ∙ ok_or-some _ _ c.ok_or.ensures.value c.in_ok-a.was in
    let line = sym c.not_line_ending.ensures ∙ ok_or-some _ _ c.ok_or-2.ensures.value c.in_ok-n.was in
    omega (arith, text_fits _ _ _ _ start line _ _ c.join_lines-lines.ensures.len)

pub overflow_add-result-2 : goal.overflow_add-result-2
overflow_add-result-2 c =
    let start = sym c.block_start.ensures ∙ ok_or-some _ _ c.ok_or.ensures.value c.in_ok-a.was in
    let line = sym c.not_line_ending.ensures ∙ ok_or-some _ _ c.ok_or-2.ensures.value c.in_ok-n.was in
    omega (arith, first_fits _ _ _ _ start line)

pub overflow_add-result-3 : goal.overflow_add-result-3
overflow_add-result-3 c =
    let start = sym c.block_start.ensures ∙ ok_or-some _ _ c.ok_or.ensures.value c.in_ok-a.was in
    let line = sym c.not_line_ending.ensures ∙ ok_or-some _ _ c.ok_or-2.ensures.value c.in_ok-n.was in
    omega (arith, read_fits _ _ _ _ start line _ _ c.join_lines-lines.ensures.read)
