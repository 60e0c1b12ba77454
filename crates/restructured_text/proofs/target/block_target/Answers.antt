-- `target::block_target` meets its contract: the reader of `.. ` blocks and then that of `__ ` blocks say whether the scratch is
-- enough and what the block's text is. A block consumes more bytes than its text has, and no more than there are, which is what
-- `named_target` and `anonymous_target` ask.
-- Assumes nothing.
use mathlib.Core.Path.{ap, ◌∙◌}
use Rattle.std.proofs.Common.{Err}
use native.Mathlib.Omega.{arith}
use Rattle.rst_bytes.proofs.Variants.{err-left}
use Rattle.restructured_text.proofs.TargetLaws.{block_room, target-named, target-no-room, target-anonymous, target-neither}
use Rattle.restructured_text.proofs.target.block_target.Goals as goal

pub named_target-requires : goal.named_target-requires
named_target-requires c =
    let s = c.args in
    let w = block_room _ s.s.now s.scratch.now _ _ _ _ c.rst_explicit_markup_block.auto.scratch c.rst_explicit_markup_block.ensures c.in-Ok.is (omega arith) in
    (omega arith, w.1)

pub anonymous_target-requires : goal.anonymous_target-requires
anonymous_target-requires c =
    let s = c.args in
    block_room _ s.s.now c.rst_explicit_markup_block.new.scratch _ _ _ _ c.rst_explicit_markup_block-in-Err-NotFound.auto.scratch c.rst_explicit_markup_block-in-Err-NotFound.ensures c.in_ok-len-in-Err-NotFound.was (omega arith)

pub returns-in-Ok : goal.returns-in-Ok
returns-in-Ok c =
    let s = c.args in
    target-named s.s.now s.scratch.now _ _ c.rst_explicit_markup_block.auto.scratch c.rst_explicit_markup_block.ensures _ _ c.in-Ok.is c.named_target.new.d c.named_target.result c.named_target.ensures

pub returns-in_ok-len-in-Err-NotFound : goal.returns-in_ok-len-in-Err-NotFound
returns-in_ok-len-in-Err-NotFound c =
    let s = c.args in
    target-anonymous s.s.now s.scratch.now _ _ c.rst_explicit_markup_block.auto.scratch c.rst_explicit_markup_block.ensures (c.in-Err-NotFound.is ∙ ap Err c.in-Err-NotFound.field-0-is) _ _ c.rst_explicit_markup_block-in-Err-NotFound.ensures _ _ c.in_ok-len-in-Err-NotFound.was c.anonymous_target.new.d c.anonymous_target.result c.anonymous_target.ensures

pub returns-in_err-len-in-Err-NotFound : goal.returns-in_err-len-in-Err-NotFound
returns-in_err-len-in-Err-NotFound c =
    let s = c.args in
    rw (err-left c.from_residual.result c.from_residual.ensures) (target-neither s.s.now s.scratch.now _ _ c.rst_explicit_markup_block.auto.scratch c.rst_explicit_markup_block.ensures (c.in-Err-NotFound.is ∙ ap Err c.in-Err-NotFound.field-0-is) _ _ c.rst_explicit_markup_block-in-Err-NotFound.ensures c.rst_explicit_markup_block-in-Err-NotFound.new.scratch _ c.in_err-len-in-Err-NotFound.was)

pub returns-in-Err-NoRoom : goal.returns-in-Err-NoRoom
returns-in-Err-NoRoom c =
    let s = c.args in
    target-no-room s.s.now s.scratch.now _ _ c.rst_explicit_markup_block.auto.scratch c.rst_explicit_markup_block.ensures (c.in-Err-NoRoom.is ∙ ap Err c.in-Err-NoRoom.field-0-is)
