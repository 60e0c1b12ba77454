-- `buffers::is_place` meets its contract: at the end, and else by the character that starts there.
-- Assumes nothing.
use Rattle.std.proofs.Common.{◌∙◌, ap}
use Rattle.std.specs.Prelude.{is_some}
use Rattle.parse.proofs.SingleLaws.{place_end, place-else}
use Rattle.parse.proofs.buffers.is_place.Goals as goal

pub returns-then-place-document : goal.returns-then-place-document
returns-then-place-document c = place_end _ _ c.if-place-document.true

pub returns-else-place-document : goal.returns-else-place-document
returns-else-place-document c = c.is_some.ensures ∙ ap is_some c.char_at.ensures ∙ place-else _ _ c.if-place-document.false
