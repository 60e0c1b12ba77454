-- `place::Place::may_begin` meets its contract: where nothing starts a target no block begins.
-- Assumes nothing.
use Rattle.std.proofs.Common.{sym, ap, ◌∙◌}
use Rattle.restructured_text.specs.Target.{starts_target}
use Rattle.parse.proofs.BarredLaws.{unstarted}
use Rattle.parse.proofs.place.Place.may_begin.Goals as goal

pub returns-else-starts_target : goal.returns-else-starts_target
returns-else-starts_target c e = unstarted _ (ap starts_target (sym c.further.ensures) ∙ sym c.starts_target.ensures ∙ e)
