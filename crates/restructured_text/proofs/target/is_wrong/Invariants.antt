-- `target::is_wrong` meets its contract. The loop's invariant: the text is refused if what is left of it is. The measure is what is left.
-- Assumes nothing.
use mathlib.Core.Path.{◌≡◌}
use lib.ListN.{length}
use Rattle.restructured_text.specs.Inner.{is_refused}
use Rattle.restructured_text.specs.Transform.{kept_of}
use Rattle.restructured_text.proofs.target.is_wrong.Given as goal

abbrev pub invariant-loop-rest : goal.invariant-loop-rest
invariant-loop-rest l = is_refused (kept_of l.d) ≡ is_refused (kept_of l.rest)

abbrev pub decreases-loop-rest : goal.decreases-loop-rest
decreases-loop-rest l = length l.rest
