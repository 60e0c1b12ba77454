-- The worked cases hold: both sides of each fact compute to the same list.
-- Assumes nothing.
use mathlib.Core.Path.{◌≡◌, refl}
use mathlib.Core.List.{List, map}
use Rattle.parse.specs.Links.{links_from, links_of}
use Rattle.parse.proofs.CasesHold as scanning
use Rattle.iterator.specs.Collect.{decimal, is_anonymous, collect_from}
use Rattle.iterator.specs.Resolve.{same, lookup, search, resolve_from, resolve_references}
use Rattle.iterator.specs.Records.{records_from}
use Rattle.iterator.specs.Document.{Verdict, verdict_of, Answer}
use Rattle.iterator.specs.Cases.{Case, outcome, expected, worked, refusals, shown}
use Rattle.iterator.specs.Cases.{numbering, storing, rendering, limits, longest, Ending, endings}

-- the outcomes of a list's calls; its line names all that computing them goes through, and whoever unfolds it unfolds that
unfoldable pub outcomes : List Case → List Verdict
unfolding scanning.outcomes links_from links_of decimal is_anonymous collect_from same lookup search resolve_from resolve_references records_from verdict_of
outcomes cases = map outcome cases

worked-hold : outcomes worked ≡ map expected worked
unfolding outcomes
worked-hold = refl

refusals-hold : outcomes refusals ≡ map expected refusals
unfolding outcomes
refusals-hold = refl

shown-hold : outcomes shown ≡ map expected shown
unfolding outcomes
shown-hold = refl

numbering-hold : outcomes numbering ≡ map expected numbering
unfolding outcomes
numbering-hold = refl

storing-hold : outcomes storing ≡ map expected storing
unfolding outcomes
storing-hold = refl

rendering-hold : outcomes rendering ≡ map expected rendering
unfolding outcomes
rendering-hold = refl

limits-hold : outcomes limits ≡ map expected limits
unfolding outcomes
limits-hold = refl

longest-hold : outcomes longest ≡ map expected longest
unfolding outcomes
longest-hold = refl

-- how a list's calls end
ended : List Ending → List Answer
unfolding outcomes
ended cases = map (λ (e : Ending). e.is) cases

endings-hold : ended endings ≡ map (λ (e : Ending). e.should) endings
unfolding ended outcomes
endings-hold = refl
