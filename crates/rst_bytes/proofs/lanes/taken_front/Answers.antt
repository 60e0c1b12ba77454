-- `lanes::taken_front` meets its contract: the bits of the bytes that are taken along are tested to be those behind backslashes.
-- Assumes nothing.
use Rattle.std.proofs.Common.{refl}
use Rattle.rst_bytes.specs.Escaped.{taking}
use Rattle.rst_bytes.proofs.LanesLaws.{up_first, taken-lanes}
use Rattle.rst_bytes.proofs.lanes.taken_front.Goals as goal

pub returns-then-escaped-slashes-clause-taken : goal.returns-then-escaped-slashes-clause-taken
unfolding taking
returns-then-escaped-slashes-clause-taken c = refl

pub before_escape-requires-clause-first : goal.before_escape-requires-clause-first
before_escape-requires-clause-first c = up_first c.behind-escaped.result _ c.if-escaped-slashes.false

pub returns : goal.returns
returns c =
    let w =
    taken-lanes c.args.p c.args.q c.args.v c.equal_to-slashes.result c.stops.result c.escapables.result c.behind-escaped.result c.fits-v.0 c.behind-escaped.type_inv c.escapables.type_inv c.equal_to-slashes.ensures c.stops.ensures c.escapables.ensures c.if-escaped-slashes.false c.lowest.result c.lowest.ensures.within c.lowest.ensures.below c.before_escape.result c.before_escape.ensures in
    record { within = w.0; taken = w.1 }
