-- `rounds::inline_at` meets its contract: what `embedded` finds is the answer; where it finds none, what `reference_at` finds is.
-- Assumes nothing.
use Rattle.std.proofs.Common.{◌∙◌}
use Rattle.parse.specs.Place.{rest_of}
use Rattle.parse.proofs.RoundLaws.{is-scanned, inline-embedded, inline-reference}
use Rattle.parse.proofs.rounds.inline_at.Goals as goal

pub returns-in-Some-clause-scan : goal.returns-in-Some-clause-scan
returns-in-Some-clause-scan c =
    let p = c.args.place in
    is-scanned c.in-Some.is c.embedded.new.scratch ∙ inline-embedded p.at (rest_of p) c.args.spaced c.embedded.result c.embedded.new.scratch c.embedded.ensures.scan _ c.in-Some.is

pub returns-clause-scan : goal.returns-clause-scan
returns-clause-scan c =
    let p = c.args.place in
    inline-reference p.at (rest_of p) c.args.spaced c.embedded.result c.embedded.new.scratch c.embedded.ensures.scan _ c.in_default.is c.reference_at.ensures.scan
