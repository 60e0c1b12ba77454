-- `rounds::reference_round` meets its contract: where (d) finds nothing what (e) finds is the answer, and where that is nothing (f) passes on.
-- Assumes nothing.
use Rattle.std.proofs.Common.{sym, ap, ◌∙◌}
use Rattle.parse.specs.Link.{behind}
use Rattle.parse.specs.Scan.{ends}
use Rattle.parse.specs.Place.{rest_of}
use Rattle.parse.proofs.RoundLaws.{is-scanned, text-found, text-passed}
use Rattle.parse.proofs.BacktickLaws.{unlinked-inline}
use Rattle.parse.proofs.rounds.reference_round.Goals as goal

pub returns-in-Some-clause-step : goal.returns-in-Some-clause-step
returns-in-Some-clause-step c =
    let p = c.args.place in
    let r = c.reference_at in
    let e = r.ensures.scan ∙ ap (behind p.at) (sym (unlinked-inline c.args.spaced p.text.now p.at c.requires.inside c.requires.none)) in
    ap ends (is-scanned c.in-Some.is r.new.scratch) ∙ text-found p.at (rest_of p) c.args.spaced r.result r.new.scratch e _ c.in-Some.is

pub returns-in-None-clause-step : goal.returns-in-None-clause-step
returns-in-None-clause-step c =
    let p = c.args.place in
    let r = c.reference_at in
    let e = r.ensures.scan ∙ ap (behind p.at) (sym (unlinked-inline c.args.spaced p.text.now p.at c.requires.inside c.requires.none)) in
    text-passed p.at (rest_of p) c.args.spaced _ (is-scanned c.in-None.is r.new.scratch ∙ e) c.passed.ensures
