-- `rounds::block_step` meets its contract: what `block` finds is the answer; where it finds none, or none is to be read, the round goes on.
-- Assumes nothing.
use Rattle.std.proofs.Common.{Some, ◌≡◌, Bool, true, false, sym, ap, ◌∙◌, rules}
use Rattle.parse.specs.Link.{behind}
use Rattle.parse.specs.Forms.{rst}
use Rattle.parse.specs.Scan.{ends, block_at}
use Rattle.parse.specs.Place.{rest_of}
use Rattle.parse.proofs.OnwardLaws.{after-holds}
use Rattle.parse.proofs.RoundLaws.{is-scanned, line-found, line-blank}
use Rattle.parse.proofs.rounds.block_step.Goals as goal

pub returns-in-Some-clause-step : goal.returns-in-Some-clause-step
returns-in-Some-clause-step c =
    let p = c.args.place in
    let d = c.block.new.scratch in
    let f : c.is_read.result ≡ true = search rules in
    let e = c.block.ensures.scan ∙ ap (λ (b : Bool). behind p.at (block_at rst b (rest_of p))) (sym f) ∙ ap (behind p.at) c.is_read.ensures in
    ap ends (is-scanned c.in-Some.is d) ∙ line-found p.at (rest_of p) c.args.line c.block.result d e _ c.in-Some.is

pub returns-in-Some-clause-known : goal.returns-in-Some-clause-known
returns-in-Some-clause-known c =
    let p = c.args.place in
    let d = c.block.new.scratch in
    after-holds p.text.now p.marks.now d p.at c.args.known.now (Some c.in-Some.x) _ c.requires.known (is-scanned c.in-Some.is d ∙ c.block.ensures.scan)

pub returns-clause-step : goal.returns-clause-step
returns-clause-step c =
    let p = c.args.place in
    let f : c.is_read.result ≡ true = search rules in
    let e = c.block.ensures.scan ∙ ap (λ (b : Bool). behind p.at (block_at rst b (rest_of p))) (sym f) ∙ ap (behind p.at) c.is_read.ensures in
    line-blank p.at (rest_of p) c.args.line (is-scanned c.in_default.is c.block.new.scratch ∙ e)

pub returns-then-not-is_read-clause-step : goal.returns-then-not-is_read-clause-step
returns-then-not-is_read-clause-step c =
    let p = c.args.place in
    let f : c.is_read.result ≡ false = search rules in
    line-blank p.at (rest_of p) c.args.line (ap (λ (b : Bool). behind p.at (block_at rst b (rest_of p))) (sym f) ∙ ap (behind p.at) c.is_read.ensures)
