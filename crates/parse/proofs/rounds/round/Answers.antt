-- `rounds::round` meets its contract: LFs, a block, blanks, and then the rest of the round, each as many bytes behind the one before
-- as that took.
-- Assumes nothing.
use Rattle.std.proofs.Common.{Option}
use Rattle.parse.specs.declared.Link.{Link}
use Rattle.std.proofs.Common.{◌≡◌, ◌+◌, ◌||◌, ltb, arith, ap, ◌∙◌, rules}
use Rattle.std.specs.declared.ops.ControlFlow.{ControlFlow}
use Rattle.std.specs.declared.ops.ControlFlow.TheVariants.{Break}
use Rattle.parse.specs.Inner.{step_of}
use Rattle.parse.proofs.RoundLaws.{lfs-le, round-lines, blanks-le, line-text}
use Rattle.parse.proofs.rounds.round.Goals as goal

pub overflow_add-place : goal.overflow_add-place
overflow_add-place c =
    let p = c.args.place in
    omega (arith, lfs-le p.text.now _ p.at _ p.inside c.rest.ensures c.newlines-n.ensures)

pub invariant_of-place : goal.invariant_of-place
invariant_of-place c =
    let p = c.args.place in
    record { inside = lfs-le p.text.now _ p.at _ p.inside c.rest.ensures c.newlines-n.ensures; barred = p.barred }

pub returns-in_err-block_step-clause-step : goal.returns-in_err-block_step-clause-step
returns-in_err-block_step-clause-step c =
    let p = c.args.place in
    let e : c.from_residual.result ≡ Break c.in_err-block_step.field-0.0 = search rules in
    let f : c.if-start.line ≡ (c.args.start || ltb 0 c.newlines-n.result) = search rules in
    ap (λ (x : ControlFlow (Option Link) _). step_of x c.block_step.new.scratch) e
    ∙ c.in_err-block_step.ensures.step
    ∙ round-lines p.text.now _ p.at _ p.inside c.rest.ensures c.newlines-n.ensures c.args.start _ f

pub overflow_add-place-2 : goal.overflow_add-place-2
overflow_add-place-2 c =
    let p = c.args.place in
    let h = lfs-le p.text.now _ p.at _ p.inside c.rest.ensures c.newlines-n.ensures in
    omega (arith, blanks-le p.text.now _ (p.at + c.newlines-n.result) _ h c.rest-2.ensures c.space0-m.ensures)

pub invariant_of-place-3 : goal.invariant_of-place-3
invariant_of-place-3 c =
    let p = c.args.place in
    let h = lfs-le p.text.now _ p.at _ p.inside c.rest.ensures c.newlines-n.ensures in
    record { inside = blanks-le p.text.now _ (p.at + c.newlines-n.result) _ h c.rest-2.ensures c.space0-m.ensures; barred = p.barred }

pub returns-clause-step : goal.returns-clause-step
returns-clause-step c =
    let p = c.args.place in
    let h = lfs-le p.text.now _ p.at _ p.inside c.rest.ensures c.newlines-n.ensures in
    let f : c.if-start.line ≡ (c.args.start || ltb 0 c.newlines-n.result) = search rules in
    let g : c.if-line.text_round ≡ (c.if-start.line || ltb 0 c.space0-m.result) = search rules in
    c.text_round.ensures.step
    ∙ line-text p.text.now _ (p.at + c.newlines-n.result) _ h c.rest-2.ensures c.space0-m.ensures c.if-start.line _ g
    ∙ c.in_ok-block_step.ensures.step
    ∙ round-lines p.text.now _ p.at _ p.inside c.rest.ensures c.newlines-n.ensures c.args.start _ f
