-- The runs over labels and quoted names stop at a backtick, and that over plain names at a colon; the others go on.
use Rattle.std.proofs.Common.{arith}
use Rattle.targetless.proofs.StateLaws.{state-passed, state-tick, state-colon}
use Rattle.targetless.proofs.walk.Walk.state_at.Goals as goal

pub returns-in-96 : goal.returns-in-96
returns-in-96 c =
    rw c.in-96.is
    (state-tick c.args.rest.now c.args.self.now.near c.label_stop.result c.quoted_stop.result c.closed_stop.result c.args.target
    c.requires.walked.near (c.label_stop.ensures _) (c.quoted_stop.ensures _ c.requires.walked.near.plain) (c.closed_stop.ensures _) (rw c.in-96.is at c.requires.target))

pub returns-in-58 : goal.returns-in-58
returns-in-58 c =
    rw (c.in-58.is, c.longer.ensures)
    (state-colon c.args.rest.now c.args.self.now.near c.plain_stop.result c.args.target c.requires.walked.near c.plain_stop.ensures (rw c.in-58.is at c.requires.target))

pub returns-in_default : goal.returns-in_default
returns-in_default c =
    rw c.longer.ensures
    (state-passed c.args.self.now.near c.args.b c.args.rest.now c.requires.line (λ e. omega arith) (λ e. omega arith) (λ e. omega arith) c.requires.walked.near c.args.target c.requires.target)

pub returns-in-92 : goal.returns-in-92
returns-in-92 c = rw c.in-92.is c.escaped.ensures
