-- Each way is one of what may stand behind the backslash.
use Rattle.std.proofs.Common.{sym, ◌∙◌, arith}
use Rattle.targetless.proofs.EscapeLaws.{state-ended, state-paired, state-wrong}
use Rattle.targetless.proofs.walk.Walk.escaped.Goals as goal

pub returns-in-len1-up : goal.returns-in-len1-up
returns-in-len1-up c = rw c.ended.ensures (state-ended c.args.rest.now (omega arith) c.args.self.now.near (sym c.ends_line.ensures ∙ c.if-ends_line.true) c.requires.near)

pub returns-in-len1-up-2 : goal.returns-in-len1-up-2
returns-in-len1-up-2 c =
    rw (c.paired.ensures, c.is_destination_escapable.ensures)
    (state-paired c.args.rest.now (omega arith) c.args.self.now.far (sym c.ends_line.ensures ∙ c.if-ends_line.false) (sym c.is_escapable.ensures ∙ c.if-is_escapable.true) c.requires.far)

pub returns-in_default : goal.returns-in_default
returns-in_default c = state-wrong c.args.rest.now (λ h. absurd (omega arith))

pub returns-in_default-2 : goal.returns-in_default-2
returns-in_default-2 c = state-wrong c.args.rest.now (λ h. (sym c.ends_line.ensures ∙ c.if-ends_line.false, sym c.is_escapable.ensures ∙ c.if-is_escapable.false))
