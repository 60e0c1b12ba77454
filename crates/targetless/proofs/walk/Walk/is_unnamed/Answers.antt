-- An empty name, one in backticks and a plain one are each told by the verdicts at the next places.
use Rattle.std.proofs.Common.{length, inl, inr, sym, ◌∙◌, arith}
use Rattle.targetless.proofs.CandidateLaws.{judged-then, told-empty, told-plain, told-quoted}
use Rattle.targetless.proofs.walk.Walk.is_unnamed.Goals as goal

pub returns-in-58 : goal.returns-in-58
returns-in-58 c r = told-empty c.args.indent.now c.args.rest.now (omega arith) (omega arith)

pub returns-then-plain : goal.returns-then-plain
returns-then-plain c r =
    told-quoted c.args.indent.now c.args.rest.now c.args.on c.requires.blank c.args.self.now c.requires.walked c.requires.on (omega arith) (omega arith)
    (sym (judged-then _ c.args.self.now.far.quoted c.args.on (length c.args.indent.now) c.then_some-size.result c.then_some-size.ensures) ∙ sym c.judged.ensures ∙ c.if-judged.true) (inl (sym (judged-then _ c.args.self.now.near.plain c.args.on (length c.args.indent.now) c.then_some-size.result c.then_some-size.ensures) ∙ sym c.judged-plain.ensures ∙ c.if-plain.true))

pub returns-else-plain : goal.returns-else-plain
returns-else-plain c r =
    told-quoted c.args.indent.now c.args.rest.now c.args.on c.requires.blank c.args.self.now c.requires.walked c.requires.on (omega arith) (omega arith)
    (sym (judged-then _ c.args.self.now.far.quoted c.args.on (length c.args.indent.now) c.then_some-size.result c.then_some-size.ensures) ∙ sym c.judged.ensures ∙ c.if-judged.true) (inr (sym (judged-then _ c.args.self.now.far.closed c.args.on (length c.args.indent.now) c.then_some-size.result c.then_some-size.ensures) ∙ sym c.judged-else-plain.ensures ∙ r))

pub returns-in_default : goal.returns-in_default
returns-in_default c r = told-plain c.args.indent.now c.args.rest.now c.args.on c.requires.blank c.args.self.now c.requires.walked c.requires.on (λ h e. omega arith) (sym (judged-then _ c.args.self.now.near.plain c.args.on (length c.args.indent.now) c.then_some-size.result c.then_some-size.ensures) ∙ sym c.judged-plain.ensures ∙ r)

pub returns-in_default-2 : goal.returns-in_default-2
returns-in_default-2 c r = told-plain c.args.indent.now c.args.rest.now c.args.on c.requires.blank c.args.self.now c.requires.walked c.requires.on (λ h e. omega arith) (sym (judged-then _ c.args.self.now.near.plain c.args.on (length c.args.indent.now) c.then_some-size.result c.then_some-size.ensures) ∙ sym c.judged-plain.ensures ∙ r)
