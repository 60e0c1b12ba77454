-- A target that begins no label is a destination; one that begins with a backtick is a label or a destination.
use Rattle.std.proofs.Common.{drop, sym, ◌∙◌, arith}
use mathlib.Core.Path.{subst⁻¹}
use Rattle.rst_bytes.proofs.Lists.{part-from}
use Rattle.restructured_text.proofs.BlockLaws.{from}
use Rattle.targetless.specs.Verdict.{Tells}
use Rattle.targetless.specs.Runs.{is_dead, destination_run}
use Rattle.targetless.proofs.TextLaws.{first-is, first-from}
use Rattle.targetless.proofs.VerdictLaws.{tells-nothing}
use Rattle.targetless.proofs.StateLaws.{target-two, target-ticked, target-plain}
use Rattle.targetless.proofs.walk.Walk.target_at.Goals as goal

pub returns-in_default : goal.returns-in_default
returns-in_default c = tells-nothing _ _

pub returns-in_default-b : goal.returns-in_default-b
returns-in_default-b c = tells-nothing _ _

pub returns-in-96-rest : goal.returns-in-96-rest
returns-in-96-rest c =
    let v = c.args.v.now in
    let d = c.args.self.now.near.destination in
    subst⁻¹ (Tells _ is_dead d) (first-from v 96 (omega arith) c.in-96.is)
    (target-two (from v 1) d (omega arith) (omega arith) (subst⁻¹ (Tells _ destination_run d) (part-from v 1) c.requires.walked.near.destination))

pub returns-in_default-rest : goal.returns-in_default-rest
returns-in_default-rest c =
    let p = c.requires.walked.near in
    rw c.bitand.ensures
    (subst⁻¹ (Tells _ is_dead _) (first-is c.args.v.now 96 (omega arith) c.in-96.is)
    (target-ticked (drop 1 c.args.v.now) c.args.self.now.near.destination c.no_label.result p.destination (c.no_label.ensures _ p)))

pub returns-in_default-2 : goal.returns-in_default-2
returns-in_default-2 c = tells-nothing _ _

pub returns-in_default-3 : goal.returns-in_default-3
returns-in_default-3 c =
    target-plain c.args.v.now c.args.self.now.near.destination (omega arith) c.requires.line (λ e. omega arith) (λ e. omega arith) (sym c.is_word_label.ensures ∙ c.if-is_word_label.false) c.requires.walked.near.destination

pub returns-in-92 : goal.returns-in-92
returns-in-92 c = tells-nothing _ _
