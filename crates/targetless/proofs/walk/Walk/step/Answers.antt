-- LF and CR end a line, and any other byte goes on with the runs.
use Rattle.std.proofs.Common.{◌≡◌, get_or, drop, sym, ap, ◌∙◌, refl, subst, arith}
use mathlib.Core.Path.{subst⁻¹}
use Rattle.rst_bytes.specs.Line.{is_space}
use Rattle.targetless.specs.Verdict.{Tells}
use Rattle.targetless.specs.Runs.{is_dead, StateTells}
use Rattle.targetless.proofs.TextLaws.{first-is, ends-none}
use Rattle.targetless.proofs.StateLaws.{state-passed}
use Rattle.targetless.proofs.WalkLaws.{walked-blank, walked-byte}
use Rattle.targetless.proofs.walk.Walk.step.Goals as goal
use Rattle.targetless.proofs.walk.Walk.step.Goals.{in-96-1, in-58-1, in-92-1}

pub at_stop-requires-clause-solid : goal.at_stop-requires-clause-solid
unfolding is_space
at_stop-requires-clause-solid c =
    elim c.in-96-1.branch [
      | in-96-1 w ↦ let e : get_or c.args.v.now 0 0 ≡ 0x60 = omega arith in ap is_space e
      | in-58-1 w ↦ let e : get_or c.args.v.now 0 0 ≡ 0x3A = omega arith in ap is_space e
      | in-92-1 w ↦ let e : get_or c.args.v.now 0 0 ≡ 0x5C = omega arith in ap is_space e
    ]

pub returns-then-not-is_space : goal.returns-then-not-is_space
returns-then-not-is_space c =
    let v = c.args.v.now in
    let b = get_or v 0 0 in
    let w = c.args.self.now in
    let line = ends-none b (λ e. omega arith) (λ e. omega arith) in
    let is = first-is v b (omega arith) refl in
    rw c.longer-self.ensures
    (walked-byte v w _ (omega arith) line c.requires
    (subst⁻¹ (StateTells _ _) is (state-passed w.near b (drop 1 v) line (λ e. omega arith) (λ e. omega arith) (λ e. omega arith) c.requires.near _ (subst (Tells _ is_dead _) is c.target_at-target.ensures)))
    (sym c.is_space.ensures ∙ c.if-not-is_space.true))

pub returns-else-not-is_space : goal.returns-else-not-is_space
returns-else-not-is_space c =
    let v = c.args.v.now in
    let b = get_or v 0 0 in
    let w = c.args.self.now in
    let line = ends-none b (λ e. omega arith) (λ e. omega arith) in
    let is = first-is v b (omega arith) refl in
    rw c.longer-self.ensures
    (walked-blank v w _ (omega arith) line c.requires
    (subst⁻¹ (StateTells _ _) is (state-passed w.near b (drop 1 v) line (λ e. omega arith) (λ e. omega arith) (λ e. omega arith) c.requires.near _ (subst (Tells _ is_dead _) is c.target_at-target.ensures)))
    (sym c.is_space.ensures ∙ c.if-not-is_space.false))
