-- What is kept at each place is true, and where a mark is set no target starts.
use Rattle.std.proofs.Common.{◌-◌, ◌+◌, take, ◌++◌, length, drop, replicate, ◌≡◌, subst, ap, take-append-drop, ◌∙◌, arith, rules}
use mathlib.Core.Path.{subst⁻¹}
use Rattle.std.proofs.Math.Seq.{drop-length}
use Rattle.rst_bytes.proofs.Lists.{part-from}
use Rattle.restructured_text.proofs.BlockLaws.{from}
use Rattle.targetless.specs.Targetless.{NoTarget, Marks}
use Rattle.targetless.specs.Walk.{Walked}
use Rattle.targetless.proofs.WalkLaws.{walked-rest, walked-behind, marks-none, marks-more}
use Rattle.targetless.proofs.mark.Goals as goal
use Rattle.targetless.proofs.mark.Goals.{in-Some, in_default}

pub loop-i-init : goal.loop-i-init
loop-i-init c =
    let s = c.args.s.now in
    let zero : c.fill.new.self ≡ replicate (length c.args.marks.now) 0 = search rules in
    record {
      walked = subst⁻¹ (Walked _) (drop-length s) c.end-walk.ensures;
      marked = subst⁻¹ (λ l. Marks l s) zero (marks-none (length c.args.marks.now) s);
      room = c.if-marks-s.false;
    }

pub free_before-requires : goal.free_before-requires
free_before-requires c = walked-rest c.loop-i.walk c.args.s.now c.loop-i.i c.loop-i-test.true c.loop-i.invariant.walked

pub step-requires : goal.step-requires
step-requires c = walked-behind c.loop-i.walk c.args.s.now c.loop-i.i c.loop-i-test.true c.loop-i.invariant.walked

pub loop-i-preserved : goal.loop-i-preserved
loop-i-preserved c =
    let s = c.args.s.now in
    let n = c.loop-i.i - 1 + 1 in
    let whole : take n s ++ from s n ≡ s = ap (λ l. take n s ++ l) (part-from s n) ∙ take-append-drop n s in
    record {
      walked = subst (Walked c.step.new.self) (part-from c.args.s.now (c.loop-i.i - 1)) c.step.ensures;
      marked =
          elim c.match-free_before.branch [
            | in-Some w ↦ subst⁻¹ (λ l. Marks l s) w.marks-is (marks-more c.loop-i.marks s w.in-Some.k (subst (λ l. NoTarget (drop w.in-Some.k l)) whole w.in-Some.ensures.1) c.loop-i.invariant.marked)
            | in_default w ↦ subst⁻¹ (λ l. Marks l s) w.marks-is c.loop-i.invariant.marked
          ];
      room = omega (arith, c.loop-i.invariant.room);
    }

pub returns : goal.returns
returns c = c.loop-i.invariant.marked
