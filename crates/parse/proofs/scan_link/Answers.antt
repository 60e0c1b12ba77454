-- `scan_link` meets its contract. The loop's invariant: the scan from the front is that from i on, i bytes being skipped, and what is
-- known holds from i on, with the marks as they are. Calm text is passed; the marks may be written, and what is known holds then too; a
-- round ends the scan, or passes some bytes: the measure is what is left.
-- Where it ends with a link, what was known in front of it is true behind it, and what is told of blocks there is true.
-- Assumes nothing.
use Rattle.std.proofs.Common.{refl, sym, ◌∙◌, arith}
use Rattle.parse.specs.Forms.{rst}
use Rattle.parse.specs.Scan.{scan_with, scan_of}
use Rattle.parse.proofs.ScanLaws.{rounds-end}
use Rattle.parse.proofs.OnwardLaws.{found_within}
use Rattle.parse.proofs.RoundLaws.{scanned_is, step-stops, step-passes, lent-enough}
use Rattle.parse.proofs.scan_link.Goals as goal

pub loop-i-init : goal.loop-i-init
unfolding scan_of scan_with
loop-i-init c =
    record {
      inside = omega arith;
      room = refl;
      scan = refl;
      known = c.requires.known;
      marks = refl;
    }

pub invariant_of-place : goal.invariant_of-place
invariant_of-place c =
    let v = c.loop-i.invariant in
    record { inside = v.inside; barred = (c.mark.ensures _ v.known).3 }

pub round-requires : goal.round-requires
round-requires c =
    let v = c.loop-i.invariant in
    record { room = omega (arith, v.room, c.if-scratch-s.false); known = c.mark.ensures _ v.known }

pub next_of-requires : goal.next_of-requires
next_of-requires c =
    let s = c.args.s.now in
    let l = c.loop-i in
    let r = c.round in
    found_within s l.i l.input_start r.new.scratch _ l.invariant.inside (step-stops l.input_start s l.i c.loop-i-test.true r.result r.new.scratch r.ensures.step _ c.in-Break.is)

pub returns-in-Break-clause-scan : goal.returns-in-Break-clause-scan
returns-in-Break-clause-scan c =
    let w = c.args in
    let l = c.loop-i in
    let r = c.round in
    scanned_is _ _ r.new.scratch c.next_of.ensures.scan
    ∙ step-stops l.input_start w.s.now l.i c.loop-i-test.true r.result r.new.scratch r.ensures.step _ c.in-Break.is
    ∙ sym l.invariant.scan
    ∙ lent-enough w.s.now w.scratch.now (scan_of w.s.now) c.if-scratch-s.false

pub loop-i-smaller : goal.loop-i-smaller
loop-i-smaller c =
    let l = c.loop-i in
    let r = c.round in
    let p = step-passes l.input_start c.args.s.now l.i c.loop-i-test.true r.result r.new.scratch r.ensures.step _ c.in-Continue.is in
    omega (arith, p.1, p.2)

pub loop-i-preserved : goal.loop-i-preserved
loop-i-preserved c =
    let l = c.loop-i in
    let r = c.round in
    let p = step-passes l.input_start c.args.s.now l.i c.loop-i-test.true r.result r.new.scratch r.ensures.step _ c.in-Continue.is in
    record {
      inside = p.2;
      room = omega (arith, l.invariant.room, r.auto.scratch);
      scan = l.invariant.scan ∙ p.0;
      known = c.in-Continue.ensures.known;
      marks = omega (arith, l.invariant.marks, c.mark.auto.marks);
    }

pub returns-clause-scan : goal.returns-clause-scan
returns-clause-scan c =
    let w = c.args in
    let l = c.loop-i in
    sym (l.invariant.scan ∙ rounds-end rst l.input_start w.s.now l.i (omega arith)) ∙ lent-enough w.s.now w.scratch.now (scan_of w.s.now) c.if-scratch-s.false

pub returns-in-Break-clause-known : goal.returns-in-Break-clause-known
returns-in-Break-clause-known c = c.next_of.ensures.known c.mark.new.marks c.in-Break.ensures.known
