-- `backtick::part_end` meets its contract. The loop's invariant: a part from behind a backtick before i runs on to i. One law for each way
-- through the body and for each end of a part. The measure is what is left.
-- Assumes nothing.
use Rattle.std.proofs.Common.{◌≡◌, ◌+◌, ◌<◌, length, get_or, arith, rules, false, true}
use Rattle.rst_bytes.specs.Escaped.{is_escapable}
use Rattle.rst_bytes.proofs.EscapedLaws.{front-within, front-taken}
use Rattle.parse.proofs.BacktickLaws.{runs-shut, runs-to, runs-start, runs-plain, runs-pair, runs-front, unclosed-end, unclosed-alone, unclosed-wrong, unclosed-tick}
use Rattle.parse.proofs.backtick.part_end.Goals as goal

pub loop-i-init : goal.loop-i-init
loop-i-init c = (omega arith, runs-start _)

pub returns-in-96 : goal.returns-in-96
returns-in-96 c =
    let s = c.args.s.now in
    let i = c.loop-i.i in
    (c.loop-i.invariant.0, omega arith, runs-to s i c.loop-i.invariant.1 (omega arith) (search rules))

pub returns-in-96-2 : goal.returns-in-96-2
returns-in-96-2 c =
    let s = c.args.s.now in
    let i = c.loop-i.i in
    let f : i + 1 < length s → get_or s (i + 1) 0 ≡ 0x5F → ⊥ = search rules in
    (c.loop-i.invariant.0, omega arith, runs-shut s i c.loop-i.invariant.1 (unclosed-tick s i (omega arith) (search rules) f) i (omega arith))

pub loop-i-preserved-then-is_escapable : goal.loop-i-preserved-then-is_escapable
loop-i-preserved-then-is_escapable c =
    let s = c.args.s.now in
    let i = c.loop-i.i in
    let h : i + 1 < length s = search rules in
    let e : is_escapable (get_or s (i + 1) 0) ≡ true = search rules in
    let f = c.escaped_front-i in (
      omega arith,
      runs-front s (i + 2) f.result (runs-pair s i c.loop-i.invariant.1 (omega arith) h c.in-92.is e)
          (front-within 0x60 0x60 s (i + 2) f.result (omega arith) f.ensures.within f.ensures.taken)
          (front-taken 0x60 0x60 s (i + 2) f.result (omega arith) f.ensures.within f.ensures.taken),
    )

pub returns-in_default-get : goal.returns-in_default-get
returns-in_default-get c =
    let s = c.args.s.now in
    let i = c.loop-i.i in
    let h : i + 1 < length s = search rules in
    let e : is_escapable (get_or s (i + 1) 0) ≡ false = search rules in
    (c.loop-i.invariant.0, omega arith, runs-shut s i c.loop-i.invariant.1 (unclosed-wrong s i h c.in-92.is e) i (omega arith))

pub returns-in_default-get-2 : goal.returns-in_default-get-2
returns-in_default-get-2 c =
    let s = c.args.s.now in
    let i = c.loop-i.i in
    (c.loop-i.invariant.0, omega arith, runs-shut s i c.loop-i.invariant.1 (unclosed-alone s i (omega arith) (search rules) c.in-92.is) i (omega arith))

pub loop-i-preserved : goal.loop-i-preserved
loop-i-preserved c =
    let s = c.args.s.now in
    let i = c.loop-i.i in
    let f = c.escaped_front-i-in_default in (
      omega arith,
      runs-front s (i + 1) f.result (runs-plain s i c.loop-i.invariant.1 (omega arith) (search rules) (search rules))
          (front-within 0x60 0x60 s (i + 1) f.result (omega arith) f.ensures.within f.ensures.taken)
          (front-taken 0x60 0x60 s (i + 1) f.result (omega arith) f.ensures.within f.ensures.taken),
    )

pub returns : goal.returns
returns c =
    let s = c.args.s.now in
    let i = c.loop-i.i in
    (c.requires.0, omega arith, runs-shut s i c.loop-i.invariant.1 (unclosed-end s i (omega arith)) (length s) (omega arith))
