-- `barren::unbracketed` meets its contract. The loop's invariant: i is at most the length, and no embedded link begins before it; the
-- measure is what is left. A part that has one < before its close is left undecided.
-- Assumes nothing.
use Rattle.std.proofs.Common.{◌≡◌, ◌+◌, ◌<◌, sym, ap, ◌∙◌, length, get_or, length-drop, arith, rules}
use Rattle.rst_bytes.proofs.Lists.{part-from}
use Rattle.rst_bytes.proofs.EscapedLaws.{taking-le}
use Rattle.parse.proofs.BarrenLaws.{loop-tick, loop-opened}
use Rattle.parse.proofs.barren.unbracketed.Goals as goal

pub overflow_add-j : goal.overflow_add-j
overflow_add-j c =
    let s = c.args.s.now in
    let l = c.loop-i in
    omega (arith, taking-le 0x60 0x3C _ _ (sym c.marked.ensures ∙ c.in-Some.is), ap length (part-from s l.i), length-drop l.i s)

pub returns-in-Some-eq96-clause-barren : goal.returns-in-Some-eq96-clause-barren
returns-in-Some-eq96-clause-barren c =
    let s = c.args.s.now in
    let l = c.loop-i in
    let j = l.i + c.in-Some.n in
    let h : j < length s = search rules in
    let b : get_or s j 0 ≡ 0x60 = search rules in
    loop-tick s l.i l.invariant.1 _ (part-from s l.i) _ (sym c.marked.ensures ∙ c.in-Some.is) h b

pub loop-i-preserved : goal.loop-i-preserved
loop-i-preserved c =
    let s = c.args.s.now in
    let l = c.loop-i in
    let j = l.i + c.in-Some.n in
    let h : j < length s = search rules in
    let b : get_or s j 0 ≡ 0x60 → ⊥ = search rules in
    (omega arith, loop-opened s l.i l.invariant.1 _ (part-from s l.i) _ (sym c.marked.ensures ∙ c.in-Some.is) h b _ (part-from s _) (c.is_opened.ensures c.if-is_opened.true))
