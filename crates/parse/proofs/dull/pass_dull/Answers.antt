-- `dull::pass_dull` meets its contract: such text is passed, or blanks before a byte at which no reference begins, and such text behind them.
-- Assumes nothing.
use Rattle.std.proofs.Common.{ℕ, ◌≡◌, ◌<◌, ◌+◌, true, length, drop, get_or, ap, ◌∙◌, rules, arith}
use lib.ListN.{length-drop}
use Rattle.rst_bytes.specs.Line.{is_space, space0_of}
use Rattle.rst_bytes.proofs.Lists.{part-from}
use Rattle.rst_bytes.proofs.LineLaws.{bytes-within}
use Rattle.parse.specs.Inner.{is_void}
use Rattle.parse.proofs.DullLaws.{dull-passes, void-passes}
use Rattle.parse.proofs.dull.pass_dull.Goals as goal

pub returns-then-i-j : goal.returns-then-i-j
returns-then-i-j c = dull-passes c.args.s.now c.args.barren c.dull_end-j.result c.args.i c.if-i-j.true c.requires.barren c.dull_end-j.ensures

pub overflow_add-c : goal.overflow_add-c
overflow_add-c c =
    let s = c.args.s.now in
    record { fits = omega (arith, c.requires.inside, c.space0.ensures ∙ ap space0_of (part-from s c.args.i), bytes-within is_space (drop c.args.i s), length-drop c.args.i s) }

pub returns-in-Some : goal.returns-in-Some
returns-in-Some c =
    let s = c.args.s.now in
    let i = c.args.i in
    let is = ap (λ (n : ℕ). i + n) (c.space0.ensures ∙ ap space0_of (part-from s i)) in
    let h : i + c.space0.result < length s = search rules in
    let v : is_void (get_or s (i + c.space0.result) 0) ≡ true = search rules in
    void-passes s c.args.barren c.dull_end.result i (i + c.space0.result) is c.if-i-c.true h v c.requires.barren c.dull_end.ensures
