-- `rounds::passed` meets its contract: one byte, and then as many as `plain` counts from the next place on.
-- Assumes nothing.
use Rattle.std.proofs.Common.{ℕ, ◌+◌, sym, ap, ◌∙◌, arith, drop, length-drop}
use Rattle.rst_bytes.specs.Line.{bytes_from}
use Rattle.rst_bytes.proofs.LineLaws.{bytes-within}
use Rattle.parse.specs.Scan.{passes, is_plain}
use Rattle.parse.proofs.RoundLaws.{passed-at}
use Rattle.parse.proofs.rounds.passed.Goals as goal

pub overflow_add-result-2 : goal.overflow_add-result-2
overflow_add-result-2 c =
    let p = c.args.place in
    let e = c.plain-n.ensures ∙ ap (bytes_from is_plain 0) c.further.ensures in
    omega (arith, e, bytes-within is_plain (drop (p.at + 1) p.text.now), length-drop (p.at + 1) p.text.now, c.requires)

pub returns : goal.returns
returns c =
    let p = c.args.place in
    passed-at p.text.now p.at c.requires ∙ ap (λ (n : ℕ). passes (p.at + 1 + n)) (sym (c.plain-n.ensures ∙ ap (bytes_from is_plain 0) c.further.ensures))
