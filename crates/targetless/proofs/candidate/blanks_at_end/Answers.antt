-- Behind the last byte that is none there are blanks.
use Rattle.std.proofs.Common.{◌≡◌, ℕ, ◌+◌, ◌<◌, ◌≤◌, true, length, get_or, ap, ◌∙◌, arith, rules, length-drop, get_or-drop}
use Rattle.rst_bytes.specs.Line.{is_space}
use Rattle.targetless.proofs.candidate.blanks_at_end.Goals as goal

pub returns-clause-blank : goal.returns-clause-blank
returns-clause-blank c i h =
    let s = c.args.s.now in
    let k = c.map_or.result in
    let blank : (j : ℕ) → k ≤ j → j < length s → is_space (get_or s j 0) ≡ true = search rules in
    ap is_space (get_or-drop k s i 0) ∙ blank (k + i) (omega arith) (omega (arith, h, length-drop k s))
