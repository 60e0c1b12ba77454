-- `dull::dull_end` meets its contract: LF and blanks are sought up to a place, and from there on a byte at which (f) stops.
-- Assumes nothing.
use Rattle.std.proofs.Common.{ℕ, ◌+◌, ap, ◌∙◌, refl, arith, drop, length-drop}
use Rattle.rst_bytes.specs.Line.{bytes_from}
use Rattle.rst_bytes.proofs.Lists.{part-from}
use Rattle.rst_bytes.proofs.LineLaws.{bytes-within}
use Rattle.parse.specs.Scan.{is_plain}
use Rattle.parse.proofs.DullLaws.{dull-before, dull-beyond}
use Rattle.parse.proofs.dull.dull_end.Goals as goal

pub returns-then-j-b : goal.returns-then-j-b
returns-then-j-b c = dull-before c.args.s.now _ c.args.i c.max-b.result c.free_front.result (omega arith) (omega arith) refl c.free_front.ensures.front c.args.barren (λ x. omega arith) c.if-j-b.true

pub overflow_add-result : goal.overflow_add-result
overflow_add-result c =
    let s = c.args.s.now in
    record { fits = omega (arith, c.plain.ensures ∙ ap (bytes_from is_plain 0) (part-from s c.max-b.result), bytes-within is_plain (drop c.max-b.result s), length-drop c.max-b.result s) }

pub returns : goal.returns
returns c =
    let s = c.args.s.now in
    let b = c.max-b.result in
    dull-beyond s _ c.args.i b c.free_front.result (omega arith) (omega arith) refl c.free_front.ensures.front c.args.barren (λ x. omega arith) (omega arith) _ (ap (λ (n : ℕ). b + n) (c.plain.ensures ∙ ap (bytes_from is_plain 0) (part-from s b)))
