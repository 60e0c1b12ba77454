-- `barren::unlinked` meets its contract: no > stands at the close, or no < before it, so that the backtick at the front begins no link.
-- Assumes nothing.
use Rattle.std.proofs.Common.{ℕ, Some, ◌≡◌, ◌<◌, ◌+◌, refl, false, sym, ap, ◌∙◌, length, get_or, drop, length-drop, rules, arith}
use lib.Seq.{get_or-drop}
use Rattle.rst_bytes.specs.Escaped.{taking}
use Rattle.rst_bytes.proofs.Lists.{part-from}
use Rattle.rst_bytes.proofs.EscapedLaws.{taking-le}
use Rattle.parse.proofs.BarrenLaws.{unbracketed-none, barren-first, barren-unangled}
use Rattle.parse.proofs.barren.unlinked.Goals as goal

pub returns-then-s-n-ne62 : goal.returns-then-s-n-ne62
returns-then-s-n-ne62 c =
    let r = c.requires.closed in
    (r.0, omega (arith, r.1), barren-unangled c.args.s.now c.args.n r.2 r.1 (search rules))

pub overflow_add-m : goal.overflow_add-m
overflow_add-m c =
    let s = c.args.s.now in
    let e = ap (taking 0x60 0x3C false 0) (sym (part-from s 1)) ∙ sym c.marked.ensures ∙ c.in-Some.is in
    record { fits = omega (arith, taking-le 0x60 0x3C (drop 1 s) _ e, length-drop 1 s) }

pub returns-in-Some : goal.returns-in-Some
returns-in-Some c =
    let s = c.args.s.now in
    let m = c.in-Some.m in
    let e : taking 0x60 0x3C false 0 (drop 1 s) ≡ Some m = ap (taking 0x60 0x3C false 0) (sym (part-from s 1)) ∙ sym c.marked.ensures ∙ c.in-Some.is in
    let h : m + 1 < length s = search rules in
    let b : get_or s (m + 1) 0 ≡ 0x60 = search rules in
    let z : 1 + m ≡ m + 1 = omega arith in
    let at : get_or (drop 1 s) m 0 ≡ 0x60 = get_or-drop 1 s m 0 ∙ ap (λ (j : ℕ). get_or s j 0) z ∙ b in
    let none = unbracketed-none s (drop 1 s) m c.requires.tick refl e (omega (arith, h, length-drop 1 s)) at in
    (omega arith, omega arith, barren-first s c.requires.tick none m e)
