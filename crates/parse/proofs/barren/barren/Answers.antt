-- `barren::barren` meets its contract: up to the first unescaped backtick or < the backtick at the front says it for all; if that is <,
-- what `unbracketed` says holds behind it.
-- Assumes nothing.
use Rattle.std.proofs.Common.{◌≡◌, ◌+◌, sym, ap, ◌∙◌, false, get_or, drop, length-drop, arith, rules}
use Rattle.rst_bytes.specs.Escaped.{taking}
use Rattle.rst_bytes.proofs.Lists.{part-from}
use Rattle.rst_bytes.proofs.EscapedLaws.{taking-le}
use Rattle.parse.specs.Inner.{Tick, NoLink}
use Rattle.parse.proofs.BacktickLaws.{each-behind}
use Rattle.parse.proofs.BarrenLaws.{barren-first, barren-over}
use Rattle.parse.proofs.barren.barren.Goals as goal

pub overflow_add-j : goal.overflow_add-j
overflow_add-j c =
    let s = c.args.s.now in
    let e = ap (taking 0x60 0x3C false 0) (sym (part-from s 1)) ∙ sym c.marked.ensures ∙ c.in-Some.is in
    omega (arith, taking-le 0x60 0x3C (drop 1 s) _ e, length-drop 1 s)

pub returns-then-eq-clause-barren : goal.returns-then-eq-clause-barren
returns-then-eq-clause-barren c =
    let s = c.args.s.now in
    let n = c.in-Some.n in
    let e = ap (taking 0x60 0x3C false 0) (sym (part-from s 1)) ∙ sym c.marked.ensures ∙ c.in-Some.is in
    let a : get_or s (n + 1) 0 ≡ 0x3C = search rules in
    let b : get_or s (n + 1) 0 ≡ 0x60 → ⊥ = λ f. absurd (omega (arith, a, f)) in
    barren-over s _ _ (barren-first s c.requires.tick c.requires.none _ e) b (each-behind (Tick NoLink) s _ _ _ (part-from s _) c.unbracketed.ensures.barren)

pub returns-else-eq : goal.returns-else-eq
returns-else-eq c =
    let s = c.args.s.now in
    let e = ap (taking 0x60 0x3C false 0) (sym (part-from s 1)) ∙ sym c.marked.ensures ∙ c.in-Some.is in
    record {
      within = omega (arith, taking-le 0x60 0x3C (drop 1 s) _ e, length-drop 1 s, c.requires.tick.0);
      barren = barren-first s c.requires.tick c.requires.none _ e;
    }
