-- `calm::Calm::pass_lines` meets its contract: neither `_` nor backtick stands up to the next one, or the end, and a line ends where it goes on.
-- Assumes nothing.
use Rattle.std.proofs.Common.{Some, None, refl, length, inl, arith}
use Rattle.rst_bytes.proofs.Lists.{part-from}
use Rattle.parse.proofs.CalmLaws.{calm-first, calm-skips, lines-pass}
use Rattle.parse.proofs.calm.Calm.pass_lines.Goals as goal

pub last_line-requires : goal.last_line-requires
last_line-requires c =
    let w = c.args in
    let f = calm-first w.s.now _ w.i (Some c.in-Some.n) c.requires (part-from w.s.now w.i) (c.in-Some.ensures) in
    (omega arith, omega (arith, f.0))

pub returns-in-Some : goal.returns-in-Some
returns-in-Some c =
    let w = c.args in
    let f = calm-first w.s.now _ w.i (Some c.in-Some.n) c.requires (part-from w.s.now w.i) (c.in-Some.ensures) in
    lines-pass w.s.now w.i _ (omega (arith, f.0)) f.1 _ c.last_line.ensures

pub returns-in-None : goal.returns-in-None
returns-in-None c start =
    let w = c.args in
    let f = calm-first w.s.now _ w.i None c.requires (part-from w.s.now w.i) (c.in-None.ensures) in
    ((λ e. e), calm-skips w.s.now (length w.s.now) (omega arith) (inl refl) w.i c.requires f start)
