-- `escaped::take_escaped` meets its contract: a byte or an escape that is taken, and then many.
-- Assumes nothing.
use Rattle.std.proofs.Common.{◌∙◌, ◌+◌, ◌≤◌, ap, length, arith}
use lib.ListN.{length-drop}
use Rattle.rst_bytes.proofs.Lists.{part-from}
use Rattle.rst_bytes.proofs.EscapedLaws.{one-over, front-within, front-over}
use Rattle.rst_bytes.proofs.escaped.take_escaped.Goals as goal

pub loop-n-preserved : goal.loop-n-preserved
loop-n-preserved c =
    let s = c.args in
    let i = c.loop-n.i in
    let n = c.in_ok-n.n in
    let f = c.escaped_front-i in
    let w : i + n ≤ length s.s.now = omega (arith, c.in_ok-n.ensures.within, ap length (part-from s.s.now i), length-drop i s.s.now, c.loop-n.invariant.0) in
    let one = one-over s.p s.q s.s.now i n (omega arith) (c.in_ok-n.ensures.taken i) in (
      front-within s.p s.q s.s.now (i + n) f.result w f.ensures.within f.ensures.taken,
      c.loop-n.invariant.1 ∙ one ∙ front-over s.p s.q s.s.now (i + n) f.result w f.ensures.within f.ensures.taken,
    )
