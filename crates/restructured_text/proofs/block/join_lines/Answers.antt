-- `block::join_lines` meets its contract. The loop's invariant: what stands at the front of d with the lines that are left are all
-- lines, and what is left fits. A further line writes a space and its text, and reads more bytes than
-- that. The measure is what is left.
-- Assumes nothing.
use Prim.Native.Nat.{◌+◌, ◌-◌}
use mathlib.Core.Path.{sym, ◌∙◌}
use native.Mathlib.Omega.{arith}
use lib.ListN.{take, drop, set, length-set}
use Rattle.rst_bytes.proofs.Lists.{as-front}
use Rattle.restructured_text.proofs.BlockLaws.{from, further-pos, further-le}
use Rattle.restructured_text.proofs.JoinLaws.{joins-more, joins-end, line-less, copy-room}
use Rattle.restructured_text.proofs.block.join_lines.Goals as goal

pub slice_bounds-copy-count-in-Some : goal.slice_bounds-copy-count-in-Some
slice_bounds-copy-count-in-Some c = grind (arith, further-pos, further-le, length-set)

pub slice_bounds-copy-start-in-Some : goal.slice_bounds-copy-start-in-Some
slice_bounds-copy-start-in-Some c = grind (arith, further-pos, further-le, length-set)

pub copy-requires : goal.copy-requires
copy-requires c = copy-room c.loop-a.invariant _ _ (sym c.further_line.ensures ∙ c.in-Some.is) _

pub loop-a-smaller : goal.loop-a-smaller
loop-a-smaller c = line-less c.loop-a.invariant _ _ (sym c.further_line.ensures ∙ c.in-Some.is)

pub loop-a-preserved : goal.loop-a-preserved
loop-a-preserved c =
    let text = take (c.in-Some.a + c.in-Some.len - c.in-Some.a) (drop c.in-Some.a c.loop-a.rest.now) in
    joins-more c.loop-a.invariant _ _ (sym c.further_line.ensures ∙ c.in-Some.is) _
    (as-front text (from (set c.loop-a.d c.loop-a.n 32) (c.loop-a.n + 1)) c.copy.ensures)

pub returns : goal.returns
returns c =
    let pair = joins-end c.loop-a.invariant (sym c.further_line.ensures ∙ c.in_default.is) in
    record {
      len = pair.0;
      read = pair.1.0;
      text = pair.1.1;
    }
