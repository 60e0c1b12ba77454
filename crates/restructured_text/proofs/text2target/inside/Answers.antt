-- `inside` meets its contract: text, brackets and target are as the definition reads them. The trimmed text is as long as `trim_of` says.
-- Assumes nothing.
use Prim.Native.Nat.{◌-◌}
use mathlib.Core.Path.{sym, ◌∙◌}
use lib.ListN.{length, take, drop}
use Rattle.rst_bytes.proofs.Lists.{part-from}
use Rattle.restructured_text.proofs.Text2targetLaws.{part-one, inside-parsed}
use Rattle.restructured_text.proofs.text2target.inside.Goals as goal

pub returns : goal.returns
returns c =
    let s = c.args.s.now in
    let m = c.in_ok-m.m in
    sym (inside-parsed _ s _ _ (sym c.escaped.ensures ∙ c.in_ok-m.was) (part-from s _) _ (sym c.delimited.ensures ∙ c.in_ok-k.was) _ c.if-k-rest.false (part-one (take (length s - m) (drop m s)) c.in_ok-k.k) _ _ (sym c.target_len.ensures ∙ c.in_ok-n.was) c.trim_end-text.ensures)
