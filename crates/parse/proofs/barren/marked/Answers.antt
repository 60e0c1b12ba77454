-- `barren::marked` meets its contract: nothing is before the first byte, and behind another one `escaped` says it.
-- Assumes nothing.
use Rattle.std.proofs.Common.{◌≡◌, ◌<◌, ◌∙◌, true, false, length, get_or, rules}
use Rattle.rst_bytes.specs.Escaped.{is_stop}
use Rattle.parse.proofs.BarrenLaws.{marked-stop, marked-else}
use Rattle.parse.proofs.barren.marked.Goals as goal

pub returns-in-Some : goal.returns-in-Some
returns-in-Some c =
    let s = c.args.s.now in
    let h : 0 < length s = search rules in
    let e : is_stop 0x60 0x3C (get_or s 0 0) ≡ true = search rules in
    marked-stop s h e

pub returns-in_default : goal.returns-in_default
returns-in_default c =
    let s = c.args.s.now in
    let e : 0 < length s → is_stop 0x60 0x3C (get_or s 0 0) ≡ false = search rules in
    c.escaped.ensures ∙ marked-else s e
