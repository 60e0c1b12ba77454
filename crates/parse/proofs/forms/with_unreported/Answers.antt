-- `forms::with_unreported` meets its contract: a destination block ends within the text.
-- Assumes nothing.
use Rattle.std.proofs.Common.{◌+◌, ◌-◌, ◌≤◌, length, take, drop, arith, ap, length-drop, length-take}
use Rattle.rst_bytes.proofs.Variants.{ok-is}
use Rattle.restructured_text.specs.Definition.{destination_in}
use Rattle.restructured_text.proofs.TargetLaws.{label2dest-consumed}
use Rattle.parse.proofs.FormsLaws.{answered}
use Rattle.parse.proofs.forms.with_unreported.Goals as goal

pub overflow_add-result : goal.overflow_add-result
overflow_add-result c =
    let p = c.args.place in
    let n = c.args.n in
    let s = c.further-rest.result.now in
    let d = take (length c.args.scratch.now - n) (drop n c.args.scratch.now) in
    let h : length s ≤ length d = omega (arith, ap length c.further-rest.ensures, length-drop (p.at + n) p.text.now, length-take (length c.args.scratch.now - n) (drop n c.args.scratch.now), length-drop n c.args.scratch.now, c.requires.ready.room) in
    let e = answered s d _ _ _ _ h c.rst_target.ensures.destination (ap destination_in (ok-is c.in-Ok-Destination.field-0 c.in-Ok-Destination.is c.in-Ok-Destination.field-0-is)) in
    omega (arith, (label2dest-consumed s _ _ _ e).1, ap length c.further-rest.ensures, length-drop (p.at + n) p.text.now, c.requires.link)
