-- `forms::embedded` meets its contract: the anonymous form is found, or refused and the other one says. The strings of a link stand in
-- as many bytes of the scratch as it consumes, and these are kept when what follows is looked at. The scratch is long enough.
-- Assumes nothing.
use Rattle.std.proofs.Common.{◌≤◌, length, subst, ◌∙◌, arith, length-drop}
use Rattle.restructured_text.specs.Strings.{Ends}
use Rattle.restructured_text.specs.Inline.{text2dest_of, text_label2dest_of}
use Rattle.restructured_text.proofs.InlineLaws.{text2dest-consumed, text2dest-room, text-label2dest-consumed}
use Rattle.parse.proofs.FormsLaws.{ok-some, answered-at, missed-at, embedded-anonymous, embedded-named, link-kept}
use Rattle.parse.proofs.forms.embedded.Goals as goal

pub with_unreported-m-requires-clause-link : goal.with_unreported-m-requires-clause-link
with_unreported-m-requires-clause-link c =
    let p = c.args.place in
    let e = answered-at text2dest_of p.text.now _ p.at c.args.scratch.now _ _ _ c.rest.ensures c.requires.room c.rst_text2dest.ensures.strings c.in-Ok.is in
    omega (arith, (text2dest-consumed _ _ _ _ e).1, length-drop p.at p.text.now, p.inside)

pub returns-in-Ok-clause-scan : goal.returns-in-Ok-clause-scan
returns-in-Ok-clause-scan c =
    let p = c.args.place in
    let e = answered-at text2dest_of p.text.now _ p.at c.args.scratch.now _ _ _ c.rest.ensures c.requires.room c.rst_text2dest.ensures.strings c.in-Ok.is in
    let f = subst Ends c.in-Ok.is c.rst_text2dest.ensures.ends in
    let g = c.with_unreported-m.ensures in
    embedded-anonymous p.text.now p.at _ _ _ _ (e ∙ link-kept _ _ _ _ _ f g.kept) g.consumed

pub with_unreported-m-requires-2-clause-link : goal.with_unreported-m-requires-2-clause-link
with_unreported-m-requires-2-clause-link c =
    let p = c.args.place in
    let h : length p.text.now ≤ length c.rst_text2dest.new.scratch = omega (arith, c.requires.room, c.rst_text2dest.auto.scratch) in
    let e = answered-at text_label2dest_of p.text.now _ p.at c.rst_text2dest.new.scratch _ _ _ c.rest-2.ensures h c.rst_text_label2dest.ensures.strings (ok-some _ c.ok.ensures.value c.in_ok-a.was) in
    omega (arith, (text-label2dest-consumed _ _ _ _ e).1, length-drop p.at p.text.now, p.inside)

pub returns-clause-scan : goal.returns-clause-scan
returns-clause-scan c =
    let p = c.args.place in
    let h : length p.text.now ≤ length c.rst_text2dest.new.scratch = omega (arith, c.requires.room, c.rst_text2dest.auto.scratch) in
    let e = missed-at text2dest_of p.text.now _ p.at c.args.scratch.now _ _ _ c.rest.ensures c.requires.room c.rst_text2dest.ensures.strings (text2dest-room _) c.in_default.is in
    let f = answered-at text_label2dest_of p.text.now _ p.at c.rst_text2dest.new.scratch _ _ _ c.rest-2.ensures h c.rst_text_label2dest.ensures.strings (ok-some _ c.ok.ensures.value c.in_ok-a.was) in
    let g = subst Ends (ok-some _ c.ok.ensures.value c.in_ok-a.was) c.rst_text_label2dest.ensures.ends in
    let k = c.with_unreported-m-2.ensures in
    embedded-named p.text.now p.at _ _ _ _ e (f ∙ link-kept _ _ _ _ _ g k.kept) k.consumed
