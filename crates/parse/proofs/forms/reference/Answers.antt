-- `forms::reference` meets its contract: the strings of the link stand in as many bytes of the scratch as it consumes, and these are
-- kept when what follows is looked at. The scratch is long enough.
-- Assumes nothing.
use Rattle.std.proofs.Common.{subst, ◌∙◌, arith, length-drop}
use Rattle.restructured_text.specs.Strings.{Ends}
use Rattle.restructured_text.specs.Inline.{text2label_of}
use Rattle.restructured_text.proofs.InlineLaws.{text2label-consumed}
use Rattle.parse.proofs.FormsLaws.{ok-some, answered-at, reference-found, link-kept}
use Rattle.parse.proofs.forms.reference.Goals as goal

pub with_unreported-m-requires-clause-link : goal.with_unreported-m-requires-clause-link
with_unreported-m-requires-clause-link c =
    let p = c.args.place in
    let e = answered-at text2label_of p.text.now _ p.at c.args.scratch.now _ _ _ c.rest.ensures c.requires.room c.rst_text2label.ensures.strings (ok-some _ c.ok.ensures.value c.in_ok-a.was) in
    omega (arith, (text2label-consumed _ _ _ _ e).1, length-drop p.at p.text.now, p.inside)

pub returns-clause-scan : goal.returns-clause-scan
returns-clause-scan c =
    let p = c.args.place in
    let e = answered-at text2label_of p.text.now _ p.at c.args.scratch.now _ _ _ c.rest.ensures c.requires.room c.rst_text2label.ensures.strings (ok-some _ c.ok.ensures.value c.in_ok-a.was) in
    let f = subst Ends (ok-some _ c.ok.ensures.value c.in_ok-a.was) c.rst_text2label.ensures.ends in
    let g = c.with_unreported-m.ensures in
    reference-found p.text.now p.at _ _ _ _ (e ∙ link-kept _ _ _ _ _ f g.kept) g.consumed
