-- `scratch::transformed` meets its contract: each part is transformed in its place. The first leaves the second as it was, since it stands
-- before it; the second leaves the first one's string as it was.
-- Assumes nothing.
use mathlib.Core.Path.{sym, ◌∙◌}
use Rattle.rst_bytes.proofs.Variants.{ok_or-some, ok_or-none}
use Rattle.restructured_text.proofs.StringsLaws.{linked-both, linked-second}
use Rattle.restructured_text.proofs.scratch.transformed.Goals as goal

pub returns-clause-strings : goal.returns-clause-strings
returns-clause-strings c =
    let first = c.transform.ensures in
    let second = c.transform-2.ensures in
    (linked-both c.args.destination c.args.a c.args.b c.args.n c.args.d.now c.transform.new.d c.transform-2.new.d c.requires _ _
    (record { len = c.transform.auto.d; answer = sym (ok_or-some _ _ c.ok_or.ensures.value c.in_ok-i.was) ∙ first.answer; bytes = first.bytes })
    (record { len = c.transform-2.auto.d; answer = sym (ok_or-some _ _ c.ok_or-2.ensures.value c.in_ok-j.was) ∙ second.answer; bytes = second.bytes })).0

pub returns-in_err-j-clause-strings : goal.returns-in_err-j-clause-strings
returns-in_err-j-clause-strings c =
    let first = c.transform.ensures in
    let second = c.transform-2.ensures in
    let left = ok_or-none _ _ c.from_residual-in_err-j.result c.ok_or-2.ensures.value c.in_err-j.was c.from_residual-in_err-j.ensures in
    rw left.1
    (linked-second c.args.destination c.args.a c.args.b c.args.n c.args.d.now c.transform.new.d c.transform-2.new.d c.requires _
    (record { len = c.transform.auto.d; answer = sym (ok_or-some _ _ c.ok_or.ensures.value c.in_ok-i.was) ∙ first.answer; bytes = first.bytes })
    (record { len = c.transform-2.auto.d; answer = sym left.0 ∙ second.answer; bytes = second.bytes }))
