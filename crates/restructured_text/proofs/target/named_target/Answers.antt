-- `target::named_target` meets its contract: name and target stand one behind the other in the first len bytes of d, so that they are
-- the same parts of d, `transformed` gives their strings, and there is no target of the other kind. Where a wrong escape is seen in the target
-- there is none.
-- Assumes nothing.
use mathlib.Core.Path.{sym, ap, ◌∙◌}
use native.Mathlib.Omega.{arith}
use lib.ListN.{take}
use Rattle.std.proofs.Common.{ℕ, List}
use Rattle.rst_bytes.proofs.Lists.{part-from}
use Rattle.rst_bytes.proofs.Variants.{ok_or-some, ok_or-none, err-left}
use Rattle.restructured_text.specs.Inner.{is_refused}
use Rattle.restructured_text.specs.Transform.{kept_of}
use Rattle.restructured_text.specs.Definition.{told_as, is_alias}
use Rattle.restructured_text.proofs.TargetLaws.{nameless, named-stands, named-inside, named-dead, named-told, told-err}
use Rattle.restructured_text.proofs.target.named_target.Goals as goal

pub overflow_add-target : goal.overflow_add-target
overflow_add-target c =
    let name = sym c.target_name.ensures ∙ ok_or-some _ _ c.ok_or.ensures.value c.in_ok-name.was in
    omega (arith, c.requires, (named-stands c.args.d.now c.args.len c.args.n c.requires _ _ name _ (part-from (take c.args.len c.args.d.now) _) _ c.of-raw.ensures _ c.span-span.ensures).1)

pub of-requires : goal.of-requires
of-requires c =
    let name = sym c.target_name.ensures ∙ ok_or-some _ _ c.ok_or.ensures.value c.in_ok-name.was in
    named-inside c.args.d.now c.args.len c.args.n c.requires _ _ name _ (part-from (take c.args.len c.args.d.now) _) _ c.of-raw.ensures _ c.span-span.ensures

pub transformed-requires : goal.transformed-requires
transformed-requires c =
    let name = sym c.target_name.ensures ∙ ok_or-some _ _ c.ok_or.ensures.value c.in_ok-name.was in
    named-stands c.args.d.now c.args.len c.args.n c.requires _ _ name _ (part-from (take c.args.len c.args.d.now) _) _ c.of-raw.ensures _ c.span-span.ensures

pub returns-in_err-name : goal.returns-in_err-name
returns-in_err-name c =
    let left = ok_or-none _ _ c.from_residual.result c.ok_or.ensures.value c.in_err-name.was c.from_residual.ensures in
    rw left.1 (nameless c.args.d.now c.args.len c.args.n c.requires _ (sym c.target_name.ensures ∙ left.0))

pub returns-then-is_wrong : goal.returns-then-is_wrong
returns-then-is_wrong c =
    let name = sym c.target_name.ensures ∙ ok_or-some _ _ c.ok_or.ensures.value c.in_ok-name.was in
    let wrong = ap (λ (v : List ℕ). is_refused (kept_of v)) (sym c.of.ensures) ∙ sym c.is_wrong.ensures ∙ c.if-is_wrong.true in
    named-dead c.args.d.now c.args.len c.args.n c.requires _ _ name _ (part-from (take c.args.len c.args.d.now) _) _ c.of-raw.ensures _ c.span-span.ensures _ wrong

pub returns-in_err-found : goal.returns-in_err-found
returns-in_err-found c =
    let name = sym c.target_name.ensures ∙ ok_or-some _ _ c.ok_or.ensures.value c.in_ok-name.was in
    let left = err-left c.from_residual-in_err-found.result c.from_residual-in_err-found.ensures in
    let told = left ∙ told-err (is_alias c.of-raw.result) _ ∙ ap (told_as (is_alias c.of-raw.result)) (sym c.in_err-found.was) in
    named-told c.args.d.now c.args.len c.args.n c.requires _ _ name _ (part-from (take c.args.len c.args.d.now) _) _ c.of-raw.ensures _ c.span-span.ensures c.transformed.new.d c.transformed.result _ c.transformed.ensures.strings c.transformed.ensures.ends told

pub returns : goal.returns
returns c =
    let name = sym c.target_name.ensures ∙ ok_or-some _ _ c.ok_or.ensures.value c.in_ok-name.was in
    let told = c.defines.ensures ∙ ap (told_as (is_alias c.of-raw.result)) (sym c.in_ok-found.was) in
    named-told c.args.d.now c.args.len c.args.n c.requires _ _ name _ (part-from (take c.args.len c.args.d.now) _) _ c.of-raw.ensures _ c.span-span.ensures c.transformed.new.d c.transformed.result _ c.transformed.ensures.strings c.transformed.ensures.ends told
