-- `target::anonymous_target` meets its contract: the target stands in the first len bytes of d and is transformed in its place, unless
-- a wrong escape is seen in it before. The name is then put behind them, where it changes no byte of the target; and there is no target of the
-- other kind.
-- Assumes nothing.
use mathlib.Core.Path.{sym, ap, ◌∙◌}
use native.Mathlib.Omega.{arith}
use Rattle.std.proofs.Common.{ℕ, List}
use Rattle.rst_bytes.proofs.Variants.{ok_or-some, ok_or-none}
use Rattle.restructured_text.specs.Inner.{is_refused}
use Rattle.restructured_text.specs.Transform.{kept_of}
use Rattle.restructured_text.proofs.TargetLaws.{anonymous-stands, anonymous-refused, anonymous-dead, anonymous-told}
use Rattle.restructured_text.proofs.target.anonymous_target.Goals as goal

pub of-requires : goal.of-requires
of-requires c = omega (arith, c.requires, anonymous-stands c.args.d.now c.args.len c.args.n c.requires _ c.of-raw.ensures _ c.span-span.ensures)

pub overflow_add-part : goal.overflow_add-part
overflow_add-part c = omega (arith, c.requires, anonymous-stands c.args.d.now c.args.len c.args.n c.requires _ c.of-raw.ensures _ c.span-span.ensures)

pub slice_bounds-part-end : goal.slice_bounds-part-end
slice_bounds-part-end c = omega (arith, c.requires, anonymous-stands c.args.d.now c.args.len c.args.n c.requires _ c.of-raw.ensures _ c.span-span.ensures)

pub returns-then-is_wrong : goal.returns-then-is_wrong
returns-then-is_wrong c =
    let wrong = ap (λ (v : List ℕ). is_refused (kept_of v)) (sym c.of.ensures) ∙ sym c.is_wrong.ensures ∙ c.if-is_wrong.true in
    anonymous-dead c.args.d.now c.args.len c.args.n c.requires _ c.of-raw.ensures _ c.span-span.ensures _ wrong

pub returns-in_err-j : goal.returns-in_err-j
returns-in_err-j c =
    let left = ok_or-none _ _ c.from_residual.result c.ok_or.ensures.value c.in_err-j.was c.from_residual.ensures in
    rw left.1 (anonymous-refused c.args.d.now c.args.len c.args.n c.requires _ c.of-raw.ensures _ c.span-span.ensures _ (sym left.0 ∙ c.rst_escaped_link_destination_transform.ensures.answer))

pub returns : goal.returns
returns c =
    let given = sym (ok_or-some _ _ c.ok_or.ensures.value c.in_ok-j.was) ∙ c.rst_escaped_link_destination_transform.ensures.answer in
    anonymous-told c.args.d.now c.args.len c.args.n c.requires _ c.of-raw.ensures _ c.span-span.ensures _ _ _ _ c.rst_escaped_link_destination_transform.auto.d given c.rst_escaped_link_destination_transform.ensures.bytes c.defines.ensures
