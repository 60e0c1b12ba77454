-- `first_outside` meets its contract: where every byte is below 80 each is a character. Else the loop's invariant: the characters up to
-- i are passed, and the run goes on at i.
-- Assumes nothing.
use mathlib.Core.Path.{refl, sym, ◌∙◌}
use native.Mathlib.Omega.{arith}
use Rattle.std.proofs.Common.{rules}
use Rattle.rst_bytes.specs.Domain.{any}
use Rattle.rst_bytes.proofs.DomainLaws.{char-at-within, at-taken, outside-at, outside-nowhere, outside-ascii}
use Rattle.rst_bytes.proofs.domain.first_outside.Goals as goal

pub returns-then-is_ascii : goal.returns-then-is_ascii
returns-then-is_ascii c = sym (outside-ascii _ (search rules))

pub loop-i-init : goal.loop-i-init
loop-i-init c = (omega arith, refl)

pub overflow_add-i : goal.overflow_add-i
overflow_add-i c = omega (arith, char-at-within c.args.s.now _ _ _ c.loop-i.invariant.0 (sym c.char_at.ensures ∙ c.in-Some.is))

pub loop-i-smaller : goal.loop-i-smaller
loop-i-smaller c = omega (arith, char-at-within c.args.s.now _ _ _ c.loop-i.invariant.0 (sym c.char_at.ensures ∙ c.in-Some.is))

pub loop-i-preserved : goal.loop-i-preserved
loop-i-preserved c =
    let s = c.args.s.now in
    let e = sym c.char_at.ensures ∙ c.in-Some.is in
    ((char-at-within s _ _ _ c.loop-i.invariant.0 e).1, c.loop-i.invariant.1 ∙ at-taken any s _ _ _ e refl)

pub returns-in_default : goal.returns-in_default
returns-in_default c = sym (outside-at _ _ (omega arith) c.loop-i.invariant.1 (sym c.char_at.ensures ∙ c.in_default.is))

pub returns : goal.returns
returns c = sym (outside-nowhere c.args.s.now c.loop-i.i (omega arith) c.loop-i.invariant.1)
