-- `word_run` meets its contract. The loop's invariant: the word characters up to i are passed, and the run goes on at i.
-- Assumes nothing.
use mathlib.Core.Path.{refl, sym, ◌∙◌}
use native.Mathlib.Omega.{arith}
use Rattle.rst_bytes.specs.Word.{is_word, word_of}
use Rattle.rst_bytes.proofs.DomainLaws.{char-at-within, at-taken, run-ended, run_none}
use Rattle.rst_bytes.proofs.word.word_run.Goals as goal

pub loop-len-init : goal.loop-len-init
loop-len-init c = (omega arith, refl)

pub overflow_add-i : goal.overflow_add-i
overflow_add-i c = omega (arith, char-at-within c.args.s.now _ _ _ c.loop-len.invariant.0 (sym c.char_at.ensures ∙ c.in-Some.is))

pub loop-len-smaller : goal.loop-len-smaller
loop-len-smaller c = omega (arith, char-at-within c.args.s.now _ _ _ c.loop-len.invariant.0 (sym c.char_at.ensures ∙ c.in-Some.is))

pub loop-len-preserved : goal.loop-len-preserved
loop-len-preserved c =
    let s = c.args.s.now in
    let e = sym c.char_at.ensures ∙ c.in-Some.is in
    ((char-at-within s _ _ _ c.loop-len.invariant.0 e).1, c.loop-len.invariant.1 ∙ at-taken is_word s _ _ _ e (sym c.is_word.ensures ∙ c.if-not-is_word.false))

pub returns-then-not-is_word : goal.returns-then-not-is_word
unfolding word_of
returns-then-not-is_word c =
    let e = sym c.char_at.ensures ∙ c.in-Some.is in
    sym (c.loop-len.invariant.1 ∙ run-ended is_word _ _ _ _ e (sym c.is_word.ensures ∙ c.if-not-is_word.true))

pub returns : goal.returns
unfolding word_of
returns c = sym (c.loop-len.invariant.1 ∙ run_none is_word _ _ (sym c.char_at.ensures ∙ c.in_default.is))
