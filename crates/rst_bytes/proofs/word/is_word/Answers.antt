-- `is_word` meets its contract. That the table's ranges are in order and apart is one computed test.
-- Assumes nothing.
use mathlib.Core.Path.{sym, ◌∙◌}
use Rattle.rst_bytes.specs.Word.{word_ranges}
use Rattle.rst_bytes.specs.Inner.{apart}
use Rattle.rst_bytes.proofs.WordLaws.{word_low, word-high}
use Rattle.rst_bytes.proofs.word.is_word.Goals as goal

pub in_ranges-requires : goal.in_ranges-requires
unfolding apart
in_ranges-requires c = tt

pub returns-then-c-lt128 : goal.returns-then-c-lt128
returns-then-c-lt128 c = c.is_ascii_word.ensures ∙ sym (word_low _ c.if-c-lt128.true)

pub returns-else-c-lt128 : goal.returns-else-c-lt128
unfolding word_ranges
returns-else-c-lt128 c = c.in_ranges.ensures ∙ sym (word-high _ c.if-c-lt128.false)
