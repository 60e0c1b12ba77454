-- Where two parts of a parser's input, or two strings in its scratch, stand, and how many bytes it consumed.
-- Assumes nothing.
use Rattle.std.specs.Prelude.{ℕ}
use Rattle.restructured_text.specs.declared.Span.{Span}

abbrev pub Spans : Type 0
Spans = Span × Span × ℕ
