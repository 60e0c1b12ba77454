-- The inline forms with their strings: embedded links, anonymous and named, and references by label.
-- Assumes nothing.
use Rattle.std.specs.Prelude.{Option, Some, None}
use Rattle.restructured_text.specs.Spans.{Spans}
use Rattle.std.specs.Prelude.{ℕ, List, Bool, true, false}
use Rattle.restructured_text.specs.Strings.{Link, none, linked}
use Rattle.restructured_text.specs.Text2target.{text2target_of}
use Rattle.restructured_text.specs.Label.{parse_text2label_of}

-- the raw parts of s, transformed; the second one is a destination, or not
abbrev pub finished_of : Bool → List ℕ → Option Spans → Link
finished_of destination s (Some (a, b, n)) = linked destination s a b n
finished_of destination s None = none

-- a text with its destination, anonymous or named
abbrev pub embedded_of : Bool → List ℕ → Link
embedded_of anonym s = finished_of true s (text2target_of anonym false s)

-- `rst_text2dest`
unfoldable pub text2dest_of : List ℕ → Link
text2dest_of s = embedded_of true s

-- `rst_text_label2dest`
unfoldable pub text_label2dest_of : List ℕ → Link
text_label2dest_of s = embedded_of false s

-- `rst_text2label`; "a label form so refused isn't tried again as a simple label"
unfoldable pub text2label_of : List ℕ → Link
text2label_of s = finished_of false s (parse_text2label_of s)
