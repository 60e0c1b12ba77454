-- Simple labels, and references by label.
-- Assumes nothing.
use Rattle.std.specs.Prelude.{Option, Some, None}
use Rattle.restructured_text.specs.Spans.{Spans}
use Rattle.restructured_text.specs.declared.label.Label.{Label}
use Rattle.std.specs.Prelude.{ℕ, ◌+◌, ◌-◌, List, [], ◌∷◌, true, false, ◌&&◌, ◌||◌, eqb, leb, ltb, drop, take}
use Rattle.rst_bytes.specs.Tag.{starts_with}
use Rattle.rst_bytes.specs.Word.{word_of}
use Rattle.restructured_text.specs.Delimited.{ends_with, backticked_of}
use Rattle.restructured_text.specs.Text2target.{text2target_of}

-- "A run of 3 bytes or more ending in __ drops both and leaves one unread; else one ending _ is dropped. A run of word characters
-- without one refuses": w bytes are the run
abbrev pub run_label_of : ℕ → List ℕ → Option (Label × ℕ)
run_label_of w r =
    elim (leb 3 w && ends_with (0x5F ∷ 0x5F ∷ []) r) [
      | true ↦ Some ((record { start = 0; len = w - 2 }), (w - 1))
      | false ↦ elim (ends_with (0x5F ∷ []) r) [ true ↦ Some ((record { start = 0; len = w - 1 }), w) | false ↦ None ]
    ]

-- "a maximal run of word characters"
unfoldable pub word_label_of : List ℕ → Option (Label × ℕ)
word_label_of s = run_label_of (word_of s) (take (word_of s) s)

-- "a backticked run read by `escaped` and closed by `_, else a maximal run of word characters"
unfoldable pub raw_label_of : List ℕ → Option (Label × ℕ)
raw_label_of s =
    elim (backticked_of false s) [ Some n ↦ Some ((record { start = 1; len = n }), (n + 3)) | None ↦ word_label_of s ]

-- "The limit on its raw bytes, 999"
abbrev pub label_len_max : ℕ
label_len_max = 999

-- "and so does an empty label"
unfoldable pub simple_label_of : List ℕ → Option (Label × ℕ)
simple_label_of s =
    elim (raw_label_of s) [
      | Some (label, n) ↦ elim (eqb label.len 0 || ltb label_len_max label.len) [ true ↦ None | false ↦ Some (label, n) ]
      | None ↦ None
    ]

-- "a simple label as both text and label"
abbrev pub both_of : Option (Label × ℕ) → Option Spans
both_of (Some (label, n)) = Some ((record { start = label.start; len = label.len }), (record { start = label.start; len = label.len }), n)
both_of None = None

-- "`rst_parse_text2label`: the label form of text2target, else a simple label"
unfoldable pub form_of : List ℕ → Option Spans
form_of s = elim (text2target_of false true s) [ Some (text, label, n) ↦ Some (text, label, n) | None ↦ both_of (simple_label_of s) ]

-- "a _ still following is consumed and makes the label _": the label is that byte
unfoldable pub parse_text2label_of : List ℕ → Option Spans
parse_text2label_of s =
    elim (form_of s) [
      | Some (text, label, n) ↦ elim (starts_with (0x5F ∷ []) (drop n s)) [
        | true ↦ Some (text, (record { start = n; len = 1 }), (n + 1))
        | false ↦ Some (text, label, n)
      ]
      | None ↦ None
    ]
