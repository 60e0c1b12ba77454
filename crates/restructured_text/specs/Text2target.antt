-- "`rst_parse_text2target`: backtick, `escaped` up to a backtick, then `_, for anonymous one more _; no _ may follow. Inside: text
-- by `escaped` up to <, trimmed; <, target by `escaped` up to > or <, >, and nothing after. A label target must end in _, which is
-- dropped; a destination must not."
-- Assumes nothing.
use Rattle.std.specs.Prelude.{Option, Some, None}
use Rattle.restructured_text.specs.Spans.{Spans}
use Rattle.std.specs.Prelude.{ℕ, ◌+◌, ◌-◌, List, [], ◌∷◌, Bool, true, false, eqb, length, drop, take}
use Rattle.rst_bytes.specs.Escaped.{escaped_of}
use Rattle.rst_bytes.specs.Tag.{starts_with}
use Rattle.rst_bytes.specs.Trim.{trim_of}
use Rattle.restructured_text.specs.Delimited.{delimited_of, ends_with, closing, backticked_of}

-- "A label target must end in _, which is dropped; a destination must not."
unfoldable pub target_of : Bool → List ℕ → Option ℕ
target_of true t = elim (ends_with (0x5F ∷ []) t) [ true ↦ Some (length t - 1) | false ↦ None ]
target_of false t = elim (ends_with (0x5F ∷ []) t) [ true ↦ None | false ↦ Some (length t) ]

-- where text and target stand: m bytes before the bracket are trimmed; the target's first n bytes count
abbrev pub placed_of : List ℕ → ℕ → Option ℕ → Option Spans
placed_of inner m (Some n) =
    Some ((record { start = 0; len = trim_of (take m inner) }), (record { start = m + 1; len = n }), (length inner))
placed_of inner m None = None

-- "< , target by `escaped` up to > or <, >, and nothing after": m bytes stand before the bracket, k between the brackets
abbrev pub bracketed_of : Bool → List ℕ → ℕ → Option ℕ → Option Spans
bracketed_of label inner m (Some k) =
    elim (eqb (k + 2) (length (drop m inner))) [
      | true ↦ placed_of inner m (target_of label (take k (drop 1 (drop m inner))))
      | false ↦ None
    ]
bracketed_of label inner m None = None

-- "Inside": what stands between the backticks
unfoldable pub inside_of : Bool → List ℕ → Option Spans
inside_of label inner =
    elim (escaped_of 0x3C 0x3C inner) [
      | Some m ↦ bracketed_of label inner m (delimited_of (0x3C ∷ []) 0x3C 0x3E (0x3E ∷ []) (drop m inner))
      | None ↦ None
    ]

-- spans of the inside as spans of the whole, of which n bytes are consumed
abbrev pub behind_of : ℕ → Option Spans → Option Spans
behind_of n (Some (text, target, m)) =
    Some ((record { start = text.start + 1; len = text.len }), (record { start = target.start + 1; len = target.len }), n)
behind_of n None = None

unfoldable pub text2target_of : Bool → Bool → List ℕ → Option Spans
text2target_of anonym label s =
    elim (backticked_of anonym s) [
      | Some n ↦ elim (starts_with (0x5F ∷ []) (drop (n + 1 + length (closing anonym)) s)) [
        | true ↦ None
        | false ↦ behind_of (n + 1 + length (closing anonym)) (inside_of label (take n (drop 1 s)))
      ]
      | None ↦ None
    ]
