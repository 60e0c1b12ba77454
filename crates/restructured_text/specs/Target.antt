-- "Target: in a `.. ` block _`name`: else _name: , the name by `escaped` up to a backtick or a colon, each colon followed by one
-- space; a `__ ` block has name _. Then an alias (the rest begins with a simple label; what follows it is ignored) or a destination
-- (it doesn't). An alias's target goes through the destination transform."
-- Assumes nothing.
use Rattle.std.specs.Prelude.{Option, Some, None}
use Rattle.restructured_text.specs.Spans.{Spans}
use Rattle.restructured_text.specs.declared.label.Label.{Label}
use Rattle.std.specs.Prelude.{ℕ, ◌+◌, List, [], ◌∷◌, Bool, true, false, ◌||◌, length, drop}
use Rattle.rst_bytes.specs.Line.{space0_of}
use Rattle.rst_bytes.specs.Tag.{starts_with}
use Rattle.restructured_text.specs.declared.Span.{Span}
use Rattle.restructured_text.specs.Delimited.{delimited_of}
use Rattle.restructured_text.specs.Label.{simple_label_of}
use Rattle.restructured_text.specs.Block.{BlockText, block, no_block, no-scratch, block_of}
use Rattle.restructured_text.specs.Transform.{whole, destination_of}
use Rattle.restructured_text.specs.Strings.{Link, none, no_room, part, paired, linked}

-- "_name: , the name by `escaped` up to .. a colon"
unfoldable pub plain_name_of : List ℕ → Option (Span × ℕ)
plain_name_of s =
    elim (delimited_of (0x5F ∷ []) 0x3A 0x3A (0x3A ∷ 0x20 ∷ []) s) [
      | Some n ↦ Some ((record { start = 1; len = n }), (n + 3))
      | None ↦ None
    ]

-- "_`name`: else _name: "
unfoldable pub name_of : List ℕ → Option (Span × ℕ)
name_of s =
    elim (delimited_of (0x5F ∷ 0x60 ∷ []) 0x60 0x60 (0x60 ∷ 0x3A ∷ 0x20 ∷ []) s) [
      | Some n ↦ Some ((record { start = 2; len = n }), (n + 5))
      | None ↦ plain_name_of s
    ]

-- "the rest begins with a simple label; what follows it is ignored"
abbrev pub label_in : Option (Label × ℕ) → Option Span
label_in (Some (label, n)) = Some (record { start = label.start; len = label.len })
label_in None = None

-- where the target of an alias, or of a destination, stands in the rest
unfoldable pub rest_of : Bool → List ℕ → Option Span
rest_of true s = label_in (simple_label_of s)
rest_of false s = Some (record { start = 0; len = length s })

-- "or a destination (it doesn't)": a destination that begins with a simple label is none
abbrev pub is_named : Option (Label × ℕ) → Bool
is_named (Some (label, n)) = true
is_named None = false

unfoldable pub excluded : Bool → List ℕ → Bool
excluded true s = false
excluded false s = is_named (simple_label_of s)

-- the target of the rest that stands behind k bytes of s
abbrev pub behind_name : List ℕ → Span → ℕ → Option Span → Option Spans
behind_name s name k (Some t) = Some (name, (record { start = k + t.start; len = t.len }), (length s))
behind_name s name k None = None

-- `rst_parse_label2target`: name and target in the text of a `.. ` block
unfoldable pub parse_label2target_of : Bool → List ℕ → Option Spans
parse_label2target_of label s =
    elim (name_of s) [ Some (name, k) ↦ behind_name s name k (rest_of label (drop k s)) | None ↦ None ]

-- a `.. ` block with this text, of n bytes
abbrev pub named_in : Bool → List ℕ → ℕ → Option Spans → Link
named_in label text n (Some (name, target, m)) =
    elim (excluded label (part target text)) [ true ↦ none | false ↦ linked true text name target n ]
named_in label text n None = none

unfoldable pub named_of : Bool → List ℕ → ℕ → Link
named_of label text n = named_in label text n (parse_label2target_of label text)

-- "a `__ ` block has name _"
abbrev pub anonymous_in : Bool → List ℕ → ℕ → Option Span → Link
anonymous_in label text n (Some t) =
    elim (excluded label (part t text)) [ true ↦ none | false ↦ paired (whole (0x5F ∷ [])) (destination_of (part t text)) n ]
anonymous_in label text n None = none

unfoldable pub anonymous_of : Bool → List ℕ → ℕ → Link
anonymous_of label text n = anonymous_in label text n (rest_of label text)

-- a `__ ` block, if there is one
abbrev pub anonymous_block_of : Bool → BlockText → Link
anonymous_block_of label (block text n) = anonymous_of label text n
anonymous_block_of label no_block = none
anonymous_block_of label no-scratch = no_room

-- a `.. ` block, else a `__ ` block
unfoldable pub label2target_of : Bool → List ℕ → Link
label2target_of label s =
    elim (block_of (0x2E ∷ 0x2E ∷ 0x20 ∷ []) s) [
      | block text n ↦ named_of label text n
      | no_block ↦ anonymous_block_of label (block_of (0x5F ∷ 0x5F ∷ 0x20 ∷ []) s)
      | no-scratch ↦ no_room
    ]

-- `rst_label2dest`
unfoldable pub label2dest_of : List ℕ → Link
label2dest_of s = label2target_of false s

-- `rst_label2label`
unfoldable pub label2label_of : List ℕ → Link
label2label_of s = label2target_of true s

-- What is looked at first: "`.. ` or `__ `" behind the indent, and in a `.. ` block the _ before a name. Where neither stands there is
-- no target.
unfoldable pub starts_target : List ℕ → Bool
starts_target s =
    starts_with (0x2E ∷ 0x2E ∷ 0x20 ∷ 0x5F ∷ []) (drop (space0_of s) s) || starts_with (0x5F ∷ 0x5F ∷ 0x20 ∷ []) (drop (space0_of s) s)
