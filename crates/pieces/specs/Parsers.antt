-- The parsers of `restructured_text` by number, and what their answers in numbers say: the definitions that its functions promise.
-- Assumes nothing.
use Rattle.restructured_text.specs.declared.ParseError.{ParseError}
use Rattle.restructured_text.specs.declared.ParseError.TheVariants.{NotFound, NoRoom}
use Rattle.restructured_text.specs.Spans.{Spans}
use Rattle.restructured_text.specs.declared.label.Label.{Label}
use Rattle.std.specs.Prelude.{ℕ, List, [], ◌∷◌, Bool, true, false, eqb, length, take, drop, Option, Some, None, Result, Ok, Err}
use Rattle.restructured_text.specs.Strings.{Link, link, none, no_room}
use Rattle.restructured_text.specs.Block.{BlockText, block, no_block, no-scratch, block_of}
use Rattle.restructured_text.specs.Transform.{whole, refused, transform_of}
use Rattle.restructured_text.specs.Text2target.{text2target_of}
use Rattle.restructured_text.specs.Label.{simple_label_of, parse_text2label_of}
use Rattle.restructured_text.specs.Target.{parse_label2target_of, label2dest_of, label2label_of}
use Rattle.restructured_text.specs.Inline.{text2dest_of, text_label2dest_of, text2label_of}
use Rattle.pieces.specs.declared.parser.Parsed.{Parsed as Said}

-- An answer of 1 to 8: two raw parts, one, or none.

abbrev pub without : ℕ → Said
without accepted = record { accepted = accepted; first = 0; first_len = 0; second = 0; second_len = 0; consumed = 0 }

abbrev pub one : ℕ → ℕ → ℕ → Said
one start len n = record { accepted = 1; first = start; first_len = len; second = 0; second_len = 0; consumed = n }

abbrev pub both : Spans → Said
both (a, b, n) =
    record { accepted = 1; first = a.start; first_len = a.len; second = b.start; second_len = b.len; consumed = n }

abbrev pub of_spans : Option Spans → Said
of_spans (Some found) = both found
of_spans None = without 0

abbrev pub of_label : Option (Label × ℕ) → Said
of_label (Some (label, n)) = one label.start label.len n
of_label None = without 0

abbrev pub raw_of : ℕ → List ℕ → Said
raw_of kind s =
    elim (eqb kind 1) [
      | true ↦ of_spans (text2target_of false false s)
      | false ↦ elim (eqb kind 2) [
        | true ↦ of_spans (text2target_of false true s)
        | false ↦ elim (eqb kind 3) [
          | true ↦ of_spans (text2target_of true false s)
          | false ↦ elim (eqb kind 4) [
            | true ↦ of_spans (text2target_of true true s)
            | false ↦ elim (eqb kind 5) [
              | true ↦ of_label (simple_label_of s)
              | false ↦ elim (eqb kind 6) [
                | true ↦ of_spans (parse_text2label_of s)
                | false ↦ elim (eqb kind 7) [
                  | true ↦ of_spans (parse_label2target_of false s)
                  | false ↦ elim (eqb kind 8) [ true ↦ of_spans (parse_label2target_of true s) | false ↦ without 0 ]
                ]
              ]
            ]
          ]
        ]
      ]
    ]

-- An answer of 9 to 17 where nothing is found.

abbrev pub of_error : ParseError → Said
of_error NotFound = without 0
of_error NoRoom = without 2

-- what a transform of n bytes gives
abbrev pub of_transformed : Option ℕ → ℕ → Result (ℕ × ℕ) ParseError
of_transformed (Some len) n = Ok (len, n)
of_transformed None n = Err NotFound

-- What an answer of 9 to 12, and one of 13 to 17, says, with the scratch as the parser left it.

abbrev pub block_said : Said → List ℕ → BlockText
block_said r scratch =
    elim (eqb r.accepted 1) [
      | true ↦ block (take r.first_len (drop r.first scratch)) r.consumed
      | false ↦ elim (eqb r.accepted 2) [ true ↦ no-scratch | false ↦ no_block ]
    ]

abbrev pub strings_said : Said → List ℕ → Link
strings_said r scratch =
    elim (eqb r.accepted 1) [
      | true ↦ link (take r.first_len (drop r.first scratch)) (take r.second_len (drop r.second scratch)) r.consumed
      | false ↦ elim (eqb r.accepted 2) [ true ↦ no_room | false ↦ none ]
    ]

-- the blocks that 11 and 12 read, behind `.. ` and `__ `
abbrev pub block_at : ℕ → List ℕ → BlockText
block_at kind s =
    elim (eqb kind 11) [ true ↦ block_of (0x2E ∷ 0x2E ∷ 0x20 ∷ []) s | false ↦ block_of (0x5F ∷ 0x5F ∷ 0x20 ∷ []) s ]

-- the transform that is wanted, of all the text
abbrev pub transformed_of : Bool → List ℕ → BlockText
transformed_of destination s = elim (transform_of destination s) [ whole l ↦ block l (length s) | refused l ↦ no_block ]

-- what 9 and 10 give: 10 is the destination transform
abbrev pub transformed_at : ℕ → List ℕ → BlockText
transformed_at kind s = transformed_of (eqb kind 10) s

-- the forms that 13 to 17 read
abbrev pub form_at : ℕ → List ℕ → Link
form_at kind s =
    elim (eqb kind 13) [
      | true ↦ text2dest_of s
      | false ↦ elim (eqb kind 14) [
        | true ↦ text_label2dest_of s
        | false ↦ elim (eqb kind 15) [
          | true ↦ text2label_of s
          | false ↦ elim (eqb kind 16) [ true ↦ label2dest_of s | false ↦ label2label_of s ]
        ]
      ]
    ]
