-- The pieces of `rst_bytes` by number, and their answers in numbers. Each hands on the definition that its function promises.
-- Assumes nothing.
use Rattle.std.specs.Prelude.{ℕ, List, length, take, drop, Bool, true, false, ltb, eqb, Option, Some, None}
use Rattle.rst_bytes.specs.Domain.{char_of, outside_of}
use Rattle.rst_bytes.specs.Word.{is_word, word_of}
use Rattle.rst_bytes.specs.Trim.{trim_of}
use Rattle.rst_bytes.specs.Escaped.{escaped_of}
use Rattle.rst_bytes.specs.Line.{newline_of, line_ending_of, not_line_ending_of, space0_of, space1_of, multispace0_of}
use Rattle.rst_bytes.specs.Tag.{starts_with}
use Rattle.pieces.specs.declared.Answer.{Answer}

abbrev pub none : Answer
none = record { accepted = 0; value = 0; point = 0 }

abbrev pub taken : ℕ → Answer
taken n = record { accepted = 1; value = n; point = 0 }

-- whether, with no value
abbrev pub whether : Bool → Answer
whether b = elim b [ true ↦ taken 0 | false ↦ none ]

abbrev pub of_part : Option ℕ → Answer
of_part (Some n) = taken n
of_part None = none

abbrev pub of_character : Option (ℕ × ℕ) → Answer
of_character (Some (len, point)) = record { accepted = 1; value = len; point = point }
of_character None = none

-- whether it is a word character
abbrev pub of_word : Option (ℕ × ℕ) → Answer
of_word (Some (len, point)) = whether (is_word point)
of_word None = none

-- the stop sets: backtick, `<`, `<` and `>`, `:`
abbrev pub of_set : ℕ → List ℕ → Answer
of_set set s =
    elim (eqb set 0) [
      | true ↦ of_part (escaped_of 0x60 0x60 s)
      | false ↦ elim (eqb set 1) [
        | true ↦ of_part (escaped_of 0x3C 0x3C s)
        | false ↦ elim (eqb set 2) [ true ↦ of_part (escaped_of 0x3C 0x3E s) | false ↦ of_part (escaped_of 0x3A 0x3A s) ]
      ]
    ]

-- whether the bytes behind the place begin with those before it
abbrev pub of_tag : ℕ → List ℕ → Answer
of_tag place s =
    elim (ltb (length s) place) [
      | true ↦ none
      | false ↦ elim (starts_with (take place s) (drop place s)) [ true ↦ taken place | false ↦ none ]
    ]

-- 7 to 12
abbrev pub line_piece_of : ℕ → List ℕ → Answer
line_piece_of kind s =
    elim (eqb kind 7) [
      | true ↦ of_part (newline_of s)
      | false ↦ elim (eqb kind 8) [
        | true ↦ of_part (line_ending_of s)
        | false ↦ elim (eqb kind 9) [
          | true ↦ of_part (not_line_ending_of s)
          | false ↦ elim (eqb kind 10) [
            | true ↦ taken (space0_of s)
            | false ↦ elim (eqb kind 11) [
              | true ↦ of_part (space1_of s)
              | false ↦ elim (eqb kind 12) [ true ↦ taken (multispace0_of s) | false ↦ none ]
            ]
          ]
        ]
      ]
    ]

abbrev pub piece_of : ℕ → ℕ → List ℕ → Answer
piece_of kind parameter s =
    elim (eqb kind 1) [
      | true ↦ of_part (outside_of s)
      | false ↦ elim (eqb kind 2) [
        | true ↦ of_character (char_of (drop parameter s))
        | false ↦ elim (eqb kind 3) [
          | true ↦ of_word (char_of s)
          | false ↦ elim (eqb kind 4) [
            | true ↦ taken (word_of s)
            | false ↦ elim (eqb kind 5) [
              | true ↦ taken (length (take (trim_of s) s))
              | false ↦ elim (eqb kind 6) [
                | true ↦ of_set parameter s
                | false ↦ elim (eqb kind 13) [ true ↦ of_tag parameter s | false ↦ line_piece_of kind s ]
              ]
            ]
          ]
        ]
      ]
    ]
