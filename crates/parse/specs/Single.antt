-- The single-link call: "lends two buffers, for first string (text or name) and second string (label, destination or alias target),
-- _ unnumbered in both .. Bytes past each string keep what they held." "Single link: 2, 4, 8, 9, 7 (first string, then second)."
-- Assumes nothing.
use Rattle.std.specs.Prelude.{Some, None, Result, Ok, Err}
use Rattle.std.specs.Prelude.{ℕ, ◌≡◌, List, ◌++◌, Bool, true, false, not, ltb, eqb, length, drop}
use Rattle.rst_bytes.specs.Domain.{char_of, outside_of}
use Rattle.parse.specs.declared.Link.{Link}
use Rattle.parse.specs.declared.Link.TheVariants.{Text2Dest, TextLabel2Dest, Text2Label, Label2Dest, Label2Label}
use Rattle.parse.specs.declared.refusal.Refusal.{Refusal}
use Rattle.parse.specs.Refusal.{number_of, bytes_of}
use Rattle.parse.specs.Link.{Kind, text2dest, text-label2dest, text2label, label2dest, label2label, Scanned, found, nothing, no_room}
use Rattle.parse.specs.Scan.{scan_of}

-- what comes back: "number (0 if accepted)" and "bytes, or the answer"; "fields not named are 0"; the strings' lengths; and both
-- buffers as the call left them
pub record Outcome : Type 0 where
  pub number : ℕ
  pub bytes : ℕ
  pub kind : ℕ
  pub skipped : ℕ
  pub consumed : ℕ
  pub first : ℕ
  pub second : ℕ
  pub first_buffer : List ℕ
  pub second_buffer : List ℕ

-- the number of a case
abbrev pub kind_number : Kind → ℕ
kind_number text2dest = 1
kind_number text-label2dest = 2
kind_number text2label = 3
kind_number label2dest = 4
kind_number label2label = 5

-- "Refused, output and string buffers keep their bytes."
abbrev pub refusal : ℕ → ℕ → List ℕ → List ℕ → Outcome
refusal number bytes f g =
    record {
      number = number;
      bytes = bytes;
      kind = 0;
      skipped = 0;
      consumed = 0;
      first = 0;
      second = 0;
      first_buffer = f;
      second_buffer = g;
    }

abbrev pub acceptance : Kind → ℕ → ℕ → ℕ → ℕ → List ℕ → List ℕ → Outcome
acceptance kind first second skipped consumed f g =
    record {
      number = 0;
      bytes = 0;
      kind = kind_number kind;
      skipped = skipped;
      consumed = consumed;
      first = first;
      second = second;
      first_buffer = f;
      second_buffer = g;
    }

-- the longest document
abbrev pub document_len_max : ℕ
document_len_max = 16384

-- 8, "place past the document or inside a character": in a document of the domain, no character starts inside another
-- (rst_bytes, DomainLaws inside-at)
abbrev pub is_inside : List ℕ → Bool
is_inside s = elim (eqb (length s) 0) [ true ↦ false | false ↦ elim (char_of s) [ Some (n, point) ↦ false | None ↦ true ] ]

unfoldable pub is_place : ℕ → List ℕ → Bool
is_place place s = elim (ltb (length s) place) [ true ↦ false | false ↦ not (is_inside (drop place s)) ]

-- "Bytes past each string keep what they held."
abbrev pub filled : List ℕ → List ℕ → List ℕ
filled x buffer = x ++ drop (length x) buffer

-- "7, size needed in bytes": "first string, then second"; 9 "no link from the place to the end". The scanner never lacks room here
-- (ScanLaws scan-of-room).
abbrev pub handed : List ℕ → List ℕ → Scanned → Outcome
handed f g (found kind x y skipped consumed) =
    elim (ltb (length f) (length x)) [
      | true ↦ refusal 7 (length x) f g
      | false ↦ elim (ltb (length g) (length y)) [
        | true ↦ refusal 7 (length y) f g
        | false ↦ acceptance kind (length x) (length y) skipped consumed (filled x f) (filled y g)
      ]
    ]
handed f g nothing = refusal 9 0 f g
handed f g no_room = refusal 9 0 f g

-- the document, the place, and the two buffers as they were lent
unfoldable pub single_of : List ℕ → ℕ → List ℕ → List ℕ → Outcome
single_of s place f g =
    elim (ltb document_len_max (length s)) [
      | true ↦ refusal 2 0 f g
      | false ↦ elim (outside_of s) [
        | Some n ↦ refusal 4 n f g
        | None ↦ elim (is_place place s) [ true ↦ handed f g (scan_of (drop place s)) | false ↦ refusal 8 0 f g ]
      ]
    ]

-- 01's number and values for each case of the answer, with both buffers as the call left them
abbrev pub link_outcome : Link → List ℕ → List ℕ → Outcome
link_outcome (Text2Dest a b skipped consumed) f g = acceptance text2dest a.len b.len skipped consumed f g
link_outcome (TextLabel2Dest a b skipped consumed) f g = acceptance text-label2dest a.len b.len skipped consumed f g
link_outcome (Text2Label a b skipped consumed) f g = acceptance text2label a.len b.len skipped consumed f g
link_outcome (Label2Dest a b skipped consumed) f g = acceptance label2dest a.len b.len skipped consumed f g
link_outcome (Label2Label a b skipped consumed) f g = acceptance label2label a.len b.len skipped consumed f g

abbrev pub outcome_of : Result Link Refusal → List ℕ → List ℕ → Outcome
outcome_of (Ok x) f g = link_outcome x f g
outcome_of (Err r) f g = refusal (number_of r) (bytes_of r) f g

-- the strings stand at the front of the buffers
abbrev pub LinkFronts : Link → Type 0
LinkFronts (Text2Dest a b skipped consumed) = (a.start ≡ 0) × (b.start ≡ 0)
LinkFronts (TextLabel2Dest a b skipped consumed) = (a.start ≡ 0) × (b.start ≡ 0)
LinkFronts (Text2Label a b skipped consumed) = (a.start ≡ 0) × (b.start ≡ 0)
LinkFronts (Label2Dest a b skipped consumed) = (a.start ≡ 0) × (b.start ≡ 0)
LinkFronts (Label2Label a b skipped consumed) = (a.start ≡ 0) × (b.start ≡ 0)

abbrev pub Fronts : Result Link Refusal → Type 0
Fronts (Ok x) = LinkFronts x
Fronts (Err r) = Unit {0}
