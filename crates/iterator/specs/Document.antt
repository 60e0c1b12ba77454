-- The document call: "lends document, u32 work numbers, work bytes, output. It returns number (0 if accepted), links, bytes .. Fields not
-- named are 0." "Document: 1, 2, 3, 4, then 5 or 6 as reading meets them (5 first where one link meets both), then 7." "Refused, output and
-- string buffers keep their bytes. Accepted or refused, work areas of every length end zero. .. An accepted output holds the records, old
-- bytes after them."
-- Assumes nothing.
use Rattle.std.specs.Prelude.{Some, None}
use Rattle.std.specs.Prelude.{ℕ, List, ◌++◌, true, false, ◌||◌, ltb, length, drop, replicate}
use Rattle.rst_bytes.specs.Domain.{outside_of}
use Rattle.parse.specs.Links.{links_of}
use Rattle.parse.specs.Single.{document_len_max}
use Rattle.iterator.specs.declared.Outcome.{Outcome}
use Rattle.iterator.specs.Collect.{Collected, collected, refused, collect_all}
use Rattle.iterator.specs.Resolve.{Hyperlink, hyperlinks_of}
use Rattle.iterator.specs.Records.{records_of}

-- what comes back, the output, and both work areas
pub record Answer : Type 0 where
  pub number : ℕ
  pub links : ℕ
  pub bytes : ℕ
  pub output : List ℕ
  pub work_numbers : List ℕ
  pub work_bytes : List ℕ

-- number, links and bytes, and the output
pub record Verdict : Type 0 where
  pub number : ℕ
  pub links : ℕ
  pub bytes : ℕ
  pub output : List ℕ

-- "Refused, output .. keep their bytes."
abbrev pub refusal : ℕ → ℕ → List ℕ → Verdict
refusal number bytes output = record { number = number; links = 0; bytes = bytes; output = output }

-- "3: fewer than 4,096 work numbers or 49,152 work bytes"
abbrev pub numbers_min : ℕ
numbers_min = 4096

abbrev pub bytes_min : ℕ
bytes_min = 49152

-- "7, size needed in bytes: output too short"; else "the records, old bytes after them"
abbrev pub handed : List Hyperlink → List ℕ → Verdict
handed links output =
    elim (ltb (length output) (length (records_of links))) [
      | true ↦ refusal 7 (length (records_of links)) output
      | false ↦
          record {
            number = 0;
            links = length links;
            bytes = length (records_of links);
            output = records_of links ++ drop (length (records_of links)) output;
          }
    ]

-- "5 or 6 as reading meets them .., then 7"
abbrev pub answered : Collected → List ℕ → Verdict
answered (collected c) output = handed (hyperlinks_of c) output
answered (refused number) output = refusal number 0 output

-- document s, render, how many work numbers and work bytes are lent, and the output as it was lent
unfoldable pub verdict_of : List ℕ → ℕ → ℕ → ℕ → List ℕ → Verdict
verdict_of s render numbers bytes output =
    elim (ltb 1 render) [
      | true ↦ refusal 1 0 output
      | false ↦ elim (ltb document_len_max (length s)) [
        | true ↦ refusal 2 0 output
        | false ↦ elim (ltb numbers numbers_min || ltb bytes bytes_min) [
          | true ↦ refusal 3 0 output
          | false ↦ elim (outside_of s) [ Some n ↦ refusal 4 n output | None ↦ answered (collect_all render s (links_of s)) output ]
        ]
      ]
    ]

-- a verdict with both work areas as the call left them
abbrev pub answer_of : Verdict → List ℕ → List ℕ → Answer
answer_of v numbers bytes =
    record { number = v.number; links = v.links; bytes = v.bytes; output = v.output; work_numbers = numbers; work_bytes = bytes }

-- "Accepted or refused, work areas of every length end zero." The document, render, both work areas and the output as they were lent
abbrev pub document_of : List ℕ → ℕ → List ℕ → List ℕ → List ℕ → Answer
document_of s render numbers bytes output =
    answer_of (verdict_of s render (length numbers) (length bytes) output) (replicate (length numbers) 0) (replicate (length bytes) 0)

-- what the returned value says, with the output as it was left
abbrev pub verdict : Outcome → List ℕ → Verdict
verdict r output = record { number = r.number; links = r.links; bytes = r.bytes; output = output }
