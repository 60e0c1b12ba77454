-- What the contracts of private functions speak of: verdicts on the texts that stand from a place on, for all indents that their block may have, by the
-- ranks of those that are listed.
-- Assumes nothing.
use Rattle.std.specs.Prelude.{Option, Some, None}
use Rattle.std.specs.Prelude.{ℕ, ◌+◌, ◌-◌, ◌/◌, ◌^◌, ◌<◌, ◌≡◌, List, [], ◌∷◌, ◌++◌, Bool, true, false, ◌&&◌, ◌||◌, eqb, leb, length, get_or, drop, take}
use Rattle.std.specs.Int.Bits.{bit_and, bit_or}
use Rattle.rst_bytes.specs.Line.{is_space, not_line_ending_of}
use Rattle.rst_bytes.specs.Tag.{starts_with}
use Rattle.restructured_text.specs.Block.{three, further_of, lines_of}
use Rattle.targetless.specs.declared.verdict.Verdict.{Verdict}
use Rattle.targetless.specs.Indents.{rank_of, is_listed, within_of}

-- a block's text that begins with s, whose line has n bytes
abbrev pub joined_of : List ℕ → ℕ → List ℕ → List ℕ
joined_of indent n s = take n s ++ (lines_of indent 0 (drop n s)).text

-- a fact of the block's text that begins with s
abbrev pub OfText : (List ℕ → Type 0) → List ℕ → List ℕ → Type 0
OfText P indent s = (n : ℕ) → not_line_ending_of s ≡ Some n → P (joined_of indent n s)

-- whether a further line follows
abbrev pub is_further : Option (ℕ × ℕ) → Bool
is_further (Some (a, n)) = true
is_further None = false

-- spaces and tabs
abbrev pub Blank : List ℕ → Type 0
Blank indent = (i : ℕ) → i < length indent → is_space (get_or indent i 0) ≡ true

-- all bits of a number
abbrev pub ones : ℕ
ones = 0xffff_ffff_ffff_ffff_ffff_ffff_ffff_ffff

-- bit k is 1
unfoldable pub bit_at : ℕ → ℕ → Bool
bit_at x k = eqb (bit_and (x / 2 ^ k) 1) 1

-- it is so where no further line follows
abbrev pub is_lone : Verdict → Bool
is_lone v = eqb (bit_and v.bits 1) 1

-- what a verdict says for an indent of k bytes, by whether a further line follows
abbrev pub judged_of : List ℕ → Verdict → Bool → ℕ → Bool
judged_of ranks v true k = is_listed ranks k && bit_at v.bits (rank_of ranks k + 1)
judged_of ranks v false k = is_lone v

-- the same by the bytes of an indent behind which a further line follows, if one does
abbrev pub judged_in : List ℕ → Verdict → Option ℕ → Bool
judged_in ranks v (Some k) = judged_of ranks v true k
judged_in ranks v None = judged_of ranks v false 0

-- it is so for each indent
abbrev pub everything : Verdict
everything = record { bits = ones }

-- nothing is told
abbrev pub nothing : Verdict
nothing = record { bits = 0 }

abbrev pub sure_of : Bool → Verdict
sure_of true = everything
sure_of false = nothing

-- what both say
abbrev pub both_of : Verdict → Verdict → Verdict
both_of a b = record { bits = bit_and a.bits b.bits }

-- what one of them says
abbrev pub either_of : Verdict → Verdict → Verdict
either_of a b = record { bits = bit_or a.bits b.bits }

-- for the other indents
abbrev pub not_of : Verdict → Verdict
not_of a = record { bits = ones - a.bits }

-- the lowest n bits of 128
unfoldable pub ones_of : ℕ → ℕ
ones_of n = elim (leb 128 n) [ true ↦ ones | false ↦ 2 ^ n - 1 ]

-- it is so for the indents that have at most m bytes with three spaces
abbrev pub up_to_of : List ℕ → ℕ → Verdict
up_to_of ranks m = record { bits = ones_of (within_of ranks m + 1) }

-- for the others
abbrev pub beyond_of : List ℕ → ℕ → Verdict
beyond_of ranks m = not_of (up_to_of ranks m)

-- the same where a further line follows
abbrev pub lone_of : Verdict → Bool → Verdict
lone_of v true = record { bits = bit_or v.bits 1 }
lone_of v false = record { bits = bit_and v.bits 0xffff_ffff_ffff_ffff_ffff_ffff_ffff_fffe }

-- at a line's end, by what is told of the next line, which has the first blanks in common with the line behind it
abbrev pub over_of : List ℕ → Verdict → Bool → ℕ → Verdict
over_of ranks next lone shared =
    lone_of (elim (is_lone next) [ true ↦ either_of next (beyond_of ranks shared) | false ↦ both_of next (up_to_of ranks shared) ]) lone

-- the verdict is true of the test of each text that begins with s
pub record Tells (ranks : List ℕ) (f : List ℕ → Bool) (v : Verdict) (s : List ℕ) : Type 0 where
  pub told :
      (indent : List ℕ) (n : ℕ) → Blank indent → not_line_ending_of s ≡ Some n
      → judged_of ranks v (is_further (further_of indent (drop n s))) (length indent) ≡ true → f (joined_of indent n s) ≡ true

-- a run over a text, up to a stop or a wrong escape
unfoldable pub run : ℕ → (ℕ → Bool) → (List ℕ → Bool) → Bool → Bool → List ℕ → Bool
run stop ok at wrong end [] = end
run stop ok at wrong end (b ∷ []) =
    elim (eqb b 0x5C) [ true ↦ wrong | false ↦ elim (eqb b stop) [ true ↦ at (b ∷ []) | false ↦ end ] ]
run stop ok at wrong end (b ∷ c ∷ rest) =
    elim (eqb b 0x5C) [
      | true ↦ elim (ok c) [ true ↦ run stop ok at wrong end rest | false ↦ wrong ]
      | false ↦ elim (eqb b stop) [ true ↦ at (b ∷ c ∷ rest) | false ↦ run stop ok at wrong end (c ∷ rest) ]
    ]

-- LF or CR
abbrev pub ends_line : ℕ → Bool
ends_line b = eqb b 10 || eqb b 13

-- the flag says whether a further line follows, for this indent
abbrev pub Flagged : Bool → List ℕ → List ℕ → Type 0
Flagged on indent s = (n : ℕ) → not_line_ending_of s ≡ Some n → on ≡ is_further (further_of indent (drop n s))

-- a further line follows just if the next line, with which `next` begins, begins with the indent and three spaces
abbrev pub Follows : List ℕ → List ℕ → Type 0
Follows next s = (indent : List ℕ) → Blank indent → Flagged (starts_with (indent ++ three) next) indent s

-- the first bytes at both places are the same blanks, and no more of them
abbrev pub Shared : ℕ → List ℕ → List ℕ → Type 0
Shared m s t =
    ((i : ℕ) → i < m → (i < length s) × (i < length t) × (get_or s i 0 ≡ get_or t i 0))
    × ((m < length s → m < length t → get_or s m 0 ≡ get_or t m 0 → is_space (get_or s m 0) ≡ false))
