-- "Text transform: an escaped character stands for itself, escaped space for nothing; any other backslash refuses. Destination
-- transform: first drop unescaped space, tab, CR, LF, refusing an escape of anything but space, `:`, backtick, `<`, `>`,
-- backslash; then unescape, escaped space giving a space."
-- Assumes nothing.
use Rattle.std.specs.Prelude.{Option, Some, None}
use Rattle.std.specs.Prelude.{ℕ, List, [], ◌∷◌, ◌++◌, Bool, true, false, eqb, length, drop, ◌≡◌}
use Rattle.rst_bytes.specs.Tests.{one_of}
use Rattle.rst_bytes.specs.Escaped.{is_escapable}
use Rattle.rst_bytes.specs.Line.{is_multispace}

-- what a transform gives: the whole text; or, where it refuses, what it gave up to the backslash that refuses
pub data Given : Type 0 where
  whole : List ℕ → Given
  refused : List ℕ → Given

-- with more in front
abbrev pub onto : List ℕ → Given → Given
onto l (whole m) = whole (l ++ m)
onto l (refused m) = refused (l ++ m)

-- A text read byte by byte: a byte b gives `plain b`; a backslash with a following byte c that passes `ok` gives `pair c`; any
-- other backslash refuses.
unfoldable pub reading : (ℕ → Bool) → (ℕ → List ℕ) → (ℕ → List ℕ) → List ℕ → Given
reading ok pair plain [] = whole []
reading ok pair plain (b ∷ []) = elim (eqb b 0x5C) [ true ↦ refused [] | false ↦ whole (plain b) ]
reading ok pair plain (b ∷ c ∷ rest) =
    elim (eqb b 0x5C) [
      | true ↦ elim (ok c) [ true ↦ onto (pair c) (reading ok pair plain rest) | false ↦ refused [] ]
      | false ↦ onto (plain b) (reading ok pair plain (c ∷ rest))
    ]

-- whether an escaped byte stands for itself: a space only if it is to be kept
unfoldable pub gives : Bool → ℕ → Bool
gives keep c = elim (eqb c 0x20) [ true ↦ keep | false ↦ true ]

abbrev pub itself : ℕ → List ℕ
itself b = b ∷ []

-- the byte if the test holds, else nothing
abbrev pub only : Bool → ℕ → List ℕ
only true b = b ∷ []
only false b = []

-- "an escaped character stands for itself, escaped space for nothing", or, if `keep`, "giving a space"; "any other backslash
-- refuses"
abbrev pub unescaped_of : Bool → List ℕ → Given
unescaped_of keep s = reading is_escapable (λ c. only (gives keep c) c) itself s

-- "anything but space, `:`, backtick, `<`, `>`, backslash"
unfoldable pub is_destination_escapable : ℕ → Bool
is_destination_escapable b = one_of b (0x20 ∷ 0x3A ∷ 0x60 ∷ 0x3C ∷ 0x3E ∷ 0x5C ∷ [])

-- the byte, but for space, tab, CR, LF
unfoldable pub unblank : ℕ → List ℕ
unblank b = elim (is_multispace b) [ true ↦ [] | false ↦ b ∷ [] ]

-- "drop unescaped space, tab, CR, LF, refusing an escape of anything but .."
abbrev pub kept_of : List ℕ → Given
kept_of s = reading is_destination_escapable (λ c. 0x5C ∷ c ∷ []) unblank s

-- the text transform
unfoldable pub text_of : List ℕ → Given
text_of s = unescaped_of false s

-- the destination transform
unfoldable pub destination_of : List ℕ → Given
destination_of s = elim (kept_of s) [ whole l ↦ unescaped_of true l | refused l ↦ refused l ]

-- the destination transform or the text transform
abbrev pub transform_of : Bool → List ℕ → Given
transform_of true s = destination_of s
transform_of false s = text_of s

-- what is answered
abbrev pub answer_of : Given → Option ℕ
answer_of (whole l) = Some (length l)
answer_of (refused l) = None

-- what is written, in both cases
abbrev pub bytes_of : Given → List ℕ
bytes_of (whole l) = l
bytes_of (refused l) = l

-- d with l written over its front
abbrev pub over : List ℕ → List ℕ → List ℕ
over l d = l ++ drop (length l) d

-- a transform that gives g answers r, and leaves d' where d was lent
pub record Leaves (g : Given) (d d' : List ℕ) (r : Option ℕ) : Type 0 where
  pub answer : r ≡ answer_of g
  pub bytes : d' ≡ over (bytes_of g) d
