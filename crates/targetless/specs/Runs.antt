-- What the contracts of private functions speak of: the runs that tell whether a block's text is a target.
-- Assumes nothing.
use Rattle.std.specs.Prelude.{Option, Some, None}
use Rattle.std.specs.Prelude.{ℕ, ◌+◌, ◌-◌, ◌*◌, ◌≤◌, List, [], ◌∷◌, Bool, true, false, ◌&&◌, ◌||◌, not, eqb, leb, ltb, length, get_or, drop, ◌≡◌}
use Rattle.rst_bytes.specs.Escaped.{is_escapable, taking}
use Rattle.rst_bytes.specs.Line.{not_line_ending_of}
use Rattle.rst_bytes.specs.Tag.{starts_with}
use Rattle.rst_bytes.specs.Word.{word_of}
use Rattle.restructured_text.specs.Definition.{raw_of, raw_span}
use Rattle.restructured_text.specs.Delimited.{backticked_of}
use Rattle.restructured_text.specs.Inner.{is_refused}
use Rattle.restructured_text.specs.Label.{label_len_max}
use Rattle.restructured_text.specs.Strings.{none, part}
use Rattle.restructured_text.specs.Target.{named_of}
use Rattle.restructured_text.specs.Transform.{is_destination_escapable, kept_of}
use Rattle.targetless.specs.declared.state.Size.{Size}
use Rattle.targetless.specs.declared.state.State.{State}
use Rattle.targetless.specs.Verdict.{joined_of, Blank, everything, nothing, lone_of, Tells, run}

-- the target that stands here, an alias's or a destination, is refused
unfoldable pub is_dead : List ℕ → Bool
is_dead s = is_refused (kept_of (part (raw_span (raw_of s)) s))

-- a `.. ` block with this text gives no target
abbrev pub Unnamed : List ℕ → Type 0
Unnamed text = (label : Bool) (size : ℕ) → named_of label text size ≡ none

-- what may stand behind a backslash, in a name or in a destination
abbrev pub escapable_of : Bool → ℕ → Bool
escapable_of true b = is_escapable b
escapable_of false b = is_destination_escapable b

-- a word that is a label of at most 999 bytes stands at the front, and one `_` behind it, or two
unfoldable pub word_labelled : List ℕ → Bool
word_labelled s =
    ltb 1 (word_of s)
    && (eqb (get_or s (word_of s - 1) 0) 0x5F && leb (word_of s) (elim (eqb (get_or s (word_of s - 2) 0) 0x5F) [ true ↦ 1001 | false ↦ 1000 ]))

-- a destination is refused: a wrong escape stands in it; no stop
abbrev pub destination_run : List ℕ → Bool
destination_run s = run 10 (escapable_of false) (λ t. false) true false s

-- this backtick closes no label
abbrev pub label_stop : List ℕ → Bool
label_stop t = not (starts_with (0x60 ∷ 0x5F ∷ []) t)

-- behind a backtick no label is closed, or it is refused
abbrev pub label_run : List ℕ → Bool
label_run s = run 0x60 (escapable_of false) label_stop true true s

-- a label of these bytes is too long, or there is none
abbrev pub is_long : Option ℕ → Bool
is_long (Some n) = ltb label_len_max n
is_long None = true

-- behind a backtick no label stands that is taken whole: none is closed, or it is refused, or it is too long
abbrev pub no_label : List ℕ → Bool
no_label s = label_run s || is_long (backticked_of false (0x60 ∷ s))

-- n bytes more
abbrev pub more : Size → ℕ → Size
more z n = record z { kept = z.kept + n }

-- a line's end more
abbrev pub ended : Size → Size
ended z = record { kept = z.kept + 1; ends = z.ends + 1 }

-- a label that goes on with this text and that a backtick closes has so many bytes up to it, for an indent that has m bytes with three spaces
abbrev pub SizeOf : Size → ℕ → List ℕ → Type 0
SizeOf z m text =
    (k : ℕ) → taking 0x60 0x60 false 0 text ≡ Some k → starts_with (0x60 ∷ []) (drop k text) ≡ true → k + z.ends * m ≡ z.kept

-- the same of each text that begins with s
pub record Sized (z : Size) (s : List ℕ) : Type 0 where
  pub kept : z.kept ≤ length s
  pub ends : z.ends ≤ length s
  pub is : (indent : List ℕ) (n : ℕ) → Blank indent → not_line_ending_of s ≡ Some n → SizeOf z (length indent + 3) (joined_of indent n s)

-- this colon ends no name, or the target behind it is refused
abbrev pub plain_stop : List ℕ → Bool
plain_stop t = not (starts_with (0x3A ∷ 0x20 ∷ []) t) || is_dead (drop 2 t)

-- a colon before this text ends no name, or the target behind it is refused
abbrev pub line_stop : List ℕ → Bool
line_stop t = plain_stop (0x3A ∷ t)

-- a plain name does not end, or its target is refused
abbrev pub plain_run : List ℕ → Bool
plain_run s = run 0x3A (escapable_of true) plain_stop true true s

-- this backtick closes no name, or the target behind it is refused
abbrev pub quoted_stop : List ℕ → Bool
quoted_stop t = not (starts_with (0x60 ∷ 0x3A ∷ 0x20 ∷ []) t) || is_dead (drop 3 t)

-- behind a backtick a name is not closed, or its target is refused
abbrev pub quoted_run : List ℕ → Bool
quoted_run s = run 0x60 (escapable_of true) quoted_stop true true s

-- this backtick closes a name
abbrev pub closed_stop : List ℕ → Bool
closed_stop t = starts_with (0x60 ∷ 0x3A ∷ 0x20 ∷ []) t

-- behind a backtick a name is closed
abbrev pub closed_run : List ℕ → Bool
closed_run s = run 0x60 (escapable_of true) closed_stop false false s

-- the verdicts of a state are true of the texts that begin with s
pub record StateTells (ranks : List ℕ) (x : State) (s : List ℕ) : Type 0 where
  pub destination : Tells ranks destination_run x.destination s
  pub label : Tells ranks label_run x.label s
  pub plain : Tells ranks plain_run x.plain s
  pub quoted : Tells ranks quoted_run x.quoted s
  pub closed : Tells ranks closed_run x.closed s
  pub target : Tells ranks is_dead x.target s
  pub size : Sized x.size s

-- at a backslash that refuses what it stands in
abbrev pub wrong_of : State
wrong_of =
    record {
      destination = everything;
      label = everything;
      plain = everything;
      quoted = everything;
      closed = nothing;
      target = everything;
      size = record { kept = 0; ends = 0 };
    }

-- at a backslash before a line's end
abbrev pub ended_of : State → Size → State
ended_of near size =
    record {
      destination = lone_of near.destination true;
      label = lone_of near.label true;
      plain = lone_of near.plain true;
      quoted = lone_of near.quoted true;
      closed = lone_of near.closed false;
      target = lone_of near.destination true;
      size = size;
    }

-- at a backslash before a byte that it may stand before in a name, and in a destination too
abbrev pub paired_of : State → Bool → Size → State
paired_of far true size = record far { target = far.destination; size = size }
paired_of far false size = record far { destination = everything; label = everything; target = everything; size = size }
