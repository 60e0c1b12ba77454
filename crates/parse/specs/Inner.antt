-- What the contracts of private functions speak of: a round's answer with the place that comes next; what is known of backticks and
-- of blocks, which `next_link` hands on too; text without links; how two strings are handed over.
-- Assumes nothing.
use Rattle.std.specs.Prelude.{Option, Some, None, Result, Ok, Err}
use Rattle.restructured_text.specs.declared.ParseError.{ParseError}
use Rattle.restructured_text.specs.declared.ParseError.TheVariants.{NotFound, NoRoom}
use Rattle.std.specs.Prelude.{ℕ, ◌+◌, ◌-◌, ◌<◌, ◌≤◌, ◌≡◌, ◌⊎◌, List, Bool, true, false, not, ◌&&◌, ◌||◌, eqb, ltb, length, drop, get_or}
use Rattle.std.specs.declared.ops.ControlFlow.{ControlFlow}
use Rattle.std.specs.declared.ops.ControlFlow.TheVariants.{Break, Continue}
use Rattle.rst_bytes.specs.Escaped.{taking}
use Rattle.rst_bytes.specs.Line.{is_space}
use Rattle.rst_bytes.specs.Word.{is_word}
use Rattle.restructured_text.specs.declared.Span.{Span}
use Rattle.restructured_text.specs.Delimited.{backticked_of}
use Rattle.parse.specs.declared.Known.{Known}
use Rattle.parse.specs.declared.refusal.Refusal.{Refusal}
use Rattle.parse.specs.declared.Link.{Link}
use Rattle.parse.specs.declared.Link.TheVariants.{Text2Dest, TextLabel2Dest, Text2Label, Label2Dest, Label2Label}
use Rattle.parse.specs.Link.{Kind, found, nothing, found_of, FoundEnds}
use Rattle.parse.specs.Forms.{tried, rst}
use Rattle.parse.specs.Refusal.{number_of, bytes_of}
use Rattle.parse.specs.Scan.{Round, ends, passes, is_lf, lfs_of, is_opening, is_plain, rounds}
use Rattle.parse.specs.Single.{Outcome, refusal, acceptance, handed}

-- from place m on and before place n of s the claim holds of each byte and what begins with it
abbrev pub Each : (ℕ → List ℕ → Type 0) → ℕ → ℕ → List ℕ → Type 0
Each Claim m n s = (i : ℕ) → m ≤ i → i < n → Claim (get_or s i 0) (drop i s)

-- if that is a backtick
abbrev pub Tick : (List ℕ → Type 0) → ℕ → List ℕ → Type 0
Tick Claim b s = b ≡ 0x60 → Claim s

-- whatever it is
abbrev pub Any : (List ℕ → Type 0) → ℕ → List ℕ → Type 0
Any Claim b s = Claim s

-- no part that is closed by `_ begins there
abbrev pub NoPart : List ℕ → Type 0
NoPart s = (anonym : Bool) → backticked_of anonym s ≡ None

abbrev pub Shut : ℕ → ℕ → List ℕ → Type 0
Shut m n s = Each (Tick NoPart) m n s

-- no embedded link begins there
abbrev pub NoLink : List ℕ → Type 0
NoLink s = tried rst.embedded s ≡ nothing

abbrev pub Barren : ℕ → ℕ → List ℕ → Type 0
Barren m n s = Each (Tick NoLink) m n s

-- no block begins there
abbrev pub NoBlock : List ℕ → Type 0
NoBlock s = tried rst.blocks s ≡ nothing

abbrev pub Blockless : ℕ → ℕ → List ℕ → Type 0
Blockless m n s = Each (Any NoBlock) m n s

-- where 1 is marked no block begins
abbrev pub Barred : List ℕ → List ℕ → Type 0
Barred marks s = (k : ℕ) → get_or marks k 0 ≡ 1 → NoBlock (drop k s)

-- from behind each backtick before place n of s a part is read up to n
abbrev pub RunsTo : ℕ → List ℕ → Type 0
RunsTo n s = (i : ℕ) → i < n → get_or s i 0 ≡ 0x60 → taking 0x60 0x60 false (i + 1) (drop (i + 1) s) ≡ Some n

-- the part that begins with the first byte of s, a backtick: its close stands at place n, or none before n begins a part that is closed
abbrev pub PartEnds : List ℕ → Result ℕ ℕ → Type 0
PartEnds s (Ok n) = (0 < n) × (n < length s) × RunsTo n s
PartEnds s (Err n) = (0 < n) × (n ≤ length s) × Shut 0 n s

-- the first unescaped backtick or < is <
abbrev pub Opened : List ℕ → Type 0
Opened s = (n : ℕ) × (taking 0x60 0x3C false 0 s ≡ Some n) × (n < length s) × (get_or s n 0 ≡ 0x3C)

-- what is known from place m on is true, with these marks of the text
abbrev pub Holds : ℕ → Known → List ℕ → List ℕ → Type 0
Holds m known marks s =
    Shut m known.shut s × Barren m known.barren s × Blockless m known.blocks s × Barred marks s

-- what is known of every text; no contract cites it, but laws of the layer above do
abbrev pub nothing_known : Known
nothing_known = record { shut = 0; barren = 0; blocks = 0; failed = 0; marked = 0 }

-- what is known, with places counted from place n on
abbrev pub known_from : ℕ → Known → Known
known_from n known =
    record {
      shut = known.shut - n;
      barren = known.barren - n;
      blocks = known.blocks - n;
      failed = known.failed;
      marked = known.marked - n;
    }

-- the place behind a link
abbrev pub link_end : Link → ℕ
link_end (Text2Dest a b skipped consumed) = skipped + consumed
link_end (TextLabel2Dest a b skipped consumed) = skipped + consumed
link_end (Text2Label a b skipped consumed) = skipped + consumed
link_end (Label2Dest a b skipped consumed) = skipped + consumed
link_end (Label2Label a b skipped consumed) = skipped + consumed

-- a link that was found ends within s
abbrev pub EndsWithin : List ℕ → Option Link → Type 0
EndsWithin s (Some x) = link_end x ≤ length s
EndsWithin s None = Unit {0}

-- where a link of s was found, what is known is true from behind it on
abbrev pub HoldsBehind : List ℕ → Known → List ℕ → Option Link → Type 0
HoldsBehind s known marks (Some x) = Holds (link_end x) known marks s
HoldsBehind s known marks None = Unit {0}

-- what is known is true of the text behind a link, with the marks from there on
abbrev pub TrueBehind : List ℕ → List ℕ → Known → Result Link ParseError → Type 0
TrueBehind s marks known (Ok x) = Holds 0 known (drop (link_end x) marks) (drop (link_end x) s)
TrueBehind s marks known (Err NotFound) = Unit {0}
TrueBehind s marks known (Err NoRoom) = Unit {0}

-- a round, by what its first step says with the scratch as it was left, and by what it is if that step goes on
abbrev pub going_on : {C : Type 0} → ControlFlow (Option Link) C → List ℕ → (C → Round) → Round
going_on (Break x) scratch r = ends (found_of x scratch)
going_on (Continue c) scratch r = r c

-- what a step says that goes on at a place: places count from the front of the text
abbrev pub step_of : ControlFlow (Option Link) ℕ → List ℕ → Round
step_of step scratch = going_on step scratch passes

abbrev pub StepEnds : {C : Type 0} → ControlFlow (Option Link) C → Type 0
StepEnds (Break x) = FoundEnds x
StepEnds (Continue c) = Unit {0}

-- a byte of that kind stands at place j of s, behind one that (f) passes
abbrev pub Behind : (ℕ → Bool) → ℕ → List ℕ → Type 0
Behind f j s = (j < length s) × (0 < j) × (is_plain (get_or s (j - 1) 0) ≡ true) × (f (get_or s j 0) ≡ true)

-- n LFs stand at the front of s, and then no block begins, or there are none
abbrev pub LineStart : ℕ → List ℕ → Type 0
LineStart n s = (n ≤ length s) × (n ≡ lfs_of s) × (NoBlock (drop n s) ⊎ (n ≡ 0))

-- the rounds from place i on of s are those from place j on
abbrev pub Skips : Bool → ℕ → ℕ → List ℕ → Type 0
Skips start i j s = (i ≤ j) × (j ≤ length s) × (i < j → rounds rst 0 start i (drop i s) ≡ rounds rst 0 false j (drop j s))

-- and place j is behind place i, unless s ends at i
abbrev pub Passes : Bool → ℕ → ℕ → List ℕ → Type 0
Passes start i j s = (i < length s → i < j) × Skips start i j s

-- no byte from place i up to place j of s is LF or a blank, nor a backtick but before place n; and s ends at j, or (f) stops there
pub record Dull (n i j : ℕ) (s : List ℕ) : Type 0 where
  pub behind : i ≤ j
  pub within : j ≤ length s
  pub dull : (k : ℕ) → i ≤ k → k < j → (is_lf (get_or s k 0) ≡ false) × (is_space (get_or s k 0) ≡ false) × (get_or s k 0 ≡ 0x60 → k < n)
  pub edge : (length s ≡ j) ⊎ ((j < length s) × (is_plain (get_or s j 0) ≡ false))

-- no LF, no backtick, none of the bytes that (e) skips, and below 80 no word character
unfoldable pub is_void : ℕ → Bool
is_void b = ltb b 0x80 && not (is_lf b || (eqb b 0x60 || (is_opening b || is_word b)))

-- where the strings of a link stand
abbrev pub first_of : Link → Span
first_of (Text2Dest a b skipped consumed) = a
first_of (TextLabel2Dest a b skipped consumed) = a
first_of (Text2Label a b skipped consumed) = a
first_of (Label2Dest a b skipped consumed) = a
first_of (Label2Label a b skipped consumed) = a

abbrev pub second_of : Link → Span
second_of (Text2Dest a b skipped consumed) = b
second_of (TextLabel2Dest a b skipped consumed) = b
second_of (Text2Label a b skipped consumed) = b
second_of (Label2Dest a b skipped consumed) = b
second_of (Label2Label a b skipped consumed) = b

-- the link with its strings at places f and g
abbrev pub with_parts : Span → Span → Link → Link
with_parts f g (Text2Dest a b skipped consumed) = Text2Dest f g skipped consumed
with_parts f g (TextLabel2Dest a b skipped consumed) = TextLabel2Dest f g skipped consumed
with_parts f g (Text2Label a b skipped consumed) = Text2Label f g skipped consumed
with_parts f g (Label2Dest a b skipped consumed) = Label2Dest f g skipped consumed
with_parts f g (Label2Label a b skipped consumed) = Label2Label f g skipped consumed

-- both strings end within the first n bytes of the scratch
abbrev pub LinkWithin : ℕ → Link → Type 0
LinkWithin n x = ((first_of x).start + (first_of x).len ≤ n) × ((second_of x).start + (second_of x).len ≤ n)

-- what comes back of a link of that case, with the buffers as they were left
abbrev pub handed_of : Kind → ℕ → ℕ → Result (Span × Span) Refusal → List ℕ → List ℕ → Outcome
handed_of kind skipped consumed (Ok (a, b)) f g = acceptance kind a.len b.len skipped consumed f g
handed_of kind skipped consumed (Err r) f g = refusal (number_of r) (bytes_of r) f g

-- the strings x and y of a link were handed over to the buffers f and g, which are f' and g' then: whichever case it is
abbrev pub HandsOver : Result (Span × Span) Refusal → List ℕ → List ℕ → List ℕ → List ℕ → List ℕ → List ℕ → Type 0
HandsOver r f' g' f g x y =
    (kind : Kind) (skipped consumed : ℕ) → handed_of kind skipped consumed r f' g' ≡ handed f g (found kind x y skipped consumed)

abbrev pub HandedFronts : Result (Span × Span) Refusal → Type 0
HandedFronts (Ok (a, b)) = (a.start ≡ 0) × (b.start ≡ 0)
HandedFronts (Err r) = Unit {0}
