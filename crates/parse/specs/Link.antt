-- What scanning gives: "The answer names one of five cases, each holding two parts and two lengths: Text2Dest, TextLabel2Dest,
-- Text2Label, Label2Dest, Label2Label; the lengths are skipped and consumed."
-- Assumes nothing.
use Rattle.std.specs.Prelude.{Option, Some, None, Result, Ok, Err}
use Rattle.restructured_text.specs.declared.ParseError.{ParseError}
use Rattle.restructured_text.specs.declared.ParseError.TheVariants.{NotFound, NoRoom}
use Rattle.std.specs.Prelude.{ℕ, ◌+◌, ◌≤◌, List, true, false, ltb, length}
use Rattle.restructured_text.specs.Strings.{part}
use Rattle.parse.specs.declared.Link.{Link}
use Rattle.parse.specs.declared.Link.TheVariants.{Text2Dest, TextLabel2Dest, Text2Label, Label2Dest, Label2Label}

-- the five cases
pub data Kind : Type 0 where
  text2dest : Kind
  text-label2dest : Kind
  text2label : Kind
  label2dest : Kind
  label2label : Kind

-- a link: its case, first and second string, skipped and consumed; or that there is none; or that the scratch is too short to look
pub data Scanned : Type 0 where
  found : Kind → List ℕ → List ℕ → ℕ → ℕ → Scanned
  nothing : Scanned
  no_room : Scanned

-- the same with n bytes before it, which are skipped too
abbrev pub behind : ℕ → Scanned → Scanned
behind n (found k x y skipped consumed) = found k x y (n + skipped) consumed
behind n nothing = nothing
behind n no_room = no_room

-- the first that is a link
abbrev pub or_else : Scanned → Scanned → Scanned
or_else (found k x y skipped consumed) z = found k x y skipped consumed
or_else nothing z = z
or_else no_room z = no_room

-- what a link says, with the scratch in which its strings stand
abbrev pub link_of : Link → List ℕ → Scanned
link_of (Text2Dest a b skipped consumed) scratch = found text2dest (part a scratch) (part b scratch) skipped consumed
link_of (TextLabel2Dest a b skipped consumed) scratch = found text-label2dest (part a scratch) (part b scratch) skipped consumed
link_of (Text2Label a b skipped consumed) scratch = found text2label (part a scratch) (part b scratch) skipped consumed
link_of (Label2Dest a b skipped consumed) scratch = found label2dest (part a scratch) (part b scratch) skipped consumed
link_of (Label2Label a b skipped consumed) scratch = found label2label (part a scratch) (part b scratch) skipped consumed

-- what is found where the scratch is long enough, with the scratch as it was left
abbrev pub found_of : Option Link → List ℕ → Scanned
found_of (Some x) scratch = link_of x scratch
found_of None scratch = nothing

-- what an answer says, with the scratch as the scanner left it
abbrev pub scanned_of : Result Link ParseError → List ℕ → Scanned
scanned_of (Ok x) scratch = link_of x scratch
scanned_of (Err NotFound) scratch = nothing
scanned_of (Err NoRoom) scratch = no_room

-- the strings end within as many bytes of the scratch as were consumed
abbrev pub LinkEnds : Link → Type 0
LinkEnds (Text2Dest a b skipped consumed) = (a.start + a.len ≤ consumed) × (b.start + b.len ≤ consumed)
LinkEnds (TextLabel2Dest a b skipped consumed) = (a.start + a.len ≤ consumed) × (b.start + b.len ≤ consumed)
LinkEnds (Text2Label a b skipped consumed) = (a.start + a.len ≤ consumed) × (b.start + b.len ≤ consumed)
LinkEnds (Label2Dest a b skipped consumed) = (a.start + a.len ≤ consumed) × (b.start + b.len ≤ consumed)
LinkEnds (Label2Label a b skipped consumed) = (a.start + a.len ≤ consumed) × (b.start + b.len ≤ consumed)

abbrev pub FoundEnds : Option Link → Type 0
FoundEnds (Some x) = LinkEnds x
FoundEnds None = Unit {0}

abbrev pub Ends : Result Link ParseError → Type 0
Ends (Ok x) = LinkEnds x
Ends (Err NotFound) = Unit {0}
Ends (Err NoRoom) = Unit {0}

-- a scratch as long as the input is enough, and is asked for
abbrev pub lent : List ℕ → List ℕ → Scanned → Scanned
lent s scratch x = elim (ltb (length scratch) (length s)) [ true ↦ no_room | false ↦ x ]
