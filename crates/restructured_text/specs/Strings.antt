-- Links with their strings: what a parser that is lent a scratch finds, and how its answer says so.
-- Assumes nothing.
use Rattle.std.specs.Prelude.{Result, Ok, Err}
use Rattle.restructured_text.specs.declared.ParseError.{ParseError}
use Rattle.restructured_text.specs.declared.ParseError.TheVariants.{NotFound, NoRoom}
use Rattle.restructured_text.specs.Spans.{Spans}
use Rattle.std.specs.Prelude.{ℕ, ◌+◌, ◌≤◌, List, Bool, true, false, ltb, length, drop, take}
use Rattle.restructured_text.specs.declared.Span.{Span}
use Rattle.restructured_text.specs.Transform.{Given, whole, refused, text_of, transform_of}

-- two strings and how many bytes are consumed; or that there is no such form; or that the scratch is too short to look
pub data Link : Type 0 where
  link : List ℕ → List ℕ → ℕ → Link
  none : Link
  no_room : Link

-- the bytes that a span names
abbrev pub part : Span → List ℕ → List ℕ
part a s = take a.len (drop a.start s)

-- "A refusal there refuses that parser"
abbrev pub paired : Given → Given → ℕ → Link
paired (whole x) (whole y) n = link x y n
paired (whole x) (refused y) n = none
paired (refused x) y n = none

-- "Texts, labels and block names go through the text transform, destinations and alias targets through the other": the raw parts
-- are those that a and b name in s, the second one a destination or alias target, or not
abbrev pub linked : Bool → List ℕ → Span → Span → ℕ → Link
linked destination s a b n = paired (text_of (part a s)) (transform_of destination (part b s)) n

-- what an answer says, with the scratch as the parser left it
abbrev pub strings_of : Result Spans ParseError → List ℕ → Link
strings_of (Ok (a, b, n)) scratch = link (part a scratch) (part b scratch) n
strings_of (Err NotFound) scratch = none
strings_of (Err NoRoom) scratch = no_room

-- the strings end within as many bytes of the scratch as were consumed
abbrev pub Ends : Result Spans ParseError → Type 0
Ends (Ok (a, b, n)) = (a.start + a.len ≤ n) × (b.start + b.len ≤ n)
Ends (Err NotFound) = Unit {0}
Ends (Err NoRoom) = Unit {0}

-- a scratch as long as the input is enough, and is asked for
abbrev pub lent : List ℕ → List ℕ → Link → Link
lent s scratch x = elim (ltb (length scratch) (length s)) [ true ↦ no_room | false ↦ x ]
