-- What a target block defines, an alias or a destination, when both are read at once: for the contract of `rst_target`, which says what
-- its answer means by the definitions of Target, and for private contracts.
-- Assumes nothing.
use Rattle.std.specs.Prelude.{Option, Some, None, Result, Ok, Err}
use Rattle.restructured_text.specs.declared.ParseError.{ParseError}
use Rattle.restructured_text.specs.declared.ParseError.TheVariants.{NotFound, NoRoom}
use Rattle.restructured_text.specs.Spans.{Spans}
use Rattle.restructured_text.specs.declared.Span.{Span}
use Rattle.restructured_text.specs.declared.label.Label.{Label}
use Rattle.restructured_text.specs.declared.target.Definition.{Definition}
use Rattle.restructured_text.specs.declared.target.Definition.TheVariants.{Alias, Destination}
use Rattle.std.specs.Prelude.{ℕ, List, Bool, true, false, length, ◌≡◌}
use Rattle.restructured_text.specs.Strings.{Link, strings_of, Ends}
use Rattle.restructured_text.specs.declared.target.Raw.{Raw}
use Rattle.restructured_text.specs.declared.target.Raw.TheVariants as raw
use Rattle.restructured_text.specs.Label.{simple_label_of}

-- what an answer says of an alias, and what of a destination; no block is both
abbrev pub alias_in : Result Definition ParseError → Result Spans ParseError
alias_in (Ok (Alias a b n)) = Ok (a, b, n)
alias_in (Ok (Destination a b n)) = Err NotFound
alias_in (Err NotFound) = Err NotFound
alias_in (Err NoRoom) = Err NoRoom

abbrev pub destination_in : Result Definition ParseError → Result Spans ParseError
destination_in (Ok (Alias a b n)) = Err NotFound
destination_in (Ok (Destination a b n)) = Ok (a, b, n)
destination_in (Err NotFound) = Err NotFound
destination_in (Err NoRoom) = Err NoRoom

-- a is what there is of an alias, and d what there is of a destination, in an answer with the scratch as it left it
pub record Defines (a d : Link) (scratch : List ℕ) (r : Result Definition ParseError) : Type 0 where
  pub alias : strings_of (alias_in r) scratch ≡ a
  pub destination : strings_of (destination_in r) scratch ≡ d
  pub ends : Ends (alias_in r) × Ends (destination_in r)

-- for private contracts: the answer when one of them was looked for, ..
abbrev pub asked_of : Bool → Result Definition ParseError → Result Spans ParseError
asked_of true x = alias_in x
asked_of false x = destination_in x

-- .. what was found as an alias's or as a destination's, ..
abbrev pub told_as : Bool → Result Spans ParseError → Result Definition ParseError
told_as true (Ok (a, b, n)) = Ok (Alias a b n)
told_as false (Ok (a, b, n)) = Ok (Destination a b n)
told_as alias (Err NotFound) = Err NotFound
told_as alias (Err NoRoom) = Err NoRoom

-- .. and which of them the rest has: "an alias (the rest begins with a simple label; ..) or a destination (it doesn't)"
abbrev pub raw_in : List ℕ → Option (Label × ℕ) → Raw
raw_in s (Some (label, n)) = raw.Alias (record { start = label.start; len = label.len })
raw_in s None = raw.Destination (record { start = 0; len = length s })

unfoldable pub raw_of : List ℕ → Raw
raw_of s = raw_in s (simple_label_of s)

-- where it stands, and whether it is an alias's
abbrev pub raw_span : Raw → Span
raw_span (raw.Alias a) = a
raw_span (raw.Destination a) = a

abbrev pub is_alias : Raw → Bool
is_alias (raw.Alias a) = true
is_alias (raw.Destination a) = false
