-- Pairs of documents on which the claim is computed. `kept`: it is not empty. `needed`: without any one of its premises it is false.
-- proofs/ExamplesHold.antt computes that all of this holds.
-- Assumes nothing.
use Rattle.std.specs.Prelude.{ℕ, ◌≡◌, List, [], ◌∷◌, ◌++◌, map, Bool, true, false, not, ◌&&◌, ◌||◌, eqb, length, replicate}
use Prim.Native.String.{String}
use Rattle.parse.specs.Cases.{ascii}
use Rattle.iterator.specs.Document.{Verdict, numbers_min, bytes_min, verdict_of}
use Rattle.appending.specs.Claim.{
  line_feed,
  carriage_return,
  backtick,
  space,
  tab,
  holds,
  begins_with,
  ends_with,
  defines_no_name_twice,
  unresolved,
  links_held,
  remaining,
  Seen,
  seen,
}

-- the option, the first document, the tail
pub record Example : Type 0 where
  pub render : ℕ
  pub first : List ℕ
  pub tail : List ℕ

abbrev pub example : ℕ → String → String → Example
example render first tail = record { render = render; first = ascii first; tail = ascii tail }

abbrev pub second : Example → List ℕ
second e = e.first ++ line_feed ∷ e.tail

-- a call with the least work areas and 1,024 bytes of output
abbrev pub called : Example → List ℕ → Verdict
called e s = verdict_of s e.render numbers_min bytes_min (replicate 1024 0)

-- the premises
pub data Premise : Type 0 where
  no-carriage-return : Premise
  no-backtick : Premise
  no-blank : Premise
  no-name-twice : Premise

-- a premise, if it is broken, and others
abbrev pub if_broken : Premise → Bool → List Premise → List Premise
if_broken p true rest = p ∷ rest
if_broken p false rest = rest

-- the premises that a pair breaks
abbrev pub broken : Example → List Premise
broken e =
    if_broken no-carriage-return (ends_with carriage_return e.first)
    (if_broken no-backtick (holds backtick e.tail)
    (if_broken no-blank (begins_with space e.tail || begins_with tab e.tail)
    (if_broken no-name-twice (not (defines_no_name_twice e.render (second e))) [])))

-- what is told of a pair: whether both documents are accepted, the broken premises, the links of the first and of the second, and what
-- remains of the second's
pub record Told : Type 0 where
  pub accepted : Bool
  pub breaks : List Premise
  pub before : List Seen
  pub after : List Seen
  pub remains : List Seen

abbrev pub told : Example → Told
told e =
    let s = e.first in
    record {
      accepted = eqb (called e s).number 0 && eqb (called e (second e)).number 0;
      breaks = broken e;
      before = map (seen s) (links_held (called e s));
      after = map (seen (second e)) (links_held (called e (second e)));
      remains =
          map (seen (second e)) (remaining (length s) (unresolved e.render s) (links_held (called e (second e))));
    }

-- a link: place, consumed part, text, destination
abbrev pub link : ℕ → String → String → String → Seen
link place part text dest =
    record { place = place; consumed = length (ascii part); part = ascii part; text = ascii text; dest = ascii dest }

-- a pair, and what is told of it
pub record Case : Type 0 where
  pub given : Example
  pub should : Told

infix 68 ◌⟶◌
abbrev pub ◌⟶◌ : Example → Told → Case
e ⟶ t = record { given = e; should = t }

-- No premise is broken, and so what remains are the links of the first document; these, and those of the second
abbrev pub keeping : List Seen → List Seen → Told
keeping before after = record { accepted = true; breaks = []; before = before; after = after; remains = before }

-- With render 1: a reference that is resolved through an alias; one that the first document leaves unresolved and the second resolves; an
-- embedded link with an unreported block behind it; a rendered block; and in the tail a rendered block and a reference.
abbrev pub kept : List Case
kept =
    example 1 "a_ b_ `c <w>`_ .. _x: y\n.. _a: d_\n.. _d: u" ".. _b: v\na_"
    ⟶ keeping
    (link 0 "a_" "a" "u" ∷ link 6 "`c <w>`_ .. _x: y" "c" "w" ∷ link 34 ".. _d: u" ".. _d: u" "u" ∷ [])
    (link 0 "a_" "a" "u"
    ∷ link 3 "b_" "b" "v"
    ∷ link 6 "`c <w>`_ .. _x: y" "c" "w"
    ∷ link 34 ".. _d: u" ".. _d: u" "u"
    ∷ link 43 ".. _b: v" ".. _b: v" "v"
    ∷ link 52 "a_" "a" "u"
    ∷ [])
    ∷ []

-- One premise is broken; the links of the first document, and those of the second, of which all remain
abbrev pub breaking : Premise → List Seen → List Seen → Told
breaking p before after = record { accepted = true; breaks = p ∷ []; before = before; after = after; remains = after }

abbrev pub needed : List Case
needed =
    -- a carriage return alone in a further line ends the block before that line; with a line feed behind it the line belongs to the block
    example 0 "a_\n.. _a: u\n   v\r" ""
    ⟶ breaking no-carriage-return (link 0 "a_" "a" "u" ∷ []) (link 0 "a_" "a" "uv" ∷ [])
    -- a backtick in the tail closes one that was open, and what was a reference is text between the two
    ∷ example 0 "` a_\n.. _a: u" "`_" ⟶ breaking no-backtick (link 2 "a_" "a" "u" ∷ []) []
    -- a tail that begins with three spaces, or with the tab that a block begins with and three spaces, is a further line of that block
    ∷ example 0 "a_\n.. _a: u" "   v" ⟶ breaking no-blank (link 0 "a_" "a" "u" ∷ []) (link 0 "a_" "a" "uv" ∷ [])
    ∷ example 0 "a_\n\t.. _a: u" "\t   v" ⟶ breaking no-blank (link 0 "a_" "a" "u" ∷ []) (link 0 "a_" "a" "uv" ∷ [])
    -- a name that the tail defines again gets its later destination
    ∷ example 0 "a_\n.. _a: u" ".. _a: vw" ⟶ breaking no-name-twice (link 0 "a_" "a" "u" ∷ []) (link 0 "a_" "a" "vw" ∷ [])
    ∷ []

-- what should be told of each pair: that what remains is not the list of the first document's links
abbrev pub AllDiffer : List Case → Type 0
AllDiffer [] = Unit {0}
AllDiffer (c ∷ cs) = (c.should.remains ≡ c.should.before → ⊥) × AllDiffer cs
