-- Which forms a scanner tries, and trying them: the first of a list that finds a link. The scanner is defined for any such lists.
-- Assumes nothing.
use Rattle.std.specs.Prelude.{ℕ, ◌<◌, ◌≤◌, ◌≡◌, List, [], ◌∷◌, length}
use Rattle.restructured_text.specs.Strings.{Link, link, none, no_room}
use Rattle.restructured_text.specs.Inline.{text2dest_of, text_label2dest_of, text2label_of}
use Rattle.restructured_text.specs.Target.{label2dest_of, label2label_of}
use Rattle.parse.specs.Link.{Kind, text2dest, text-label2dest, text2label, label2dest, label2label, Scanned, found, nothing}

-- a case, and the parser that finds its links
pub record Form : Type 0 where
  pub kind : Kind
  pub parser : List ℕ → Link

-- what is tried where
pub record Forms : Type 0 where
  pub blocks : List Form
  pub embedded : List Form
  pub references : List Form
  pub unreported : List Form

-- each link that a form of the list finds consumes at least one byte, and no more than there are
abbrev pub AllConsuming : List Form → Type 0
AllConsuming [] = Unit {0}
AllConsuming (f ∷ fs) = ((s x y : List ℕ) (n : ℕ) → f.parser s ≡ link x y n → (0 < n) × (n ≤ length s)) × AllConsuming fs

-- and so whatever is tried: all that scanning needs to know of the forms to end, with links in order and apart
abbrev pub Consuming : Forms → Type 0
Consuming forms =
    AllConsuming forms.blocks × AllConsuming forms.embedded × AllConsuming forms.references × AllConsuming forms.unreported

-- the first form of the list that finds a link where s begins
abbrev pub tried : List Form → List ℕ → Scanned
tried [] s = nothing
tried (f ∷ fs) s =
    elim (f.parser s) [ link x y n ↦ found f.kind x y 0 n | none ↦ tried fs s | no_room ↦ tried fs s ]

-- the five forms
abbrev pub alias : Form
alias = record { kind = label2label; parser = label2label_of }

abbrev pub destination : Form
destination = record { kind = label2dest; parser = label2dest_of }

abbrev pub anonymous : Form
anonymous = record { kind = text2dest; parser = text2dest_of }

abbrev pub named : Form
named = record { kind = text-label2dest; parser = text_label2dest_of }

abbrev pub reference : Form
reference = record { kind = text2label; parser = text2label_of }

-- (b) "try alias block, then destination block"; (d) "try embedded anonymous, then embedded named"; (e) "try `rst_text2label`";
-- after a link that is no block "a destination block"
abbrev pub rst : Forms
rst =
    record {
      blocks = alias ∷ destination ∷ [];
      embedded = anonymous ∷ named ∷ [];
      references = reference ∷ [];
      unreported = destination ∷ [];
    }
