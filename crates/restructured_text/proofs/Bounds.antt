-- What a part takes stands within the text: laws for the bounds that the code asks, and the set of them.
-- Assumes nothing.
use Rattle.std.proofs.Common.{Option, Some, ℕ, List, Bool, ◌≡◌, ◌+◌, ◌≤◌, length, subst, arith}
use lib.ListN.{length-take}
use Rattle.rst_bytes.proofs.EscapedLaws.{taken-le}
use Rattle.rst_bytes.proofs.LineLaws.{space0-le, line-ending-le, not-line-ending-le}
use Rattle.rst_bytes.proofs.TagLaws.{starts-le}
use Rattle.rst_bytes.proofs.TrimLaws.{trim-within}
use Rattle.rst_bytes.proofs.Variants.{ok_or-some}
use Rattle.rst_bytes.proofs.WordLaws.{word-within}
use Rattle.restructured_text.specs.declared.Span.{Span}
use Rattle.restructured_text.specs.Label.{form_of, parse_text2label_of}
use Rattle.restructured_text.specs.Text2target.{inside_of, text2target_of}
use Rattle.restructured_text.proofs.BlockLaws.{start-le, cut-le, further-pos, further-le}
use Rattle.restructured_text.proofs.DelimitedLaws.{ends-le, delimited-within, backticked-within}
use Rattle.restructured_text.proofs.LabelLaws.{Placed, form-placed, reference-placed}
use Rattle.restructured_text.proofs.TargetLaws.{name-within, rest-within}
use Rattle.restructured_text.proofs.Text2targetLaws.{Apart, inside-apart, text2target-apart}

-- text and target between the backticks
pub inside-text : (label : Bool) (s : List ℕ) (a b : Span) (n : ℕ) → inside_of label s ≡ Some (a, b, n) → a.start ≤ length s
inside-text label s a b n e = let w = subst (Apart (length s)) e (inside-apart label s) in omega (arith, w.0, w.1, w.2)

pub inside-target : (label : Bool) (s : List ℕ) (a b : Span) (n : ℕ) → inside_of label s ≡ Some (a, b, n) → b.start ≤ length s
inside-target label s a b n e = let w = subst (Apart (length s)) e (inside-apart label s) in omega (arith, w.1, w.2)

-- text and target in the whole
pub text2target-stands :
    (anonym label : Bool) (s : List ℕ) (a b : Span) (n : ℕ) → text2target_of anonym label s ≡ Some (a, b, n)
    → (a.start + a.len ≤ b.start) × (b.start + b.len ≤ n) × (n ≤ length s)
text2target-stands anonym label s a b n e = let w = subst (Apart (length s)) e (text2target-apart anonym label s) in (w.0, w.1, w.2)

-- text and label of a reference
pub reference-stands :
    (s : List ℕ) (a b : Span) (n : ℕ) → parse_text2label_of s ≡ Some (a, b, n)
    → (a.start + a.len ≤ n) × (b.start + b.len ≤ n) × (n ≤ length s)
reference-stands s a b n e = let w = subst (Placed (length s)) e (reference-placed s) in (w.1, w.2, w.3)

-- what a reference's form consumes
pub form-within : (s : List ℕ) (a b : Span) (n : ℕ) → form_of s ≡ Some (a, b, n) → n ≤ length s
form-within s a b n e = (subst (Placed (length s)) e (form-placed s)).3

pub ruleset bounds = (ok_or-some, length-take, starts-le, taken-le, trim-within, word-within, ends-le, delimited-within, backticked-within, inside-text, inside-target, text2target-stands, reference-stands, form-within, space0-le, line-ending-le, not-line-ending-le, start-le, cut-le, further-pos, further-le, name-within, rest-within)
