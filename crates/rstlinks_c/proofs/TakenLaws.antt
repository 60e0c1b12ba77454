-- The single-link call's answer in numbers is what the call says: 32 bits hold each of its lengths.
-- Assumes nothing.
use Prim.Native.Nat.{ℕ}
use native.Mathlib.Omega.{arith}
use mathlib.Core.Path.{◌≡◌, refl, sym, ap, subst, ◌∙◌}
use mathlib.Core.List.{List}
use Rattle.parse.specs.declared.Link.{Link}
use Rattle.parse.specs.declared.Link.TheVariants.{Text2Dest, TextLabel2Dest, Text2Label, Label2Dest, Label2Label}
use Rattle.std.proofs.Common.{Result, Ok, Err}
use Rattle.parse.specs.declared.refusal.Refusal.{Refusal}
use Rattle.parse.specs.Refusal.{number_of, bytes_of}
use Rattle.parse.specs.Single.{link_outcome, outcome_of, single_of}
use Rattle.parse.proofs.SizeLaws.{Small, single-small}
use Rattle.rstlinks_c.specs.declared.Taken.{Taken}
use Rattle.rstlinks_c.specs.Taken.{taken, Short, LinkShort, refusal, link_taken}

small-link : (x : Link) (f g : List ℕ) → Small (link_outcome x f g) → LinkShort x
small-link (Text2Dest a b skipped consumed) f g w = (omega arith, (omega arith, (omega arith, omega arith)))
small-link (TextLabel2Dest a b skipped consumed) f g w = (omega arith, (omega arith, (omega arith, omega arith)))
small-link (Text2Label a b skipped consumed) f g w = (omega arith, (omega arith, (omega arith, omega arith)))
small-link (Label2Dest a b skipped consumed) f g w = (omega arith, (omega arith, (omega arith, omega arith)))
small-link (Label2Label a b skipped consumed) f g w = (omega arith, (omega arith, (omega arith, omega arith)))

link-said : (x : Link) (f g : List ℕ) → taken (link_taken x) f g ≡ link_outcome x f g
link-said (Text2Dest a b skipped consumed) f g = refl
link-said (TextLabel2Dest a b skipped consumed) f g = refl
link-said (Text2Label a b skipped consumed) f g = refl
link-said (Label2Dest a b skipped consumed) f g = refl
link-said (Label2Label a b skipped consumed) f g = refl

-- The call of document s, place and buffers f and g answered r, which is r', and left the buffers as f' and g'.
module _ (s : List ℕ) (place : ℕ) (f g f' g' : List ℕ) (r r' : Result Link Refusal) (e : outcome_of r f' g' ≡ single_of s place f g) (h : r ≡ r') where
  said : outcome_of r' f' g' ≡ single_of s place f g
  said = sym (ap (λ (z : Result Link Refusal). outcome_of z f' g') h) ∙ e

  small : Small (outcome_of r' f' g')
  small = subst Small (sym said) (single-small s place f g)

-- a link
module _
    (s : List ℕ) (place : ℕ) (f g f' g' : List ℕ) (r : Result Link Refusal) (x : Link) (e : outcome_of r f' g' ≡ single_of s place f g)
    (h : r ≡ Ok x) where
  pub link-short : LinkShort x
  link-short = small-link x f' g' (small s place f g f' g' r (Ok x) e h)

  pub link-answered : (t : Taken) → t ≡ link_taken x → taken t f' g' ≡ single_of s place f g
  link-answered t q = ap (λ (z : Taken). taken z f' g') q ∙ link-said x f' g' ∙ said s place f g f' g' r (Ok x) e h

-- a refusal
module _
    (s : List ℕ) (place : ℕ) (f g f' g' : List ℕ) (r : Result Link Refusal) (d : Refusal) (e : outcome_of r f' g' ≡ single_of s place f g)
    (h : r ≡ Err d) where
  pub refused-short : Short (bytes_of d)
  refused-short = let w = small s place f g f' g' r (Err d) e h in omega (arith, w.0)

  pub refused-answered : (t : Taken) → t ≡ refusal (number_of d) (bytes_of d) → taken t f' g' ≡ single_of s place f g
  refused-answered t q = ap (λ (z : Taken). taken z f' g') q ∙ said s place f g f' g' r (Err d) e h
