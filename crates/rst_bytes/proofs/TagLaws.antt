-- The laws of `starts_with`: what a `fold` over both lists answers; how long a list is that begins with another; that what
-- a list lacks its beginnings lack; and that LF behind a list adds no beginning that has no LF.
-- Assumes nothing.
use Prim.Native.Nat.{ℕ, suc, ◌<◌, ◌≤◌}
use native.Mathlib.Omega.{arith}
use mathlib.Core.Path.{◌≡◌, refl, sym, ap, ◌∙◌}
use mathlib.Core.List.{List, [], ◌∷◌, ◌++◌}
use mathlib.Core.Bool.{Bool, true, false, ◌&&◌, false≢true, and-true, and-false}
use lib.Dec.{eqb}
use lib.ListN.{length, drop, take}
use borrow.Author.Tests.{eq-eqb, eqb-true}
use Rattle.std.specs.List.{fold, zip}
use Rattle.rst_bytes.specs.Tag.{starts_with}
use Rattle.rst_bytes.specs.Line.{is_space}
use Rattle.rst_bytes.specs.Escaped.{is_stop}
use Rattle.rst_bytes.specs.Appending.{free, starts_space}
use Rattle.rst_bytes.proofs.TestLaws.{by-test₂}
use Rattle.rst_bytes.proofs.EscapedLaws.{free-next, free_more}

-- of a list that is long enough, what a `fold` answers that looks at all pairs of its front and t
pub starts-fold : (t s : List ℕ) (same : Bool) → length t ≤ length s → fold (λ a p. a && eqb p.0 p.1) same (zip (take (length t) s) t) ≡ (same && starts_with t s)
unfolding starts_with
starts-fold [] s same h = sym (and-true same)
starts-fold (c ∷ t) [] same h = absurd (omega arith)
starts-fold (c ∷ t) (b ∷ s) same h = go (eqb b c) refl (starts-fold t s (same && eqb b c) (omega arith))
  where
    go : (x : Bool) → eqb b c ≡ x → fold (λ a p. a && eqb p.0 p.1) (same && eqb b c) (zip (take (length t) s) t) ≡ (same && eqb b c && starts_with t s) → fold (λ a p. a && eqb p.0 p.1) same (zip (take (length (c ∷ t)) (b ∷ s)) (c ∷ t)) ≡ (same && starts_with (c ∷ t) (b ∷ s))
    go true e f = f ∙ simp (e, starts_with, and-true)
    go false e f = f ∙ simp (e, starts_with, and-false)

-- a list is as long as what it begins with
pub starts-le : (t s : List ℕ) → starts_with t s ≡ true → length t ≤ length s
unfolding starts_with
starts-le [] s e = omega arith
starts-le (c ∷ t) [] e = absurd (false≢true e)
starts-le (c ∷ t) (b ∷ s) e = go (eqb b c) refl (starts-le t s) e
  where
    go : (x : Bool) → eqb b c ≡ x → (starts_with t s ≡ true → length t ≤ length s) → elim x [ true ↦ starts_with t s | false ↦ false ] ≡ true → suc (length t) ≤ suc (length s)
    go true f ih g = let w = ih g in omega arith
    go false f ih g = absurd (false≢true g)

-- so a shorter one does not begin with it
pub starts-shorter : (t s : List ℕ) → length s < length t → starts_with t s ≡ false
starts-shorter t s h = go (starts_with t s) refl
  where
    go : (x : Bool) → starts_with t s ≡ x → starts_with t s ≡ false
    go true e = absurd (omega (arith, starts-le t s e))
    go false e = e

-- to begin with two lists, one behind the other
pub starts-append : (t u s : List ℕ) → starts_with (t ++ u) s ≡ (starts_with t s && starts_with u (drop (length t) s))
unfolding starts_with
starts-append [] u s = refl
starts-append (c ∷ t) u [] = refl
starts-append (c ∷ t) u (b ∷ s) =
    by-test₂ (λ x y. x ≡ (y && starts_with u (drop (length t) s))) (eqb b c) _ _ _ _ (λ e. starts-append t u s) (λ e. refl)

-- what begins a text without p and q is without them
pub starts-free : (p q : ℕ) (t s : List ℕ) → free p q s ≡ true → starts_with t s ≡ true → free p q t ≡ true
unfolding free starts_with
starts-free p q [] s h e = refl
starts-free p q (c ∷ t) [] h e = absurd (false≢true e)
starts-free p q (c ∷ t) (b ∷ s) h e = go (eqb b c) refl e (starts-free p q t s (free-next p q b s h).1)
  where
    go : (x : Bool) → eqb b c ≡ x → elim x [ true ↦ starts_with t s | false ↦ false ] ≡ true → (starts_with t s ≡ true → free p q t ≡ true) → free p q (c ∷ t) ≡ true
    go true f g ih = free_more p q c t (ap (is_stop p q) (sym (eqb-true b c f)) ∙ (free-next p q b s h).0) (ih g)
    go false f g ih = absurd (false≢true g)

-- a byte is no stop byte of a list without it
stops : (a c : ℕ) → c ≡ a → is_stop a a c ≡ false → ⊥
unfolding is_stop
stops a c e f = false≢true (sym f ∙ simp (eq-eqb c a e))

-- a byte behind the text with which it does not begin, as LF
pub starts-byte : (a : ℕ) (p s t : List ℕ) → free a a p ≡ true → starts_with p (s ++ a ∷ t) ≡ starts_with p s
unfolding starts_with is_stop
starts-byte a [] s t f = refl
starts-byte a (c ∷ p) [] t f = go (eqb a c) refl
  where
    other : is_stop a a c ≡ false
    other = (free-next a a c p f).0

    go : (x : Bool) → eqb a c ≡ x → starts_with (c ∷ p) (a ∷ t) ≡ false
    go true e = absurd (stops a c (sym (eqb-true a c e)) other)
    go false e = simp (e, starts_with)
starts-byte a (c ∷ p) (b ∷ s) t f =
    by-test₂ (λ x y. x ≡ y) (eqb b c) _ _ _ _ (λ e. starts-byte a p s t (free-next a a c p f).1) (λ e. refl)

pub starts-lf : (p s t : List ℕ) → free 10 10 p ≡ true → starts_with p (s ++ 10 ∷ t) ≡ starts_with p s
starts-lf p s t f = starts-byte 10 p s t f

-- a text begins with a space or a tab, if what it begins with does
pub starts-space : (p s : List ℕ) → starts_space p ≡ true → starts_with p s ≡ true → starts_space s ≡ true
unfolding starts_with starts_space
starts-space [] s h e = absurd (false≢true h)
starts-space (c ∷ p) [] h e = absurd (false≢true e)
starts-space (c ∷ p) (b ∷ s) h e = go (eqb b c) refl e
  where
    go : (x : Bool) → eqb b c ≡ x → elim x [ true ↦ starts_with p s | false ↦ false ] ≡ true → is_space b ≡ true
    go true f g = ap is_space (eqb-true b c f) ∙ h
    go false f g = absurd (false≢true g)
