-- The laws of tests: what a test picks, one of two tests, and two numbers by their test.
-- Assumes nothing.
use mathlib.Core.Path.{◌≡◌, refl}
use mathlib.Core.Logic.{◌⊎◌, inl, inr}
use mathlib.Core.Bool.{Bool, true, false, ◌||◌, true≢false}
use Prim.Native.Nat.{ℕ, ◌<◌, ◌≤◌}
use lib.Dec.{ltb}
use borrow.Author.Tests.{ltb-true, ltb-false}

-- what a test picks
module _ {ℓ} {A : Type ℓ} where
  pub picks_first : (t : Bool) (x y : A) → t ≡ true → elim t [ true ↦ x | false ↦ y ] ≡ x
  picks_first t x y e = rw e

  pub picks_second : (t : Bool) (x y : A) → t ≡ false → elim t [ true ↦ x | false ↦ y ] ≡ y
  picks_second t x y e = rw e

module _ {A : Type 0} where
  -- of one test, what holds of either answer holds of its answer
  pub by-test : (P : A → Type 0) (t : Bool) (x y : A) → (t ≡ true → P x) → (t ≡ false → P y) → P (elim t [ true ↦ x | false ↦ y ])
  by-test P true x y f g = f refl
  by-test P false x y f g = g refl

  -- of two uses of one test, what relates their answers relates what they pick
  pub by-test₂ : (P : A → A → Type 0) (t : Bool) (x y x' y' : A) → (t ≡ true → P x x') → (t ≡ false → P y y') → P (elim t [ true ↦ x | false ↦ y ]) (elim t [ true ↦ x' | false ↦ y' ])
  by-test₂ P true x y x' y' f g = f refl
  by-test₂ P false x y x' y' f g = g refl

-- one of two tests holds
pub or_cases : (a b : Bool) → (a || b) ≡ true → (a ≡ true) ⊎ (b ≡ true)
or_cases true b e = inl refl
or_cases false b e = inr e

-- neither of two tests holds
pub neither : (a b : Bool) → (a || b) ≡ false → (a ≡ false) × (b ≡ false)
neither false b e = (refl, e)
neither true b e = absurd (true≢false e)

-- of two numbers the first is below the second, or not
pub lt-or-le : (a b : ℕ) → (a < b) ⊎ (b ≤ a)
lt-or-le a b = go (ltb a b) refl
  where
    go : (t : Bool) → ltb a b ≡ t → (a < b) ⊎ (b ≤ a)
    go true e = inl (ltb-true a b e)
    go false e = inr (ltb-false a b e)
