-- Of the indents that are listed so many are shorter than each length that these numbers rise, and at a listed one by one: so an indent is among those of
-- at most m bytes with three spaces just if fewer are shorter than it.
-- Assumes nothing.
use Rattle.std.proofs.Common.{◌≡◌, ℕ, ◌+◌, ◌-◌, ◌<◌, ◌≤◌, List, true, ⊎_elim, length, get_or, set, min, arith, rules}
use Rattle.std.proofs.lemmas.Bool.{and_parts}
use lib.Seq.{get_or-set_same, get_or-set_other}
use borrow.Author.Tests.{ltb-true}
use Rattle.rst_bytes.proofs.TestLaws.{lt-or-le}
use Rattle.targetless.specs.Indents.{rank_of, is_listed, within_of, Rising}

module _ (ranks : List ℕ) (k : ℕ) (e : is_listed ranks k ≡ true) where
  -- one that is listed has a bit, and is shorter than a byte more
  pub listed : (rank_of ranks k < 127) × (rank_of ranks k < rank_of ranks (k + 1))
  unfolding is_listed
  listed =
      let w = and_parts _ _ (and_parts _ _ e).1 in
      (ltb-true _ _ w.0, ltb-true _ _ w.1)

  module _ (rising : Rising ranks) (m : ℕ) where
    pub within-listed : rank_of ranks k < within_of ranks m → k + 3 ≤ m
    within-listed h = ⊎_elim (λ l. omega (arith, l)) (λ l. absurd (omega (arith, h, rising (m - 2) k l))) (lt-or-le k (m - 2))

    pub listed-within : k + 3 ≤ m → rank_of ranks k < within_of ranks m
    listed-within h = omega (arith, listed.1, rising (k + 1) (m - 2) (omega (arith, h)))

-- The numbers rise in the first i places, up to n at most.
abbrev pub Rises : List ℕ → ℕ → ℕ → Type 0
Rises ranks i n = ((j k : ℕ) → j ≤ k → k < i → get_or ranks j 0 ≤ get_or ranks k 0) × ((k : ℕ) → k < i → get_or ranks k 0 ≤ n)

-- one place more
module _ (ranks : List ℕ) (i n m : ℕ) (h : i < length ranks) (le : n ≤ m) (w : Rises ranks i n) where
  here : get_or (set ranks i n) i 0 ≡ n
  here = get_or-set_same ranks i n 0 h

  before : (k : ℕ) → k < i → get_or (set ranks i n) k 0 ≡ get_or ranks k 0
  before k l = get_or-set_other ranks i k n 0 (λ e. omega (arith, l, e))

  below : (k : ℕ) → k < i + 1 → get_or (set ranks i n) k 0 ≤ n
  below k l =
      ⊎_elim
      (λ x. omega (arith, before k x, w.1 k x))
      (λ x.
      let e : k ≡ i = omega (arith, l, x) in
      rw e omega (arith, here))
      (lt-or-le k i)

  pub rises-more : Rises (set ranks i n) (i + 1) m
  rises-more = (up, λ k l. omega (arith, below k l, le))
    where
      up : (j k : ℕ) → j ≤ k → k < i + 1 → get_or (set ranks i n) j 0 ≤ get_or (set ranks i n) k 0
      up j k g l =
          ⊎_elim
          (λ x. omega (arith, before j (omega (arith, g, x)), before k x, w.0 j k g x))
          (λ x.
          let e : k ≡ i = omega (arith, l, x) in
          rw e omega (arith, here, below j (omega (arith, g, l))))
          (lt-or-le k i)

-- up to the end
pub rising-all : (ranks : List ℕ) (i n : ℕ) → 1025 ≤ i → Rises ranks i n → Rising ranks
unfolding rank_of
rising-all ranks i n h w j k g = w.0 (min j 1024) (min k 1024) (search (rules, g)) (search rules)
