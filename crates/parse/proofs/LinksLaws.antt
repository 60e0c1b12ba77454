-- The laws of `specs/Links.antt`, for any forms that consume at least one byte and no more than there are: the links are the first one
-- and those of what is left behind it, which is shorter; so scanning ends, with links in order and apart.
-- Assumes nothing.
use Prim.Native.Nat.{ℕ, zero, suc, ◌+◌, ◌-◌, ◌<◌, ◌≤◌}
use native.Mathlib.Nat.{not-suc-le-zero, add-zero, zero-add}
use native.Mathlib.Omega.{arith}
use mathlib.Core.Path.{◌≡◌, refl, ap, subst, ◌∙◌}
use mathlib.Core.List.{List, [], ◌∷◌}
use lib.ListN.{length, drop}
use Rattle.parse.specs.Link.{Kind, Scanned, found, nothing, no_room}
use Rattle.parse.specs.Forms.{Forms, Consuming, rst}
use Rattle.parse.specs.Scan.{rounds, scan_with}
use Rattle.parse.specs.Links.{Placed, placed, links_from, links_of, links_by}
use Rattle.parse.specs.Laws.{Inside, Apart}
use Rattle.parse.proofs.ScanLaws.{scan-inside, rst-consuming}

-- a link and those of what is left behind it, or none, as `links_from` has it: l is the text behind one byte
abbrev pub links_in : Forms → ℕ → List ℕ → Scanned → List Placed
links_in forms n l z =
    elim z [
      | found kind x y skipped consumed ↦ placed n kind x y skipped consumed ∷ links_from forms (skipped + consumed - 1) (n + 1) l
      | nothing ↦ []
      | no_room ↦ []
    ]

-- the bytes that belong to the link before are skipped
pub links-skip : (forms : Forms) (s : List ℕ) (k n : ℕ) → links_from forms k n s ≡ links_from forms 0 (n + k) (drop k s)
unfolding links_from
links-skip forms [] zero n = refl
links-skip forms [] (suc k) n = refl
links-skip forms (b ∷ s) zero n = let e : n + 0 ≡ n = omega arith in rw e refl
links-skip forms (b ∷ s) (suc k) n = let e : n + suc k ≡ (n + 1) + k = omega arith in rw e (links-skip forms s k (n + 1))

links-behind : (forms : Forms) (b : ℕ) (s : List ℕ) (n k : ℕ) → 0 < k → links_from forms (k - 1) (n + 1) s ≡ links_from forms 0 (n + k) (drop k (b ∷ s))
links-behind forms b s n zero h = absurd (not-suc-le-zero h)
links-behind forms b s n (suc k) h =
    let e : suc k - 1 ≡ k = omega arith in
    let f : n + suc k ≡ (n + 1) + k = omega arith in
    rw (e, f) (links-skip forms s k (n + 1))

module _ (forms : Forms) (c : Consuming forms) where
  -- "scanning ends": the links, with no count of bytes
  pub links-equation : (n : ℕ) (s : List ℕ) → links_from forms 0 n s ≡ links_by forms n s (scan_with forms s)
  unfolding links_from scan_with rounds
  links-equation n [] = refl
  links-equation n (b ∷ s) = go (scan_with forms (b ∷ s)) (scan-inside forms c (b ∷ s))
    where
      go :
          (z : Scanned) → Inside 0 (suc (length s)) z
          → links_in forms n s z ≡ links_by forms n (b ∷ s) z
      go (found kind x y skipped consumed) w = ap (λ (xs : List Placed). placed n kind x y skipped consumed ∷ xs) (links-behind forms b s n (skipped + consumed) (omega arith))
      go nothing w = refl
      go no_room w = refl

  -- the same by what is found
  pub links-found :
      (n : ℕ) (s : List ℕ) (kind : Kind) (x y : List ℕ) (skipped consumed : ℕ) → scan_with forms s ≡ found kind x y skipped consumed
      → links_from forms 0 n s
      ≡ placed n kind x y skipped consumed ∷ links_from forms 0 (n + (skipped + consumed)) (drop (skipped + consumed) s)
  links-found n s kind x y skipped consumed e = links-equation n s ∙ ap (links_by forms n s) e

  pub links-none : (n : ℕ) (s : List ℕ) → scan_with forms s ≡ nothing → links_from forms 0 n s ≡ []
  links-none n s e = links-equation n s ∙ ap (links_by forms n s) e

  -- in order and apart, if k bytes belong to the link before
  apart_from : (s : List ℕ) (k n : ℕ) → k ≤ length s → Apart (n + k) (n + length s) (links_from forms k n s)
  unfolding links_from
  apart_from [] zero n h = omega arith
  apart_from [] (suc k) n h = omega arith
  apart_from (b ∷ s) (suc k) n h = same (links_from forms k (n + 1) s) (apart_from s k (n + 1) (omega arith))
    where
      same : (xs : List Placed) → Apart (n + 1 + k) (n + 1 + length s) xs → Apart (n + suc k) (n + suc (length s)) xs
      same xs w =
          let e : n + 1 + k ≡ n + suc k = omega arith in
          let f : n + 1 + length s ≡ n + suc (length s) = omega arith in
          rw (← e, ← f) w
  apart_from (b ∷ s) zero n h = go (scan_with forms (b ∷ s)) (scan-inside forms c (b ∷ s)) (λ k. apart_from s k (n + 1))
    where
      go :
          (z : Scanned) → Inside 0 (suc (length s)) z
          → ((k : ℕ) → k ≤ length s → Apart (n + 1 + k) (n + 1 + length s) (links_from forms k (n + 1) s))
          → Apart (n + 0) (n + suc (length s))
          (links_in forms n s z)
      go (found kind x y skipped consumed) w ih =
          let e : n + 1 + (skipped + consumed - 1) ≡ n + skipped + consumed = omega arith in
          let f : n + 1 + length s ≡ n + suc (length s) = omega arith in
          (omega arith, rw (← e, ← f) (ih (skipped + consumed - 1) (omega arith)))
      go nothing w ih = omega arith
      go no_room w ih = absurd w

  pub links-apart : (n : ℕ) (s : List ℕ) → Apart n (n + length s) (links_from forms 0 n s)
  links-apart n s = subst (λ m. Apart m (n + length s) (links_from forms 0 n s)) (add-zero n) (apart_from s 0 n (omega arith))

-- the links of a text
pub links-of-apart : (s : List ℕ) → Apart 0 (length s) (links_of s)
unfolding links_of
links-of-apart s = subst (λ m. Apart 0 m (links_of s)) (zero-add (length s)) (links-apart rst rst-consuming 0 s)
