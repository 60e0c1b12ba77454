-- The laws of work bytes that are zeroed by parts: what a `fold` tells that looks at all bytes of a part, and what a part adds to the
-- bytes behind it.
-- Assumes nothing.
use Rattle.std.proofs.Common.{ℕ, zero, suc, ◌+◌, ◌-◌, ◌≤◌, ◌≡◌, Bool, true, List, [], ◌∷◌, ◌++◌, length, take, drop, replicate, eqb, refl, sym, ap, ◌∙◌, ◌&&◌, arith, length-drop}
use Rattle.std.specs.List.{fold}
use Rattle.std.proofs.Math.Seq.{drop-length}
use Rattle.std.proofs.lemmas.Bool.{eqb-true}
use Rattle.std.proofs.lemmas.List.{drop-drop, drop_at, length-take-le, replicate-append-replicate}
use borrow.Rule.Slice.PartMut.{put_mid}
use mathlib.Core.Bool.{and-eq-true_iff}

-- a byte more, of which all before are zero or not
abbrev pub and_zero : Bool → ℕ → Bool
and_zero is b = is && eqb b 0

-- where the `fold` answers true, all are zero
pub zero-fold : (s : List ℕ) (is : Bool) → fold and_zero is s ≡ true → (is ≡ true) × (s ≡ replicate (length s) 0)
zero-fold [] is e = (e, refl)
zero-fold (b ∷ s) is e =
    let rest = zero-fold s (and_zero is b) e in
    let both = (and-eq-true_iff is (eqb b 0)).0 rest.0 in
    let here = eqb-true b 0 both.1 in
    let there = rest.1 in
    (both.0, cc)

-- and where all are zero, it does
fold-zeros : (n : ℕ) → fold and_zero true (replicate n 0) ≡ true
fold-zeros zero = refl
fold-zeros (suc n) = fold-zeros n

pub fold-zero : (s : List ℕ) → s ≡ replicate (length s) 0 → fold and_zero true s ≡ true
fold-zero s e = ap (fold and_zero true) e ∙ fold-zeros (length s)

-- behind the last there is nothing
pub none-behind : {X : Type 0} (z : X) (xs : List X) → drop (length xs) xs ≡ replicate (length xs - length xs) z
none-behind z xs =
    let none : length xs - length xs ≡ 0 = omega arith in
    drop-length xs ∙ ap (λ (n : ℕ). replicate n z) (sym none)

-- of xs, with ys in the place of those from a to b, all from a on are z, if ys are, and all from b on
pub back-same : {X : Type 0} (z : X) (xs ys : List X) (a k b n : ℕ) → b ≡ a + k → b ≤ length xs → n ≡ length xs → drop b xs ≡ replicate (n - b) z → ys ≡ replicate (length (take k (drop a xs))) z → drop a (put_mid a k xs ys) ≡ replicate (n - a) z
back-same z xs ys a k b n to within e behind part =
    let left : k ≤ length (drop a xs) = omega (arith, length-drop a xs) in
    let part-k : ys ≡ replicate k z = part ∙ ap (λ (m : ℕ). replicate m z) (length-take-le k (drop a xs) left) in
    let rest : drop k (drop a xs) ≡ replicate (n - b) z = drop-drop k a xs ∙ ap (λ (m : ℕ). drop m xs) (sym to) ∙ behind in
    let joined : replicate k z ++ replicate (n - b) z ≡ replicate (k + (n - b)) z = replicate-append-replicate k (n - b) z in
    let whole : k + (n - b) ≡ n - a = omega arith in
    drop_at (take a xs) (ys ++ drop k (drop a xs)) a (length-take-le a xs (omega arith)) ∙ cc
