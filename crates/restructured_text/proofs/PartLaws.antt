-- Parts of a text. More behind the text leaves them; and where a part was lent and comes back changed, in the place where it stood, what
-- stands in its place, before it and after it.
-- Assumes nothing.
use Prim.Native.Nat.{ℕ, zero, suc, ◌+◌, ◌-◌, ◌<◌, ◌≤◌}
use mathlib.Core.Path.{◌≡◌, refl, sym, ap, ◌∙◌}
use mathlib.Core.List.{List, [], ◌∷◌, ◌++◌, append_assoc}
use native.Mathlib.Omega.{arith}
use lib.ListN.{length, take, drop, set, take-append-drop, length-append, length-drop}
use lib.Seq.{drop_at, drop-drop, drop-append-le, take-append-le, take-take, length-take-le, set_split, take-set-le}
use borrow.Rule.Slice.PartMut.{mid_of, post_of, put_mid, same_len_mid}

-- a part as long as it says
pub part_length : (a k : ℕ) (d : List ℕ) → a + k ≤ length d → length (mid_of a k d) ≡ k
part_length a k d h = length-take-le k (drop a d) (omega (arith, length-drop a d))

-- a part within s is the same with more behind s
pub part-append : (s u : List ℕ) (a k : ℕ) → a + k ≤ length s → take k (drop a (s ++ u)) ≡ take k (drop a s)
part-append s u a k h =
    ap (take k) (drop-append-le a s u (omega arith)) ∙ take-append-le k (drop a s) u (omega (arith, length-drop a s))

-- k bytes from a on are replaced by y.
module _ (a k : ℕ) (d y : List ℕ) where
  -- what stands in their place
  pub put-here : (n : ℕ) → a ≤ length d → n ≤ length y → take n (drop a (put_mid a k d y)) ≡ take n y
  put-here n h g =
      ap (take n) (drop_at (take a d) (y ++ post_of a k d) a (length-take-le a d h)) ∙ take-append-le n y (post_of a k d) g

  -- what stands before them
  pub put-before : (b n : ℕ) → b + n ≤ a → a ≤ length d → take n (drop b (put_mid a k d y)) ≡ take n (drop b d)
  put-before b n h g =
      let l : b + n ≤ length (take a d) = omega (arith, length-take-le a d g) in
      part-append (take a d) (y ++ post_of a k d) b n l
      ∙ sym (part-append (take a d) (drop a d) b n l)
      ∙ ap (λ (x : List ℕ). take n (drop b x)) (take-append-drop a d)

  -- what stands after them
  pub put-after : (b : ℕ) → a + k ≤ b → a + k ≤ length d → length y ≡ k → drop b (put_mid a k d y) ≡ drop b d
  put-after b h g e =
      let z : a + k + (b - (a + k)) ≡ b = omega arith in
      rw z at (sym (drop-drop (b - (a + k)) (a + k) (put_mid a k d y)) ∙ ap (drop (b - (a + k))) rest ∙ drop-drop (b - (a + k)) (a + k) d)
    where
      rest : drop (a + k) (put_mid a k d y) ≡ drop (a + k) d
      rest =
          ap (drop (a + k)) (sym (append_assoc (take a d) y (post_of a k d)))
          ∙ drop_at (take a d ++ y) (post_of a k d) (a + k) (omega (arith, length-append (take a d) y, length-take-le a d (omega arith)))
          ∙ drop-drop k a d

  -- the text is as long as it was
  pub put-length : a + k ≤ length d → length y ≡ k → length (put_mid a k d y) ≡ length d
  put-length h e = same_len_mid a k d y (e ∙ sym (part_length a k d h))

-- a part of the first n bytes is one of the whole
pub part-front : (a k n : ℕ) (d : List ℕ) → a + k ≤ n → take k (drop a (take n d)) ≡ take k (drop a d)
part-front zero k n d h = take-take k n d (omega arith)
part-front (suc a) k zero d h = absurd (omega arith)
part-front (suc a) k (suc n) [] h = refl
part-front (suc a) k (suc n) (b ∷ d) h = part-front a k n d (omega arith)

-- The byte at i is replaced by x.
module _ (d : List ℕ) (i x : ℕ) where
  -- what stands in its place
  pub set_here : i < length d → take 1 (drop i (set d i x)) ≡ x ∷ []
  set_here h =
      ap (λ (l : List ℕ). take 1 (drop i l)) (set_split d i x h)
      ∙ ap (take 1) (drop_at (take i d) (x ∷ drop (suc i) d) i (length-take-le i d (omega arith)))

  -- what stands before it
  pub set_before : (b n : ℕ) → b + n ≤ i → take n (drop b (set d i x)) ≡ take n (drop b d)
  set_before b n h =
      sym (part-front b n i (set d i x) h)
      ∙ ap (λ (l : List ℕ). take n (drop b l)) (take-set-le i d i x (omega arith))
      ∙ part-front b n i d h
