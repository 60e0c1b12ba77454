-- The laws of specs/Strings.antt: the strings that stand in a scratch, after each of its raw parts was transformed in its place; that
-- only the bytes up to the parts' end matter; how long the strings are; and what is asked of a scratch.
-- Assumes nothing.
use Rattle.std.proofs.lemmas.Option.{none-some, same_Some}
use Rattle.std.proofs.Common.{Option, Some, None}
use Prim.Native.Nat.{ℕ, ◌+◌, ◌-◌, ◌<◌, ◌≤◌}
use mathlib.Core.Path.{◌≡◌, sym, ap, ◌∙◌}
use mathlib.Core.List.{List, ◌++◌}
use mathlib.Core.Bool.{Bool, false}
use native.Mathlib.Omega.{arith}
use lib.ListN.{length, take, drop, length-take}
use lib.Seq.{length-take-le}
use borrow.Author.Tests.{lt-ltb, le-ltb}
use borrow.Rule.Slice.PartMut.{mid_of, put_mid}
use Rattle.restructured_text.specs.declared.Span.{Span}
use Rattle.restructured_text.specs.Transform.{Given, whole, refused, text_of, transform_of, answer_of, bytes_of}
use Rattle.restructured_text.specs.Strings.{Link, link, none, no_room, part, paired, linked, lent}
use Rattle.restructured_text.proofs.TransformLaws.{answer-refused, text-le, transform-le}
use Rattle.restructured_text.proofs.PartLaws.{part-append, part-front, part_length, put-length, put-here, put-before, put-after}

-- a whole text, by its answer and by what stands at the front of y
given-whole : (g : Given) (y : List ℕ) (i : ℕ) → Some i ≡ answer_of g → take (length (bytes_of g)) y ≡ bytes_of g → (g ≡ whole (take i y)) × (i ≡ length (bytes_of g))
given-whole (whole l) y i e f =
    let z : i ≡ length l = same_Some i (length l) e in
    (ap whole (sym (rw (sym z) at f)), z)
given-whole (refused l) y i e f = absurd (none-some i (sym e))

-- two texts are both whole
paired-whole : (g h : Given) (x y : List ℕ) (n : ℕ) → g ≡ whole x → h ≡ whole y → paired g h n ≡ link x y n
paired-whole g h x y n e f = rw (e, f)

-- the second one is refused
paired-refused : (g h : Given) (x y : List ℕ) (n : ℕ) → g ≡ whole x → h ≡ refused y → paired g h n ≡ none
paired-refused g h x y n e f = rw (e, f)

-- What a transform answered and left in y, of a raw part r.
pub record Told (t : Bool) (r y : List ℕ) (x : Option ℕ) : Type 0 where
  pub len : length y ≡ length r
  pub answer : x ≡ answer_of (transform_of t r)
  pub bytes : take (length (bytes_of (transform_of t r))) y ≡ bytes_of (transform_of t r)

-- it gave a string: the first i bytes of y
told-whole : {t : Bool} {r y : List ℕ} {i : ℕ} → Told t r y (Some i) → transform_of t r ≡ whole (take i y)
told-whole {t} {r} {y} {i} w = (given-whole (transform_of t r) y i w.answer w.bytes).0

-- which are no more than there are
told-le : {t : Bool} {r y : List ℕ} {i : ℕ} → Told t r y (Some i) → i ≤ length y
told-le {t} {r} {y} {i} w = omega (arith, (given-whole (transform_of t r) y i w.answer w.bytes).1, transform-le t r)

-- it refused
told-wrong : {t : Bool} {r y : List ℕ} → Told t r y None → transform_of t r ≡ refused (bytes_of (transform_of t r))
told-wrong {t} {r} w = answer-refused (transform_of t r) w.answer

-- The raw part of k bytes from a on was transformed in its place, and then that of m bytes from b on.
module _ (t : Bool) (a k b m n : ℕ) (d x y : List ℕ) (h : a + k ≤ b) (h' : b + m ≤ n) (h'' : n ≤ length d) where
  -- the second raw part is as it was
  second : length x ≡ length (mid_of a k d) → mid_of b m (put_mid a k d x) ≡ mid_of b m d
  second e = ap (take m) (put-after a k d x b h (omega arith) (e ∙ part_length a k d (omega arith)))

  -- both gave a string: the first still stands in its place, and both end within n bytes
  both :
      (i j : ℕ) → Told false (mid_of a k d) x (Some i) → Told t (mid_of b m (put_mid a k d x)) y (Some j)
      → (link (take i (drop a (put_mid b m (put_mid a k d x) y))) (take j (drop b (put_mid b m (put_mid a k d x) y))) n ≡ paired (text_of (mid_of a k d)) (transform_of t (mid_of b m d)) n)
      × (a + i ≤ n) × (b + j ≤ n)
  both i j u v =
      let p : length (mid_of a k d) ≡ k = part_length a k d (omega arith) in
      let q : length (put_mid a k d x) ≡ length d = put-length a k d x (omega arith) (u.len ∙ p) in
      let r : length (mid_of b m (put_mid a k d x)) ≡ m = part_length b m (put_mid a k d x) (omega arith) in
      let i≤ : i ≤ length x = told-le u in
      let j≤ : j ≤ length y = told-le v in
      let e : take i (drop a (put_mid b m (put_mid a k d x) y)) ≡ take i x = put-before b m (put_mid a k d x) y a i (omega (arith, u.len)) (omega arith) ∙ put-here a k d x i (omega arith) i≤ in
      let f : take j (drop b (put_mid b m (put_mid a k d x) y)) ≡ take j y = put-here b m (put_mid a k d x) y j (omega arith) j≤ in
      let z : transform_of t (mid_of b m d) ≡ whole (take j y) = ap (transform_of t) (sym (second u.len)) ∙ told-whole v in
      (rw (e, f) (sym (paired-whole _ _ _ _ n (told-whole u) z)), omega (arith, u.len), omega (arith, v.len))

  -- the second one refused
  second-wrong : (i : ℕ) → Told false (mid_of a k d) x (Some i) → Told t (mid_of b m (put_mid a k d x)) y None → none ≡ paired (text_of (mid_of a k d)) (transform_of t (mid_of b m d)) n
  second-wrong i u v = sym (paired-refused _ _ _ _ n (told-whole u) (ap (transform_of t) (sym (second u.len)) ∙ told-wrong v))

-- The same for the parts that two spans name, which the code lends from the start to the end.

-- from the start to the end
abbrev pub reach : Span → ℕ
reach a = a.start + a.len - a.start

-- that is the span's length
linked-reach : (t : Bool) (d : List ℕ) (a b : Span) (n : ℕ) → paired (text_of (mid_of a.start (reach a) d)) (transform_of t (mid_of b.start (reach b) d)) n ≡ linked t d a b n
linked-reach t d a b n =
    let e : reach a ≡ a.len = omega arith in
    let f : reach b ≡ b.len = omega arith in
    rw (e, f)

module _ (t : Bool) (a b : Span) (n : ℕ) (d x y : List ℕ) (h : (a.start + a.len ≤ b.start) × (b.start + b.len ≤ n) × (n ≤ length d)) where
  -- both gave a string
  pub linked-both :
      (i j : ℕ) → Told false (mid_of a.start (reach a) d) x (Some i)
      → Told t (mid_of b.start (reach b) (put_mid a.start (reach a) d x)) y (Some j)
      → (link (take i (drop a.start (put_mid b.start (reach b) (put_mid a.start (reach a) d x) y))) (take j (drop b.start (put_mid b.start (reach b) (put_mid a.start (reach a) d x) y))) n ≡ linked t d a b n)
      × ((a.start + i ≤ n) × (b.start + j ≤ n))
  linked-both i j u v =
      let w = both t a.start (reach a) b.start (reach b) n d x y (omega arith) (omega arith) (omega arith) i j u v in
      (w.0 ∙ linked-reach t d a b n, (w.1, w.2))

  -- the second one refused
  pub linked-second :
      (i : ℕ) → Told false (mid_of a.start (reach a) d) x (Some i)
      → Told t (mid_of b.start (reach b) (put_mid a.start (reach a) d x)) y None → none ≡ linked t d a b n
  linked-second i u v = second-wrong t a.start (reach a) b.start (reach b) n d x y (omega arith) (omega arith) (omega arith) i u v ∙ linked-reach t d a b n

-- a span within the text's first n bytes: only these matter
part-copied : (a : Span) (s x : List ℕ) (n : ℕ) → a.start + a.len ≤ n → n ≤ length s → part a (take n s ++ x) ≡ part a s
part-copied a s x n h g =
    let l : length (take n s) ≡ n = length-take-le n s g in
    part-append (take n s) x a.start a.len (omega arith) ∙ part-front a.start a.len n s h

-- The strings of two raw parts: more behind the text, or behind its first n bytes, changes nothing.
module _ (t : Bool) (a b : Span) (n : ℕ) (s x : List ℕ) where
  pub linked-append : a.start + a.len ≤ length s → b.start + b.len ≤ length s → linked t (s ++ x) a b n ≡ linked t s a b n
  linked-append h k = rw (part-append s x a.start a.len h, part-append s x b.start b.len k)

  pub linked-front : a.start + a.len ≤ n → b.start + b.len ≤ n → n ≤ length s → linked t (take n s ++ x) a b n ≡ linked t s a b n
  linked-front h k g = rw (part-copied a s x n h g, part-copied b s x n k g)

-- links that differ
pub none-link : (x y : List ℕ) (m : ℕ) → none ≡ link x y m → ⊥
none-link x y m e = let z : ◌≡◌ {A = ℕ} 0 1 = cc in omega arith

pub link-room : (x y : List ℕ) (m : ℕ) → link x y m ≡ no_room → ⊥
link-room x y m e = let z : ◌≡◌ {A = ℕ} 0 1 = cc in omega arith

pub none-room : none ≡ no_room → ⊥
none-room e = let z : ◌≡◌ {A = ℕ} 0 1 = cc in omega arith

-- links that are the same
link-link : (u v x y : List ℕ) (n m : ℕ) → link u v n ≡ link x y m → (u ≡ x) × (v ≡ y) × (n ≡ m)
link-link u v x y n m e = (cc, cc, cc)

-- two strings are those that were given
paired-link : (g h : Given) (n : ℕ) (x y : List ℕ) (m : ℕ) → paired g h n ≡ link x y m → (bytes_of g ≡ x) × (bytes_of h ≡ y) × (n ≡ m)
paired-link (whole u) (whole v) n x y m e = link-link u v x y n m e
paired-link (whole u) (refused v) n x y m e = absurd (none-link x y m e)
paired-link (refused u) h n x y m e = absurd (none-link x y m e)

paired-room : (g h : Given) (n : ℕ) → paired g h n ≡ no_room → ⊥
paired-room (whole u) (whole v) n e = link-room u v n e
paired-room (whole u) (refused v) n e = none-room e
paired-room (refused u) h n e = none-room e

-- Two strings are no longer than their raw parts.
pub linked-le :
    (t : Bool) (a b : Span) (n : ℕ) (s x y : List ℕ) (m : ℕ) → linked t s a b n ≡ link x y m
    → (length x ≤ a.len) × (length y ≤ b.len) × (n ≡ m)
linked-le t a b n s x y m e =
    let w = paired-link (text_of (part a s)) (transform_of t (part b s)) n x y m e in (
      omega (arith, ap length w.0, text-le (part a s), length-take a.len (drop a.start s)),
      omega (arith, ap length w.1, transform-le t (part b s), length-take b.len (drop b.start s)),
      w.2,
    )

-- it is never that there is no room
pub linked-room : (t : Bool) (a b : Span) (n : ℕ) (s : List ℕ) → linked t s a b n ≡ no_room → ⊥
linked-room t a b n s e = paired-room (text_of (part a s)) (transform_of t (part b s)) n e

-- What is asked of a scratch d, by the code's test.
module _ (s d : List ℕ) (x : Link) where
  -- it is too short
  pub lent-short : length d < length s → no_room ≡ lent s d x
  lent-short h = rw (lt-ltb (length d) (length s) h, lent)

  -- it is long enough
  pub lent-enough : length s ≤ length d → x ≡ lent s d x
  lent-enough h = rw (le-ltb (length d) (length s) h, lent)
