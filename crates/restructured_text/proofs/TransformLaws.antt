-- The laws of specs/Transform.antt. One step of `reading` goes by the next byte or two, at a position of a text, by the code's
-- tests. A transform works in place: what it wrote stands at the front of its text, and from there on the text is as it was, so
-- that what is read is still the old text. What a transform gives is no longer than its text. Whether a destination is refused goes by its
-- next bytes too, and bytes that are no backslash change nothing of it.
-- Assumes nothing.
use Rattle.std.proofs.lemmas.List.{take_more_set}
use Rattle.std.proofs.lemmas.Option.{none-some, same_Some}
use Rattle.std.proofs.Common.{Option, Some, None}
use Prim.Native.Nat.{ℕ, suc, ◌+◌, ◌-◌, ◌<◌, ◌≤◌}
use mathlib.Core.Path.{◌≡◌, refl, sym, ap, subst⁻¹, ◌∙◌}
use mathlib.Core.List.{List, [], ◌∷◌, ◌++◌, append_assoc, append-nil}
use mathlib.Core.Bool.{Bool, true, false, ◌||◌, ◌&&◌, not, false≢true}
use native.Mathlib.Omega.{arith}
use lib.Dec.{eqb}
use lib.ListN.{length, take, drop, set, get_or, take-append-drop, length-set, length-append}
use lib.Seq.{drop-set-lt, drop-drop, length-take-le, take-append_seam, drop-append_seam, drop-append-le}
use borrow.Author.Tests.{eq-eqb, ne_eqb}
use Rattle.rst_bytes.specs.Free.{is_other, free_front_of}
use Rattle.rst_bytes.specs.Escaped.{is_escapable, is_stop, taking}
use Rattle.rst_bytes.specs.Line.{is_multispace, bytes_from}
use Rattle.rst_bytes.proofs.Lists.{part-from, drop-next, drop-two, drop-last, drop-end}
use Rattle.rst_bytes.proofs.TestLaws.{picks_first, picks_second, by-test}
use Rattle.rst_bytes.proofs.EscapedLaws.{refused-taken, taken_is}
use Rattle.rst_bytes.proofs.LineLaws.{bytes-within, bytes_count, bytes-both}
use Rattle.restructured_text.specs.Inner.{is_bare, is_refused}
use Rattle.restructured_text.specs.Transform.{Given, whole, refused, onto, reading, gives, itself, only, unescaped_of, is_destination_escapable, unblank, kept_of, text_of, destination_of, transform_of, answer_of, bytes_of, over, Leaves}

-- What is put in front.

onto-onto : (a b : List ℕ) (g : Given) → onto a (onto b g) ≡ onto (a ++ b) g
onto-onto a b (whole l) = simp append_assoc
onto-onto a b (refused l) = simp append_assoc

onto-none : (g : Given) → onto [] g ≡ g
onto-none (whole l) = refl
onto-none (refused l) = refl

onto-length : (a : List ℕ) (g : Given) → length (bytes_of (onto a g)) ≡ length a + length (bytes_of g)
onto-length a (whole l) = length-append a l
onto-length a (refused l) = length-append a l

-- One step of `reading`.
module _ (ok : ℕ → Bool) (pair plain : ℕ → List ℕ) where
  -- there is nothing
  nothing : reading ok pair plain [] ≡ whole []
  unfolding reading
  nothing = refl

  -- a backslash, last
  alone : (b : ℕ) → eqb b 0x5C ≡ true → reading ok pair plain (b ∷ []) ≡ refused []
  unfolding reading
  alone b e = picks_first _ _ _ e

  -- a byte that is no backslash
  other : (b : ℕ) (l : List ℕ) → eqb b 0x5C ≡ false → reading ok pair plain (b ∷ l) ≡ onto (plain b) (reading ok pair plain l)
  unfolding reading
  other b [] e = picks_second _ _ _ e ∙ ap whole (sym (append-nil (plain b)))
  other b (c ∷ l) e = picks_second _ _ _ e

  module _ (b c : ℕ) (l : List ℕ) (e : eqb b 0x5C ≡ true) where
    -- a backslash with a byte that it takes along
    escape : ok c ≡ true → reading ok pair plain (b ∷ c ∷ l) ≡ onto (pair c) (reading ok pair plain l)
    unfolding reading
    escape f = picks_first _ _ _ e ∙ picks_first _ _ _ f

    -- a backslash with another byte
    wrong : ok c ≡ false → reading ok pair plain (b ∷ c ∷ l) ≡ refused []
    unfolding reading
    wrong f = picks_first _ _ _ e ∙ picks_second _ _ _ f

  -- The same at a position of a text, by the code's tests.
  module _ (s : List ℕ) (i : ℕ) where
    -- nothing is left
    pub at-end : length s ≤ i → reading ok pair plain (drop i s) ≡ whole []
    at-end h = rw (drop-end s i h) nothing

    -- a backslash, last
    pub at-alone : i < length s → length s ≤ i + 1 → get_or s i 0 ≡ 0x5C → reading ok pair plain (drop i s) ≡ refused []
    at-alone h l e = rw (drop-last s i h l) (alone _ (eq-eqb _ _ e))

    -- a byte that is no backslash
    pub at_other : i < length s → (get_or s i 0 ≡ 0x5C → ⊥) → reading ok pair plain (drop i s) ≡ onto (plain (get_or s i 0)) (reading ok pair plain (drop (i + 1) s))
    at_other h e = rw (drop-next s i h) (other _ _ (ne_eqb _ _ e))

    -- a backslash with the byte c behind it
    module _ (c : ℕ) (h : i + 1 < length s) (e : get_or s i 0 ≡ 0x5C) (w : c ≡ get_or s (i + 1) 0) where
      -- that it takes along
      at-escape : ok c ≡ true → reading ok pair plain (drop i s) ≡ onto (pair c) (reading ok pair plain (drop (i + 2) s))
      at-escape = rw w (λ f. rw (drop-two s i h) (escape _ _ _ (eq-eqb _ _ e) f))

      -- or not
      pub at-wrong : ok c ≡ false → reading ok pair plain (drop i s) ≡ refused []
      at-wrong = rw w (λ f. rw (drop-two s i h) (wrong _ _ _ (eq-eqb _ _ e) f))

-- What unescaping reads, by the code's tests: an escape of c.
module _ (keep : Bool) (s : List ℕ) (i c : ℕ) (h : i + 1 < length s) (e : get_or s i 0 ≡ 0x5C) (w : c ≡ get_or s (i + 1) 0) (f : is_escapable c ≡ true) where
  -- that stands for its byte
  pub at_byte : gives keep c ≡ true → unescaped_of keep (drop i s) ≡ onto (c ∷ []) (unescaped_of keep (drop (i + 2) s))
  at_byte g =
      at-escape is_escapable (λ c. only (gives keep c) c) itself s i c h e w f
      ∙ ap (λ (t : Bool). onto (only t c) (unescaped_of keep (drop (i + 2) s))) g

  -- or for nothing
  pub at-nothing : gives keep c ≡ false → unescaped_of keep (drop i s) ≡ onto [] (unescaped_of keep (drop (i + 2) s))
  at-nothing g =
      at-escape is_escapable (λ c. only (gives keep c) c) itself s i c h e w f
      ∙ ap (λ (t : Bool). onto (only t c) (unescaped_of keep (drop (i + 2) s))) g

-- What dropping whitespace reads, by the code's tests.
module _ (s : List ℕ) (i : ℕ) where
  -- an escape of c
  pub at-two :
      (c : ℕ) → i + 1 < length s → get_or s i 0 ≡ 0x5C → c ≡ get_or s (i + 1) 0 → is_destination_escapable c ≡ true
      → kept_of (drop i s) ≡ onto (get_or s i 0 ∷ c ∷ []) (kept_of (drop (i + 2) s))
  at-two c h e w f =
      at-escape is_destination_escapable (λ c. 0x5C ∷ c ∷ []) unblank s i c h e w f
      ∙ ap (λ (b : ℕ). onto (b ∷ c ∷ []) (kept_of (drop (i + 2) s))) (sym e)

  module _ (h : i < length s) (e : get_or s i 0 ≡ 0x5C → ⊥) where
    -- whitespace
    pub at-blank : is_multispace (get_or s i 0) ≡ true → kept_of (drop i s) ≡ onto [] (kept_of (drop (i + 1) s))
    unfolding unblank
    at-blank f =
        at_other is_destination_escapable (λ c. 0x5C ∷ c ∷ []) unblank s i h e
        ∙ ap (λ (l : List ℕ). onto l (kept_of (drop (i + 1) s))) (picks_first _ _ _ f)

    -- another byte
    pub at-unblank : is_multispace (get_or s i 0) ≡ false → kept_of (drop i s) ≡ onto (get_or s i 0 ∷ []) (kept_of (drop (i + 1) s))
    unfolding unblank
    at-unblank f =
        at_other is_destination_escapable (λ c. 0x5C ∷ c ∷ []) unblank s i h e
        ∙ ap (λ (l : List ℕ). onto l (kept_of (drop (i + 1) s))) (picks_second _ _ _ f)

-- A byte is written at n: the rest is as it was.
module _ (d : List ℕ) (n b : ℕ) where
  kept : (d₀ : List ℕ) → drop n d ≡ drop n d₀ → drop (n + 1) (set d n b) ≡ drop (n + 1) d₀
  kept d₀ e = drop-set-lt (n + 1) d n b (omega arith) ∙ sym (drop-drop 1 n d) ∙ ap (drop 1) e ∙ drop-drop 1 n d₀

-- two bytes are written
written-two : (d : List ℕ) (n a b : ℕ) → n + 1 < length d → take (n + 1 + 1) (set (set d n a) (n + 1) b) ≡ take n d ++ (a ∷ b ∷ [])
written-two d n a b h =
    take_more_set (set d n a) (n + 1) b (omega (arith, length-set d n a))
    ∙ ap (λ (l : List ℕ). l ++ (b ∷ [])) (take_more_set d n a (omega arith))
    ∙ append_assoc (take n d) (a ∷ []) (b ∷ [])

-- Where the loop stands: i bytes are read and n written, from n on the text is as it was, and what was written stands before what
-- F gives of the rest.
pub record At (F : List ℕ → Given) (d₀ d : List ℕ) (i n : ℕ) : Type 0 where
  pub read : i ≤ length d₀
  pub room : n ≤ i
  pub len : length d ≡ length d₀
  pub rest : drop n d ≡ drop n d₀
  pub said : F d₀ ≡ onto (take n d) (F (drop i d₀))

-- The bytes at the front that stand for themselves, since they pass a test, stay where they are.
module _ (F : List ℕ → Given) (f : ℕ → Bool) (one : (b : ℕ) (l : List ℕ) → f b ≡ true → F (b ∷ l) ≡ onto (b ∷ []) (F l)) where
  front-said : (s : List ℕ) → F s ≡ onto (take (bytes_from f 0 s) s) (F (drop (bytes_from f 0 s) s))
  unfolding bytes_from
  front-said [] = sym (onto-none _)
  front-said (b ∷ s) = by-test (λ n. F (b ∷ s) ≡ onto (take n (b ∷ s)) (F (drop n (b ∷ s)))) (f b) _ _ (more (front-said s)) (λ e. sym (onto-none _))
    where
      more : F s ≡ onto (take (bytes_from f 0 s) s) (F (drop (bytes_from f 0 s) s)) → f b ≡ true → F (b ∷ s) ≡ onto (take (bytes_from f 1 s) (b ∷ s)) (F (drop (bytes_from f 1 s) (b ∷ s)))
      more ih e =
          let g : bytes_from f 1 s ≡ suc (bytes_from f 0 s) = omega (arith, bytes_count f s 1) in
          subst⁻¹ (λ (n : ℕ). F (b ∷ s) ≡ onto (take n (b ∷ s)) (F (drop n (b ∷ s)))) g
          (one b s e ∙ ap (onto (b ∷ [])) ih ∙ onto-onto (b ∷ []) (take (bytes_from f 0 s) s) (F (drop (bytes_from f 0 s) s)))

  start : (d₀ : List ℕ) (n : ℕ) → n ≡ bytes_from f 0 d₀ → At F d₀ d₀ n n
  start d₀ n e =
      record {
        read = omega (arith, e, bytes-within f d₀);
        room = omega arith;
        len = refl;
        rest = refl;
        said = subst⁻¹ (λ (k : ℕ). F d₀ ≡ onto (take k d₀) (F (drop k d₀))) e (front-said d₀);
      }

module _ {F : List ℕ → Given} {d₀ d : List ℕ} {i n : ℕ} (st : At F d₀ d i n) where
  -- what is still to be read is as it was
  unread : (k : ℕ) → n ≤ k → drop k d ≡ drop k d₀
  unread k h =
      let e : n + (k - n) ≡ k = omega arith in
      rw e at (sym (drop-drop (k - n) n d) ∙ ap (drop (k - n)) st.rest ∙ drop-drop (k - n) n d₀)

  -- what F gives of it, by what it gives of the text as it stands now
  now-said : (k : ℕ) (l : List ℕ) → F (drop i d) ≡ onto l (F (drop (i + k) d)) → F d₀ ≡ onto (take n d ++ l) (F (drop (i + k) d₀))
  now-said k l e =
      st.said ∙ ap (λ (x : List ℕ). onto (take n d) (F x)) (sym (unread i st.room))
      ∙ ap (onto (take n d)) e
      ∙ ap (λ (x : List ℕ). onto (take n d) (onto l (F x))) (unread (i + k) (omega arith))
      ∙ onto-onto (take n d) l (F (drop (i + k) d₀))

  -- k bytes are read and none is written
  pub skip : (k : ℕ) → i + k ≤ length d → F (drop i d) ≡ onto [] (F (drop (i + k) d)) → At F d₀ d (i + k) n
  skip k h e =
      record {
        read = omega arith;
        room = omega arith;
        len = st.len;
        rest = st.rest;
        said = now-said k [] e ∙ ap (λ (l : List ℕ). onto l (F (drop (i + k) d₀))) (append-nil (take n d));
      }

  -- k bytes are read and one is written
  pub write : (k b : ℕ) → 0 < k → i + k ≤ length d → F (drop i d) ≡ onto (b ∷ []) (F (drop (i + k) d)) → At F d₀ (set d n b) (i + k) (n + 1)
  write k b p h e =
      record {
        read = omega arith;
        room = omega arith;
        len = length-set d n b ∙ st.len;
        rest = kept d n b d₀ st.rest;
        said =
            now-said k (b ∷ []) e
            ∙ ap (λ (l : List ℕ). onto l (F (drop (i + k) d₀))) (sym (take_more_set d n b (omega arith)));
      }

  -- two bytes are read and two are written
  pub write_two : (a b : ℕ) → i + 2 ≤ length d → F (drop i d) ≡ onto (a ∷ b ∷ []) (F (drop (i + 2) d)) → At F d₀ (set (set d n a) (n + 1) b) (i + 2) (n + 2)
  write_two a b h e =
      let two : n + 2 ≡ n + 1 + 1 = omega arith in
      record {
        read = omega arith;
        room = omega arith;
        len = length-set (set d n a) (n + 1) b ∙ length-set d n a ∙ st.len;
        rest = rw two (kept (set d n a) (n + 1) b d₀ (kept d n a d₀ st.rest));
        said =
            now-said 2 (a ∷ b ∷ []) e
            ∙ ap (λ (l : List ℕ). onto l (F (drop (i + 2) d₀))) (sym (rw two (written-two d n a b (omega arith))));
      }

  -- the text as it stands now
  buffer : n ≤ length d → d ≡ over (take n d) d₀
  buffer h = rw (length-take-le n d h) (sym (take-append-drop n d) ∙ ap (λ (l : List ℕ). take n d ++ l) st.rest)

  -- what F gives in all, by what it gives of the rest
  all_said : (g : Given) → F (drop i d) ≡ g → F d₀ ≡ onto (take n d) g
  all_said g e = st.said ∙ ap (λ (x : List ℕ). onto (take n d) (F x)) (sym (unread i st.room)) ∙ ap (onto (take n d)) e

  -- the rest is refused
  pub ends-bad : F (drop i d) ≡ refused [] → Leaves (F d₀) d₀ d None
  ends-bad e =
      simp (all_said (refused []) e, append-nil) (record {
        answer = refl;
        bytes = buffer (omega arith);
      })

  -- nothing is left
  pub ends-well : F (drop i d) ≡ whole [] → Leaves (F d₀) d₀ d (Some n)
  ends-well e =
      simp (all_said (whole []) e, append-nil) (record {
        answer = ap Some (sym (length-take-le n d (omega arith)));
        bytes = buffer (omega arith);
      })

-- What a transform gives is no longer than its text: for each byte that it reads it gives at most one.
module _ (ok : ℕ → Bool) (pair plain : ℕ → List ℕ) (one : (b : ℕ) → length (plain b) ≤ 1) (two : (c : ℕ) → length (pair c) ≤ 2) where
  reading-le : (s : List ℕ) → length (bytes_of (reading ok pair plain s)) ≤ length s
  unfolding reading
  reading-le [] = omega arith
  reading-le (b ∷ []) = by-test (λ g. length (bytes_of g) ≤ 1) (eqb b 0x5C) _ _ (λ e. omega arith) (λ e. one b)
  reading-le (b ∷ c ∷ s) =
      by-test (λ g. length (bytes_of g) ≤ suc (suc (length s))) (eqb b 0x5C) _ _
      (λ e. by-test (λ g. length (bytes_of g) ≤ suc (suc (length s))) (ok c) _ _
      (λ f. omega (arith, onto-length (pair c) (reading ok pair plain s), two c, reading-le s))
      (λ f. omega arith))
      (λ e. omega (arith, onto-length (plain b) (reading ok pair plain (c ∷ s)), one b, reading-le (c ∷ s)))

only-le : (t : Bool) (b : ℕ) → length (only t b) ≤ 2
only-le true b = omega arith
only-le false b = omega arith

unblank-le : (b : ℕ) → length (unblank b) ≤ 1
unfolding unblank
unblank-le b = by-test (λ l. length l ≤ 1) (is_multispace b) [] (b ∷ []) (λ e. omega arith) (λ e. omega arith)

unescaped-le : (keep : Bool) (s : List ℕ) → length (bytes_of (unescaped_of keep s)) ≤ length s
unescaped-le keep s = reading-le is_escapable (λ c. only (gives keep c) c) itself (λ b. omega arith) (λ c. only-le (gives keep c) c) s

kept-le : (s : List ℕ) → length (bytes_of (kept_of s)) ≤ length s
kept-le s = reading-le is_destination_escapable (λ c. 0x5C ∷ c ∷ []) unblank unblank-le (λ c. omega arith) s

pub text-le : (s : List ℕ) → length (bytes_of (text_of s)) ≤ length s
unfolding text_of
text-le s = unescaped-le false s

pub destination-le : (s : List ℕ) → length (bytes_of (destination_of s)) ≤ length s
unfolding destination_of
destination-le s = go (kept_of s) (kept-le s)
  where
    go : (g : Given) → length (bytes_of g) ≤ length s → length (bytes_of (elim g [ whole l ↦ unescaped_of true l | refused l ↦ refused l ])) ≤ length s
    go (whole l) h = omega (arith, unescaped-le true l)
    go (refused l) h = h

pub transform-le : (destination : Bool) (s : List ℕ) → length (bytes_of (transform_of destination s)) ≤ length s
transform-le true s = destination-le s
transform-le false s = text-le s

-- A text with another written over its front.
module _ (l d : List ℕ) where
  -- its front
  over-front : take (length l) (over l d) ≡ l
  over-front = take-append_seam l (drop (length l) d)

  -- its rest
  over-rest : drop (length l) (over l d) ≡ drop (length l) d
  over-rest = drop-append_seam l (drop (length l) d)

  -- written once more
  over-again : over l (over l d) ≡ over l d
  over-again = ap (λ (x : List ℕ). l ++ x) over-rest

-- written over the front of a part
over-part : (u d : List ℕ) (n : ℕ) → length u ≤ length (take n d) → over u (take n d) ++ drop n d ≡ over u d
over-part u d n h =
    append_assoc u (drop (length u) (take n d)) (drop n d)
    ∙ ap (λ (x : List ℕ). u ++ x)
    (sym (drop-append-le (length u) (take n d) (drop n d) h) ∙ ap (drop (length u)) (take-append-drop n d))

-- The destination transform, by what dropping whitespace gave.
module _ (s : List ℕ) where
  destination-whole : (l : List ℕ) → kept_of s ≡ whole l → destination_of s ≡ unescaped_of true l
  unfolding destination_of
  destination-whole l e = ap (λ (g : Given). elim g [ whole x ↦ unescaped_of true x | refused x ↦ refused x ]) e

  destination-refused : (l : List ℕ) → kept_of s ≡ refused l → destination_of s ≡ refused l
  unfolding destination_of
  destination-refused l e = ap (λ (g : Given). elim g [ whole x ↦ unescaped_of true x | refused x ↦ refused x ]) e

-- what is answered, and that the part so long is what was written
pub answer-part : (g : Given) (d₀ d : List ℕ) (n : ℕ) → Some n ≡ answer_of g → d ≡ over (bytes_of g) d₀ → (g ≡ whole (take n d)) × (n ≤ length d)
answer-part (whole l) d₀ d n e f =
    let z : n ≡ length l = same_Some n (length l) e in
    rw (f, z) (ap whole (sym (over-front l d₀)), omega (arith, length-append l (drop (length l) d₀)))
answer-part (refused l) d₀ d n e f = absurd (none-some n (sym e))

-- or what is refused
pub answer-refused : (g : Given) → None ≡ answer_of g → g ≡ refused (bytes_of g)
answer-refused (whole l) e = absurd (none-some (length l) e)
answer-refused (refused l) e = refl

-- the part is unescaped
pub destination-part :
    (s d x : List ℕ) (n : ℕ) (r : Option ℕ) → Leaves (kept_of s) s d (Some n) → Leaves (unescaped_of true (take n d)) (take n d) x r
    → Leaves (destination_of s) (over (bytes_of (kept_of s)) s) (x ++ drop n d) r
destination-part s d x n r kept l =
    let w : destination_of s ≡ unescaped_of true (take n d) = destination-whole s (take n d) (answer-part (kept_of s) s d n kept.answer kept.bytes).0 in
    rw (w, ← kept.bytes) (record {
      answer = l.answer;
      bytes = rw l.bytes (over-part (bytes_of (unescaped_of true (take n d))) d n (unescaped-le true (take n d)));
    })

-- or whitespace could not be dropped
pub destination-wrong :
    (s d : List ℕ) → Leaves (kept_of s) s d None → Leaves (destination_of s) (over (bytes_of (kept_of s)) s) d None
destination-wrong s d kept =
    let w : destination_of s ≡ refused (bytes_of (kept_of s)) = destination-refused s _ (answer-refused (kept_of s) kept.answer) in
    rw w (record {
      answer = refl;
      bytes = kept.bytes ∙ sym (over-again (bytes_of (kept_of s)) s);
    })

-- A byte that is neither a backslash nor whitespace, by both readings.
bare_apart : (b : ℕ) → is_bare b ≡ true → (eqb b 0x5C ≡ false) × (is_multispace b ≡ false)
unfolding is_bare
bare_apart b e = go (eqb b 0x5C) (is_multispace b) refl refl e
  where
    go : (t u : Bool) → eqb b 0x5C ≡ t → is_multispace b ≡ u → not (t || u) ≡ true → (eqb b 0x5C ≡ false) × (is_multispace b ≡ false)
    go true u f g h = absurd (false≢true h)
    go false true f g h = absurd (false≢true h)
    go false false f g h = (f, g)

-- no byte that is no backslash
pub other-slash : (b : ℕ) → is_other 0x5C 0x5C 0x5C b ≡ true → eqb b 0x5C ≡ false
unfolding is_other is_stop
other-slash b e = go (eqb b 0x5C) e
  where
    go : (t : Bool) → not ((t || t) || t) ≡ true → t ≡ false
    go true h = absurd (false≢true h)
    go false h = refl

pub unescaped-start : (keep : Bool) (d₀ : List ℕ) (n : ℕ) → n ≡ free_front_of 0x5C 0x5C 0x5C d₀ → At (unescaped_of keep) d₀ d₀ n n
unescaped-start keep =
    start (unescaped_of keep) (is_other 0x5C 0x5C 0x5C) (λ b l e. other is_escapable (λ c. only (gives keep c) c) itself b l (other-slash b e))

pub kept-start : (d₀ : List ℕ) (n : ℕ) → n ≡ bytes_from is_bare 0 d₀ → At kept_of d₀ d₀ n n
unfolding unblank
kept-start = start kept_of is_bare one
  where
    one : (b : ℕ) (l : List ℕ) → is_bare b ≡ true → kept_of (b ∷ l) ≡ onto (b ∷ []) (kept_of l)
    one b l e =
        other is_destination_escapable (λ c. 0x5C ∷ c ∷ []) unblank b l (bare_apart b e).0
        ∙ ap (λ (x : List ℕ). onto x (kept_of l)) (picks_second _ _ _ (bare_apart b e).1)

-- bare bytes by two searches
bare-apart : (b : ℕ) → is_bare b ≡ (is_other 0x5C 0x20 9 b && is_other 13 10 10 b)
unfolding is_bare is_multispace is_other is_stop
bare-apart b = go (eqb b 0x5C) (eqb b 0x20) (eqb b 9) (eqb b 13) (eqb b 10)
  where
    go : (p s t r n : Bool) → not (p || (s || (t || (r || (n || false))))) ≡ (not ((p || s) || t) && not ((r || n) || n))
    go true s t r n = refl
    go false true t r n = refl
    go false false true r n = refl
    go false false false true n = refl
    go false false false false true = refl
    go false false false false false = refl

pub bare-by : (s : List ℕ) (m n : ℕ) → m ≡ free_front_of 0x5C 0x20 9 s → n ≡ free_front_of 13 10 10 (take m s) → n ≡ bytes_from is_bare 0 s
bare-by s m n e f =
    f ∙ ap (λ (k : ℕ). free_front_of 13 10 10 (take k s)) e ∙ bytes-both (is_other 0x5C 0x20 9) (is_other 13 10 10) is_bare bare-apart s

-- Whether a transform refuses: what is put in front changes nothing of it.
pub onto-refused : (l : List ℕ) (g : Given) → is_refused (onto l g) ≡ is_refused g
unfolding is_refused
onto-refused l (whole x) = refl
onto-refused l (refused x) = refl

pub refused-is : (g : Given) → is_refused g ≡ true → g ≡ refused (bytes_of g)
unfolding is_refused
refused-is (whole l) e = absurd (false≢true e)
refused-is (refused l) e = refl

-- A destination is refused where dropping whitespace is.
pub destination-dead : (s : List ℕ) → is_refused (kept_of s) ≡ true → destination_of s ≡ refused (bytes_of (kept_of s))
destination-dead s e = destination-refused s _ (refused-is (kept_of s) e)

-- Whether it is, by its first bytes.
pub kept_byte : (b : ℕ) (l : List ℕ) → eqb b 0x5C ≡ false → is_refused (kept_of (b ∷ l)) ≡ is_refused (kept_of l)
kept_byte b l e = ap is_refused (other is_destination_escapable (λ c. 0x5C ∷ c ∷ []) unblank b l e) ∙ onto-refused _ (kept_of l)

pub kept-alone : (b : ℕ) → eqb b 0x5C ≡ true → is_refused (kept_of (b ∷ [])) ≡ true
unfolding is_refused
kept-alone b e = ap is_refused (alone is_destination_escapable (λ c. 0x5C ∷ c ∷ []) unblank b e)

module _ (b c : ℕ) (l : List ℕ) (e : eqb b 0x5C ≡ true) where
  pub kept_pair : is_destination_escapable c ≡ true → is_refused (kept_of (b ∷ c ∷ l)) ≡ is_refused (kept_of l)
  kept_pair f = ap is_refused (escape is_destination_escapable (λ d. 0x5C ∷ d ∷ []) unblank b c l e f) ∙ onto-refused (0x5C ∷ c ∷ []) (kept_of l)

  pub kept-wrong : is_destination_escapable c ≡ false → is_refused (kept_of (b ∷ c ∷ l)) ≡ true
  unfolding is_refused
  kept-wrong f = ap is_refused (wrong is_destination_escapable (λ d. 0x5C ∷ d ∷ []) unblank b c l e f)

-- bytes at the front that are no backslash
kept-front : (s : List ℕ) → is_refused (kept_of s) ≡ is_refused (kept_of (drop (free_front_of 0x5C 0x5C 0x5C s) s))
unfolding bytes_from
kept-front [] = refl
kept-front (b ∷ l) =
    by-test (λ n. is_refused (kept_of (b ∷ l)) ≡ is_refused (kept_of (drop n (b ∷ l)))) (is_other 0x5C 0x5C 0x5C b) _ _
    (λ e.
    let n : bytes_from (is_other 0x5C 0x5C 0x5C) (0 + 1) l ≡ suc (free_front_of 0x5C 0x5C 0x5C l) = omega (arith, bytes_count (is_other 0x5C 0x5C 0x5C) l (0 + 1)) in
    kept_byte b l (other-slash b e) ∙ kept-front l ∙ ap (λ (k : ℕ). is_refused (kept_of (drop k (b ∷ l)))) (sym n))
    (λ e. refl)

-- The same by the code's tests: nothing is left;
pub front-none : (s : List ℕ) → length s < 1 → is_refused (kept_of s) ≡ false
unfolding is_refused reading
front-none [] h = refl
front-none (b ∷ s) h = absurd (omega arith)

-- a backslash, last;
pub front-last : (s : List ℕ) → 1 ≤ length s → length s < 2 → get_or s 0 0 ≡ 0x5C → is_refused (kept_of s) ≡ true
front-last [] h l e = absurd (omega arith)
front-last (b ∷ []) h l e = kept-alone b (eq-eqb _ _ e)
front-last (b ∷ c ∷ s) h l e = absurd (omega arith)

-- a backslash with another byte than those that it takes along;
pub front-wrong : (s : List ℕ) → 2 ≤ length s → get_or s 0 0 ≡ 0x5C → is_destination_escapable (get_or s 1 0) ≡ false → is_refused (kept_of s) ≡ true
front-wrong [] h e f = absurd (omega arith)
front-wrong (b ∷ []) h e f = absurd (omega arith)
front-wrong (b ∷ c ∷ s) h e f = kept-wrong b c s (eq-eqb _ _ e) f

-- with one of those;
pub front-two :
    (s : List ℕ) → 2 ≤ length s → get_or s 0 0 ≡ 0x5C → is_destination_escapable (get_or s 1 0) ≡ true
    → is_refused (kept_of s) ≡ is_refused (kept_of (take (length s - 2) (drop 2 s)))
front-two [] h e f = absurd (omega arith)
front-two (b ∷ []) h e f = absurd (omega arith)
front-two (b ∷ c ∷ s) h e f = rw (part-from (b ∷ c ∷ s) 2) (kept_pair b c s (eq-eqb _ _ e) f)

-- another byte;
pub front-other :
    (s : List ℕ) → 1 ≤ length s → (get_or s 0 0 ≡ 0x5C → ⊥) → is_refused (kept_of s) ≡ is_refused (kept_of (take (length s - 1) (drop 1 s)))
front-other [] h e = absurd (omega arith)
front-other (b ∷ s) h e = rw (part-from (b ∷ s) 1) (kept_byte b s (ne_eqb _ _ e))

-- and bytes that are no backslash, r of them, by the code
pub front_free : (s : List ℕ) (r : ℕ) → r ≡ free_front_of 0x5C 0x5C 0x5C s → is_refused (kept_of s) ≡ is_refused (kept_of (take (length s - r) (drop r s)))
front_free s r e = kept-front s ∙ ap (λ (k : ℕ). is_refused (kept_of (drop k s))) (sym e) ∙ ap (λ (v : List ℕ). is_refused (kept_of v)) (sym (part-from s r))

pub ruleset fronts = (front-none, front-last, front-wrong, front-two, front-other)

-- behind a text that `escaped` takes as a whole, unescaping refuses if it does so there
unescaped-over : (p q : ℕ) (keep : Bool) (l s : List ℕ) (n k : ℕ) → n + length l ≡ k → taking p q false n l ≡ Some k → is_refused (unescaped_of keep (l ++ s)) ≡ is_refused (unescaped_of keep s)
unfolding taking
unescaped-over p q keep [] s n k h e = refl
unescaped-over p q keep (b ∷ []) s n k h e =
    by-test (λ x. x ≡ Some k → is_refused (unescaped_of keep (b ∷ s)) ≡ is_refused (unescaped_of keep s)) (eqb b 0x5C) _ _
    (λ f g. absurd (refused-taken k g))
    (λ f g. ap is_refused (other is_escapable (λ c. only (gives keep c) c) itself b s f) ∙ onto-refused (itself b) (unescaped_of keep s))
    e
unescaped-over p q keep (b ∷ c ∷ l) s n k h e =
    by-test (λ x. x ≡ Some k → is_refused (unescaped_of keep (b ∷ c ∷ l ++ s)) ≡ is_refused (unescaped_of keep s)) (eqb b 0x5C) _ _
    (λ f. by-test (λ x. x ≡ Some k → is_refused (unescaped_of keep (b ∷ c ∷ l ++ s)) ≡ is_refused (unescaped_of keep s)) (is_escapable c) _ _
    (λ g i.
    ap is_refused (escape is_escapable (λ d. only (gives keep d) d) itself b c (l ++ s) f g)
    ∙ onto-refused (only (gives keep c) c) (unescaped_of keep (l ++ s))
    ∙ unescaped-over p q keep l s (n + 1 + 1) k (omega arith) i)
    (λ g i. absurd (refused-taken k i)))
    (λ f. by-test (λ x. x ≡ Some k → is_refused (unescaped_of keep (b ∷ c ∷ l ++ s)) ≡ is_refused (unescaped_of keep s)) (is_stop p q b) _ _
    (λ g i. absurd (omega (arith, taken_is n k i)))
    (λ g i.
    ap is_refused (other is_escapable (λ d. only (gives keep d) d) itself b (c ∷ l ++ s) f)
    ∙ onto-refused (itself b) (unescaped_of keep (c ∷ l ++ s))
    ∙ unescaped-over p q keep (c ∷ l) s (n + 1) k (omega arith) i))
    e

-- so does the text transform
pub text-over : (p q : ℕ) (l s : List ℕ) → taking p q false 0 l ≡ Some (length l) → is_refused (text_of (l ++ s)) ≡ is_refused (text_of s)
unfolding text_of
text-over p q l s e = unescaped-over p q false l s 0 (length l) (omega arith) e
