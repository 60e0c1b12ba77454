-- What `join_lines` and `rst_explicit_markup_block` write, by lists: a byte and a line behind it at the front of a slice, the loop's
-- invariant with its steps, and the first line with the further lines joined to it.
-- Assumes nothing.
use Rattle.std.proofs.lemmas.List.{take_more_set}
use Rattle.std.proofs.Common.{Some, None}
use Prim.Native.Nat.{ℕ, ◌+◌, ◌-◌, ◌<◌, ◌≤◌}
use mathlib.Core.Path.{◌≡◌, refl, sym, ap, ◌∙◌}
use mathlib.Core.List.{List, [], ◌∷◌, ◌++◌, append_assoc, append-nil}
use native.Mathlib.Omega.{arith}
use lib.ListN.{length, take, drop, set, length-drop, length-append, length-set}
use lib.Seq.{length-take-le, take-length, take_at, take-append-le, take-append-add}
use borrow.Rule.Slice.PartMut.{same_len_mid}
use Rattle.rst_bytes.specs.Line.{not_line_ending_of, space0_of}
use Rattle.rst_bytes.proofs.Lists.{part-from}
use Rattle.rst_bytes.proofs.LineLaws.{not-line-ending-le}
use Rattle.restructured_text.specs.Block.{start_of, further_of, Joining, joined, lines_of, block, with_lines, block_of, lent_block}
use Rattle.restructured_text.proofs.BlockLaws.{from, start-le, further-pos, further-le, lines_end, lines-further, lines-le, lines-size, block-taken, lent-enough}

-- what a copy of x into y leaves there
abbrev copied : List ℕ → List ℕ → List ℕ
copied x y = take (length x) x ++ drop (length x) y

length-copied : (x y : List ℕ) → length x ≤ length y → length (copied x y) ≡ length y
length-copied x y h = rw (take-length, length-append, length-drop) (omega arith)

front-copied : (x y : List ℕ) (n : ℕ) → length x ≡ n → take n (copied x y) ≡ x
front-copied x y n h = rw (take-length) (take_at x (drop (length x) y) n h)

-- d, when its part from k on is back with the bytes ys, as the code has it
abbrev back : List ℕ → ℕ → List ℕ → List ℕ
back d k ys = take k d ++ (ys ++ drop (length d - k) (drop k d))

-- d with a byte b at n, and x behind it
abbrev added : List ℕ → ℕ → ℕ → List ℕ → List ℕ
added d n b x = back (set d n b) (n + 1) (copied x (from (set d n b) (n + 1)))

module _ (d x : List ℕ) (n b : ℕ) (fits : n + 1 + length x ≤ length d) where
  room : length x ≤ length (from (set d n b) (n + 1))
  room = omega (arith, ap length (part-from (set d n b) (n + 1)), length-drop (n + 1) (set d n b), length-set d n b)

  added-length : length (added d n b x) ≡ length d
  added-length =
      same_len_mid (n + 1) (length (set d n b) - (n + 1)) (set d n b) (copied x (from (set d n b) (n + 1))) (length-copied x (from (set d n b) (n + 1)) room)
      ∙ length-set d n b

  upto-length : length (take (n + 1) (set d n b) ++ x) ≡ n + 1 + length x
  upto-length = omega (arith, length-append (take (n + 1) (set d n b)) x, length-take-le (n + 1) (set d n b) (omega (arith, length-set d n b)))

  added-front : take (n + 1 + length x) (added d n b x) ≡ take n d ++ b ∷ x
  added-front =
      simp (take-length, append_assoc)
      (rw (← append_assoc (take (n + 1) (set d n b)) x)
      (take_at (take (n + 1) (set d n b) ++ x) _ (n + 1 + length x) upto-length
      ∙ ap (λ (l : List ℕ). l ++ x) (take_more_set d n b (omega arith))
      ∙ append_assoc (take n d) (b ∷ []) x))

-- Where the loop stands: r is left of s, and n bytes stand at the front of d; these and the lines that are left are all lines; and what is
-- left fits.
pub record Joins (indent s d r : List ℕ) (n : ℕ) : Type 0 where
  pub within : length r ≤ length s
  pub room : n + length r ≤ length d
  pub read : length s - length r + (lines_of indent 0 r).read ≡ (lines_of indent 0 s).read
  pub text : take n d ++ (lines_of indent 0 r).text ≡ (lines_of indent 0 s).text

module _ {indent s d r : List ℕ} {n : ℕ} (st : Joins indent s d r n) where
  -- One more line, of len bytes behind a bytes.
  module _ (a len : ℕ) (e : further_of indent r ≡ Some (a, len)) where
    line-le : a + len ≤ length r
    line-le = further-le indent r a len e

    line-pos : 3 < a
    line-pos = further-pos indent r a len e

    left-length : length (from r (a + len)) ≡ length r - (a + len)
    left-length = ap length (part-from r (a + len)) ∙ length-drop (a + len) r

    pub line-less : length (from r (a + len)) < length r
    line-less = omega (arith, left-length, line-le, line-pos)

    -- its text
    source : take (a + len - a) (drop a r) ≡ take len (drop a r)
    source =
        let z : a + len - a ≡ len = omega arith in
        rw z refl

    source-length : length (take (a + len - a) (drop a r)) ≡ len
    source-length = ap length source ∙ length-take-le len (drop a r) (omega (arith, line-le, length-drop a r))

    -- it fits, with the space before it
    fits : n + 1 + length (take (a + len - a) (drop a r)) ≤ length d
    fits = omega (arith, source-length, line-le, line-pos, st.room)

    pub copy-room : (b : ℕ) → length (take (a + len - a) (drop a r)) ≤ length (from (set d n b) (n + 1))
    copy-room b = room d (take (a + len - a) (drop a r)) n b fits

    lines : lines_of indent 0 r ≡ joined a len r (lines_of indent 0 (from r (a + len)))
    lines =
        lines-further indent r a len e
        ∙ ap (λ (l : List ℕ). joined a len r (lines_of indent 0 l)) (sym (part-from r (a + len)))

    -- it is written
    module _ (ys : List ℕ) (is : ys ≡ copied (take (a + len - a) (drop a r)) (from (set d n 32) (n + 1))) where
      same : length (back (set d n 32) (n + 1) ys) ≡ length d
      same = rw is (added-length d (take (a + len - a) (drop a r)) n 32 fits)

      front : take (n + 1 + len) (back (set d n 32) (n + 1) ys) ≡ take n d ++ 32 ∷ take len (drop a r)
      front =
          ap (λ (k : ℕ). take (n + 1 + k) (back (set d n 32) (n + 1) ys)) (sym source-length)
          ∙ rw is (added-front d (take (a + len - a) (drop a r)) n 32 fits)
          ∙ ap (λ (l : List ℕ). take n d ++ 32 ∷ l) source

      pub joins-more : Joins indent s (back (set d n 32) (n + 1) ys) (from r (a + len)) (n + 1 + len)
      joins-more =
          let more = lines_of indent 0 (from r (a + len)) in
          record {
            within = omega (arith, st.within, left-length);
            room = omega (arith, st.room, left-length, line-le, line-pos, same);
            read = omega (arith, st.read, st.within, left-length, line-le, ap (λ (j : Joining). j.read) lines);
            text =
                ap (λ (l : List ℕ). l ++ more.text) front
                ∙ append_assoc (take n d) (32 ∷ take len (drop a r)) more.text
                ∙ sym (ap (λ (j : Joining). take n d ++ j.text) lines)
                ∙ st.text;
          }

  -- No more line.
  module _ (e : further_of indent r ≡ None) where
    none : lines_of indent 0 r ≡ record { text = []; read = 0 }
    none = lines_end indent r e

    whole : take n d ≡ (lines_of indent 0 s).text
    whole = sym (append-nil (take n d)) ∙ sym (ap (λ (j : Joining). take n d ++ j.text) none) ∙ st.text

    whole_length : n ≡ length (lines_of indent 0 s).text
    whole_length = sym (length-take-le n d (omega (arith, st.room))) ∙ ap length whole

    pub joins-end : (n ≡ length (lines_of indent 0 s).text) × ((length s - length r ≡ (lines_of indent 0 s).read) × (take n d ≡ (lines_of indent 0 s).text))
    joins-end = (whole_length, (omega (arith, st.read, ap (λ (j : Joining). j.read) none), whole))

-- Joined behind the first n bytes of d.
pub behind-front : (n k : ℕ) (d x l : List ℕ) → n ≤ length d → take k x ≡ l → k ≤ length x → take (n + k) (back d n x) ≡ take n d ++ l
behind-front n k d x l h e w =
    ap (λ (m : ℕ). take (m + k) (back d n x)) (sym (length-take-le n d h))
    ∙ take-append-add (take n d) (x ++ drop (length d - n) (drop n d)) k
    ∙ ap (λ (y : List ℕ). take n d ++ y) (take-append-le k x (drop (length d - n) (drop n d)) w ∙ e)

-- The first line, of n bytes behind a bytes.
module _ (header s : List ℕ) (a n : ℕ) (e : start_of header s ≡ Some a) (f : not_line_ending_of (from s a) ≡ Some n) where
  pub first-le : n ≤ length (from s a)
  first-le = not-line-ending-le (from s a) n f

  pub first-length : n ≡ length (take n (from s a))
  first-length = sym (length-take-le n (from s a) first-le)

  pub first_fits : a + n ≤ length s
  first_fits = omega (arith, first-le, ap length (part-from s a), length-drop a s, start-le header s a e)

  -- what stands behind it
  rest : from (from s a) n ≡ drop n (drop a s)
  rest = part-from (from s a) n ∙ ap (drop n) (part-from s a)

  rest-length : length (from (from s a) n) ≡ length s - (a + n)
  rest-length = ap length rest ∙ omega (arith, length-drop n (drop a s), length-drop a s)

  pub read_fits : (indent : List ℕ) (r : ℕ) → r ≡ (lines_of indent 0 (from (from s a) n)).read → a + n + r ≤ length s
  read_fits indent r h = omega (arith, lines-le indent (from (from s a) n), rest-length, first_fits)

  pub text_fits : (indent : List ℕ) (k : ℕ) → k ≡ length (lines_of indent 0 (from (from s a) n)).text → n + k ≤ length s
  text_fits indent k h =
      omega (arith, lines-le indent (from (from s a) n), lines-size indent (from (from s a) n), rest-length, first_fits)

  -- it is copied to the front of d
  module _ (d : List ℕ) (h : length s ≤ length d) where
    pub first-room : length (take n (from s a)) ≤ length d
    first-room = omega (arith, first-length, first_fits)

    module _ (d₁ : List ℕ) (w : d₁ ≡ copied (take n (from s a)) d) where
      first-within : n + length (from (from s a) n) ≤ length d₁
      first-within = omega (arith, rest-length, first_fits, ap length w ∙ length-copied (take n (from s a)) d first-room)

      pub rest-room : length (from (from s a) n) ≤ length (from d₁ n)
      rest-room = omega (arith, first-within, ap length (part-from d₁ n), length-drop n d₁)

      front-first : take n d₁ ≡ take n (drop a s)
      front-first = ap (take n) w ∙ front-copied (take n (from s a)) d n (sym first-length) ∙ ap (take n) (part-from s a)

      -- and the further lines are joined to it
      module _ (i : ℕ) (is : i ≡ space0_of s) where
        lines-first : lines_of (take i s) 0 (from (from s a) n) ≡ lines_of (take (space0_of s) s) 0 (drop n (drop a s))
        lines-first = ap (λ (k : ℕ). lines_of (take k s) 0 (from (from s a) n)) is ∙ ap (lines_of (take (space0_of s) s) 0) rest

        pub block-joined :
            (x : List ℕ) (k r : ℕ) → length x ≡ length (from d₁ n) → k ≡ length (lines_of (take i s) 0 (from (from s a) n)).text
            → r ≡ (lines_of (take i s) 0 (from (from s a) n)).read → take k x ≡ (lines_of (take i s) 0 (from (from s a) n)).text
            → block (take (n + k) (back d₁ n x)) (a + n + r) ≡ lent_block s d (block_of header s)
        block-joined x k r size len u v =
            let lines = lines_of (take i s) 0 (from (from s a) n) in
            let within : k ≤ length x = omega (arith, size, len, rest-room, lines-le (take i s) (from (from s a) n), lines-size (take i s) (from (from s a) n)) in
            ap (λ (l : List ℕ). block l (a + n + r)) (behind-front n k d₁ x lines.text (omega (arith, first-within)) v within ∙ ap (λ (l : List ℕ). l ++ lines.text) front-first)
            ∙ ap (λ (k : ℕ). block (take n (drop a s) ++ lines.text) (a + n + k)) u
            ∙ ap (with_lines a s n) lines-first
            ∙ sym (lent-enough header s d h ∙ block-taken header s a e n (rw part-from at f))
