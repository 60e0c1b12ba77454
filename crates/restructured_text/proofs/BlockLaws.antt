-- The laws of `specs/Block.antt`, over the stated laws of the bytes layer. Each answer goes by the code's tests; what a step takes is
-- within the text, and so what the further lines take, by induction over the bytes. Then what a block consumes, and that LF and more
-- behind a text change no block: a further line would need a space or a tab behind that LF.
-- Assumes nothing.
use Rattle.std.proofs.Common.{Option, Some, None}
use Prim.Native.Nat.{ℕ, zero, suc, ◌+◌, ◌-◌, ◌<◌, ◌≤◌}
use mathlib.Core.Path.{◌≡◌, refl, sym, ap, ◌∙◌, subst}
use mathlib.Core.List.{List, [], ◌∷◌, ◌++◌}
use mathlib.Core.Bool.{Bool, true, false, true≢false}
use native.Mathlib.Omega.{arith}
use lib.ListN.{length, take, drop, length-drop, length-append}
use lib.Seq.{length-take-le, take-append-le, drop-append-le}
use borrow.Author.Tests.{lt-ltb, le-ltb}
use Rattle.rst_bytes.specs.Line.{line_ending_of, not_line_ending_of, is_space, space0_of}
use Rattle.rst_bytes.specs.Tag.{starts_with}
use Rattle.rst_bytes.specs.Escaped.{is_stop}
use Rattle.rst_bytes.specs.Appending.{free, starts_space, Body, Tail}
use Rattle.rst_bytes.proofs.Lists.{part-from}
use Rattle.rst_bytes.proofs.TestLaws.{by-test}
use Rattle.rst_bytes.proofs.LineLaws.{ending-lf, line-ending-le, line-ending-pos, line-ending-lf, not-line-ending-le, not-line-ending-lf, space0-le, space0-lf, space0-free, space0-starts, body-drop}
use Rattle.rst_bytes.proofs.TagLaws.{starts-le, starts-append, starts-lf, starts-space}
use Rattle.restructured_text.specs.Block.{start_of, three, cut_of, line_at, further_of, Joining, joined, lines_of, BlockText, block, no_block, no-scratch, with_lines, block_of, lent_block}

-- the part from a position on, as the code has it
abbrev pub from : List ℕ → ℕ → List ℕ
from s a = take (length s - a) (drop a s)

-- The start, behind the indent of a bytes.
module _ (s : List ℕ) (a : ℕ) (is : a ≡ space0_of s) (header : List ℕ) where
  at-start : starts_with header (from s a) ≡ starts_with header (drop (space0_of s) s)
  at-start = ap (starts_with header) (part-from s a) ∙ ap (λ (n : ℕ). starts_with header (drop n s)) is

  -- the header stands there
  pub start-taken : starts_with header (from s a) ≡ true → start_of header s ≡ Some (a + length header)
  unfolding start_of
  start-taken e = simp (is, sym at-start ∙ e, start_of)

  -- it does not
  pub start-refused : starts_with header (from s a) ≡ false → start_of header s ≡ None
  unfolding start_of
  start-refused e = simp (sym at-start ∙ e, start_of)

-- The start is the indent and the header, and is within the text.
abbrev StartIn : List ℕ → List ℕ → Option ℕ → Type 0
StartIn header s (Some a) =
    (a ≡ space0_of s + length header) × (a ≤ length s) × (starts_with header (drop (space0_of s) s) ≡ true)
StartIn header s None = Unit {0}

start-in : (header s : List ℕ) → StartIn header s (start_of header s)
unfolding start_of
start-in header s =
    by-test (StartIn header s) (starts_with header (drop (space0_of s) s)) _ _
    (λ e. (refl, omega (arith, starts-le header (drop (space0_of s) s) e, length-drop (space0_of s) s, space0-le s), e))
    (λ e. tt)

module _ (header s : List ℕ) (a : ℕ) (e : start_of header s ≡ Some a) where
  pub start_is : a ≡ space0_of s + length header
  start_is = (subst (StartIn header s) e (start-in header s)).0

  pub start-le : a ≤ length s
  start-le = (subst (StartIn header s) e (start-in header s)).1

  pub start-begins : starts_with header (drop (space0_of s) s) ≡ true
  start-begins = (subst (StartIn header s) e (start-in header s)).2

-- What is cut before a further line.

-- no line ends here
pub cut-none : (indent s : List ℕ) → line_ending_of s ≡ None → cut_of indent s ≡ None
unfolding cut_of
cut-none indent s e = simp (e, cut_of)

-- behind the line's end, of k bytes
module _ (indent s : List ℕ) (k : ℕ) (e : line_ending_of s ≡ Some k) where
  -- the indent and three spaces as one list
  cut-test : cut_of indent s ≡ elim (starts_with (indent ++ three) (drop k s)) [ true ↦ Some (k + length indent + 3) | false ↦ None ]
  unfolding cut_of
  cut-test = simp (e, starts-append, cut_of)

-- What is cut, if anything is, is more than three bytes and at most k.
abbrev CutIn : ℕ → Option ℕ → Type 0
CutIn k (Some a) = (3 < a) × (a ≤ k)
CutIn k None = Unit {0}

cut_in : (indent s : List ℕ) → CutIn (length s) (cut_of indent s)
cut_in indent s = go (line_ending_of s) refl
  where
    both : (k : ℕ) → line_ending_of s ≡ Some k → starts_with (indent ++ three) (drop k s) ≡ true → CutIn (length s) (Some (k + length indent + 3))
    both k e f =
        let h = starts-le (indent ++ three) (drop k s) f in
        (omega (arith, line-ending-pos s k e), omega (arith, line-ending-le s k e, length-append indent three, length-drop k s))

    go : (x : Option ℕ) → line_ending_of s ≡ x → CutIn (length s) (cut_of indent s)
    go (Some k) e = rw (cut-test indent s k e) (by-test (CutIn (length s)) (starts_with (indent ++ three) (drop k s)) _ _ (both k e) (λ f. tt))
    go None e = rw (cut-none indent s e) tt

module _ (indent s : List ℕ) (a : ℕ) (e : cut_of indent s ≡ Some a) where
  cut-pos : 3 < a
  cut-pos = (subst (CutIn (length s)) e (cut_in indent s)).0

  pub cut-le : a ≤ length s
  cut-le = (subst (CutIn (length s)) e (cut_in indent s)).1

-- A further line.

-- nothing is cut
pub further-none : (indent s : List ℕ) → cut_of indent s ≡ None → further_of indent s ≡ None
unfolding further_of
further-none indent s e = simp (e, further_of)

-- behind the a bytes that are cut
module _ (indent s : List ℕ) (a : ℕ) (e : cut_of indent s ≡ Some a) where
  further-some : further_of indent s ≡ line_at a (not_line_ending_of (drop a s))
  unfolding further_of
  further-some = simp (e, further_of)

-- What is cut is more than three bytes, and the line is within k.
abbrev FurtherIn : ℕ → Option (ℕ × ℕ) → Type 0
FurtherIn k (Some (a, n)) = (3 < a) × (a + n ≤ k)
FurtherIn k None = Unit {0}

further-in : (indent s : List ℕ) → FurtherIn (length s) (further_of indent s)
further-in indent s = go (cut_of indent s) refl
  where
    line : (a : ℕ) → cut_of indent s ≡ Some a → (y : Option ℕ) → not_line_ending_of (drop a s) ≡ y → FurtherIn (length s) (line_at a y)
    line a e (Some n) f = (cut-pos indent s a e, omega (arith, cut-le indent s a e, not-line-ending-le (drop a s) n f, length-drop a s))
    line a e None f = tt

    go : (x : Option ℕ) → cut_of indent s ≡ x → FurtherIn (length s) (further_of indent s)
    go (Some a) e = rw (further-some indent s a e) (line a e (not_line_ending_of (drop a s)) refl)
    go None e = rw (further-none indent s e) tt

module _ (indent s : List ℕ) (a n : ℕ) (e : further_of indent s ≡ Some (a, n)) where
  pub further-pos : 3 < a
  further-pos = (subst (FurtherIn (length s)) e (further-in indent s)).0

  pub further-le : a + n ≤ length s
  further-le = (subst (FurtherIn (length s)) e (further-in indent s)).1

-- The further lines.

-- k more bytes are passed
lines-skip : (indent : List ℕ) (k : ℕ) (s : List ℕ) → lines_of indent k s ≡ lines_of indent 0 (drop k s)
unfolding lines_of
lines-skip indent zero s = refl
lines-skip indent (suc k) [] = refl
lines-skip indent (suc k) (b ∷ rest) = lines-skip indent k rest

-- there is none
pub lines_end : (indent s : List ℕ) → further_of indent s ≡ None → lines_of indent 0 s ≡ record { text = []; read = 0 }
unfolding lines_of
lines_end indent [] e = refl
lines_end indent (b ∷ rest) e = simp (e, lines_of)

-- there is one
lines_next : (indent : List ℕ) (b : ℕ) (rest : List ℕ) (a n : ℕ) → further_of indent (b ∷ rest) ≡ Some (a, n) → lines_of indent 0 (b ∷ rest) ≡ joined a n (b ∷ rest) (lines_of indent (a + n - 1) rest)
unfolding lines_of
lines_next indent b rest a n e = simp (e, lines_of)

-- those behind it start where it ends
pub lines-further : (indent s : List ℕ) (a n : ℕ) → further_of indent s ≡ Some (a, n) → lines_of indent 0 s ≡ joined a n s (lines_of indent 0 (drop (a + n) s))
lines-further indent [] a n e = absurd (omega (arith, further-pos indent [] a n e, further-le indent [] a n e))
lines-further indent (b ∷ rest) a n e =
    let one : suc (a + n - 1) ≡ a + n = omega (arith, further-pos indent (b ∷ rest) a n e) in
    lines_next indent b rest a n e
    ∙ ap (joined a n (b ∷ rest)) (lines-skip indent (a + n - 1) rest ∙ ap (λ (m : ℕ). lines_of indent 0 (drop m (b ∷ rest))) one)

-- Lines read at most what is left behind the k bytes that are passed, and their text is no longer than what they read.
record LinesIn (s : List ℕ) (k : ℕ) (j : Joining) : Type 0 where
  within : k + j.read ≤ length s
  size : length j.text ≤ j.read

lines-in : (indent s : List ℕ) (k : ℕ) → k ≤ length s → LinesIn s k (lines_of indent k s)
unfolding lines_of
lines-in indent [] k h = record { within = omega arith; size = omega arith }
lines-in indent (b ∷ rest) (suc k) h =
    let w = lines-in indent rest k (omega arith) in
    record { within = omega arith; size = w.size }
lines-in indent (b ∷ rest) zero h = go (further_of indent (b ∷ rest)) refl (lines-in indent rest)
  where
    go : (x : Option (ℕ × ℕ)) → further_of indent (b ∷ rest) ≡ x → ((k : ℕ) → k ≤ length rest → LinesIn rest k (lines_of indent k rest)) → LinesIn (b ∷ rest) 0 (lines_of indent 0 (b ∷ rest))
    go (Some (a, n)) e ih =
        let p = further-pos indent (b ∷ rest) a n e in
        let l = further-le indent (b ∷ rest) a n e in
        let w = ih (a + n - 1) (omega arith) in
        let t = length-take-le n (drop a (b ∷ rest)) (omega (arith, length-drop a (b ∷ rest))) in
        rw (lines_next indent b rest a n e)
        record {
          within = omega arith;
          size = omega (arith, t, length-append (take n (drop a (b ∷ rest))) (lines_of indent (a + n - 1) rest).text);
        }
    go None e ih = rw (lines_end indent (b ∷ rest) e) record { within = omega arith; size = omega arith }

pub lines-le : (indent s : List ℕ) → (lines_of indent 0 s).read ≤ length s
lines-le indent s = let w = lines-in indent s 0 (omega arith) in omega arith

pub lines-size : (indent s : List ℕ) → length (lines_of indent 0 s).text ≤ (lines_of indent 0 s).read
lines-size indent s = (lines-in indent s 0 (omega arith)).size

-- The block.

-- no start
pub block_none : (header s : List ℕ) → start_of header s ≡ None → block_of header s ≡ no_block
unfolding block_of
block_none header s e = simp (e, block_of)

-- behind a start of a bytes
module _ (header s : List ℕ) (a : ℕ) (e : start_of header s ≡ Some a) where
  -- a CR without LF in the first line
  pub block-no-line : not_line_ending_of (drop a s) ≡ None → block_of header s ≡ no_block
  unfolding block_of
  block-no-line f = simp (e, f, block_of)

  -- the same, as the code has it
  pub block_refused : not_line_ending_of (from s a) ≡ None → block_of header s ≡ no_block
  block_refused f = block-no-line (rw part-from at f)

  -- a first line
  pub block-taken : (n : ℕ) → not_line_ending_of (drop a s) ≡ Some n → block_of header s ≡ with_lines a s n (lines_of (take (space0_of s) s) 0 (drop n (drop a s)))
  unfolding block_of
  block-taken n f = simp (e, f, block_of)

-- The scratch.
module _ (header s d : List ℕ) where
  -- it is too short
  pub lent-short : length d < length s → lent_block s d (block_of header s) ≡ no-scratch
  lent-short h = ap (λ (t : Bool). elim t [ true ↦ no-scratch | false ↦ block_of header s ]) (lt-ltb (length d) (length s) h)

  -- it is not
  pub lent-enough : length s ≤ length d → lent_block s d (block_of header s) ≡ block_of header s
  lent-enough h = ap (λ (t : Bool). elim t [ true ↦ no-scratch | false ↦ block_of header s ]) (le-ltb (length d) (length s) h)

-- A block consumes at least its header and as many bytes as its text has, and at most the whole; and there is no want of scratch.
abbrev BlockIn : List ℕ → List ℕ → BlockText → Type 0
BlockIn header s (block text n) = (length header + length text ≤ n) × (n ≤ length s)
BlockIn header s no_block = Unit {0}
BlockIn header s no-scratch = ⊥

block_in_lem : (header s : List ℕ) → BlockIn header s (block_of header s)
block_in_lem header s = go (start_of header s) refl
  where
    first : (a n : ℕ) (j : Joining) → start_of header s ≡ Some a → n ≤ length (drop a s) → length j.text ≤ j.read → j.read ≤ length (drop n (drop a s)) → BlockIn header s (with_lines a s n j)
    first a n j e l t r =
        let size = length-take-le n (drop a s) l in
        let within = start-le header s a e in
        (omega (arith, start_is header s a e, size, length-append (take n (drop a s)) j.text), omega (arith, length-drop n (drop a s), length-drop a s))

    line : (a : ℕ) → start_of header s ≡ Some a → (y : Option ℕ) → not_line_ending_of (drop a s) ≡ y → BlockIn header s (block_of header s)
    line a e (Some n) f = rw (block-taken header s a e n f) (first a n _ e (not-line-ending-le (drop a s) n f) (lines-size _ _) (lines-le _ _))
    line a e None f = rw (block-no-line header s a e f) tt

    go : (x : Option ℕ) → start_of header s ≡ x → BlockIn header s (block_of header s)
    go (Some a) e = line a e (not_line_ending_of (drop a s)) refl
    go None e = rw (block_none header s e) tt

-- how much is consumed
pub block-consumed : (header s text : List ℕ) (n : ℕ) → block_of header s ≡ block text n → (length header + length text ≤ n) × (n ≤ length s)
block-consumed header s text n e = subst (BlockIn header s) e (block_in_lem header s)

-- the definition never asks for scratch
pub block-scratch : (header s : List ℕ) → block_of header s ≡ no-scratch → ⊥
block-scratch header s e = subst (BlockIn header s) e (block_in_lem header s)

-- A text behind which LF and t are put.

-- an indent and three spaces have no LF, and begin with a space or a tab
abbrev Indent : List ℕ → Type 0
Indent indent = (free 10 10 (indent ++ three) ≡ true) × (starts_space (indent ++ three) ≡ true)

indent-is : (s : List ℕ) → Indent (take (space0_of s) s)
unfolding free is_stop starts_space is_space
indent-is s = (space0-free s three three-free, space0-starts s three three-starts)
  where
    three-free : free 10 10 three ≡ true
    three-free = refl

    three-starts : starts_space three ≡ true
    three-starts = refl

-- the indent is the same
indent-lf : (s t : List ℕ) → take (space0_of (s ++ 10 ∷ t)) (s ++ 10 ∷ t) ≡ take (space0_of s) s
indent-lf s t = rw (space0-lf s t) (take-append-le (space0_of s) s (10 ∷ t) (space0-le s))

-- and so is the start
start-lf : (header s t : List ℕ) → free 10 10 header ≡ true → start_of header (s ++ 10 ∷ t) ≡ start_of header s
unfolding start_of
start-lf header s t h =
    ap (λ (n : ℕ). elim (starts_with header (drop n (s ++ 10 ∷ t))) [ true ↦ Some (n + length header) | false ↦ None ]) (space0-lf s t)
    ∙ ap (λ (l : List ℕ). elim (starts_with header l) [ true ↦ Some (space0_of s + length header) | false ↦ None ]) (drop-append-le (space0_of s) s (10 ∷ t) (space0-le s))
    ∙ ap (λ (x : Bool). elim x [ true ↦ Some (space0_of s + length header) | false ↦ None ]) (starts-lf header (drop (space0_of s) s) t h)

-- the rest of the line behind a bytes is the same
line-lf : (s t : List ℕ) (a : ℕ) → a ≤ length s → Body s → not_line_ending_of (drop a (s ++ 10 ∷ t)) ≡ not_line_ending_of (drop a s)
line-lf s t a h b = ap (λ (l : List ℕ). not_line_ending_of l) (drop-append-le a s (10 ∷ t) h) ∙ not-line-ending-lf (drop a s) t (body-drop s a b)

-- and so are n bytes within
text-lf : (s t : List ℕ) (a n : ℕ) → a ≤ length s → n ≤ length (drop a s) → take n (drop a (s ++ 10 ∷ t)) ≡ take n (drop a s)
text-lf s t a n h l = ap (take n) (drop-append-le a s (10 ∷ t) h) ∙ take-append-le n (drop a s) (10 ∷ t) l

module _ (indent t : List ℕ) (h : Indent indent) where
  -- no further line stands behind that LF
  end-lf : Tail t → further_of indent (10 ∷ t) ≡ None
  end-lf g = further-none indent (10 ∷ t) (cut-test indent (10 ∷ t) 1 (ending-lf (10 ∷ t) (omega arith) refl) ∙ go (starts_with (indent ++ three) t) refl)
    where
      go : (x : Bool) → starts_with (indent ++ three) t ≡ x → ◌≡◌ {A = Option ℕ} (elim x [ true ↦ Some (1 + length indent + 3) | false ↦ None ]) None
      go true e = absurd (true≢false (sym (starts-space (indent ++ three) t h.1 e) ∙ g.1))
      go false e = refl

  module _ (b : ℕ) (s : List ℕ) (l : Body (b ∷ s)) where
    -- what is cut before it is the same
    cut-lf : cut_of indent ((b ∷ s) ++ 10 ∷ t) ≡ cut_of indent (b ∷ s)
    cut-lf = go (line_ending_of (b ∷ s)) refl
      where
        test : (k : ℕ) → k ≤ length (b ∷ s) → starts_with (indent ++ three) (drop k ((b ∷ s) ++ 10 ∷ t)) ≡ starts_with (indent ++ three) (drop k (b ∷ s))
        test k k-le = ap (starts_with (indent ++ three)) (drop-append-le k (b ∷ s) (10 ∷ t) k-le) ∙ starts-lf (indent ++ three) (drop k (b ∷ s)) t h.0

        go : (x : Option ℕ) → line_ending_of (b ∷ s) ≡ x → cut_of indent ((b ∷ s) ++ 10 ∷ t) ≡ cut_of indent (b ∷ s)
        go (Some k) e =
            cut-test indent ((b ∷ s) ++ 10 ∷ t) k (line-ending-lf b s t l ∙ e)
            ∙ ap (λ (x : Bool). elim x [ true ↦ Some (k + length indent + 3) | false ↦ None ]) (test k (line-ending-le (b ∷ s) k e))
            ∙ sym (cut-test indent (b ∷ s) k e)
        go None e = cut-none indent ((b ∷ s) ++ 10 ∷ t) (line-ending-lf b s t l ∙ e) ∙ sym (cut-none indent (b ∷ s) e)

    -- and so is a further line
    further-lf : further_of indent ((b ∷ s) ++ 10 ∷ t) ≡ further_of indent (b ∷ s)
    further-lf = go (cut_of indent (b ∷ s)) refl
      where
        go : (x : Option ℕ) → cut_of indent (b ∷ s) ≡ x → further_of indent ((b ∷ s) ++ 10 ∷ t) ≡ further_of indent (b ∷ s)
        go (Some a) e =
            further-some indent ((b ∷ s) ++ 10 ∷ t) a (cut-lf ∙ e)
            ∙ ap (line_at a) (line-lf (b ∷ s) t a (cut-le indent (b ∷ s) a e) l)
            ∙ sym (further-some indent (b ∷ s) a e)
        go None e = further-none indent ((b ∷ s) ++ 10 ∷ t) (cut-lf ∙ e) ∙ sym (further-none indent (b ∷ s) e)

-- and so are all further lines
lines-lf : (indent t : List ℕ) → Indent indent → Tail t → (s : List ℕ) (k : ℕ) → k ≤ length s → Body s → lines_of indent k (s ++ 10 ∷ t) ≡ lines_of indent k s
unfolding lines_of
lines-lf indent t h g [] zero l f = lines_end indent (10 ∷ t) (end-lf indent t h g)
lines-lf indent t h g [] (suc k) l f = absurd (omega arith)
lines-lf indent t h g (b ∷ s) (suc k) l f = lines-lf indent t h g s k (omega arith) (body-drop (b ∷ s) 1 f)
lines-lf indent t h g (b ∷ s) zero l f = go (further_of indent (b ∷ s)) refl (lines-lf indent t h g s)
  where
    go : (x : Option (ℕ × ℕ)) → further_of indent (b ∷ s) ≡ x → ((k : ℕ) → k ≤ length s → Body s → lines_of indent k (s ++ 10 ∷ t) ≡ lines_of indent k s) → lines_of indent 0 ((b ∷ s) ++ 10 ∷ t) ≡ lines_of indent 0 (b ∷ s)
    go (Some (a, n)) e ih =
        let p = further-pos indent (b ∷ s) a n e in
        let w = further-le indent (b ∷ s) a n e in
        let more = lines_of indent (a + n - 1) s in
        lines_next indent b (s ++ 10 ∷ t) a n (further-lf indent t h b s f ∙ e)
        ∙ ap (joined a n ((b ∷ s) ++ 10 ∷ t)) (ih (a + n - 1) (omega arith) (body-drop (b ∷ s) 1 f))
        ∙ ap (λ (l : List ℕ). record { text = 0x20 ∷ (l ++ more.text); read = a + n + more.read }) (text-lf (b ∷ s) t a n (omega arith) (omega (arith, length-drop a (b ∷ s))))
        ∙ sym (lines_next indent b s a n e)
    go None e ih = lines_end indent ((b ∷ s) ++ 10 ∷ t) (further-lf indent t h b s f ∙ e) ∙ sym (lines_end indent (b ∷ s) e)

-- and so is the block
module _ (header s t : List ℕ) (h : free 10 10 header ≡ true) (g : Tail t) (b : Body s) where
  -- the lines behind a first line of n bytes
  rest-lf : (a n : ℕ) → a ≤ length s → n ≤ length (drop a s) → lines_of (take (space0_of (s ++ 10 ∷ t)) (s ++ 10 ∷ t)) 0 (drop n (drop a (s ++ 10 ∷ t))) ≡ lines_of (take (space0_of s) s) 0 (drop n (drop a s))
  rest-lf a n h l =
      ap (λ (i : List ℕ). lines_of i 0 (drop n (drop a (s ++ 10 ∷ t)))) (indent-lf s t)
      ∙ ap (lines_of (take (space0_of s) s) 0) (ap (drop n) (drop-append-le a s (10 ∷ t) h) ∙ drop-append-le n (drop a s) (10 ∷ t) l)
      ∙ lines-lf (take (space0_of s) s) t (indent-is s) g (drop n (drop a s)) 0 (omega arith) (body-drop (drop a s) n (body-drop s a b))

  pub block-lf : block_of header (s ++ 10 ∷ t) ≡ block_of header s
  block-lf = go (start_of header s) refl
    where
      line : (a : ℕ) → start_of header s ≡ Some a → (y : Option ℕ) → not_line_ending_of (drop a s) ≡ y → block_of header (s ++ 10 ∷ t) ≡ block_of header s
      line a e (Some n) f =
          let a-le = start-le header s a e in
          let n-le = not-line-ending-le (drop a s) n f in
          let more = lines_of (take (space0_of s) s) 0 (drop n (drop a s)) in
          block-taken header (s ++ 10 ∷ t) a (start-lf header s t h ∙ e) n (line-lf s t a a-le b ∙ f)
          ∙ ap (with_lines a (s ++ 10 ∷ t) n) (rest-lf a n a-le n-le)
          ∙ ap (λ (l : List ℕ). block (l ++ more.text) (a + n + more.read)) (text-lf s t a n a-le n-le)
          ∙ sym (block-taken header s a e n f)
      line a e None f =
          block-no-line header (s ++ 10 ∷ t) a (start-lf header s t h ∙ e) (line-lf s t a (start-le header s a e) b ∙ f)
          ∙ sym (block-no-line header s a e f)

      go : (x : Option ℕ) → start_of header s ≡ x → block_of header (s ++ 10 ∷ t) ≡ block_of header s
      go (Some a) e = line a e (not_line_ending_of (drop a s)) refl
      go None e = block_none header (s ++ 10 ∷ t) (start-lf header s t h ∙ e) ∙ sym (block_none header s e)
