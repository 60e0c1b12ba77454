-- Blocks that are no targets. Behind blanks up to a header the indent is these blanks, since the header begins with none; so the block's text is
-- that of `joined_of`, or there is no block where the header's line is refused.
-- Assumes nothing.
use Rattle.std.proofs.Common.{Some, None}
use Rattle.std.proofs.Common.{◌≡◌, ℕ, suc, ◌+◌, List, [], ◌∷◌, ◌++◌, Bool, false, true, length, take, drop, refl, ap, ◌∙◌, arith}
use Rattle.std.proofs.Math.Seq.{drop-append_seam, drop-append-add}
use Rattle.std.proofs.lemmas.List.{take_at}
use Rattle.rst_bytes.specs.Line.{not_line_ending_of, is_space, space0_of}
use Rattle.rst_bytes.specs.Tag.{starts_with}
use Rattle.rst_bytes.proofs.TestLaws.{picks_first, picks_second}
use Rattle.restructured_text.specs.Block.{start_of, lines_of, block, no_block, block_of}
use Rattle.restructured_text.specs.Strings.{none}
use Rattle.restructured_text.specs.Target.{named_of, anonymous_of, label2target_of}
use Rattle.restructured_text.proofs.BlockLaws.{block_none, block-no-line, block-taken}
use Rattle.restructured_text.proofs.TargetLaws.{anonymous-refuses}
use Rattle.targetless.specs.Targetless.{NoTarget}
use Rattle.targetless.specs.Verdict.{joined_of, Blank}
use Rattle.targetless.specs.Runs.{is_dead, Unnamed}
use Rattle.targetless.proofs.BlankLaws.{blank-next, blanks-more, blanks-none}
use Rattle.targetless.proofs.RunLaws.{dead-refused}

abbrev dots : List ℕ
dots = 0x2E ∷ 0x2E ∷ 0x20 ∷ []

abbrev strokes : List ℕ
strokes = 0x5F ∷ 0x5F ∷ 0x20 ∷ []

-- The target of a `.. ` block, and of a `__ ` block.
module _ (label : Bool) (s text : List ℕ) (n : ℕ) where
  target-dots : block_of dots s ≡ block text n → label2target_of label s ≡ named_of label text n
  unfolding label2target_of
  target-dots e = simp (e, label2target_of)

  target-strokes : block_of dots s ≡ no_block → block_of strokes s ≡ block text n → label2target_of label s ≡ anonymous_of label text n
  unfolding label2target_of
  target-strokes e f = simp (e, f, label2target_of)

target_none : (label : Bool) (s : List ℕ) → block_of dots s ≡ no_block → block_of strokes s ≡ no_block → label2target_of label s ≡ none
unfolding label2target_of
target_none label s e f = simp (e, f, label2target_of)

-- the blanks at the front, up to another byte
blanks-are : (indent : List ℕ) (b : ℕ) (t : List ℕ) → Blank indent → is_space b ≡ false → space0_of (indent ++ b ∷ t) ≡ length indent
blanks-are [] b t blank e = blanks-none b t e
blanks-are (c ∷ indent) b t blank e = blanks-more c (indent ++ b ∷ t) (blank 0 (omega arith)) ∙ ap suc (blanks-are indent b t (blank-next c indent blank) e)

-- A text that begins with blanks and another byte.
module _ (indent : List ℕ) (b : ℕ) (t : List ℕ) (blank : Blank indent) (other : is_space b ≡ false) where
  abbrev text : List ℕ
  text = indent ++ b ∷ t

  indent-is : space0_of text ≡ length indent
  indent-is = blanks-are indent b t blank other

  behind : drop (space0_of text) text ≡ b ∷ t
  behind = ap (λ (k : ℕ). drop k text) indent-is ∙ drop-append_seam indent (b ∷ t)

  -- another header
  block-other : (header : List ℕ) → starts_with header (b ∷ t) ≡ false → block_of header text ≡ no_block
  unfolding start_of
  block-other header e = block_none header text (picks_second _ _ _ (ap (starts_with header) behind ∙ e))

  -- this header
  module _ (header tail : List ℕ) (e : starts_with header (b ∷ t) ≡ true) (f : drop (length header) (b ∷ t) ≡ tail) where
    start-is : start_of header text ≡ Some (length indent + length header)
    unfolding start_of
    start-is = picks_first _ _ _ (ap (starts_with header) behind ∙ e) ∙ ap (λ (k : ℕ). Some (k + length header)) indent-is

    tail-is : drop (length indent + length header) text ≡ tail
    tail-is = drop-append-add indent (b ∷ t) (length header) ∙ f

    block-refused : not_line_ending_of tail ≡ None → block_of header text ≡ no_block
    block-refused r = block-no-line header text _ start-is (ap (λ (l : List ℕ). not_line_ending_of l) tail-is ∙ r)

    -- how many bytes it takes
    abbrev read_of : ℕ → ℕ
    read_of n = length indent + length header + n + (lines_of (take (space0_of text) text) 0 (drop n (drop (length indent + length header) text))).read

    block_here : (n : ℕ) → not_line_ending_of tail ≡ Some n → block_of header text ≡ block (joined_of indent n tail) (read_of n)
    block_here n r =
        block-taken header text _ start-is n (ap (λ (l : List ℕ). not_line_ending_of l) tail-is ∙ r)
        ∙ ap (λ (l : List ℕ). block (take n l ++ (lines_of (take (space0_of text) text) 0 (drop n l)).text) (read_of n)) tail-is
        ∙ ap (λ (k : ℕ). block (take n tail ++ (lines_of (take k text) 0 (drop n tail)).text) (read_of n)) indent-is
        ∙ ap (λ (l : List ℕ). block (take n tail ++ (lines_of l 0 (drop n tail)).text) (read_of n)) (take_at indent (b ∷ t) (length indent) refl)

-- Behind blanks.
module _ (indent tail : List ℕ) (blank : Blank indent) where
  -- a `.. ` block whose line is refused
  pub dots-refused : not_line_ending_of tail ≡ None → NoTarget (indent ++ 0x2E ∷ 0x2E ∷ 0x20 ∷ tail)
  unfolding is_space starts_with
  dots-refused r label =
      target_none label _ (block-refused indent 0x2E (0x2E ∷ 0x20 ∷ tail) blank refl dots tail refl refl r) (block-other indent 0x2E (0x2E ∷ 0x20 ∷ tail) blank refl strokes refl)

  -- one that has no name with a target
  pub dots-unnamed : (n : ℕ) → not_line_ending_of tail ≡ Some n → Unnamed (joined_of indent n tail) → NoTarget (indent ++ 0x2E ∷ 0x2E ∷ 0x20 ∷ tail)
  unfolding is_space starts_with
  dots-unnamed n r u label = target-dots label _ _ _ (block_here indent 0x2E (0x2E ∷ 0x20 ∷ tail) blank refl dots tail refl refl n r) ∙ u label _

  -- a `__ ` block whose line is refused
  pub strokes-refused : not_line_ending_of tail ≡ None → NoTarget (indent ++ 0x5F ∷ 0x5F ∷ 0x20 ∷ tail)
  unfolding is_space starts_with
  strokes-refused r label =
      target_none label _ (block-other indent 0x5F (0x5F ∷ 0x20 ∷ tail) blank refl dots refl) (block-refused indent 0x5F (0x5F ∷ 0x20 ∷ tail) blank refl strokes tail refl refl r)

  -- one whose target is refused
  pub strokes-dead : (n : ℕ) → not_line_ending_of tail ≡ Some n → is_dead (joined_of indent n tail) ≡ true → NoTarget (indent ++ 0x5F ∷ 0x5F ∷ 0x20 ∷ tail)
  unfolding is_space starts_with
  strokes-dead n r d label =
      target-strokes label _ _ _ (block-other indent 0x5F (0x5F ∷ 0x20 ∷ tail) blank refl dots refl) (block_here indent 0x5F (0x5F ∷ 0x20 ∷ tail) blank refl strokes tail refl refl n r)
      ∙ anonymous-refuses (joined_of indent n tail) _ _ (dead-refused (joined_of indent n tail) d) label
