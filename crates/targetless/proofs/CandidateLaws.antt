-- The laws of a block that begins with `.. _` or `__ `, one for each way through the bodies that ask whether it is no target: the text begins with
-- the line's bytes up to its end, so what is told of the next places is told of the rest of the text.
-- Assumes nothing.
use Rattle.std.proofs.Common.{◌≡◌, ℕ, zero, suc, ◌+◌, ◌-◌, ◌<◌, ◌≤◌, List, [], ◌∷◌, ◌++◌, Bool, true, false, Option, Some, None, ◌⊎◌, inl, inr, ⊎_elim, length, get_or, take, drop, length-append, append_assoc, refl, sym, ap, subst, ◌∙◌, arith}
use Rattle.std.specs.Prelude.{IfSome}
use Rattle.std.specs.Bool.{then_some}
use mathlib.Core.Path.{subst⁻¹}
use Rattle.rst_bytes.specs.Tag.{starts_with}
use Rattle.rst_bytes.specs.Line.{not_line_ending_of}
use Rattle.std.proofs.lemmas.List.{drop-append-le}
use Rattle.std.proofs.lemmas.List.Prefix.{end_from_reads}
use Rattle.std.proofs.lemmas.Option.{IfSome_then}
use Rattle.rst_bytes.proofs.Lists.{part-from}
use Rattle.restructured_text.specs.Block.{three}
use Rattle.restructured_text.proofs.BlockLaws.{from}
use Rattle.targetless.specs.declared.verdict.Verdict.{Verdict}
use Rattle.targetless.specs.declared.walk.Walk.{Walk}
use Rattle.targetless.specs.Targetless.{NoTarget}
use Rattle.targetless.specs.Verdict.{joined_of, OfText, Blank, ends_line, judged_of, judged_in, Tells, Flagged}
use Rattle.targetless.specs.Runs.{Unnamed, is_dead, plain_run, quoted_run, closed_run}
use Rattle.targetless.specs.Walk.{ranks_of, Lined, Walked, header_of}
use Rattle.targetless.proofs.TextLaws.{first-is, line_refused, line_taken, text-byte}
use Rattle.targetless.proofs.NameLaws.{unnamed-empty, unnamed-plain, unnamed-quoted}
use Rattle.targetless.proofs.TargetLaws.{dots-refused, dots-unnamed, strokes-refused, strokes-dead}
use Rattle.targetless.proofs.StateLaws.{first-not}

module _ {ranks : List ℕ} where
  -- A verdict that the flag selects is true of the text.
  told-text :
      (g : List ℕ → Bool) (v : Verdict) (s indent : List ℕ) (on : Bool) → Tells ranks g v s → Blank indent → Flagged on indent s
      → judged_of ranks v on (length indent) ≡ true → OfText (λ t. g t ≡ true) indent s
  told-text g v s indent on t b o j n e = t.told indent n b e (ap (λ (x : Bool). judged_of ranks v x (length indent)) (sym (o n e)) ∙ j)

module _ (ranks : List ℕ) where
  -- the flag and the indent in one
  pub judged-then : (v : Verdict) (on : Bool) (k : ℕ) (o : Option ℕ) → o ≡ then_some on k → judged_in ranks v o ≡ judged_of ranks v on k
  judged-then v true k o e = ap (judged_in ranks v) e
  judged-then v false k o e = ap (judged_in ranks v) e

-- it is the same flag behind a byte of the line
flagged-behind : (on : Bool) (indent : List ℕ) (b : ℕ) (l : List ℕ) → ends_line b ≡ false → Flagged on indent (b ∷ l) → Flagged on indent l
flagged-behind on indent b l e o n t = o (suc n) (line_taken b l e n t ∙ ap Some (omega arith))

-- a place that is given where a test holds
pub some-if : (P : ℕ → Type 0) (b : Bool) (k : ℕ) → (b ≡ true → P k) → IfSome (then_some b k) P
some-if P true k f = f refl
some-if P false k f = tt

-- Names behind `.. _`.
module _ (indent l : List ℕ) where
  -- an empty one
  pub told-empty : 0 < length l → get_or l 0 0 ≡ 0x3A → OfText Unnamed indent (0x5F ∷ l)
  told-empty h e n t =
      let is = first-is l 0x3A h e in
      let y = text-byte 0x5F l refl indent n t in
      let z = text-byte 0x3A (drop 1 l) refl indent y.0 (ap (λ (r : List ℕ). not_line_ending_of r) (sym is) ∙ y.1) in
      subst⁻¹ Unnamed (y.2 ∙ ap (λ (r : List ℕ). 0x5F ∷ joined_of indent y.0 r) is ∙ ap (λ (r : List ℕ). 0x5F ∷ r) z.2) (unnamed-empty (joined_of indent z.0 (drop 1 l)))

  module _ (on : Bool) (b : Blank indent) (w : Walk) (told : Walked w l) (o : Flagged on indent l) where
    -- a plain one
    pub told-plain : (0 < length l → get_or l 0 0 ≡ 0x60 → ⊥) → judged_of (ranks_of w) w.near.plain on (length indent) ≡ true → OfText Unnamed indent (0x5F ∷ l)
    told-plain h j n t =
        let y = text-byte 0x5F l refl indent n t in
        subst⁻¹ Unnamed y.2
        (unnamed-plain (joined_of indent y.0 l) (first-not 0x60 l (λ x. omega (arith, x)) h indent y.0 y.1)
        (told-text plain_run w.near.plain l indent on told.near.plain b o j y.0 y.1))

    -- one in backticks, where a plain one has no target either, or where it is closed
    pub told-quoted :
        0 < length l → get_or l 0 0 ≡ 0x60 → judged_of (ranks_of w) w.far.quoted on (length indent) ≡ true
        → (judged_of (ranks_of w) w.near.plain on (length indent) ≡ true) ⊎ (judged_of (ranks_of w) w.far.closed on (length indent) ≡ true) → OfText Unnamed indent (0x5F ∷ l)
    told-quoted h e j d n t =
        let is = first-is l 0x60 h e in
        let y = text-byte 0x5F l refl indent n t in
        let z = text-byte 0x60 (drop 1 l) refl indent y.0 (ap (λ (r : List ℕ). not_line_ending_of r) (sym is) ∙ y.1) in
        let f = flagged-behind on indent 0x60 (drop 1 l) refl (subst (Flagged on indent) is o) in
        let v = ap (λ (r : List ℕ). joined_of indent y.0 r) is ∙ z.2 in
        subst⁻¹ Unnamed (y.2 ∙ ap (λ (r : List ℕ). 0x5F ∷ r) v)
        (unnamed-quoted (joined_of indent z.0 (drop 1 l)) (told-text quoted_run w.far.quoted (drop 1 l) indent on told.far.quoted b f j z.0 z.1)
        (⊎_elim
        (λ i. inl (sym (ap plain_run v) ∙ told-text plain_run w.near.plain l indent on told.near.plain b o i y.0 y.1))
        (λ i. inr (told-text closed_run w.far.closed (drop 1 l) indent on told.far.closed b f i z.0 z.1))
        d))

-- Blocks behind the blanks from place k on.
module _ (before l : List ℕ) (k : ℕ) (blank : Blank (drop k before)) (w : Walk) (told : Walked w l) where
  -- these, as the code has them
  abbrev indent : List ℕ
  indent = from before k

  pub indent-blank : Blank indent
  indent-blank = subst⁻¹ Blank (part-from before k) blank

  -- the line is refused
  pub free-refused : w.next ≡ None → (named : Bool) → NoTarget (drop k before ++ (header_of named ++ l))
  free-refused e true = dots-refused (drop k before) (0x5F ∷ l) blank (line_refused 0x5F l refl (subst (λ (x : Option ℕ). Lined x l) e told.next))
  free-refused e false = strokes-refused (drop k before) l blank (subst (λ (x : Option ℕ). Lined x l) e told.next)

  module _ (next : ℕ) (e : w.next ≡ Some next) where
    line : Lined (Some next) l
    line = subst (λ (x : Option ℕ). Lined x l) e told.next

    -- whether a further line follows
    pub flagged : (on : Bool) → on ≡ starts_with (indent ++ three) (from l (length l - next)) → Flagged on indent l
    flagged on o n t = o ∙ ap (starts_with (indent ++ three)) (part-from l (length l - next)) ∙ line.2 indent indent-blank n t

    -- a name with no target
    pub free-unnamed : OfText Unnamed indent (0x5F ∷ l) → NoTarget (drop k before ++ (header_of true ++ l))
    free-unnamed u =
        let t = line_taken 0x5F l refl line.0.0 line.0.1 in
        subst (λ (i : List ℕ). NoTarget (i ++ (header_of true ++ l))) (part-from before k) (dots-unnamed indent (0x5F ∷ l) indent-blank _ t (u _ t))

    -- an anonymous target
    pub free-dead : (on : Bool) → Flagged on indent l → judged_of (ranks_of w) w.near.target on (length indent) ≡ true → NoTarget (drop k before ++ (header_of false ++ l))
    free-dead on o j =
        subst (λ (i : List ℕ). NoTarget (i ++ (header_of false ++ l))) (part-from before k)
        (strokes-dead indent l indent-blank line.0.0 line.0.1 (told-text is_dead w.near.target l indent on told.near.target indent-blank o j line.0.0 line.0.1))

-- The end of a text that ends with a header: its bytes are read there, the first one n places before the end.
module _ (s : List ℕ) where
  abbrev pub Reads : ℕ → List ℕ → Type 0
  Reads n [] = Unit {0}
  Reads n (b ∷ l) = (get_or s (length s - n) 0 ≡ b) × Reads (n - 1) l

  each : (l : List ℕ) (n : ℕ) → n ≡ length l → n ≤ length s → Reads n l → (i : ℕ) → i < length l → get_or s (length s - n + i) 0 ≡ get_or l i 0
  each [] n e h r i k = absurd (omega (arith, k))
  each (b ∷ l) n e h r zero k =
      let same : length s - n + 0 ≡ length s - n = omega arith in
      ap (λ (m : ℕ). get_or s m 0) same ∙ r.0
  each (b ∷ l) n e h r (suc i) k =
      let next : length s - n + suc i ≡ length s - (n - 1) + i = omega (arith, e, h) in
      ap (λ (m : ℕ). get_or s m 0) next ∙ each l (n - 1) (omega (arith, e)) (omega (arith, h)) r.1 i (omega (arith, k))

  pub ends : (l : List ℕ) → length l ≤ length s → Reads (length l) l → s ≡ take (length s - length l) s ++ l
  ends l h r = end_from_reads 0 s l h (each l (length l) refl h r)

-- a place before the header is one of the text with it
pub free-front :
    (before front rest header : List ℕ) (r : Option ℕ) → front ≡ before ++ header → 0 < length header
    → IfSome r (λ k. (k ≤ length before) × NoTarget (drop k before ++ (header ++ rest))) → IfSome r (λ k. (k < length front) × NoTarget (drop k (front ++ rest)))
free-front before front rest header r e h f =
    IfSome_then r f (λ k p. (
      omega (arith, p.0, h, ap length e, length-append before header),
      subst⁻¹ NoTarget (ap (λ (l : List ℕ). drop k (l ++ rest)) e ∙ ap (drop k) (append_assoc before header rest) ∙ drop-append-le k before (header ++ rest) p.0) p.1,
    ))
