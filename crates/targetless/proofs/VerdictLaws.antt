-- The laws of verdicts, for any test of a text and for any run. What is told of a place is told of the place before it as the text grows by one byte,
-- which the run passes, stops at or reads with the next one. Over a line's end the run passes a space and then the blanks before the next line, or
-- ends; whether a further line stands behind that one the blanks say that both lines have in common.
-- Assumes nothing.
use Rattle.std.proofs.Common.{Option, Some, None}
use Prim.Native.Nat.{ℕ, suc, ◌+◌, ◌^◌, ◌<◌, ◌≤◌}
use native.Mathlib.Omega.{arith}
use native.Mathlib.Nat.{div-one}
use lib.Bits.{bit_and}
use lib.Pow.{pow-lt}
use mathlib.Core.Path.{◌≡◌, refl, sym, ap, subst⁻¹, ◌∙◌}
use mathlib.Core.List.{List, [], ◌∷◌, ◌++◌}
use mathlib.Core.Bool.{Bool, true, false, ◌&&◌, ◌||◌, false≢true}
use mathlib.Core.Logic.{◌⊎◌, inl, inr, ⊎_elim}
use lib.Dec.{eqb}
use Rattle.std.proofs.lemmas.Bool.{and_parts, or_right}
use lib.ListN.{length, drop, length-append}
use borrow.Author.Tests.{eq-eqb, ne_eqb}
use Rattle.rst_bytes.specs.Line.{line_from, not_line_ending_of, is_space}
use Rattle.rst_bytes.specs.Tag.{starts_with}
use Rattle.rst_bytes.proofs.TestLaws.{picks_first, picks_second, by-test}
use Rattle.rst_bytes.proofs.EscapedLaws.{refused-taken, taken_is}
use Rattle.rst_bytes.proofs.LineLaws.{ending-none, not-line-ending-le}
use Rattle.rst_bytes.proofs.TagLaws.{starts-shorter}
use Rattle.restructured_text.specs.Block.{three, line_at, further_of}
use Rattle.targetless.specs.declared.verdict.Verdict.{Verdict}
use Rattle.targetless.specs.Indents.{rank_of, is_listed, within_of, Rising}
use Rattle.targetless.specs.Verdict.{joined_of, is_further, Blank, bit_at, is_lone, everything, nothing, sure_of, both_of, either_of, up_to_of, beyond_of, lone_of, over_of, judged_of, Tells, run, ends_line, Follows, Shared}
use Rattle.targetless.proofs.BlankLaws.{space-cases, space-plain, blank-next, blank-three, shared-fewer, shared-more, blank-line, blank-refused, blank-joined}
use Rattle.targetless.proofs.IndentsLaws.{within-listed, listed-within}
use Rattle.targetless.proofs.BitLaws.{bit_is, bit-both, bit-either, bit-small, bit-none, bit-ones, bit-beyond}
use Rattle.targetless.proofs.TextLaws.{line-behind, text-byte, line-here, line-stops, text-end, text-further, further-lf-other, further-lf-starts, further-none-at, crlf-further, crlf-text, crlf-here}

module _ (ranks : List ℕ) where
  -- What a verdict says where a further line follows.
  judged-bit : (v : Verdict) (k : ℕ) → judged_of ranks v true k ≡ true → (is_listed ranks k ≡ true) × (bit_at v.bits (rank_of ranks k + 1) ≡ true)
  judged-bit v k j = and_parts _ _ j

  bit-judged : (v : Verdict) (k : ℕ) → is_listed ranks k ≡ true → bit_at v.bits (rank_of ranks k + 1) ≡ true → judged_of ranks v true k ≡ true
  bit-judged v k e f = ap (λ (x : Bool). x && bit_at v.bits (rank_of ranks k + 1)) e ∙ f

  -- by the bits of two verdicts
  judged-map :
      (v w : Verdict) (k : ℕ) → (bit_at v.bits (rank_of ranks k + 1) ≡ true → bit_at w.bits (rank_of ranks k + 1) ≡ true)
      → judged_of ranks v true k ≡ true → judged_of ranks w true k ≡ true
  judged-map v w k f j =
      let d = judged-bit v k j in
      bit-judged w k d.0 (f d.1)

  -- nothing is told
  nothing-judged : (x : Bool) (k : ℕ) → judged_of ranks nothing x k ≡ true → ⊥
  nothing-judged true k j = bit-none (rank_of ranks k + 1) (judged-bit nothing k j).1
  nothing-judged false k j = false≢true j

module _ {ranks : List ℕ} where
  pub tells-nothing : (f : List ℕ → Bool) (s : List ℕ) → Tells ranks f nothing s
  tells-nothing f s = record { told = λ indent k blank e j. absurd (nothing-judged ranks (is_further (further_of indent (drop k s))) (length indent) j) }

  -- no block has a line that is refused
  pub tells-refused : (f : List ℕ → Bool) (v : Verdict) (s : List ℕ) → not_line_ending_of s ≡ None → Tells ranks f v s
  tells-refused f v s h = record { told = λ indent n blank e. absurd (refused-taken n (sym h ∙ e)) }

  -- it is so for each text
  pub tells_all : (f : List ℕ → Bool) (v : Verdict) (s : List ℕ) → ((indent : List ℕ) (n : ℕ) → not_line_ending_of s ≡ Some n → f (joined_of indent n s) ≡ true) → Tells ranks f v s
  tells_all f v s h = record { told = λ indent n blank e j. h indent n e }

  -- what is so follows from what is told
  pub tells-from :
      (f g : List ℕ → Bool) (v : Verdict) (s : List ℕ) → Tells ranks f v s
      → ((indent : List ℕ) (n : ℕ) → not_line_ending_of s ≡ Some n → f (joined_of indent n s) ≡ true → g (joined_of indent n s) ≡ true) → Tells ranks g v s
  tells-from f g v s t h = record { told = λ indent n blank e j. h indent n e (t.told indent n blank e j) }

  -- what is sure
  pub tells-sure : (f : List ℕ → Bool) (sure : Bool) (s : List ℕ) → ((indent : List ℕ) (m : ℕ) → not_line_ending_of s ≡ Some m → f (joined_of indent m s) ≡ sure) → Tells ranks f (sure_of sure) s
  tells-sure f true s g = tells_all f everything s g
  tells-sure f false s g = tells-nothing f s

-- What two verdicts say, for all indents and where no further line follows.
lone-digit : (v : Verdict) → is_lone v ≡ true → bit_at v.bits 0 ≡ true
unfolding bit_at
lone-digit v e = ap (λ (x : ℕ). eqb (bit_and x 1) 1) (div-one v.bits) ∙ e

digit-lone : (v : Verdict) → bit_at v.bits 0 ≡ true → is_lone v ≡ true
unfolding bit_at
digit-lone v e = sym (ap (λ (x : ℕ). eqb (bit_and x 1) 1) (div-one v.bits)) ∙ e

module _ (ranks : List ℕ) where
  pub judged-both : (a b : Verdict) (x : Bool) (k : ℕ) → judged_of ranks (both_of a b) x k ≡ true → (judged_of ranks a x k ≡ true) × (judged_of ranks b x k ≡ true)
  judged-both a b true k j = (
    judged-map ranks (both_of a b) a k (λ e. (bit-both a.bits b.bits (rank_of ranks k + 1) e).0) j,
    judged-map ranks (both_of a b) b k (λ e. (bit-both a.bits b.bits (rank_of ranks k + 1) e).1) j,
  )
  judged-both a b false k j =
      let w = bit-both a.bits b.bits 0 (lone-digit (both_of a b) j) in
      (digit-lone a w.0, digit-lone b w.1)

  judged-either : (a b : Verdict) (x : Bool) (k : ℕ) → judged_of ranks (either_of a b) x k ≡ true → (judged_of ranks a x k ≡ true) ⊎ (judged_of ranks b x k ≡ true)
  judged-either a b true k j =
      let w = judged-bit ranks (either_of a b) k j in
      ⊎_elim
      (λ e. inl (bit-judged ranks a k w.0 e))
      (λ e. inr (bit-judged ranks b k w.0 e))
      (bit-either a.bits b.bits (rank_of ranks k + 1) w.1)
  judged-either a b false k j =
      ⊎_elim
      (λ e. inl (digit-lone a e))
      (λ e. inr (digit-lone b e))
      (bit-either a.bits b.bits 0 (lone-digit (either_of a b) j))

  -- the indents of at most m bytes with three spaces
  module _ (rising : Rising ranks) (m k : ℕ) where
    pub judged-up-to : judged_of ranks (up_to_of ranks m) true k ≡ true → k + 3 ≤ m
    judged-up-to j =
        let w = judged-bit ranks (up_to_of ranks m) k j in
        within-listed ranks k w.0 rising m (omega (arith, bit-ones (within_of ranks m + 1) (rank_of ranks k + 1) w.1))

    judged-beyond : k + 3 ≤ m → judged_of ranks (beyond_of ranks m) true k ≡ true → ⊥
    judged-beyond h j =
        let w = judged-bit ranks (beyond_of ranks m) k j in
        bit-beyond (within_of ranks m + 1) (rank_of ranks k + 1) (omega (arith, listed-within ranks k w.0 rising m h)) w.1

-- with another answer where no further line follows
one-small : (k : ℕ) → 1 < 2 ^ (k + 1)
one-small k = let h : 2 ^ 0 < 2 ^ (k + 1) = pow-lt {i = 0} {j = k + 1} (omega arith) in h

module _ (ranks : List ℕ) where
  pub judged-lone : (v : Verdict) (lone : Bool) (k : ℕ) → judged_of ranks (lone_of v lone) true k ≡ true → judged_of ranks v true k ≡ true
  judged-lone v true k = judged-map ranks (lone_of v true) v k (λ e. ⊎_elim (λ f. f) (λ f. absurd (bit-small 1 (rank_of ranks k + 1) (one-small (rank_of ranks k)) f)) (bit-either v.bits 1 (rank_of ranks k + 1) e))
  judged-lone v false k = judged-map ranks (lone_of v false) v k (λ e. (bit-both v.bits 0xffff_ffff_ffff_ffff_ffff_ffff_ffff_fffe (rank_of ranks k + 1) e).0)

  pub lone_is : (v : Verdict) (lone : Bool) (k : ℕ) → judged_of ranks (lone_of v lone) false k ≡ true → lone ≡ true
  lone_is v true k j = refl
  lone_is v false k j = absurd (omega (arith, sym (bit_is 0xffff_ffff_ffff_ffff_ffff_ffff_ffff_fffe 0 (bit-both v.bits 0xffff_ffff_ffff_ffff_ffff_ffff_ffff_fffe 0 (lone-digit (lone_of v false) j)).1)))

module _ {ranks : List ℕ} where
  -- what both say
  pub tells_both : (f g : List ℕ → Bool) (a b : Verdict) (s : List ℕ) → Tells ranks f a s → Tells ranks g b s → Tells ranks (λ t. f t && g t) (both_of a b) s
  tells_both f g a b s t u =
      record {
        told = λ indent n blank e j.
            let w = judged-both ranks a b (is_further (further_of indent (drop n s))) (length indent) j in
            ap (λ (x : Bool). x && g (joined_of indent n s)) (t.told indent n blank e w.0) ∙ u.told indent n blank e w.1;
      }

  -- what one says
  pub tells-either : (f g : List ℕ → Bool) (a b : Verdict) (s : List ℕ) → Tells ranks f a s → Tells ranks g b s → Tells ranks (λ t. f t || g t) (either_of a b) s
  tells-either f g a b s t u =
      record {
        told = λ indent n blank e j.
            ⊎_elim
            (λ w. ap (λ (x : Bool). x || g (joined_of indent n s)) (t.told indent n blank e w))
            (λ w. or_right (f (joined_of indent n s)) (g (joined_of indent n s)) (u.told indent n blank e w))
            (judged-either ranks a b (is_further (further_of indent (drop n s))) (length indent) j);
      }

-- A byte that ends no line.
module _ {ranks : List ℕ} (f g : List ℕ → Bool) (v : Verdict) (b : ℕ) (l : List ℕ) (e : ends_line b ≡ false) where
  -- what is told behind it is told of the text with the byte in front
  pub tells-cons : ((t : List ℕ) → g t ≡ true → f (b ∷ t) ≡ true) → Tells ranks g v l → Tells ranks f v (b ∷ l)
  tells-cons h t =
      record {
        told = λ indent n blank i.
            let w = line-behind b l e n i in
            subst⁻¹ (λ (k : ℕ). judged_of ranks v (is_further (further_of indent (drop k (b ∷ l)))) (length indent) ≡ true → f (joined_of indent k (b ∷ l)) ≡ true) w.2
            (λ j. h (joined_of indent w.0 l) (t.told indent w.0 blank w.1 j));
      }

  -- the text has it in front
  pub tells-front : ((t : List ℕ) → g (b ∷ t) ≡ true → f (b ∷ t) ≡ true) → Tells ranks g v (b ∷ l) → Tells ranks f v (b ∷ l)
  tells-front h t =
      tells-from g f v (b ∷ l) t
      (λ indent n i.
      let w = line-behind b l e n i in
      subst⁻¹ (λ (k : ℕ). g (joined_of indent k (b ∷ l)) ≡ true → f (joined_of indent k (b ∷ l)) ≡ true) w.2 (h (joined_of indent w.0 l)))

-- A run over a text.
module _ (stop : ℕ) (ok : ℕ → Bool) (at : List ℕ → Bool) (wrong end : Bool) where
  pub run_none : run stop ok at wrong end [] ≡ end
  unfolding run
  run_none = refl

  -- a byte that is passed
  pub run-plain : (b : ℕ) (t : List ℕ) → eqb b 0x5C ≡ false → eqb b stop ≡ false → run stop ok at wrong end (b ∷ t) ≡ run stop ok at wrong end t
  unfolding run
  run-plain b [] e f = picks_second (eqb b 0x5C) _ _ e ∙ picks_second (eqb b stop) _ _ f
  run-plain b (c ∷ t) e f = picks_second (eqb b 0x5C) _ _ e ∙ picks_second (eqb b stop) _ _ f

  -- the stop
  pub run-stop : (b : ℕ) (t : List ℕ) → eqb b 0x5C ≡ false → eqb b stop ≡ true → run stop ok at wrong end (b ∷ t) ≡ at (b ∷ t)
  unfolding run
  run-stop b [] e f = picks_second (eqb b 0x5C) _ _ e ∙ picks_first (eqb b stop) _ _ f
  run-stop b (c ∷ t) e f = picks_second (eqb b 0x5C) _ _ e ∙ picks_first (eqb b stop) _ _ f

  -- a backslash, last
  pub run_alone : (b : ℕ) → eqb b 0x5C ≡ true → run stop ok at wrong end (b ∷ []) ≡ wrong
  unfolding run
  run_alone b e = picks_first (eqb b 0x5C) _ _ e

  -- with a byte that it takes along
  pub run-pair : (b c : ℕ) (t : List ℕ) → eqb b 0x5C ≡ true → ok c ≡ true → run stop ok at wrong end (b ∷ c ∷ t) ≡ run stop ok at wrong end t
  unfolding run
  run-pair b c t e f = picks_first (eqb b 0x5C) _ _ e ∙ picks_first (ok c) _ _ f

  -- with another byte
  pub run-wrong : (b c : ℕ) (t : List ℕ) → eqb b 0x5C ≡ true → ok c ≡ false → run stop ok at wrong end (b ∷ c ∷ t) ≡ wrong
  unfolding run
  run-wrong b c t e f = picks_first (eqb b 0x5C) _ _ e ∙ picks_second (ok c) _ _ f

  module _ {ranks : List ℕ} where
    -- Verdicts on it.
    pub tells-plain :
        (v : Verdict) (b : ℕ) (l : List ℕ) → ends_line b ≡ false → (b ≡ 0x5C → ⊥) → (b ≡ stop → ⊥)
        → Tells ranks (run stop ok at wrong end) v l → Tells ranks (run stop ok at wrong end) v (b ∷ l)
    tells-plain v b l e f g =
        tells-cons (run stop ok at wrong end) (run stop ok at wrong end) v b l e (λ u k. run-plain b u (ne_eqb _ _ f) (ne_eqb _ _ g) ∙ k)

    pub tells-stop : (v : Verdict) (l : List ℕ) → ends_line stop ≡ false → (stop ≡ 0x5C → ⊥) → Tells ranks at v (stop ∷ l) → Tells ranks (run stop ok at wrong end) v (stop ∷ l)
    tells-stop v l e f =
        tells-front (run stop ok at wrong end) at v stop l e (λ u k. run-stop stop u (ne_eqb _ _ f) (eq-eqb stop stop refl) ∙ k)

  -- A backslash at the front.
  module _ {ranks : List ℕ} (space : ok 0x20 ≡ true) (other : stop ≡ 0x20 → ⊥) where
    pub escape-last : Tells ranks (run stop ok at wrong end) (sure_of wrong) (0x5C ∷ [])
    escape-last =
        tells-sure (run stop ok at wrong end) wrong (0x5C ∷ [])
        (λ indent m i.
        let w = text-byte 0x5C [] refl indent m i in
        let z : w.0 ≡ 0 = omega (arith, not-line-ending-le [] w.0 w.1) in
        ap (run stop ok at wrong end) w.2
        ∙ ap (λ (k : ℕ). run stop ok at wrong end (0x5C ∷ joined_of indent k [])) z
        ∙ ap (λ (t : List ℕ). run stop ok at wrong end (0x5C ∷ t)) (text-end indent [] (further-none-at indent [] (ending-none [] refl)))
        ∙ run_alone 0x5C refl)

    -- at a line's end the text goes on with a space, or ends
    pub escape-line : (near : Verdict) (c : ℕ) (l : List ℕ) → ends_line c ≡ true → Tells ranks (run stop ok at wrong end) near (c ∷ l) → Tells ranks (run stop ok at wrong end) (lone_of near wrong) (0x5C ∷ c ∷ l)
    escape-line near c l f t =
        record {
          told = λ indent n blank i.
              let w = line-behind 0x5C (c ∷ l) refl n i in
              let z : w.0 ≡ 0 = line-stops c l w.0 f w.1 in
              let y : not_line_ending_of (c ∷ l) ≡ Some 0 = w.1 ∙ ap Some z in
              subst⁻¹
              (λ (k : ℕ). judged_of ranks (lone_of near wrong) (is_further (further_of indent (drop k (0x5C ∷ c ∷ l)))) (length indent) ≡ true → run stop ok at wrong end (joined_of indent k (0x5C ∷ c ∷ l)) ≡ true)
              (w.2 ∙ ap suc z)
              (go indent (further_of indent (c ∷ l)) refl (t.told indent 0 blank y));
        }
      where
        go :
            (indent : List ℕ) (x : Option (ℕ × ℕ)) → further_of indent (c ∷ l) ≡ x
            → (judged_of ranks near (is_further (further_of indent (c ∷ l))) (length indent) ≡ true → run stop ok at wrong end (joined_of indent 0 (c ∷ l)) ≡ true)
            → judged_of ranks (lone_of near wrong) (is_further (further_of indent (c ∷ l))) (length indent) ≡ true
            → run stop ok at wrong end (0x5C ∷ joined_of indent 0 (c ∷ l)) ≡ true
        go indent (Some (a, m)) g k j =
            let u = joined_of indent m (drop a (c ∷ l)) in
            let further : is_further (further_of indent (c ∷ l)) ≡ true = ap is_further g in
            let told = k (ap (λ (x : Bool). judged_of ranks near x (length indent)) further ∙ judged-lone ranks near wrong (length indent) (sym (ap (λ (x : Bool). judged_of ranks (lone_of near wrong) x (length indent)) further) ∙ j)) in
            ap (λ (q : List ℕ). run stop ok at wrong end (0x5C ∷ q)) (text-further indent (c ∷ l) a m g)
            ∙ run-pair 0x5C 0x20 u refl space
            ∙ sym (run-plain 0x20 u refl (ne_eqb _ _ (λ r. other (sym r))))
            ∙ ap (run stop ok at wrong end) (sym (text-further indent (c ∷ l) a m g))
            ∙ told
        go indent None g k j =
            ap (λ (q : List ℕ). run stop ok at wrong end (0x5C ∷ q)) (text-end indent (c ∷ l) g)
            ∙ run_alone 0x5C refl
            ∙ lone_is ranks near wrong (length indent) (sym (ap (λ (x : Option (ℕ × ℕ)). judged_of ranks (lone_of near wrong) (is_further x) (length indent)) g) ∙ j)

    module _ (c : ℕ) (l : List ℕ) (f : ends_line c ≡ false) where
      pub escape-pair : (far : Verdict) → ok c ≡ true → Tells ranks (run stop ok at wrong end) far l → Tells ranks (run stop ok at wrong end) far (0x5C ∷ c ∷ l)
      escape-pair far g t =
          tells-cons (run stop ok at wrong end) (λ u. run stop ok at wrong end (0x5C ∷ u)) far 0x5C (c ∷ l) refl (λ u k. k)
          (tells-cons (λ u. run stop ok at wrong end (0x5C ∷ u)) (run stop ok at wrong end) far c l f (λ u k. run-pair 0x5C c u refl g ∙ k) t)

      pub escape-wrong : ok c ≡ false → Tells ranks (run stop ok at wrong end) (sure_of wrong) (0x5C ∷ c ∷ l)
      escape-wrong g =
          tells-sure (run stop ok at wrong end) wrong (0x5C ∷ c ∷ l)
          (λ indent m i.
          let w = text-byte 0x5C (c ∷ l) refl indent m i in
          let y = text-byte c l f indent w.0 w.1 in
          ap (run stop ok at wrong end) (w.2 ∙ ap (λ (t : List ℕ). 0x5C ∷ t) y.2) ∙ run-wrong 0x5C c (joined_of indent y.0 l) refl g)

  module _ {ranks : List ℕ} where
    -- at the end of the text
    pub tells-last : (s : List ℕ) → not_line_ending_of s ≡ Some 0 → ((indent : List ℕ) → Blank indent → further_of indent s ≡ None) → Tells ranks (run stop ok at wrong end) (lone_of everything end) s
    tells-last s h g =
        record {
          told = λ indent m blank e.
              subst⁻¹ (λ (k : ℕ). judged_of ranks (lone_of everything end) (is_further (further_of indent (drop k s))) (length indent) ≡ true → run stop ok at wrong end (joined_of indent k s) ≡ true) (taken_is m 0 (sym e ∙ h))
              (λ j.
              ap (run stop ok at wrong end) (text-end indent s (g indent blank)) ∙ run_none
              ∙ lone_is ranks everything end (length indent) (sym (ap (λ (x : Option (ℕ × ℕ)). judged_of ranks (lone_of everything end) (is_further x) (length indent)) (g indent blank)) ∙ j));
        }

-- At LF, by the next line.
module _ (indent l : List ℕ) (blank : Blank indent) where
  pub lf-taken : (m : ℕ) → not_line_ending_of l ≡ Some m → starts_with (indent ++ three) l ≡ true → (k : ℕ) × (not_line_ending_of (drop (length (indent ++ three)) l) ≡ Some k) × (further_of indent (10 ∷ l) ≡ Some ((suc (length (indent ++ three))), k))
  lf-taken m e f =
      let w = blank-line (indent ++ three) l m (blank-three indent blank) f e in
      (w.0, w.1, further-lf-starts indent l f ∙ ap (line_at (suc (length (indent ++ three)))) w.1)

  -- it is a further line just if it begins with the indent and three spaces
  lf-further : (m : ℕ) → not_line_ending_of l ≡ Some m → is_further (further_of indent (10 ∷ l)) ≡ starts_with (indent ++ three) l
  lf-further m e = go (starts_with (indent ++ three) l) refl
    where
      go : (x : Bool) → starts_with (indent ++ three) l ≡ x → is_further (further_of indent (10 ∷ l)) ≡ starts_with (indent ++ three) l
      go true f = ap is_further (lf-taken m e f).2 ∙ sym f
      go false f = ap is_further (further-lf-other indent l f) ∙ sym f

  -- it is none if it is refused
  pub lf-refused : not_line_ending_of l ≡ None → further_of indent (10 ∷ l) ≡ None
  lf-refused e = go (starts_with (indent ++ three) l) refl
    where
      go : (x : Bool) → starts_with (indent ++ three) l ≡ x → further_of indent (10 ∷ l) ≡ None
      go true f = further-lf-starts indent l f ∙ ap (line_at (suc (length (indent ++ three)))) (blank-refused (indent ++ three) l (blank-three indent blank) f e)
      go false f = further-lf-other indent l f

-- Whether a further line follows.

-- a byte of the line before it
pub follows-byte : (next : List ℕ) (b : ℕ) (l : List ℕ) → ends_line b ≡ false → Follows next l → Follows next (b ∷ l)
follows-byte next b l e f indent blank n g =
    let w = text-byte b l e indent n g in
    f indent blank w.0 w.1 ∙ ap (λ (x : List ℕ). is_further (further_of indent x)) (sym w.3)

-- a line has no byte here
follows-here : (next s : List ℕ) → not_line_ending_of s ≡ Some 0 → ((indent : List ℕ) → Blank indent → starts_with (indent ++ three) next ≡ is_further (further_of indent s)) → Follows next s
follows-here next s h f indent blank n e =
    f indent blank ∙ ap (λ (k : ℕ). is_further (further_of indent (drop k s))) (taken_is 0 n (sym h ∙ e))

-- LF
pub follows-lf : (l : List ℕ) (m : ℕ) → not_line_ending_of l ≡ Some m → Follows l (10 ∷ l)
follows-lf l m f = follows-here l (10 ∷ l) (line-here l) (λ indent blank. sym (lf-further indent l blank m f))

-- no further line
pub follows-none : (s : List ℕ) → not_line_ending_of s ≡ Some 0 → ((indent : List ℕ) → Blank indent → further_of indent s ≡ None) → Follows [] s
follows-none s h f = follows-here [] s h (λ indent blank. starts-shorter (indent ++ three) [] (omega (arith, length-append indent three)) ∙ ap is_further (sym (f indent blank)))

-- at the text's end
pub further-end : (indent : List ℕ) → further_of indent [] ≡ None
further-end indent = further-none-at indent [] (ending-none [] refl)

pub line-last : not_line_ending_of [] ≡ Some 0
unfolding line_from
line-last = refl

module _ {ranks : List ℕ} where
  -- CR LF.
  pub tells-cr : (g : List ℕ → Bool) (v : Verdict) (l : List ℕ) → Tells ranks g v (10 ∷ l) → Tells ranks g v (13 ∷ 10 ∷ l)
  tells-cr g v l t =
      record {
        told = λ indent n blank j.
            subst⁻¹
            (λ (k : ℕ). judged_of ranks v (is_further (further_of indent (drop k (13 ∷ 10 ∷ l)))) (length indent) ≡ true → g (joined_of indent k (13 ∷ 10 ∷ l)) ≡ true)
            (taken_is n 0 (sym j ∙ crlf-here l))
            (λ k.
            ap g (crlf-text indent l)
            ∙ t.told indent 0 blank (line-here l) (ap (λ (x : Bool). judged_of ranks v x (length indent)) (sym (crlf-further indent l)) ∙ k));
      }

pub follows-cr : (next l : List ℕ) → Follows next (10 ∷ l) → Follows next (13 ∷ 10 ∷ l)
follows-cr next l t =
    follows-here next (13 ∷ 10 ∷ l) (crlf-here l) (λ indent blank. t indent blank 0 (line-here l) ∙ sym (crlf-further indent l))

module _ (ranks : List ℕ) where
  -- Over a line's end.

  -- where the next line is a further one, its verdict is true: behind it stands one just if both have these blanks in common
  over-judged :
      Rising ranks → (v : Verdict) (lone : Bool) (shared k : ℕ) (y : Bool) → (y ≡ true → k + 3 ≤ shared) → (k + 3 ≤ shared → y ≡ true)
      → judged_of ranks (over_of ranks v lone shared) true k ≡ true → judged_of ranks v y k ≡ true
  over-judged rising v lone shared k y f g j =
      by-test (λ (o : Verdict). judged_of ranks o true k ≡ true → judged_of ranks v y k ≡ true) (is_lone v) (either_of v (beyond_of ranks shared)) (both_of v (up_to_of ranks shared))
      (λ e i. sure e y f i)
      (λ e i.
      let w = judged-both ranks v (up_to_of ranks shared) true k i in
      ap (λ (x : Bool). judged_of ranks v x k) (g (judged-up-to ranks rising shared k w.1)) ∙ w.0)
      (judged-lone ranks _ lone k j)
    where
      sure : is_lone v ≡ true → (x : Bool) → (x ≡ true → k + 3 ≤ shared) → judged_of ranks (either_of v (beyond_of ranks shared)) true k ≡ true → judged_of ranks v x k ≡ true
      sure e true c i = ⊎_elim (λ w. w) (λ w. absurd (judged-beyond ranks rising shared k (c refl) w)) (judged-either ranks v (beyond_of ranks shared) true k i)
      sure e false c i = e

module _ (stop : ℕ) (ok : ℕ → Bool) (at : List ℕ → Bool) (wrong end : Bool) (space : stop ≡ 0x20 → ⊥) (tab : stop ≡ 9 → ⊥) where
  abbrev goes : List ℕ → Bool
  goes t = run stop ok at wrong end t

  -- a run passes blanks
  blank-other : (b : ℕ) → is_space b ≡ true → eqb b stop ≡ false
  blank-other b e = space-cases (λ c. eqb c stop ≡ false) b e (ne_eqb _ _ (λ f. space (sym f))) (ne_eqb _ _ (λ f. tab (sym f)))

  -- from the line's start it goes as from behind them
  run-blanks : (q t : List ℕ) → Blank q → goes (q ++ t) ≡ goes t
  run-blanks [] t blank = refl
  run-blanks (c ∷ q) t blank =
      let is = blank 0 (omega arith) in
      run-plain stop ok at wrong end c (q ++ t) (space-plain c is).1 (blank-other c is) ∙ run-blanks q t (blank-next c q blank)

  run-blank :
      (indent q s : List ℕ) (n k : ℕ) → Blank q → starts_with q s ≡ true → not_line_ending_of s ≡ Some n → not_line_ending_of (drop (length q) s) ≡ Some k
      → goes (joined_of indent n s) ≡ goes (joined_of indent k (drop (length q) s))
  run-blank indent q s n k blank e f g = ap goes (blank-joined indent q s n k blank e f g) ∙ run-blanks q _ blank

  module _ {ranks : List ℕ} where
    pub tells-over :
        Rising ranks → (v : Verdict) (l next : List ℕ) (k m : ℕ) → not_line_ending_of l ≡ Some m → Follows next l → Shared k l next → Tells ranks goes v l
        → Tells ranks goes (over_of ranks v end k) (10 ∷ l)
    tells-over rising v l next k m line follows shared t =
        record {
          told = λ indent z blank here.
              subst⁻¹ (λ (i : ℕ). judged_of ranks (over_of ranks v end k) (is_further (further_of indent (drop i (10 ∷ l)))) (length indent) ≡ true → goes (joined_of indent i (10 ∷ l)) ≡ true)
              (taken_is z 0 (sym here ∙ line-here l))
              (go indent blank (starts_with (indent ++ three) l) refl);
        }
      where
        later : (indent : List ℕ) → Blank indent → starts_with (indent ++ three) l ≡ true → judged_of ranks (over_of ranks v end k) true (length indent) ≡ true → goes (joined_of indent m l) ≡ true
        later indent blank e j =
            t.told indent m blank line
            (ap (λ (x : Bool). judged_of ranks v x (length indent)) (sym (follows indent blank m line))
            ∙ over-judged ranks rising v end k (length indent) (starts_with (indent ++ three) next)
            (λ f. shared-fewer indent l next k blank shared e f)
            (λ f. shared-more indent l next k shared f e)
            j)

        go : (indent : List ℕ) → Blank indent → (x : Bool) → starts_with (indent ++ three) l ≡ x → judged_of ranks (over_of ranks v end k) (is_further (further_of indent (10 ∷ l))) (length indent) ≡ true → goes (joined_of indent 0 (10 ∷ l)) ≡ true
        go indent blank true e j =
            let w = lf-taken indent l blank m line e in
            let u = joined_of indent w.0 (drop (length (indent ++ three)) l) in
            ap goes (text-further indent (10 ∷ l) (suc (length (indent ++ three))) w.0 w.2)
            ∙ run-plain stop ok at wrong end 0x20 u refl (ne_eqb _ _ (λ r. space (sym r)))
            ∙ sym (run-blank indent (indent ++ three) l m w.0 (blank-three indent blank) e line w.1)
            ∙ later indent blank e (sym (ap (λ (x : Option (ℕ × ℕ)). judged_of ranks (over_of ranks v end k) (is_further x) (length indent)) w.2) ∙ j)
        go indent blank false e j =
            let f = further-lf-other indent l e in
            ap goes (text-end indent (10 ∷ l) f) ∙ run_none stop ok at wrong end
            ∙ lone_is ranks _ end (length indent) (sym (ap (λ (x : Option (ℕ × ℕ)). judged_of ranks (over_of ranks v end k) (is_further x) (length indent)) f) ∙ j)
