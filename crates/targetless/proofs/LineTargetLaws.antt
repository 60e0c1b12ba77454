-- A target on a further line begins among the blanks of that line or right behind them. A blank begins no label, so a target that begins with one is a
-- destination, and what is told of destinations at the line's end is told of it: the space before it changes nothing. Behind all blanks it is the
-- target that stands there.
-- Assumes nothing.
use Rattle.std.proofs.Common.{Some, None}
use Rattle.std.proofs.Common.{◌≡◌, ℕ, zero, suc, ◌+◌, ◌-◌, ◌<◌, ◌≤◌, List, [], ◌∷◌, ◌++◌, Bool, true, false, ⊎_elim, length, get_or, drop, length-append, refl, sym, ap, subst, ◌∙◌, leb, le-leb, leb-false, arith}
use mathlib.Core.Path.{subst⁻¹}
use Rattle.std.proofs.lemmas.Bool.{cases_Bool, false_from_ne_true, lt-leb}
use Rattle.rst_bytes.specs.Domain.{run}
use Rattle.rst_bytes.specs.Line.{is_space, bytes_from, space0_of, not_line_ending_of}
use Rattle.rst_bytes.specs.Tag.{starts_with}
use Rattle.rst_bytes.specs.Word.{is_ascii_word, word_of}
use Rattle.rst_bytes.proofs.TestLaws.{by-test, lt-or-le}
use Rattle.rst_bytes.proofs.TagLaws.{starts-le}
use Rattle.rst_bytes.proofs.WordLaws.{word-ended}
use Rattle.restructured_text.specs.Block.{three, further_of}
use Rattle.targetless.specs.declared.verdict.Verdict.{Verdict}
use Rattle.targetless.specs.Indents.{Rising}
use Rattle.targetless.specs.Verdict.{joined_of, is_further, Blank, ends_line, judged_of, both_of, up_to_of, Tells, Follows, Shared}
use Rattle.targetless.specs.Runs.{escapable_of, word_labelled, is_dead, destination_run, line_stop}
use Rattle.targetless.specs.Walk.{stop_of}
use Rattle.targetless.proofs.TextLaws.{text-further, further-lf-other, line_taken, line-stops}
use Rattle.targetless.proofs.BlankLaws.{space-cases, space-plain, starts-next, blank-three, blank-next, blanks-more, blanks-none, blanks-long, shared-fewer, shared-more}
use Rattle.targetless.proofs.VerdictLaws.{lf-taken, judged-both, judged-lone, judged-up-to, run-plain}
use Rattle.targetless.proofs.RunLaws.{dead-unlabelled}
use Rattle.targetless.proofs.WordLaws.{labelled, word-joined}
use Rattle.targetless.proofs.StateLaws.{first-not, text-alone}

-- no label begins with a blank
abbrev Free : List ℕ → Type 0
Free l = (0 < length l → get_or l 0 0 ≡ 0x60 → ⊥) × (word_labelled l ≡ false)

blank-free : (b : ℕ) (l : List ℕ) → is_space b ≡ true → Free (b ∷ l)
unfolding is_ascii_word word_of run word_labelled
blank-free b l e =
    space-cases (λ c. Free (c ∷ l)) b e
    (λ h x. omega (arith, x), ap (labelled (32 ∷ l)) (word-ended 32 (omega arith) refl [] l))
    (λ h x. omega (arith, x), ap (labelled (9 ∷ l)) (word-ended 9 (omega arith) refl [] l))

-- blanks are left behind the first i bytes
free-front : (i : ℕ) (l : List ℕ) → i < space0_of l → Free (drop i l)
unfolding bytes_from
free-front i [] h = absurd (omega arith)
free-front zero (b ∷ l) h =
    ⊎_elim
    (λ f. blank-free b l f)
    (λ f. absurd (omega (arith, h, blanks-none b l f)))
    (cases_Bool (is_space b))
free-front (suc i) (b ∷ l) h =
    ⊎_elim
    (λ f. free-front i l (omega (arith, h, blanks-more b l f)))
    (λ f. absurd (omega (arith, h, blanks-none b l f)))
    (cases_Bool (is_space b))

-- a space before a target
spaced : (r : List ℕ) → is_dead r ≡ true → line_stop (0x20 ∷ r) ≡ true
unfolding starts_with
spaced r e = e

-- whether a further line follows is the same behind blanks of the line
follows-blanks : (next q s : List ℕ) → Blank q → starts_with q s ≡ true → Follows next s → Follows next (drop (length q) s)
follows-blanks next [] s blank e t = t
follows-blanks next (c ∷ q) [] blank e t = absurd (omega (arith, starts-le (c ∷ q) [] e))
follows-blanks next (c ∷ q) (b ∷ s) blank e t =
    let y = starts-next c b q s e in
    follows-blanks next q s (blank-next c q blank) y.1 (behind (space-plain b (ap is_space y.0 ∙ blank 0 (omega arith))).0)
  where
    behind : ends_line b ≡ false → Follows next s
    behind f indent g n h = t indent g (suc n) (line_taken b s f n h ∙ ap Some (omega arith))

-- No further line follows the line's end, behind a colon: no space stands behind the colon.
line-none : (t : List ℕ) → t ≡ [] → line_stop t ≡ true
unfolding starts_with
line-none t e = ap line_stop e

module _ {ranks : List ℕ} where
  pub line-lone : (c : ℕ) (l : List ℕ) → ends_line c ≡ true → ((indent : List ℕ) → Blank indent → further_of indent (c ∷ l) ≡ None) → (v : Verdict) → Tells ranks line_stop v (c ∷ l)
  line-lone c l e f v = record { told = λ indent n b t p. line-none (joined_of indent n (c ∷ l)) (text-alone indent c l n e t (f indent b)) }

-- LF behind a colon. The next line, which has m bytes, begins with q blanks; k of them stand at the front of the line behind it too.
module _ (l : List ℕ) (m : ℕ) (line : not_line_ending_of l ≡ Some m) (next : List ℕ) (k : ℕ) (follows : Follows next l) (shared : Shared k l next) (v front : Verdict) where
  abbrev q : ℕ
  q = space0_of l

  -- Behind an indent with three spaces.
  module _ (indent : List ℕ) (blank : Blank indent) (n : ℕ) (starts : starts_with (indent ++ three) l ≡ true) (here : not_line_ending_of (drop (length indent + 3) l) ≡ Some n) where
    abbrev text : List ℕ
    text = joined_of indent n (drop (length indent + 3) l)

    -- blanks are left
    free-dead : length indent + 3 < q → destination_run text ≡ true → is_dead text ≡ true
    free-dead g d =
        let w = free-front (length indent + 3) l g in
        dead-unlabelled text (first-not 0x60 (drop (length indent + 3) l) (λ x. omega (arith, x)) w.0 indent n here) (word-joined indent (drop (length indent + 3) l) n here w.1) d

    -- none are
    front-on : length indent + 3 ≡ q → is_further (further_of indent (drop n (drop (length indent + 3) l))) ≡ leb q k
    front-on g =
        let z : length (indent ++ three) ≡ length indent + 3 = length-append indent three in
        let f = subst (Follows next) (ap (λ (x : ℕ). drop x l) z) (follows-blanks next (indent ++ three) l (blank-three indent blank) starts follows) in
        sym (f indent blank n here) ∙ ⊎_elim
        (λ y. false_from_ne_true (starts_with (indent ++ three) next) (λ x. omega (arith, y, g, shared-fewer indent l next k blank shared starts x)) ∙ sym (lt-leb q k y))
        (λ y. shared-more indent l next k shared (omega (arith, y, g)) starts ∙ sym (le-leb q k y))
        (lt-or-le k q)

    module _ {ranks : List ℕ} where
      front-dead : length indent + 3 ≡ q → Tells ranks is_dead front (drop q l) → judged_of ranks front (leb q k) (q - 3) ≡ true → is_dead text ≡ true
      front-dead g t j =
          let z : q - 3 ≡ length indent = omega (arith, g) in
          (subst⁻¹ (λ (x : ℕ). Tells ranks is_dead front (drop x l)) g t).told indent n blank here
          (ap (λ (x : Bool). judged_of ranks front x (length indent)) (front-on g) ∙ ap (λ (x : ℕ). judged_of ranks front (leb q k) x) (sym z) ∙ j)

      stop-dead :
          Rising ranks → length indent + 3 ≤ q → Tells ranks is_dead front (drop q l) → (judged_of ranks v true (length indent) ≡ true → destination_run text ≡ true)
          → judged_of ranks (stop_of ranks q k v front) true (length indent) ≡ true → is_dead text ≡ true
      stop-dead rising g t d =
          by-test (λ (x : Verdict). judged_of ranks x true (length indent) ≡ true → is_dead text ≡ true) (leb 3 q) _ _
          (λ a. by-test (λ (x : Verdict). judged_of ranks x true (length indent) ≡ true → is_dead text ≡ true) (judged_of ranks front (leb q k) (q - 3)) _ _
          (λ b j.
          let w = d (judged-lone ranks v true (length indent) j) in
          ⊎_elim (λ y. free-dead y w) (λ y. front-dead (omega (arith, g, y)) t b) (lt-or-le (length indent + 3) q))
          (λ b j.
          let w = judged-both ranks v (up_to_of ranks (q - 1)) true (length indent) (judged-lone ranks (both_of v (up_to_of ranks (q - 1))) true (length indent) j) in
          free-dead (omega (arith, g, judged-up-to ranks rising (q - 1) (length indent) w.1)) (d w.0)))
          (λ a. absurd (omega (arith, g, leb-false 3 q a)))

  module _ {ranks : List ℕ} where
    pub line-front : Rising ranks → Tells ranks destination_run v (10 ∷ l) → Tells ranks is_dead front (drop q l) → Tells ranks line_stop (stop_of ranks q k v front) (10 ∷ l)
    line-front rising d t = record { told = λ indent n blank here. go indent n blank here (starts_with (indent ++ three) l) refl }
      where
        go :
            (indent : List ℕ) (n : ℕ) → Blank indent → not_line_ending_of (10 ∷ l) ≡ Some n → (x : Bool) → starts_with (indent ++ three) l ≡ x → judged_of ranks (stop_of ranks q k v front) (is_further (further_of indent (drop n (10 ∷ l)))) (length indent) ≡ true
            → line_stop (joined_of indent n (10 ∷ l)) ≡ true
        go indent n blank here true e p =
            let zero_is : n ≡ 0 = line-stops 10 l n refl here in
            let w = lf-taken indent l blank m line e in
            let z : length (indent ++ three) ≡ length indent + 3 = length-append indent three in
            let y : drop (length (indent ++ three)) l ≡ drop (length indent + 3) l = ap (λ (x : ℕ). drop x l) z in
            let r = joined_of indent w.0 (drop (length indent + 3) l) in
            let u : joined_of indent n (10 ∷ l) ≡ 0x20 ∷ r =
            ap (λ (x : ℕ). joined_of indent x (10 ∷ l)) zero_is
            ∙ text-further indent (10 ∷ l) (suc (length (indent ++ three))) w.0 w.2 ∙ ap (λ (x : List ℕ). 0x20 ∷ joined_of indent w.0 x) y in
            let on : is_further (further_of indent (drop n (10 ∷ l))) ≡ true = ap is_further (ap (λ (x : ℕ). further_of indent (drop x (10 ∷ l))) zero_is ∙ w.2) in
            ap line_stop u
            ∙ spaced r
            (stop-dead indent blank w.0 e (ap (λ (x : List ℕ). not_line_ending_of x) (sym y) ∙ w.1) rising
            (omega (arith, z, blanks-long (indent ++ three) l (blank-three indent blank) e)) t
            (λ j. sym (ap destination_run u ∙ run-plain 10 (escapable_of false) (λ x. false) true false 0x20 r refl refl) ∙ d.told indent n blank here (ap (λ (x : Bool). judged_of ranks v x (length indent)) on ∙ j))
            (sym (ap (λ (x : Bool). judged_of ranks (stop_of ranks q k v front) x (length indent)) on) ∙ p))
        go indent n blank here false e p = line-none (joined_of indent n (10 ∷ l)) (text-alone indent 10 l n refl here (further-lf-other indent l e))
