-- What the runs say of targets. A run over a destination that meets a wrong escape says that the target is refused: where no label begins the
-- target is all of the text, and where one is closed the run over labels says that a wrong escape stands in it. Behind that, one step of a run and
-- of `taking`, for the laws of names.
-- Assumes nothing.
use Rattle.std.proofs.Common.{Option, Some, None}
use Prim.Native.Nat.{ℕ, zero, suc, ◌+◌, ◌-◌, ◌<◌, ◌≤◌}
use native.Mathlib.Omega.{arith}
use mathlib.Core.Path.{◌≡◌, refl, sym, ap, subst⁻¹, ◌∙◌}
use mathlib.Core.List.{List, [], ◌∷◌, ◌++◌}
use mathlib.Core.Bool.{true, false, not, or_self, false≢true}
use mathlib.Core.Logic.{◌⊎◌, inl, inr, ⊎_elim}
use lib.Dec.{eqb, leb}
use lib.ListN.{length, get_or, drop, take, length-drop}
use lib.Seq.{length-take-le, get_or-take, get_or-drop}
use borrow.Author.Tests.{eq-eqb, ne_eqb, eqb-true, lt-ltb, leb-true, leb-false, ltb-true}
use Rattle.std.proofs.lemmas.Bool.{and_parts, cases_Bool}
use Rattle.rst_bytes.specs.Escaped.{is_escapable, is_stop, taking}
use Rattle.rst_bytes.specs.Tag.{starts_with}
use Rattle.rst_bytes.specs.Word.{is_ascii_word, word_of}
use Rattle.rst_bytes.proofs.TestLaws.{picks_first, picks_second, by-test, or_cases, lt-or-le}
use Rattle.rst_bytes.proofs.TagLaws.{starts-le}
use Rattle.rst_bytes.proofs.EscapedLaws.{refused-taken, taken_is, taken-from, taken_back, first-stop}
use Rattle.rst_bytes.proofs.WordLaws.{word-within, word-ended}
use Rattle.restructured_text.specs.declared.target.Raw.{Raw}
use Rattle.restructured_text.specs.Definition.{raw_of, raw_span, is_alias}
use Rattle.restructured_text.specs.Strings.{part}
use Rattle.restructured_text.specs.Delimited.{ends_with, backticked_of}
use Rattle.restructured_text.specs.Inner.{is_refused}
use Rattle.restructured_text.specs.Label.{label_len_max, simple_label_of}
use Rattle.restructured_text.specs.Transform.{refused, is_destination_escapable, kept_of, destination_of, bytes_of}
use Rattle.restructured_text.proofs.DelimitedLaws.{delimited-none, delimited-refused, delimited-is}
use Rattle.restructured_text.proofs.LabelLaws.{word-one, word_two, word_none, raw-quoted, raw_word, simple-none, simple-empty, simple-long, simple-named}
use Rattle.restructured_text.proofs.TargetLaws.{raw-is, raw-all}
use Rattle.restructured_text.proofs.TransformLaws.{destination-dead, kept_byte, kept-alone, kept_pair, kept-wrong}
use Rattle.targetless.specs.Verdict.{run}
use Rattle.targetless.specs.Runs.{is_dead, is_long, no_label, escapable_of, word_labelled, destination_run, label_run, label_stop}
use Rattle.targetless.proofs.VerdictLaws.{run-plain, run-stop, run-pair}

-- a run that meets a wrong escape
run-refused : (t : List ℕ) → destination_run t ≡ true → is_refused (kept_of t) ≡ true
unfolding run
run-refused [] e = absurd (false≢true e)
run-refused (b ∷ []) e =
    ⊎_elim
    (λ f. kept-alone b f)
    (λ f. absurd (false≢true (⊎_elim
    (λ g. sym (run-stop 10 (escapable_of false) (λ t. false) true false b [] f g) ∙ e)
    (λ g. sym (run-plain 10 (escapable_of false) (λ t. false) true false b [] f g) ∙ e)
    (cases_Bool (eqb b 10)))))
    (cases_Bool (eqb b 0x5C))
run-refused (b ∷ c ∷ t) e =
    ⊎_elim
    (λ f. ⊎_elim
    (λ g. kept_pair b c t f g ∙ run-refused t (sym (run-pair 10 (escapable_of false) (λ t. false) true false b c t f g) ∙ e))
    (λ g. kept-wrong b c t f g)
    (cases_Bool (is_destination_escapable c)))
    (λ f. kept_byte b (c ∷ t) f ∙ ⊎_elim
    (λ g. absurd (false≢true (sym (run-stop 10 (escapable_of false) (λ t. false) true false b (c ∷ t) f g) ∙ e)))
    (λ g. run-refused (c ∷ t) (sym (run-plain 10 (escapable_of false) (λ t. false) true false b (c ∷ t) f g) ∙ e))
    (cases_Bool (eqb b 10)))
    (cases_Bool (eqb b 0x5C))

-- what a text begins with stands in it
pub starts-at : (p s : List ℕ) (i : ℕ) → starts_with p s ≡ true → i < length p → get_or s i 0 ≡ get_or p i 0
unfolding starts_with
starts-at [] s i e h = absurd (omega arith)
starts-at (c ∷ p) [] i e h = absurd (false≢true e)
starts-at (c ∷ p) (b ∷ s) zero e h =
    ⊎_elim
    (λ f. eqb-true b c f)
    (λ f. absurd (false≢true (sym (picks_second _ _ _ f) ∙ e)))
    (cases_Bool (eqb b c))
starts-at (c ∷ p) (b ∷ s) (suc i) e h =
    ⊎_elim
    (λ f. starts-at p s i (sym (picks_first _ _ _ f) ∙ e) (omega arith))
    (λ f. absurd (false≢true (sym (picks_second _ _ _ f) ∙ e)))
    (cases_Bool (eqb b c))

pub starts_is : (p s : List ℕ) → starts_with p s ≡ true → s ≡ p ++ drop (length p) s
unfolding starts_with
starts_is [] s e = refl
starts_is (c ∷ p) [] e = absurd (false≢true e)
starts_is (c ∷ p) (b ∷ s) e =
    ⊎_elim
    (λ f. ap (λ (i : ℕ). i ∷ s) (eqb-true b c f) ∙ ap (λ (l : List ℕ). c ∷ l) (starts_is p s (sym (picks_first _ _ _ f) ∙ e)))
    (λ f. absurd (false≢true (sym (picks_second _ _ _ f) ∙ e)))
    (cases_Bool (eqb b c))

-- what it ends with too
ends_at : (p r : List ℕ) (i : ℕ) → ends_with p r ≡ true → i < length p → get_or r (length r - length p + i) 0 ≡ get_or p i 0
unfolding ends_with
ends_at p r i e h =
    sym (get_or-drop (length r - length p) r i 0)
    ∙ starts-at p (drop (length r - length p) r) i (and_parts (leb (length p) (length r)) _ e).1 h

-- No label begins: neither one in backticks nor a word.
module _ (t : List ℕ) (q : backticked_of false t ≡ None) (f : word_labelled t ≡ false) where
  word_size : length (take (word_of t) t) ≡ word_of t
  word_size = length-take-le (word_of t) t (word-within t)

  -- a byte of the word
  byte-is : (i j c : ℕ) → i ≡ j → i < word_of t → get_or (take (word_of t) t) i 0 ≡ c → get_or t j 0 ≡ c
  byte-is i j c y h e = ap (λ (k : ℕ). get_or t k 0) (sym y) ∙ sym (get_or-take (word_of t) t i 0 h) ∙ e

  -- a word that ends with `_` is too long
  word-far : 1 < word_of t → get_or t (word_of t - 1) 0 ≡ 0x5F → (1000 < word_of t) × (get_or t (word_of t - 2) 0 ≡ 0x5F → 1001 < word_of t)
  unfolding word_labelled
  word-far h g =
      let z : word_labelled t ≡ leb (word_of t) (elim (eqb (get_or t (word_of t - 2) 0) 0x5F) [ true ↦ 1001 | false ↦ 1000 ]) = simp (lt-ltb 1 (word_of t) h, eq-eqb (get_or t (word_of t - 1) 0) 0x5F g) in
      by-test (λ (m : ℕ). leb (word_of t) m ≡ false → (1000 < word_of t) × (get_or t (word_of t - 2) 0 ≡ 0x5F → 1001 < word_of t)) (eqb (get_or t (word_of t - 2) 0) 0x5F) 1001 1000
      (λ e i.
      let k = leb-false (word_of t) 1001 i in
      (omega (arith, k), λ j. k))
      (λ e i. (leb-false (word_of t) 1000 i, λ j. absurd (false≢true (sym e ∙ eq-eqb _ _ j))))
      (sym z ∙ f)

  no-label : simple_label_of t ≡ None
  no-label = two (cases_Bool (leb 3 (word_of t))) (cases_Bool (ends_with (0x5F ∷ 0x5F ∷ []) (take (word_of t) t)))
    where
      one : (word_of t < 3) ⊎ (ends_with (0x5F ∷ 0x5F ∷ []) (take (word_of t) t) ≡ false) → (ends_with (0x5F ∷ []) (take (word_of t) t) ≡ true) ⊎ (ends_with (0x5F ∷ []) (take (word_of t) t) ≡ false) → simple_label_of t ≡ None
      one h (inl e) =
          ⊎_elim
          (λ l.
          let w = word-far l (byte-is (length (take (word_of t) t) - 1 + 0) (word_of t - 1) 0x5F (omega (arith, word_size)) (omega (arith, word_size)) (ends_at (0x5F ∷ []) (take (word_of t) t) 0 e (omega arith))) in
          simple-long t _ _ (raw_word t q ∙ word-one t _ (word_of t) refl refl h e) (omega (arith, w.0)))
          (λ l. simple-empty t _ _ (raw_word t q ∙ word-one t _ (word_of t) refl refl h e) (omega arith))
          (lt-or-le 1 (word_of t))
      one h (inr e) = simple-none t (raw_word t q ∙ word_none t _ (word_of t) refl refl h e)

      two : (leb 3 (word_of t) ≡ true) ⊎ (leb 3 (word_of t) ≡ false) → (ends_with (0x5F ∷ 0x5F ∷ []) (take (word_of t) t) ≡ true) ⊎ (ends_with (0x5F ∷ 0x5F ∷ []) (take (word_of t) t) ≡ false) → simple_label_of t ≡ None
      two (inl l) (inl e) =
          let g = leb-true 3 (word_of t) l in
          let r = take (word_of t) t in
          let w = word-far (omega arith) (byte-is (length r - 2 + 1) (word_of t - 1) 0x5F (omega (arith, word_size)) (omega (arith, word_size)) (ends_at (0x5F ∷ 0x5F ∷ []) r 1 e (omega arith))) in
          let k = w.1 (byte-is (length r - 2 + 0) (word_of t - 2) 0x5F (omega (arith, word_size)) (omega (arith, word_size)) (ends_at (0x5F ∷ 0x5F ∷ []) r 0 e (omega arith))) in
          simple-long t _ _ (raw_word t q ∙ word_two t _ (word_of t) refl refl g e) (omega (arith, k))
      two (inl l) (inr e) = one (inr e) (cases_Bool (ends_with (0x5F ∷ []) (take (word_of t) t)))
      two (inr l) e = one (inl (leb-false 3 (word_of t) l)) (cases_Bool (ends_with (0x5F ∷ []) (take (word_of t) t)))

-- then the target is all of the text
whole-dead : (t : List ℕ) → simple_label_of t ≡ None → destination_run t ≡ true → is_dead t ≡ true
unfolding is_dead
whole-dead t e f =
    ap (λ (l : List ℕ). is_refused (kept_of l)) (raw-all t (raw_of t) refl (ap is_alias (raw-is t (raw_of t) refl None e)))
    ∙ run-refused t f

-- what refuses it
pub dead-refused : (v : List ℕ) → is_dead v ≡ true → destination_of (part (raw_span (raw_of v)) v) ≡ refused (bytes_of (kept_of (part (raw_span (raw_of v)) v)))
unfolding is_dead
dead-refused v d = destination-dead (part (raw_span (raw_of v)) v) d

pub dead-unlabelled : (t : List ℕ) → starts_with (0x60 ∷ []) t ≡ false → word_labelled t ≡ false → destination_run t ≡ true → is_dead t ≡ true
dead-unlabelled t e f g = whole-dead t (no-label t (delimited-none (0x60 ∷ []) 0x60 0x60 (0x60 ∷ 0x5F ∷ []) t e) f) g

-- a byte that begins no word begins no label
pub word-other : (b : ℕ) (r : List ℕ) → b < 0x80 → is_ascii_word b ≡ false → word_labelled (b ∷ r) ≡ false
unfolding word_labelled
word-other b r h e =
    let z : word_of (b ∷ r) ≡ 0 = omega (arith, word-ended b h e [] r, word-within []) in
    rw z refl

word-tick : (r : List ℕ) → word_labelled (0x60 ∷ r) ≡ false
unfolding is_ascii_word
word-tick r = word-other 0x60 r (omega arith) refl

tick-starts : (r : List ℕ) → starts_with (0x60 ∷ []) (0x60 ∷ r) ≡ true
unfolding starts_with
tick-starts r = refl

tick-stops : is_stop 0x60 0x60 0x60 ≡ true
unfolding is_stop
tick-stops = refl

pub dead-two-ticks : (r : List ℕ) → destination_run (0x60 ∷ 0x60 ∷ r) ≡ true → is_dead (0x60 ∷ 0x60 ∷ r) ≡ true
dead-two-ticks r e =
    whole-dead (0x60 ∷ 0x60 ∷ r)
    (no-label (0x60 ∷ 0x60 ∷ r)
    (delimited-refused (0x60 ∷ []) 0x60 0x60 (0x60 ∷ 0x5F ∷ []) (0x60 ∷ 0x60 ∷ r) (0x60 ∷ r) (tick-starts (0x60 ∷ r)) refl (first-stop 0x60 0x60 (0x60 ∷ r) (omega arith) tick-stops))
    (word-tick (0x60 ∷ r)))
    e

-- One step of `taking` with one stop byte.
pub stop-one : (p b : ℕ) → is_stop p p b ≡ eqb b p
unfolding is_stop
stop-one p b = or_self (eqb b p)

module _ (p n b : ℕ) where
  pub taking-alone : eqb b 0x5C ≡ true → taking p p false n (b ∷ []) ≡ None
  unfolding taking
  taking-alone e = picks_first _ _ _ e

  module _ (l : List ℕ) (e : eqb b 0x5C ≡ false) where
    pub taking-byte : eqb b p ≡ false → taking p p false n (b ∷ l) ≡ taking p p false (n + 1) l
    unfolding taking
    taking-byte f = picks_second _ _ _ e ∙ picks_second _ _ _ (stop-one p b ∙ f)

    pub taking-here : eqb b p ≡ true → taking p p false n (b ∷ l) ≡ Some n
    unfolding taking
    taking-here f = picks_second _ _ _ e ∙ picks_first _ _ _ (stop-one p b ∙ f)

  module _ (c : ℕ) (l : List ℕ) (e : eqb b 0x5C ≡ true) where
    pub taking-pair : is_escapable c ≡ true → taking p p false n (b ∷ c ∷ l) ≡ taking p p false (n + 2) l
    unfolding taking
    taking-pair f =
        let z : n + 1 + 1 ≡ n + 2 = omega arith in
        picks_first _ _ _ e ∙ picks_first _ _ _ f ∙ ap (λ (m : ℕ). taking p p false m l) z

    pub taking-wrong : is_escapable c ≡ false → taking p p false n (b ∷ c ∷ l) ≡ None
    unfolding taking
    taking-wrong f = picks_first _ _ _ e ∙ picks_second _ _ _ f

-- A label of n bytes, counted from a on, that a backtick closes: the run over it meets a wrong escape.
label-refused :
    (r : List ℕ) (a n : ℕ) → taking 0x60 0x60 false a r ≡ Some (a + n) → starts_with (0x60 ∷ 0x5F ∷ []) (drop n r) ≡ true → label_run r ≡ true
    → is_refused (kept_of (take n r)) ≡ true
label-refused [] a n e f g = absurd (omega (arith, starts-le (0x60 ∷ 0x5F ∷ []) (drop n []) f, length-drop {A = ℕ} n []))
label-refused (b ∷ []) a n e f g = absurd (omega (arith, starts-le (0x60 ∷ 0x5F ∷ []) (drop n (b ∷ [])) f, length-drop n (b ∷ [])))
label-refused (b ∷ c ∷ r) a zero e f g =
    let y : b ≡ 0x60 = starts-at (0x60 ∷ 0x5F ∷ []) (b ∷ c ∷ r) 0 f (omega arith) in
    absurd (false≢true (sym (run-stop 0x60 (escapable_of false) label_stop true true b (c ∷ r) (ne_eqb b 0x5C (λ z. omega (arith, y, z))) (eq-eqb b 0x60 y) ∙ ap not f) ∙ g))
label-refused (b ∷ c ∷ r) a (suc n) e f g =
    ⊎_elim
    (λ i. ⊎_elim
    (λ j.
    let w = taken_back 0x60 0x60 (a + 2) r (a + suc n) (sym (taking-pair 0x60 a b c r i j) ∙ e) in
    let z : n ≡ suc (n - 1) = omega (arith, w.0) in
    let y : a + suc n ≡ a + 2 + (n - 1) = omega (arith, w.0) in
    subst⁻¹ (λ (m : ℕ). is_refused (kept_of (take (suc m) (b ∷ c ∷ r))) ≡ true) z
    (⊎_elim
    (λ k. kept_pair b c (take (n - 1) r) i k
    ∙ label-refused r (a + 2) (n - 1) (sym (taking-pair 0x60 a b c r i j) ∙ e ∙ ap Some y) (ap (λ (m : ℕ). starts_with (0x60 ∷ 0x5F ∷ []) (drop m (c ∷ r))) (sym z) ∙ f) (sym (run-pair 0x60 (escapable_of false) label_stop true true b c r i k) ∙ g))
    (λ k. kept-wrong b c (take (n - 1) r) i k)
    (cases_Bool (is_destination_escapable c))))
    (λ j. absurd (refused-taken (a + suc n) (sym (taking-wrong 0x60 a b c r i j) ∙ e)))
    (cases_Bool (is_escapable c)))
    (λ i. ⊎_elim
    (λ j. absurd (omega (arith, taken_is a (a + suc n) (sym (taking-here 0x60 a b (c ∷ r) i j) ∙ e))))
    (λ j.
    let y : a + suc n ≡ a + 1 + n = omega arith in
    kept_byte b (take n (c ∷ r)) i
    ∙ label-refused (c ∷ r) (a + 1) n (sym (taking-byte 0x60 a b (c ∷ r) i j) ∙ e ∙ ap Some y) f (sym (run-plain 0x60 (escapable_of false) label_stop true true b (c ∷ r) i j) ∙ g))
    (cases_Bool (eqb b 0x60)))
    (cases_Bool (eqb b 0x5C))

-- a label that is closed is the target, unless it is empty or too long
pub dead-ticked : (r : List ℕ) → destination_run (0x60 ∷ r) ≡ true → no_label r ≡ true → is_dead (0x60 ∷ r) ≡ true
unfolding is_dead
dead-ticked r e f = go (backticked_of false (0x60 ∷ r)) refl
  where
    inner : (n : ℕ) → backticked_of false (0x60 ∷ r) ≡ Some n → n ≤ label_len_max → is_refused (kept_of (take n r)) ≡ true
    inner n g m =
        let d = delimited-is (0x60 ∷ []) 0x60 0x60 (0x60 ∷ 0x5F ∷ []) (0x60 ∷ r) n g in
        label-refused r 0 n (taken-from 0x60 0x60 0 r n d.inner) d.ends
        (⊎_elim
        (λ i. i)
        (λ i. absurd (omega (arith, m, ltb-true label_len_max n (sym (ap is_long g) ∙ i))))
        (or_cases (label_run r) _ f))

    go : (x : Option ℕ) → backticked_of false (0x60 ∷ r) ≡ x → is_dead (0x60 ∷ r) ≡ true
    go None g = whole-dead (0x60 ∷ r) (no-label (0x60 ∷ r) g (word-tick r)) e
    go (Some n) g =
        ⊎_elim
        (λ l. ⊎_elim
        (λ m. whole-dead (0x60 ∷ r) (simple-long (0x60 ∷ r) _ _ (raw-quoted (0x60 ∷ r) n g) m) e)
        (λ m.
        ap (λ (y : Raw). is_refused (kept_of (part (raw_span y) (0x60 ∷ r))))
        (raw-is (0x60 ∷ r) (raw_of (0x60 ∷ r)) refl _ (simple-named (0x60 ∷ r) _ _ (raw-quoted (0x60 ∷ r) n g) (λ z. omega (arith, z, l)) m))
        ∙ inner n g m)
        (lt-or-le label_len_max n))
        (λ l. whole-dead (0x60 ∷ r) (simple-empty (0x60 ∷ r) _ _ (raw-quoted (0x60 ∷ r) n g) (omega arith)) e)
        (lt-or-le 0 n)
