-- What the runs say of names. A run over a name ends where `escaped` ends: at a stop byte, at the text's end, or at a wrong escape, which refuses
-- the name. So it tells whether the name is closed, and of the target behind it.
-- Assumes nothing.
use Rattle.std.proofs.Common.{Option, Some, None}
use Prim.Native.Nat.{ℕ, suc, ◌+◌, ◌-◌}
use native.Mathlib.Omega.{arith}
use mathlib.Core.Path.{◌≡◌, refl, sym, ap, subst⁻¹, ◌∙◌}
use mathlib.Core.List.{List, [], ◌∷◌}
use mathlib.Core.Bool.{Bool, true, false, ◌||◌, not, false≢true}
use mathlib.Core.Logic.{◌⊎◌, ⊎_elim}
use lib.Dec.{eqb}
use lib.ListN.{drop}
use lib.Seq.{drop-nil, drop-drop}
use borrow.Author.Tests.{eq-eqb, ne_eqb, eqb-true}
use Rattle.std.proofs.lemmas.Bool.{cases_Bool}
use Rattle.rst_bytes.specs.Escaped.{is_escapable, is_stop, taking, escaped_of}
use Rattle.rst_bytes.specs.Tag.{starts_with}
use Rattle.rst_bytes.proofs.EscapedLaws.{refused-taken, taken_is, taken-from, taken_back, first-stop, first-other}
use Rattle.restructured_text.specs.Delimited.{delimited_of}
use Rattle.restructured_text.specs.Strings.{none}
use Rattle.restructured_text.specs.Target.{named_of}
use Rattle.restructured_text.proofs.DelimitedLaws.{delimited-none, delimited-refused, delimited-taken, delimited-unclosed}
use Rattle.restructured_text.proofs.TargetLaws.{plain-none, plain-named, name-plain, name-quoted, parse-none, named_none, named-refused}
use Rattle.targetless.specs.Verdict.{run}
use Rattle.targetless.specs.Runs.{is_dead, Unnamed, escapable_of, plain_run, plain_stop, quoted_run, quoted_stop, closed_run, closed_stop}
use Rattle.targetless.proofs.VerdictLaws.{run-plain, run-stop, run_alone, run-pair, run-wrong}
use Rattle.targetless.proofs.RunLaws.{stop-one, taking-alone, taking-byte, taking-here, taking-pair, taking-wrong, starts_is, dead-refused}

-- what a run finds where it ends
abbrev at_or : (List ℕ → Bool) → Bool → List ℕ → Bool
at_or at end [] = end
at_or at end (b ∷ l) = at (b ∷ l)

module _ (p : ℕ) (at : List ℕ → Bool) (wrong end : Bool) where
  -- behind the n bytes, counted from a on, that `escaped` takes
  run-taken : (t : List ℕ) (a n : ℕ) → taking p p false a t ≡ Some (a + n) → run p (escapable_of true) at wrong end t ≡ at_or at end (drop n t)
  unfolding run
  run-taken [] a n e = sym (ap (at_or at end) (drop-nil n))
  run-taken (b ∷ []) a n e =
      ⊎_elim
      (λ i. absurd (refused-taken (a + n) (sym (taking-alone p a b i) ∙ e)))
      (λ i. ⊎_elim
      (λ j.
      let z : 0 ≡ n = omega (arith, taken_is a (a + n) (sym (taking-here p a b [] i j) ∙ e)) in
      run-stop p (escapable_of true) at wrong end b [] i j ∙ ap (λ (m : ℕ). at_or at end (drop m (b ∷ []))) z)
      (λ j.
      let w = taken_back p p (a + 1) [] (a + n) (sym (taking-byte p a b [] i j) ∙ e) in
      let z : suc (n - 1) ≡ n = omega (arith, w.0) in
      run-plain p (escapable_of true) at wrong end b [] i j
      ∙ sym (ap (at_or at end) (drop-nil (n - 1)))
      ∙ ap (λ (m : ℕ). at_or at end (drop m (b ∷ []))) z)
      (cases_Bool (eqb b p)))
      (cases_Bool (eqb b 0x5C))
  run-taken (b ∷ c ∷ t) a n e =
      ⊎_elim
      (λ i. ⊎_elim
      (λ j.
      let w = taken_back p p (a + 2) t (a + n) (sym (taking-pair p a b c t i j) ∙ e) in
      let y : a + n ≡ a + 2 + (n - 2) = omega (arith, w.0) in
      let z : suc (suc (n - 2)) ≡ n = omega (arith, w.0) in
      run-pair p (escapable_of true) at wrong end b c t i j
      ∙ run-taken t (a + 2) (n - 2) (sym (taking-pair p a b c t i j) ∙ e ∙ ap Some y)
      ∙ ap (λ (m : ℕ). at_or at end (drop m (b ∷ c ∷ t))) z)
      (λ j. absurd (refused-taken (a + n) (sym (taking-wrong p a b c t i j) ∙ e)))
      (cases_Bool (is_escapable c)))
      (λ i. ⊎_elim
      (λ j.
      let z : 0 ≡ n = omega (arith, taken_is a (a + n) (sym (taking-here p a b (c ∷ t) i j) ∙ e)) in
      run-stop p (escapable_of true) at wrong end b (c ∷ t) i j ∙ ap (λ (m : ℕ). at_or at end (drop m (b ∷ c ∷ t))) z)
      (λ j.
      let w = taken_back p p (a + 1) (c ∷ t) (a + n) (sym (taking-byte p a b (c ∷ t) i j) ∙ e) in
      let y : a + n ≡ a + 1 + (n - 1) = omega (arith, w.0) in
      let z : suc (n - 1) ≡ n = omega (arith, w.0) in
      run-plain p (escapable_of true) at wrong end b (c ∷ t) i j
      ∙ run-taken (c ∷ t) (a + 1) (n - 1) (sym (taking-byte p a b (c ∷ t) i j) ∙ e ∙ ap Some y)
      ∙ ap (λ (m : ℕ). at_or at end (drop m (b ∷ c ∷ t))) z)
      (cases_Bool (eqb b p)))
      (cases_Bool (eqb b 0x5C))

  -- where it refuses
  run-misses : (t : List ℕ) (a : ℕ) → taking p p false a t ≡ None → run p (escapable_of true) at wrong end t ≡ wrong
  unfolding taking
  run-misses [] a e = absurd (refused-taken a (sym e))
  run-misses (b ∷ []) a e =
      ⊎_elim
      (λ i. run_alone p (escapable_of true) at wrong end b i)
      (λ i. ⊎_elim
      (λ j. absurd (refused-taken a (sym e ∙ taking-here p a b [] i j)))
      (λ j. absurd (refused-taken (a + 1) (sym e ∙ taking-byte p a b [] i j)))
      (cases_Bool (eqb b p)))
      (cases_Bool (eqb b 0x5C))
  run-misses (b ∷ c ∷ t) a e =
      ⊎_elim
      (λ i. ⊎_elim
      (λ j. run-pair p (escapable_of true) at wrong end b c t i j ∙ run-misses t (a + 2) (sym (taking-pair p a b c t i j) ∙ e))
      (λ j. run-wrong p (escapable_of true) at wrong end b c t i j)
      (cases_Bool (is_escapable c)))
      (λ i. ⊎_elim
      (λ j. absurd (refused-taken a (sym e ∙ taking-here p a b (c ∷ t) i j)))
      (λ j. run-plain p (escapable_of true) at wrong end b (c ∷ t) i j ∙ run-misses (c ∷ t) (a + 1) (sym (taking-byte p a b (c ∷ t) i j) ∙ e))
      (cases_Bool (eqb b p)))
      (cases_Bool (eqb b 0x5C))

  -- the same of `escaped`
  run-escaped : (t : List ℕ) (n : ℕ) → escaped_of p p t ≡ Some n → run p (escapable_of true) at wrong end t ≡ at_or at end (drop n t)
  run-escaped t n e = run-taken t 0 n (taken-from p p 0 t n e)

-- Where a run says true before a name's end, the target behind it is refused.
plain-dead : (l : List ℕ) → starts_with (0x3A ∷ 0x20 ∷ []) l ≡ true → at_or plain_stop true l ≡ true → is_dead (drop 2 l) ≡ true
unfolding starts_with
plain-dead [] e f = absurd (false≢true e)
plain-dead (b ∷ l) e f = sym (ap (λ (x : Bool). not x || is_dead (drop 2 (b ∷ l))) e) ∙ f

quoted-dead : (l : List ℕ) → starts_with (0x60 ∷ 0x3A ∷ 0x20 ∷ []) l ≡ true → at_or quoted_stop true l ≡ true → is_dead (drop 3 l) ≡ true
unfolding starts_with
quoted-dead [] e f = absurd (false≢true e)
quoted-dead (b ∷ l) e f = sym (ap (λ (x : Bool). not x || is_dead (drop 3 (b ∷ l))) e) ∙ f

-- A plain name, where there is none in backticks.
module _ (r : List ℕ) (q : delimited_of (0x5F ∷ 0x60 ∷ []) 0x60 0x60 (0x60 ∷ 0x3A ∷ 0x20 ∷ []) (0x5F ∷ r) ≡ None) where
  begins : starts_with (0x5F ∷ []) (0x5F ∷ r) ≡ true
  unfolding starts_with
  begins = refl

  nameless : delimited_of (0x5F ∷ []) 0x3A 0x3A (0x3A ∷ 0x20 ∷ []) (0x5F ∷ r) ≡ None → Unnamed (0x5F ∷ r)
  nameless e label size = named_none label (0x5F ∷ r) size (parse-none label (0x5F ∷ r) (name-plain (0x5F ∷ r) q ∙ plain-none (0x5F ∷ r) e))

  plain-refused : escaped_of 0x3A 0x3A r ≡ None → Unnamed (0x5F ∷ r)
  plain-refused e = nameless (delimited-refused (0x5F ∷ []) 0x3A 0x3A (0x3A ∷ 0x20 ∷ []) (0x5F ∷ r) r begins refl e)

  plain-unnamed : plain_run r ≡ true → Unnamed (0x5F ∷ r)
  plain-unnamed f label size = go (escaped_of 0x3A 0x3A r) refl
    where
      closed : (n : ℕ) → escaped_of 0x3A 0x3A r ≡ Some n → starts_with (0x3A ∷ 0x20 ∷ []) (drop n r) ≡ true → named_of label (0x5F ∷ r) size ≡ none
      closed n e g =
          let z : suc (n + 2) ≡ n + 3 = omega arith in
          named-refused (0x5F ∷ r) size _ (n + 3) (drop 2 (drop n r))
          (name-plain (0x5F ∷ r) q ∙ plain-named (0x5F ∷ r) n (delimited-taken (0x5F ∷ []) 0x3A 0x3A (0x3A ∷ 0x20 ∷ []) (0x5F ∷ r) r begins refl n _ e refl g))
          (drop-drop 2 n r ∙ ap (λ (j : ℕ). drop j (0x5F ∷ r)) z) _
          (dead-refused (drop 2 (drop n r)) (plain-dead (drop n r) g (sym (run-escaped 0x3A plain_stop true true r n e) ∙ f))) label

      go : (x : Option ℕ) → escaped_of 0x3A 0x3A r ≡ x → named_of label (0x5F ∷ r) size ≡ none
      go (Some n) e =
          ⊎_elim
          (λ g. closed n e g)
          (λ g. nameless (delimited-unclosed (0x5F ∷ []) 0x3A 0x3A (0x3A ∷ 0x20 ∷ []) (0x5F ∷ r) r begins refl n _ e refl g) label size)
          (cases_Bool (starts_with (0x3A ∷ 0x20 ∷ []) (drop n r)))
      go None e = plain-refused e label size

pub unnamed-plain : (r : List ℕ) → starts_with (0x60 ∷ []) r ≡ false → plain_run r ≡ true → Unnamed (0x5F ∷ r)
unfolding starts_with
unnamed-plain r e = plain-unnamed r (delimited-none (0x5F ∷ 0x60 ∷ []) 0x60 0x60 (0x60 ∷ 0x3A ∷ 0x20 ∷ []) (0x5F ∷ r) e)

-- a name is not empty
pub unnamed-empty : (r : List ℕ) → Unnamed (0x5F ∷ 0x3A ∷ r)
unfolding starts_with is_stop
unnamed-empty r =
    plain-refused (0x3A ∷ r)
    (delimited-none (0x5F ∷ 0x60 ∷ []) 0x60 0x60 (0x60 ∷ 0x3A ∷ 0x20 ∷ []) (0x5F ∷ 0x3A ∷ r) refl)
    (first-stop 0x3A 0x3A (0x3A ∷ r) (omega arith) refl)

-- A name in backticks.
module _ (r : List ℕ) (f : quoted_run r ≡ true) where
  ticked : starts_with (0x5F ∷ 0x60 ∷ []) (0x5F ∷ 0x60 ∷ r) ≡ true
  unfolding starts_with
  ticked = refl

  -- where an empty one is closed the run over a plain name ends behind it
  empty-plain : starts_with (0x60 ∷ 0x3A ∷ 0x20 ∷ []) r ≡ true → plain_run (0x60 ∷ r) ≡ true
  unfolding run starts_with
  empty-plain e = subst⁻¹ (λ (t : List ℕ). quoted_run t ≡ true → plain_run (0x60 ∷ t) ≡ true) (starts_is (0x60 ∷ 0x3A ∷ 0x20 ∷ []) r e) (λ h. h) f

  quoted-refused : escaped_of 0x60 0x60 r ≡ None → (plain_run (0x60 ∷ r) ≡ true) ⊎ (closed_run r ≡ true) → Unnamed (0x5F ∷ 0x60 ∷ r)
  unfolding escaped_of
  quoted-refused e g =
      plain-unnamed (0x60 ∷ r)
      (delimited-refused (0x5F ∷ 0x60 ∷ []) 0x60 0x60 (0x60 ∷ 0x3A ∷ 0x20 ∷ []) (0x5F ∷ 0x60 ∷ r) r ticked refl e)
      (⊎_elim (λ h. h) (λ h. empty-plain (closed r e h)) g)
    where
      closed : (t : List ℕ) → escaped_of 0x60 0x60 t ≡ None → closed_run t ≡ true → starts_with (0x60 ∷ 0x3A ∷ 0x20 ∷ []) t ≡ true
      closed [] i h = absurd (refused-taken 0 (sym i))
      closed (b ∷ t) i h =
          ⊎_elim
          (λ j.
          let y : b ≡ 0x60 = eqb-true b 0x60 (sym (stop-one 0x60 b) ∙ j) in
          sym (run-stop 0x60 (escapable_of true) closed_stop false false b t (ne_eqb b 0x5C (λ z. omega (arith, y, z))) (eq-eqb b 0x60 y)) ∙ h)
          (λ j. absurd (false≢true (sym (run-misses 0x60 closed_stop false false (b ∷ t) 0 (sym (first-other 0x60 0x60 (b ∷ t) (omega arith) j) ∙ i)) ∙ h)))
          (cases_Bool (is_stop 0x60 0x60 b))

  module _ (n : ℕ) (e : escaped_of 0x60 0x60 r ≡ Some n) where
    quoted-closed : starts_with (0x60 ∷ 0x3A ∷ 0x20 ∷ []) (drop n r) ≡ true → Unnamed (0x5F ∷ 0x60 ∷ r)
    quoted-closed g label size =
        let z : suc (suc (n + 3)) ≡ n + 5 = omega arith in
        named-refused (0x5F ∷ 0x60 ∷ r) size _ (n + 5) (drop 3 (drop n r))
        (name-quoted (0x5F ∷ 0x60 ∷ r) n (delimited-taken (0x5F ∷ 0x60 ∷ []) 0x60 0x60 (0x60 ∷ 0x3A ∷ 0x20 ∷ []) (0x5F ∷ 0x60 ∷ r) r ticked refl n _ e refl g))
        (drop-drop 3 n r ∙ ap (λ (j : ℕ). drop j (0x5F ∷ 0x60 ∷ r)) z) _
        (dead-refused (drop 3 (drop n r)) (quoted-dead (drop n r) g (sym (run-escaped 0x60 quoted_stop true true r n e) ∙ f))) label

    quoted-open : starts_with (0x60 ∷ 0x3A ∷ 0x20 ∷ []) (drop n r) ≡ false → (plain_run (0x60 ∷ r) ≡ true) ⊎ (closed_run r ≡ true) → Unnamed (0x5F ∷ 0x60 ∷ r)
    quoted-open g h =
        plain-unnamed (0x60 ∷ r)
        (delimited-unclosed (0x5F ∷ 0x60 ∷ []) 0x60 0x60 (0x60 ∷ 0x3A ∷ 0x20 ∷ []) (0x5F ∷ 0x60 ∷ r) r ticked refl n _ e refl g)
        (⊎_elim (λ i. i) (λ i. absurd (unclosed (drop n r) g (sym (run-escaped 0x60 closed_stop false false r n e) ∙ i))) h)
      where
        unclosed : (l : List ℕ) → starts_with (0x60 ∷ 0x3A ∷ 0x20 ∷ []) l ≡ false → at_or closed_stop false l ≡ true → ⊥
        unclosed [] i j = false≢true j
        unclosed (b ∷ l) i j = false≢true (sym i ∙ j)

pub unnamed-quoted : (r : List ℕ) → quoted_run r ≡ true → (plain_run (0x60 ∷ r) ≡ true) ⊎ (closed_run r ≡ true) → Unnamed (0x5F ∷ 0x60 ∷ r)
unnamed-quoted r f g = go (escaped_of 0x60 0x60 r) refl
  where
    go : (x : Option ℕ) → escaped_of 0x60 0x60 r ≡ x → Unnamed (0x5F ∷ 0x60 ∷ r)
    go (Some n) e =
        ⊎_elim
        (λ h. quoted-closed r f n e h)
        (λ h. quoted-open r f n e h g)
        (cases_Bool (starts_with (0x60 ∷ 0x3A ∷ 0x20 ∷ []) (drop n r)))
    go None e = quoted-refused r f e g
