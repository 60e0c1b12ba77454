-- What is kept at a backslash, by what stands behind it: the runs over names and over destinations go on behind the byte that it takes along, end there,
-- or are wrong; and no label begins with it.
-- Assumes nothing.
use Rattle.std.proofs.Common.{◌≡◌, ℕ, ◌<◌, List, [], ◌∷◌, Bool, true, false, ⊎_elim, length, get_or, drop, subst, refl, sym, ap, ◌∙◌, eqb, eqb-true, arith}
use mathlib.Core.Path.{subst⁻¹}
use Rattle.std.proofs.lemmas.Bool.{true≢false, false_from_ne_true}
use Rattle.rst_bytes.specs.Escaped.{is_escapable}
use Rattle.rst_bytes.specs.Word.{is_ascii_word}
use Rattle.rst_bytes.proofs.TestLaws.{or_cases}
use Rattle.restructured_text.specs.Transform.{is_destination_escapable}
use Rattle.targetless.specs.declared.verdict.Verdict.{Verdict}
use Rattle.targetless.specs.declared.state.State.{State}
use Rattle.targetless.specs.Verdict.{ends_line, everything, lone_of, Tells}
use Rattle.targetless.specs.Runs.{escapable_of, is_dead, destination_run, label_stop, plain_stop, quoted_stop, closed_stop, more, StateTells, wrong_of, ended_of, paired_of}
use Rattle.targetless.proofs.TextLaws.{first-is}
use Rattle.targetless.proofs.VerdictLaws.{escape-last, escape-line, escape-pair, escape-wrong}
use Rattle.targetless.proofs.RunLaws.{word-other}
use Rattle.targetless.proofs.StateLaws.{target-other}
use Rattle.targetless.proofs.SizeLaws.{sized-last, sized-line, sized-pair, sized-wrong}

-- what may be escaped in a destination may be in a name
destination-name : (c : ℕ) → is_destination_escapable c ≡ true → is_escapable c ≡ true
unfolding is_destination_escapable is_escapable
destination-name c e =
    ⊎_elim (at 0x20 refl) (λ f. ⊎_elim (at 0x3A refl) (λ g. ⊎_elim (at 0x60 refl) (λ h. ⊎_elim (at 0x3C refl) (λ i. ⊎_elim (at 0x3E refl) (λ j. ⊎_elim (at 0x5C refl) (λ k. absurd (true≢false (sym k))) (or_cases (eqb c 0x5C) _ j)) (or_cases (eqb c 0x3E) _ i)) (or_cases (eqb c 0x3C) _ h)) (or_cases (eqb c 0x60) _ g)) (or_cases (eqb c 0x3A) _ f)) (or_cases (eqb c 0x20) _ e)
  where
    at : (n : ℕ) → is_escapable n ≡ true → eqb c n ≡ true → is_escapable c ≡ true
    at n w f = ap is_escapable (eqb-true c n f) ∙ w

-- what may not be in a name may not be in a destination
name-destination : (c : ℕ) → is_escapable c ≡ false → is_destination_escapable c ≡ false
name-destination c e = false_from_ne_true (is_destination_escapable c) (λ f. true≢false (sym (destination-name c f) ∙ e))

module _ {ranks : List ℕ} where
  -- no label begins there
  slash-dead : (v : Verdict) (l : List ℕ) → Tells ranks destination_run v (0x5C ∷ l) → Tells ranks is_dead v (0x5C ∷ l)
  unfolding is_ascii_word
  slash-dead v l t = target-other l v 0x5C refl (λ e. omega (arith, e)) (word-other 0x5C l (omega arith) refl) t

  -- before a line's end
  ended-tells : (near : State) (c : ℕ) (l : List ℕ) → ends_line c ≡ true → StateTells ranks near (c ∷ l) → StateTells ranks (ended_of near (more near.size 1)) (0x5C ∷ c ∷ l)
  unfolding is_escapable is_destination_escapable
  ended-tells near c l e p =
      let d = escape-line 10 (escapable_of false) (λ t. false) true false refl (λ x. omega (arith, x)) near.destination c l e p.destination in
      record {
        destination = d;
        label = escape-line 0x60 (escapable_of false) label_stop true true refl (λ x. omega (arith, x)) near.label c l e p.label;
        plain = escape-line 0x3A (escapable_of true) plain_stop true true refl (λ x. omega (arith, x)) near.plain c l e p.plain;
        quoted = escape-line 0x60 (escapable_of true) quoted_stop true true refl (λ x. omega (arith, x)) near.quoted c l e p.quoted;
        closed = escape-line 0x60 (escapable_of true) closed_stop false false refl (λ x. omega (arith, x)) near.closed c l e p.closed;
        target = slash-dead (lone_of near.destination true) (c ∷ l) d;
        size = sized-line near.size c l e p.size;
      }

module _ {ranks : List ℕ} (c : ℕ) (l : List ℕ) (e : ends_line c ≡ false) where
  -- before a byte that it takes along in names, and in destinations too
  paired-tells : (far : State) → is_escapable c ≡ true → StateTells ranks far l → StateTells ranks (paired_of far (is_destination_escapable c) (more far.size 2)) (0x5C ∷ c ∷ l)
  unfolding is_escapable is_destination_escapable
  paired-tells far g p = go (is_destination_escapable c) refl
    where
      go : (x : Bool) → is_destination_escapable c ≡ x → StateTells ranks (paired_of far x (more far.size 2)) (0x5C ∷ c ∷ l)
      go true k =
          let d = escape-pair 10 (escapable_of false) (λ t. false) true false refl (λ x. omega (arith, x)) c l e far.destination k p.destination in
          record {
            destination = d;
            label = escape-pair 0x60 (escapable_of false) label_stop true true refl (λ x. omega (arith, x)) c l e far.label k p.label;
            plain = escape-pair 0x3A (escapable_of true) plain_stop true true refl (λ x. omega (arith, x)) c l e far.plain g p.plain;
            quoted = escape-pair 0x60 (escapable_of true) quoted_stop true true refl (λ x. omega (arith, x)) c l e far.quoted g p.quoted;
            closed = escape-pair 0x60 (escapable_of true) closed_stop false false refl (λ x. omega (arith, x)) c l e far.closed g p.closed;
            target = slash-dead far.destination (c ∷ l) d;
            size = sized-pair far.size c l e g p.size;
          }
      go false k =
          let d = escape-wrong 10 (escapable_of false) (λ t. false) true false refl (λ x. omega (arith, x)) c l e k in
          record {
            destination = d;
            label = escape-wrong 0x60 (escapable_of false) label_stop true true refl (λ x. omega (arith, x)) c l e k;
            plain = escape-pair 0x3A (escapable_of true) plain_stop true true refl (λ x. omega (arith, x)) c l e far.plain g p.plain;
            quoted = escape-pair 0x60 (escapable_of true) quoted_stop true true refl (λ x. omega (arith, x)) c l e far.quoted g p.quoted;
            closed = escape-pair 0x60 (escapable_of true) closed_stop false false refl (λ x. omega (arith, x)) c l e far.closed g p.closed;
            target = slash-dead everything (c ∷ l) d;
            size = sized-pair far.size c l e g p.size;
          }

-- What stands behind it, by its first byte.
module _ (l : List ℕ) (h : 0 < length l) where
  behind : l ≡ get_or l 0 0 ∷ drop 1 l
  behind = first-is l (get_or l 0 0) h refl

  module _ {ranks : List ℕ} where
    pub state-ended : (near : State) → ends_line (get_or l 0 0) ≡ true → StateTells ranks near l → StateTells ranks (ended_of near (more near.size 1)) (0x5C ∷ l)
    state-ended near e p =
        subst⁻¹ (λ (r : List ℕ). StateTells ranks (ended_of near (more near.size 1)) (0x5C ∷ r)) behind (ended-tells near (get_or l 0 0) (drop 1 l) e (subst (StateTells ranks near) behind p))

    pub state-paired :
        (far : State) → ends_line (get_or l 0 0) ≡ false → is_escapable (get_or l 0 0) ≡ true → StateTells ranks far (drop 1 l)
        → StateTells ranks (paired_of far (is_destination_escapable (get_or l 0 0)) (more far.size 2)) (0x5C ∷ l)
    state-paired far e g p =
        subst⁻¹ (λ (r : List ℕ). StateTells ranks (paired_of far (is_destination_escapable (get_or l 0 0)) (more far.size 2)) (0x5C ∷ r)) behind (paired-tells (get_or l 0 0) (drop 1 l) e far g p)

module _ {ranks : List ℕ} where
  -- as the last byte, or before another one
  pub state-wrong : (l : List ℕ) → (0 < length l → (ends_line (get_or l 0 0) ≡ false) × (is_escapable (get_or l 0 0) ≡ false)) → StateTells ranks wrong_of (0x5C ∷ l)
  unfolding is_escapable is_destination_escapable
  state-wrong [] h =
      let d = escape-last 10 (escapable_of false) (λ t. false) true false refl (λ x. omega (arith, x)) in
      record {
        destination = d;
        label = escape-last 0x60 (escapable_of false) label_stop true true refl (λ x. omega (arith, x));
        plain = escape-last 0x3A (escapable_of true) plain_stop true true refl (λ x. omega (arith, x));
        quoted = escape-last 0x60 (escapable_of true) quoted_stop true true refl (λ x. omega (arith, x));
        closed = escape-last 0x60 (escapable_of true) closed_stop false false refl (λ x. omega (arith, x));
        target = slash-dead everything [] d;
        size = sized-last;
      }
  state-wrong (c ∷ l) h =
      let w = h (omega arith) in
      let e = w.0 in
      let k = name-destination c w.1 in
      let d = escape-wrong 10 (escapable_of false) (λ t. false) true false refl (λ x. omega (arith, x)) c l e k in
      record {
        destination = d;
        label = escape-wrong 0x60 (escapable_of false) label_stop true true refl (λ x. omega (arith, x)) c l e k;
        plain = escape-wrong 0x3A (escapable_of true) plain_stop true true refl (λ x. omega (arith, x)) c l e w.1;
        quoted = escape-wrong 0x60 (escapable_of true) quoted_stop true true refl (λ x. omega (arith, x)) c l e w.1;
        closed = escape-wrong 0x60 (escapable_of true) closed_stop false false refl (λ x. omega (arith, x)) c l e w.1;
        target = slash-dead everything (c ∷ l) d;
        size = sized-wrong c l e w.1;
      }
