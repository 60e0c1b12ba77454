-- The verdicts of a state at a byte of a line, by those at the next places: a byte that is no stop of a run and no backslash is passed; at a stop it
-- is the first bytes of the text that say it, and these are those of the line, or where the line ends a space or nothing.
-- Assumes nothing.
use Rattle.std.proofs.Common.{Option, Some, None}
use Rattle.std.proofs.Common.{◌≡◌, ℕ, ◌<◌, List, [], ◌∷◌, Bool, true, false, ◌&&◌, ◌⊎◌, inl, inr, ⊎_elim, length, get_or, drop, refl, sym, ap, subst, ◌∙◌, eqb, ne_eqb, arith}
use Rattle.std.proofs.lemmas.Bool.{and_parts, true≢false, cases_Bool}
use mathlib.Core.Bool.{◌||◌, not}
use mathlib.Core.Path.{subst⁻¹}
use Rattle.rst_bytes.specs.Line.{not_line_ending_of}
use Rattle.rst_bytes.specs.Tag.{starts_with}
use Rattle.rst_bytes.proofs.Lists.{drop-two}
use Rattle.rst_bytes.proofs.TestLaws.{by-test}
use Rattle.rst_bytes.proofs.EscapedLaws.{taken_is}
use Rattle.restructured_text.specs.Block.{further_of}
use Rattle.targetless.specs.declared.verdict.Verdict.{Verdict}
use Rattle.targetless.specs.declared.state.State.{State}
use Rattle.targetless.specs.Verdict.{joined_of, ends_line, OfText, Tells, everything, both_of, run}
use Rattle.targetless.specs.Runs.{escapable_of, word_labelled, is_dead, destination_run, label_stop, no_label, more, plain_stop, line_stop, plain_run, quoted_stop, closed_stop, StateTells}
use Rattle.targetless.proofs.TextLaws.{first-is, text-byte, text-end, text-further, line-stops}
use Rattle.targetless.proofs.VerdictLaws.{tells_all, tells-from, tells_both, tells-cons, tells-front, run-plain, tells-plain, tells-stop, further-end, line-last}
use Rattle.targetless.proofs.RunLaws.{dead-unlabelled, dead-two-ticks, dead-ticked}
use Rattle.targetless.proofs.WordLaws.{word-joined}
use Rattle.targetless.proofs.SizeLaws.{none, sized-byte, sized-tick}

-- a byte that is neither LF nor CR
not-lf : (b : ℕ) → ends_line b ≡ false → b ≡ 10 → ⊥
not-lf b e f = absurd (true≢false (sym (rw f refl) ∙ e))

-- The text that begins where a line ends.
module _ (indent : List ℕ) (b : ℕ) (l : List ℕ) (n : ℕ) (e : ends_line b ≡ true) (t : not_line_ending_of (b ∷ l) ≡ Some n) where
  zero-here : joined_of indent n (b ∷ l) ≡ joined_of indent 0 (b ∷ l)
  zero-here = ap (λ (m : ℕ). joined_of indent m (b ∷ l)) (line-stops b l n e t)

  -- where no further line follows
  pub text-alone : further_of indent (b ∷ l) ≡ None → joined_of indent n (b ∷ l) ≡ []
  text-alone f = zero-here ∙ text-end indent (b ∷ l) f

  -- or one does
  pub text-ended : (joined_of indent n (b ∷ l) ≡ []) ⊎ ((r : List ℕ) × (joined_of indent n (b ∷ l) ≡ 0x20 ∷ r))
  text-ended = go (further_of indent (b ∷ l)) refl
    where
      go : (x : Option (ℕ × ℕ)) → further_of indent (b ∷ l) ≡ x → (joined_of indent n (b ∷ l) ≡ []) ⊎ ((r : List ℕ) × (joined_of indent n (b ∷ l) ≡ 0x20 ∷ r))
      go (Some (a, m)) f = inr (joined_of indent m (drop a (b ∷ l)), zero-here ∙ text-further indent (b ∷ l) a m f)
      go None f = inl (text-alone f)

-- one byte at the front
pub starts-one : (c b : ℕ) (r : List ℕ) → starts_with (c ∷ []) (b ∷ r) ≡ eqb b c
unfolding starts_with
starts-one c b r = by-test (λ x. x ≡ eqb b c) (eqb b c) _ _ (λ e. sym e) (λ e. sym e)

-- The text's end.
text-none : (indent : List ℕ) → OfText (λ t. t ≡ []) indent []
text-none indent n e = zero_is n (sym (taken_is n 0 (sym e ∙ line-last)))
  where
    zero_is : (n : ℕ) → 0 ≡ n → joined_of indent n [] ≡ []
    zero_is n z = ap (λ (m : ℕ). joined_of indent m []) (sym z) ∙ text-end indent [] (further-end indent)

-- With a byte that is no space a text begins only if the line does.
pub first-not : (c : ℕ) (l : List ℕ) → (c ≡ 0x20 → ⊥) → (0 < length l → get_or l 0 0 ≡ c → ⊥) → (indent : List ℕ) → OfText (λ t. starts_with (c ∷ []) t ≡ false) indent l
unfolding starts_with
first-not c [] f h indent n e = ap (starts_with (c ∷ [])) (text-none indent n e)
first-not c (b ∷ l) f h indent n e =
    ⊎_elim
    (λ g. ⊎_elim
    (λ z. ap (starts_with (c ∷ [])) z)
    (λ z. ap (starts_with (c ∷ [])) z.1 ∙ starts-one c 0x20 z.0 ∙ ne_eqb 0x20 c (λ (x : 0x20 ≡ c). f (sym x)))
    (text-ended indent b l n g e))
    (λ g.
    let z = text-byte b l g indent n e in
    ap (starts_with (c ∷ [])) z.2 ∙ starts-one c b (joined_of indent z.0 l) ∙ ne_eqb b c (h (omega arith)))
    (cases_Bool (ends_line b))

module _ {ranks : List ℕ} where
  -- what is told of each text with the byte in front
  tells-each : (f : List ℕ → Bool) (b : ℕ) (l : List ℕ) → ends_line b ≡ false → ((indent : List ℕ) → OfText (λ t. f (b ∷ t) ≡ true) indent l) → Tells ranks f everything (b ∷ l)
  tells-each f b l e h =
      tells_all f everything (b ∷ l) (λ indent n t.
      let z = text-byte b l e indent n t in
      ap f z.2 ∙ h indent z.0 z.1)

  -- A byte that is passed.
  pub state-passed :
      (x : State) (b : ℕ) (l : List ℕ) → ends_line b ≡ false → (b ≡ 0x5C → ⊥) → (b ≡ 0x60 → ⊥) → (b ≡ 0x3A → ⊥) → StateTells ranks x l
      → (t : Verdict) → Tells ranks is_dead t (b ∷ l) → StateTells ranks (record x { target = t; size = more x.size 1 }) (b ∷ l)
  state-passed x b l e f g h p t d =
      record {
        destination = tells-plain 10 (escapable_of false) (λ t. false) true false x.destination b l e f (not-lf b e) p.destination;
        label = tells-plain 0x60 (escapable_of false) label_stop true true x.label b l e f g p.label;
        plain = tells-plain 0x3A (escapable_of true) plain_stop true true x.plain b l e f h p.plain;
        quoted = tells-plain 0x60 (escapable_of true) quoted_stop true true x.quoted b l e f g p.quoted;
        closed = tells-plain 0x60 (escapable_of true) closed_stop false false x.closed b l e f g p.closed;
        target = d;
        size = sized-byte x.size b l e f g p.size;
      }

  -- A destination goes on behind it.
  destination-passed : (v : Verdict) (b : ℕ) (l : List ℕ) → ends_line b ≡ false → (b ≡ 0x5C → ⊥) → Tells ranks destination_run v l → Tells ranks destination_run v (b ∷ l)
  destination-passed v b l e f t = tells-plain 10 (escapable_of false) (λ t. false) true false v b l e f (not-lf b e) t

module _ {ranks : List ℕ} (l : List ℕ) where
  -- The stops, where a backtick stands in front.
  pub state-tick :
      (x : State) (a q c t : Verdict) → StateTells ranks x l → Tells ranks label_stop a (0x60 ∷ l) → Tells ranks quoted_stop q (0x60 ∷ l) → Tells ranks closed_stop c (0x60 ∷ l)
      → Tells ranks is_dead t (0x60 ∷ l) → StateTells ranks (record x { label = a; quoted = q; closed = c; target = t; size = none }) (0x60 ∷ l)
  state-tick x a q c t p i j k d =
      record {
        destination = destination-passed x.destination 0x60 l refl (λ e. omega (arith, e)) p.destination;
        label = tells-stop 0x60 (escapable_of false) label_stop true true a l refl (λ e. omega (arith, e)) i;
        plain = tells-plain 0x3A (escapable_of true) plain_stop true true x.plain 0x60 l refl (λ e. omega (arith, e)) (λ e. omega (arith, e)) p.plain;
        quoted = tells-stop 0x60 (escapable_of true) quoted_stop true true q l refl (λ e. omega (arith, e)) j;
        closed = tells-stop 0x60 (escapable_of true) closed_stop false false c l refl (λ e. omega (arith, e)) k;
        target = d;
        size = sized-tick l;
      }

  -- no `_` stands behind it
  pub label-open : (0 < length l → get_or l 0 0 ≡ 0x5F → ⊥) → Tells ranks label_stop everything (0x60 ∷ l)
  unfolding starts_with
  label-open h = tells-each label_stop 0x60 l refl (λ indent n t. ap not (first-not 0x5F l (λ e. omega (arith, e)) h indent n t))

  -- no colon does: it closes no name
  pub quoted-open : (0 < length l → get_or l 0 0 ≡ 0x3A → ⊥) → Tells ranks quoted_stop everything (0x60 ∷ l)
  unfolding starts_with
  quoted-open h = tells-each quoted_stop 0x60 l refl (λ indent n t. other (joined_of indent n l) (first-not 0x3A l (λ e. omega (arith, e)) h indent n t))
    where
      other : (r : List ℕ) → starts_with (0x3A ∷ []) r ≡ false → quoted_stop (0x60 ∷ r) ≡ true
      other [] q = refl
      other (b ∷ r) q = ap (λ (x : Bool). not (elim x [ true ↦ starts_with (0x20 ∷ []) r | false ↦ false ]) || is_dead (drop 1 r)) (sym (starts-one 0x3A b r) ∙ q)

  -- one does: the next place's plain name ends there, or has a target that is refused
  pub quoted-plain : (v : Verdict) → 0 < length l → get_or l 0 0 ≡ 0x3A → Tells ranks plain_run v l → Tells ranks quoted_stop v (0x60 ∷ l)
  unfolding starts_with run
  quoted-plain v h e t =
      let is = first-is l 0x3A h e in
      tells-cons quoted_stop (λ r. quoted_stop (0x60 ∷ r)) v 0x60 l refl (λ r k. k)
      (subst⁻¹ (Tells ranks (λ r. quoted_stop (0x60 ∷ r)) v) is (tells-front (λ r. quoted_stop (0x60 ∷ r)) plain_run v 0x3A (drop 1 l) refl same (subst (Tells ranks plain_run v) is t)))
    where
      same : (r : List ℕ) → plain_run (0x3A ∷ r) ≡ true → quoted_stop (0x60 ∷ 0x3A ∷ r) ≡ true
      same [] q = q
      same (b ∷ r) q = q

  -- a colon and a space do: it closes a name
  pub closed-tick : 1 < length l → get_or l 0 0 ≡ 0x3A → get_or l 1 0 ≡ 0x20 → Tells ranks closed_stop everything (0x60 ∷ l)
  unfolding starts_with
  closed-tick h e f =
      let is : l ≡ 0x3A ∷ 0x20 ∷ drop 2 l = drop-two l 0 h ∙ ap (λ (b : ℕ). b ∷ get_or l 1 0 ∷ drop 2 l) e ∙ ap (λ (b : ℕ). 0x3A ∷ b ∷ drop 2 l) f in
      subst⁻¹ (λ (r : List ℕ). Tells ranks closed_stop everything (0x60 ∷ r)) is
      (tells-each closed_stop 0x60 (0x3A ∷ 0x20 ∷ drop 2 l) refl (λ indent n t.
      let y = text-byte 0x3A (0x20 ∷ drop 2 l) refl indent n t in
      let z = text-byte 0x20 (drop 2 l) refl indent y.0 y.1 in
      ap (λ (r : List ℕ). closed_stop (0x60 ∷ r)) (y.2 ∙ ap (λ (r : List ℕ). 0x3A ∷ r) z.2)))

  -- A target behind a space that begins with a backtick: two of them are no label; else it is a label's or a destination.
  pub target-two : (v : Verdict) → 0 < length l → get_or l 0 0 ≡ 0x60 → Tells ranks destination_run v l → Tells ranks is_dead v (0x60 ∷ l)
  target-two v h e t =
      let is = first-is l 0x60 h e in
      subst⁻¹ (λ (r : List ℕ). Tells ranks is_dead v (0x60 ∷ r)) is
      (tells-cons is_dead (λ r. is_dead (0x60 ∷ r)) v 0x60 (0x60 ∷ drop 1 l) refl (λ r k. k)
      (tells-front (λ r. is_dead (0x60 ∷ r)) destination_run v 0x60 (drop 1 l) refl
      (λ r k. dead-two-ticks r (run-plain 10 (escapable_of false) (λ t. false) true false 0x60 (0x60 ∷ r) refl refl ∙ k))
      (subst (Tells ranks destination_run v) is t)))

  pub target-ticked : (a b : Verdict) → Tells ranks destination_run a l → Tells ranks no_label b l → Tells ranks is_dead (both_of a b) (0x60 ∷ l)
  target-ticked a b g j =
      tells-cons is_dead (λ t. destination_run t && no_label t) (both_of a b) 0x60 l refl
      (λ t p.
      let q = and_parts _ _ p in
      dead-ticked t (run-plain 10 (escapable_of false) (λ t. false) true false 0x60 t refl refl ∙ q.0) q.1)
      (tells_both destination_run no_label a b l g j)

  -- Another target, where no word that is a label begins.
  pub target-other : (v : Verdict) (b : ℕ) → ends_line b ≡ false → (b ≡ 0x60 → ⊥) → word_labelled (b ∷ l) ≡ false → Tells ranks destination_run v (b ∷ l) → Tells ranks is_dead v (b ∷ l)
  target-other v b e f k t =
      tells-from destination_run is_dead v (b ∷ l) t (λ indent n h p.
      let z = text-byte b l e indent n h in
      dead-unlabelled (joined_of indent n (b ∷ l)) (ap (starts_with (0x60 ∷ [])) z.2 ∙ starts-one 0x60 b (joined_of indent z.0 l) ∙ ne_eqb _ _ f) (word-joined indent (b ∷ l) n h k) p)

  -- The stop, where a colon stands in front.
  pub state-colon :
      (x : State) (a t : Verdict) → StateTells ranks x l → Tells ranks plain_stop a (0x3A ∷ l) → Tells ranks is_dead t (0x3A ∷ l)
      → StateTells ranks (record x { plain = a; target = t; size = more x.size 1 }) (0x3A ∷ l)
  state-colon x a t p i d =
      record {
        destination = destination-passed x.destination 0x3A l refl (λ e. omega (arith, e)) p.destination;
        label = tells-plain 0x60 (escapable_of false) label_stop true true x.label 0x3A l refl (λ e. omega (arith, e)) (λ e. omega (arith, e)) p.label;
        plain = tells-stop 0x3A (escapable_of true) plain_stop true true a l refl (λ e. omega (arith, e)) i;
        quoted = tells-plain 0x60 (escapable_of true) quoted_stop true true x.quoted 0x3A l refl (λ e. omega (arith, e)) (λ e. omega (arith, e)) p.quoted;
        closed = tells-plain 0x60 (escapable_of true) closed_stop false false x.closed 0x3A l refl (λ e. omega (arith, e)) (λ e. omega (arith, e)) p.closed;
        target = d;
        size = sized-byte x.size 0x3A l refl (λ e. omega (arith, e)) (λ e. omega (arith, e)) p.size;
      }

  -- a space stands behind it, and the target
  pub plain-target : (v : Verdict) → 0 < length l → get_or l 0 0 ≡ 0x20 → Tells ranks is_dead v (drop 1 l) → Tells ranks plain_stop v (0x3A ∷ l)
  unfolding starts_with
  plain-target v h e t =
      tells-cons plain_stop (λ r. plain_stop (0x3A ∷ r)) v 0x3A l refl (λ r k. k)
      (subst⁻¹ (Tells ranks (λ r. plain_stop (0x3A ∷ r)) v) (first-is l 0x20 h e) (tells-cons (λ r. plain_stop (0x3A ∷ r)) is_dead v 0x20 (drop 1 l) refl (λ r k. k) t))

  -- the line's end: what stands behind the colon tells
  pub plain-line : (v : Verdict) → Tells ranks line_stop v l → Tells ranks plain_stop v (0x3A ∷ l)
  plain-line v t = tells-cons plain_stop line_stop v 0x3A l refl (λ r k. k) t

module _ {ranks : List ℕ} where
  -- neither stands behind it
  pub plain-open : (l : List ℕ) → (0 < length l → (get_or l 0 0 ≡ 0x20 → ⊥) × (ends_line (get_or l 0 0) ≡ false)) → Tells ranks plain_stop everything (0x3A ∷ l)
  unfolding starts_with
  plain-open [] h = tells-each plain_stop 0x3A [] refl (λ indent n t. ap (λ (r : List ℕ). plain_stop (0x3A ∷ r)) (text-none indent n t))
  plain-open (b ∷ l) h =
      let w = h (omega arith) in
      tells-each plain_stop 0x3A (b ∷ l) refl (λ indent n t.
      let z = text-byte b l w.1 indent n t in
      ap (λ (r : List ℕ). plain_stop (0x3A ∷ r)) z.2 ∙ ap (λ (x : Bool). not (elim x [ true ↦ true | false ↦ false ]) || is_dead (joined_of indent z.0 l)) (ne_eqb b 0x20 w.0))

  -- another target, by the text's first byte
  pub target-plain :
      (s : List ℕ) (v : Verdict) → 0 < length s → ends_line (get_or s 0 0) ≡ false → (get_or s 0 0 ≡ 0x5C → ⊥) → (get_or s 0 0 ≡ 0x60 → ⊥) → word_labelled s ≡ false
      → Tells ranks destination_run v (drop 1 s) → Tells ranks is_dead v s
  target-plain [] v h e f g k t = absurd (omega arith)
  target-plain (b ∷ l) v h e f g k t = target-other l v b e g k (destination-passed v b l e f t)
