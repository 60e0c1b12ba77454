-- What is kept at a place is true of it if what is kept at the next one is: at the text's end and where the next line is refused no line follows; over a
-- line's end each run goes on, and a target that begins there is a destination, since a space stands before it. And the marks: none is set, or one more.
-- Assumes nothing.
use Rattle.std.proofs.Common.{◌≡◌, ℕ, suc, ◌+◌, ◌-◌, ◌<◌, List, [], ◌∷◌, Bool, true, false, Option, Some, None, ⊎_elim, length, get_or, drop, set, replicate, eqb, eqb-true, refl, sym, ap, subst, ◌∙◌, arith}
use Rattle.std.proofs.lemmas.Bool.{false≢true}
use Rattle.std.proofs.Math.Seq.{drop-length}
use mathlib.Core.Path.{subst⁻¹}
use lib.ListN.{length-replicate, get_or-replicate, get_or-eq_default}
use borrow.Author.Tests.{eqb-false, eq-eqb, ne_eqb}
use lib.Seq.{drop-drop, get_or-set_other}
use Rattle.rst_bytes.specs.Line.{is_space, space0_of, not_line_ending_of}
use Rattle.rst_bytes.specs.Tag.{starts_with}
use Rattle.rst_bytes.specs.Word.{is_ascii_word}
use Rattle.rst_bytes.proofs.Lists.{part-from}
use Rattle.rst_bytes.proofs.TestLaws.{lt-or-le, picks_first, picks_second}
use Rattle.rst_bytes.proofs.EscapedLaws.{refused-taken, taken_is}
use Rattle.restructured_text.specs.Block.{further_of}
use Rattle.restructured_text.proofs.BlockLaws.{from}
use Rattle.targetless.specs.declared.verdict.Verdict.{Verdict}
use Rattle.targetless.specs.declared.state.State.{State}
use Rattle.targetless.specs.declared.walk.Walk.{Walk}
use Rattle.targetless.specs.declared.indents.Indents.{Indents}
use denote.Bor.{Bor}
use Rattle.targetless.specs.Indents.{Rising}
use Rattle.targetless.specs.Targetless.{NoTarget, Marks}
use Rattle.targetless.specs.Verdict.{run, is_further, Blank, Shared, judged_of, joined_of, Tells, Follows, ends_line, is_lone, over_of, lone_of, everything, nothing}
use Rattle.targetless.specs.Runs.{escapable_of, is_dead, destination_run, label_run, label_stop, plain_run, plain_stop, quoted_run, quoted_stop, closed_run, closed_stop, line_stop, ended, StateTells}
use Rattle.targetless.specs.Walk.{ranks_of, last_of, over_line, stop_of, Lined, Walked}
use Rattle.targetless.proofs.TextLaws.{first-is, line_refused, line_taken, line-here, cr-refused, crlf-here}
use Rattle.targetless.proofs.BlankLaws.{blanks-more, blanks-none}
use Rattle.targetless.proofs.VerdictLaws.{tells-nothing, tells-refused, tells-from, tells-last, tells-over, tells-cr, run_none, lf-refused, follows-byte, follows-lf, follows-none, follows-cr, further-end, line-last}
use Rattle.targetless.proofs.RunLaws.{starts_is, word-other, dead-unlabelled}
use Rattle.targetless.proofs.SizeLaws.{sized-lf, sized-cr, sized-none, sized-refused}
use Rattle.targetless.proofs.StateLaws.{text-ended}
use Rattle.targetless.proofs.LineTargetLaws.{line-lone, line-front}

-- Where no further line follows.
module _ (s : List ℕ) (h : not_line_ending_of s ≡ Some 0) (f : (indent : List ℕ) → Blank indent → further_of indent s ≡ None) where
  -- nothing is left
  lined-last : Lined (Some 0) s
  lined-last =
      let z : length s - 0 ≡ length s = omega arith in
      ((0, h), omega arith, subst⁻¹ (λ (l : List ℕ). Follows l s) (ap (λ (k : ℕ). drop k s) z ∙ drop-length s) (follows-none s h f))

  module _ {ranks : List ℕ} where
    -- nothing is told where a verdict tells nothing of that
    tells-alone : (g : List ℕ → Bool) (v : Verdict) → is_lone v ≡ false → Tells ranks g v s
    tells-alone g v a =
        record {
          told = λ indent n blank e j.
              let y : further_of indent (drop n s) ≡ None = ap (λ (k : ℕ). further_of indent (drop k s)) (taken_is n 0 (sym e ∙ h)) ∙ f indent blank in
              absurd (false≢true (sym (ap (λ (x : Option (ℕ × ℕ)). judged_of ranks v (is_further x) (length indent)) y ∙ a) ∙ j));
        }

    -- all verdicts
    last-tells : StateTells ranks last_of s
    last-tells =
        record {
          destination = tells-last 10 (escapable_of false) (λ t. false) true false s h f;
          label = tells-last 0x60 (escapable_of false) label_stop true true s h f;
          plain = tells-last 0x3A (escapable_of true) plain_stop true true s h f;
          quoted = tells-last 0x60 (escapable_of true) quoted_stop true true s h f;
          closed = tells-last 0x60 (escapable_of true) closed_stop false false s h f;
          target = tells-alone is_dead (lone_of everything false) refl;
          size = sized-none s h f;
        }

-- at the text's end
pub walked_end : (x : Bor Indents) → Rising x.now.ranks → Walked (record { indents = x; near = last_of; far = last_of; stop = nothing; front = nothing; next = Some 0 }) []
walked_end x rising =
    let near = last-tells [] line-last (λ indent blank. further-end indent) in
    record {
      rising = rising;
      near = near;
      far = near;
      stop = tells-nothing line_stop [];
      front = tells-nothing is_dead _;
      next = lined-last [] line-last (λ indent blank. further-end indent);
    }

-- At a byte of a line.
module _ (b : ℕ) (l : List ℕ) where
  lined-byte : (next : Option ℕ) → ends_line b ≡ false → Lined next l → Lined next (b ∷ l)
  lined-byte None e w = line_refused b l e w
  lined-byte (Some n) e w =
      let y : suc (length l) - n ≡ suc (length l - n) = omega (arith, w.1) in
      ((_, line_taken b l e w.0.0 w.0.1), omega (arith, w.1), subst⁻¹ (λ (k : ℕ). Follows (drop k (b ∷ l)) (b ∷ l)) y (follows-byte (drop (length l - n) l) b l e w.2))

  -- The target behind the blanks: it is the place's own if no blank stands there, and else that of the next place.
  module _ {ranks : List ℕ} where
    front-here : (v : Verdict) → is_space b ≡ false → Tells ranks is_dead v (b ∷ l) → Tells ranks is_dead v (drop (space0_of (b ∷ l)) (b ∷ l))
    front-here v e t = subst⁻¹ (λ (k : ℕ). Tells ranks is_dead v (drop k (b ∷ l))) (blanks-none b l e) t

    front-blank : (v : Verdict) → is_space b ≡ true → Tells ranks is_dead v (drop (space0_of l) l) → Tells ranks is_dead v (drop (space0_of (b ∷ l)) (b ∷ l))
    front-blank v e t = subst⁻¹ (λ (k : ℕ). Tells ranks is_dead v (drop k (b ∷ l))) (blanks-more b l e) t

  module _ (w : Walk) (e : ends_line b ≡ false) (told : Walked w l) (a : State) (near : StateTells (ranks_of w) a (b ∷ l)) where
    blank-walked : is_space b ≡ true → Walked (record { indents = w.indents; near = a; far = w.near; stop = nothing; front = w.front; next = w.next }) (b ∷ l)
    blank-walked f = record { rising = told.rising; near = near; far = told.near; stop = tells-nothing line_stop (b ∷ l); front = front-blank w.front f told.front; next = lined-byte w.next e told.next }

    byte-walked : is_space b ≡ false → Walked (record { indents = w.indents; near = a; far = w.near; stop = nothing; front = a.target; next = w.next }) (b ∷ l)
    byte-walked f = record { rising = told.rising; near = near; far = told.near; stop = tells-nothing line_stop (b ∷ l); front = front-here a.target f near.target; next = lined-byte w.next e told.next }

-- the same by the text's first byte
module _ (s : List ℕ) (w : Walk) (a : State) where
  pub walked-blank :
      0 < length s → ends_line (get_or s 0 0) ≡ false → Walked w (drop 1 s) → StateTells (ranks_of w) a s → is_space (get_or s 0 0) ≡ true
      → Walked (record { indents = w.indents; near = a; far = w.near; stop = nothing; front = w.front; next = w.next }) s
  walked-blank h e told near f =
      let is = first-is s (get_or s 0 0) h refl in
      subst⁻¹ (Walked (record { indents = w.indents; near = a; far = w.near; stop = nothing; front = w.front; next = w.next })) is
      (blank-walked (get_or s 0 0) (drop 1 s) w e told a (subst (StateTells (ranks_of w) a) is near) f)

  pub walked-byte :
      0 < length s → ends_line (get_or s 0 0) ≡ false → Walked w (drop 1 s) → StateTells (ranks_of w) a s → is_space (get_or s 0 0) ≡ false
      → Walked (record { indents = w.indents; near = a; far = w.near; stop = nothing; front = a.target; next = w.next }) s
  walked-byte h e told near f =
      let is = first-is s (get_or s 0 0) h refl in
      subst⁻¹ (Walked (record { indents = w.indents; near = a; far = w.near; stop = nothing; front = a.target; next = w.next })) is
      (byte-walked (get_or s 0 0) (drop 1 s) w e told a (subst (StateTells (ranks_of w) a) is near) f)

-- At LF.

-- a destination that begins with a space
space-dead : (t r : List ℕ) → t ≡ 0x20 ∷ r → destination_run t ≡ true → is_dead t ≡ true
unfolding starts_with is_ascii_word
space-dead t r e f = ap is_dead e ∙ dead-unlabelled (0x20 ∷ r) refl (word-other 0x20 r (omega arith) refl) (sym (ap destination_run e) ∙ f)

-- one that is empty is not refused
empty-dead : (t : List ℕ) → t ≡ [] → destination_run t ≡ true → is_dead t ≡ true
empty-dead t e f = absurd (false≢true (sym (ap destination_run e ∙ run_none 10 (escapable_of false) (λ t. false) true false) ∙ f))

module _ {ranks : List ℕ} where
  -- a target that begins at a line's end is a destination
  ended-dead : (v : Verdict) (c : ℕ) (l : List ℕ) → ends_line c ≡ true → Tells ranks destination_run v (c ∷ l) → Tells ranks is_dead v (c ∷ l)
  ended-dead v c l e t =
      tells-from destination_run is_dead v (c ∷ l) t
      (λ indent n h f.
      ⊎_elim
      (λ z. empty-dead (joined_of indent n (c ∷ l)) z f)
      (λ z. space-dead (joined_of indent n (c ∷ l)) z.0 z.1 f)
      (text-ended indent c l n e h))

module _ (w : Walk) (l : List ℕ) (told : Walked w l) where
  -- before a line that is refused
  pub walked-alone : w.next ≡ None → Walked (record { indents = w.indents; near = last_of; far = w.near; stop = everything; front = nothing; next = Some 0 }) (10 ∷ l)
  walked-alone f =
      let refused = subst (λ (x : Option ℕ). Lined x l) f told.next in
      let none : (indent : List ℕ) → Blank indent → further_of indent (10 ∷ l) ≡ None = λ indent blank. lf-refused indent l blank refused in
      record {
        rising = told.rising;
        near = last-tells (10 ∷ l) (line-here l) none;
        far = told.near;
        stop = line-lone 10 l refl none everything;
        front = tells-nothing is_dead _;
        next = lined-last (10 ∷ l) (line-here l) none;
      }

  -- before one that is not
  module _ (n k : ℕ) (f : w.next ≡ Some n) (same : Shared k l (drop (length l - n) l)) where
    line : Lined (Some n) l
    line = subst (λ (x : Option ℕ). Lined x l) f told.next

    over-tells : (stop : ℕ) (ok : ℕ → Bool) (at : List ℕ → Bool) (wrong end : Bool) → (stop ≡ 0x20 → ⊥) → (stop ≡ 9 → ⊥) → (v : Verdict) → Tells (ranks_of w) (run stop ok at wrong end) v l → Tells (ranks_of w) (run stop ok at wrong end) (over_of (ranks_of w) v end k) (10 ∷ l)
    over-tells stop ok at wrong end space tab v t = tells-over stop ok at wrong end space tab told.rising v l (drop (length l - n) l) k line.0.0 line.0.1 line.2 same t

    near-tells : StateTells (ranks_of w) (over_line (ranks_of w) w.near k (ended w.near.size)) (10 ∷ l)
    near-tells =
        let p = told.near in
        let d = over-tells 10 (escapable_of false) (λ t. false) true false (λ x. omega (arith, x)) (λ x. omega (arith, x)) w.near.destination p.destination in
        record {
          destination = d;
          label = over-tells 0x60 (escapable_of false) label_stop true true (λ x. omega (arith, x)) (λ x. omega (arith, x)) w.near.label p.label;
          plain = over-tells 0x3A (escapable_of true) plain_stop true true (λ x. omega (arith, x)) (λ x. omega (arith, x)) w.near.plain p.plain;
          quoted = over-tells 0x60 (escapable_of true) quoted_stop true true (λ x. omega (arith, x)) (λ x. omega (arith, x)) w.near.quoted p.quoted;
          closed = over-tells 0x60 (escapable_of true) closed_stop false false (λ x. omega (arith, x)) (λ x. omega (arith, x)) w.near.closed p.closed;
          target = ended-dead (over_of (ranks_of w) w.near.destination false k) 10 l refl d;
          size = sized-lf w.near.size l line.0.0 line.0.1 p.size;
        }

    pub walked-lf :
        (a : State) (u : Verdict) → a ≡ over_line (ranks_of w) w.near k (ended w.near.size) → u ≡ stop_of (ranks_of w) (space0_of l) k a.destination w.front
        → Walked (record { indents = w.indents; near = a; far = w.near; stop = u; front = a.target; next = Some (length l) }) (10 ∷ l)
    unfolding is_space
    walked-lf a u g j =
        let near = subst⁻¹ (λ (x : State). StateTells (ranks_of w) x (10 ∷ l)) g near-tells in
        let one : suc (length l) - length l ≡ 1 = omega arith in
        record {
          rising = told.rising;
          near = near;
          far = told.near;
          stop = subst⁻¹ (λ (x : Verdict). Tells (ranks_of w) line_stop x (10 ∷ l)) j (line-front l line.0.0 line.0.1 (drop (length l - n) l) k line.2 same a.destination w.front told.rising near.destination told.front);
          front = front-here 10 l a.target refl near.target;
          next = ((0, line-here l), omega arith, subst⁻¹ (λ (i : ℕ). Follows (drop i (10 ∷ l)) (10 ∷ l)) one (follows-lf l line.0.0 line.0.1));
        }

-- At CR, before LF.
lined-cr : (next : Option ℕ) (l : List ℕ) → Lined next (10 ∷ l) → Lined next (13 ∷ 10 ∷ l)
lined-cr None l w = absurd (refused-taken 0 (sym w ∙ line-here l))
lined-cr (Some n) l w =
    let y : suc (suc (length l)) - n ≡ suc (suc (length l) - n) = omega (arith, w.1) in
    ((0, crlf-here l), omega (arith, w.1), subst⁻¹ (λ (k : ℕ). Follows (drop k (13 ∷ 10 ∷ l)) (13 ∷ 10 ∷ l)) y (follows-cr (drop (suc (length l) - n) (10 ∷ l)) l w.2))

crlf-walked : (w : Walk) (l : List ℕ) → Walked w (10 ∷ l) → Walked (record w { far = w.near }) (13 ∷ 10 ∷ l)
unfolding is_space
crlf-walked w l told =
    let p = told.near in
    record {
      rising = told.rising;
      near = record {
        destination = tells-cr destination_run w.near.destination l p.destination;
        label = tells-cr label_run w.near.label l p.label;
        plain = tells-cr plain_run w.near.plain l p.plain;
        quoted = tells-cr quoted_run w.near.quoted l p.quoted;
        closed = tells-cr closed_run w.near.closed l p.closed;
        target = tells-cr is_dead w.near.target l p.target;
        size = sized-cr w.near.size l p.size;
      };
      far = p;
      stop = tells-cr line_stop w.stop l told.stop;
      front = front-here 13 (10 ∷ l) w.front refl (tells-cr is_dead w.front l (subst (λ (k : ℕ). Tells (ranks_of w) is_dead w.front (drop k (10 ∷ l))) (blanks-none 10 l refl) told.front));
      next = lined-cr w.next l told.next;
    }

-- LF is the first byte, or it is not
pub lf-first : (l : List ℕ) → 0 < length l → get_or l 0 0 ≡ 10 → starts_with (10 ∷ []) l ≡ true
unfolding starts_with
lf-first [] h e = absurd (omega arith)
lf-first (b ∷ l) h e = picks_first _ _ _ (eq-eqb b 10 e)

pub lf-other : (l : List ℕ) → (0 < length l → get_or l 0 0 ≡ 10 → ⊥) → starts_with (10 ∷ []) l ≡ false
unfolding starts_with
lf-other [] h = refl
lf-other (b ∷ l) h = picks_second _ _ _ (ne_eqb b 10 (h (omega arith)))

pub walked-cr : (w : Walk) (l : List ℕ) → Walked w l → starts_with (10 ∷ []) l ≡ true → Walked (record w { far = w.near }) (13 ∷ l)
walked-cr w l told e =
    let is = starts_is (10 ∷ []) l e in
    subst⁻¹ (λ (r : List ℕ). Walked (record w { far = w.near }) (13 ∷ r)) is (crlf-walked w (drop 1 l) (subst (Walked w) is told))

-- Before another byte the line is refused.
pub walked-refused :
    (w : Walk) (l : List ℕ) → Walked w l → starts_with (10 ∷ []) l ≡ false
    → Walked (record { indents = w.indents; near = w.near; far = w.near; stop = nothing; front = nothing; next = None }) (13 ∷ l)
walked-refused w l told h =
    let e = cr-refused l h in
    record {
      rising = told.rising;
      near = record {
        destination = tells-refused destination_run w.near.destination (13 ∷ l) e;
        label = tells-refused label_run w.near.label (13 ∷ l) e;
        plain = tells-refused plain_run w.near.plain (13 ∷ l) e;
        quoted = tells-refused quoted_run w.near.quoted (13 ∷ l) e;
        closed = tells-refused closed_run w.near.closed (13 ∷ l) e;
        target = tells-refused is_dead w.near.target (13 ∷ l) e;
        size = sized-refused w.near.size 13 l e told.near.size;
      };
      far = told.near;
      stop = tells-nothing line_stop (13 ∷ l);
      front = tells-nothing is_dead _;
      next = e;
    }

-- What is kept at place i is kept of the text behind the byte before it.
module _ (w : Walk) (s : List ℕ) (i : ℕ) (h : 0 < i) (told : Walked w (drop i s)) where
  pub walked-rest : Walked w (from s (i - 1 + 1))
  walked-rest =
      let z : i - 1 + 1 ≡ i = omega arith in
      subst⁻¹ (Walked w) (part-from s (i - 1 + 1) ∙ ap (λ (k : ℕ). drop k s) z) told

  pub walked-behind : Walked w (drop 1 (from s (i - 1)))
  walked-behind =
      let z : i - 1 + 1 ≡ i = omega arith in
      subst⁻¹ (Walked w) (ap (drop 1) (part-from s (i - 1)) ∙ drop-drop 1 (i - 1) s ∙ ap (λ (k : ℕ). drop k s) z) told

-- Marks.

-- none is set
pub marks-none : (n : ℕ) (s : List ℕ) → Marks (replicate n 0) s
marks-none n s k e =
    let z : ◌≡◌ {A = ℕ} (get_or (replicate n 0) k 0) 0 =
    ⊎_elim
    (λ h. get_or-replicate n k 0 0 h)
    (λ h. get_or-eq_default (replicate n 0) 0 (omega (arith, h, length-replicate {A = ℕ} n 0)))
    (lt-or-le k n)
    in
    absurd (omega (arith, z, e))

-- one more is
pub marks-more : (marks s : List ℕ) (i : ℕ) → NoTarget (drop i s) → Marks marks s → Marks (set marks i 1) s
marks-more marks s i w m k e = go (eqb k i) refl
  where
    go : (x : Bool) → eqb k i ≡ x → NoTarget (drop k s)
    go true f = subst⁻¹ (λ (j : ℕ). NoTarget (drop j s)) (eqb-true k i f) w
    go false f = m k (sym (get_or-set_other marks i k 1 0 (eqb-false k i f)) ∙ e)
