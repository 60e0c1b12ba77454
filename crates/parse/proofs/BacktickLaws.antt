-- What is known from a place on (`Each`) stays known further on. What is known of backticks that are never closed by `_ (`Shut`): the loop
-- of `part_end` learns it, since from each backtick that was passed as an escaped one a part runs on to the same end; and no inline form is
-- found where it holds.
-- Assumes nothing.
use Rattle.std.specs.Prelude.{Option, Some, None}
use Prim.Native.Nat.{ℕ, suc, ◌+◌, ◌-◌, ◌<◌, ◌≤◌}
use Rattle.std.proofs.lemmas.List.{drop-take}
use native.Mathlib.Nat.{le_refl, le_trans}
use native.Mathlib.Omega.{arith}
use mathlib.Core.Path.{◌≡◌, refl, sym, ap, subst, subst⁻¹, ◌∙◌}
use mathlib.Core.List.{List, [], ◌∷◌}
use mathlib.Core.Bool.{Bool, true, false, true≢false}
use mathlib.Core.Logic.{⊎_elim}
use lib.Dec.{eqb}
use lib.ListN.{length, get_or, drop, take, length-drop}
use lib.Seq.{drop-drop, get_or-drop, get_or-take, length-take-le}
use borrow.Author.Tests.{eq-eqb, ne_eqb}
use Rattle.rst_bytes.specs.Escaped.{is_escapable, is_stop, taking}
use Rattle.rst_bytes.specs.Tag.{starts_with}
use Rattle.rst_bytes.proofs.Lists.{drop-next, drop-two, drop-last, drop-end}
use Rattle.rst_bytes.proofs.TestLaws.{by-test, lt-or-le}
use Rattle.rst_bytes.proofs.EscapedLaws.{refused-taken, taken_is, taken-from, at-end, at_plain, at-stop, at-alone, at_pair, at-wrong, whole-over, cut-rest}
use Rattle.restructured_text.specs.Delimited.{closing, backticked_of}
use Rattle.restructured_text.proofs.DelimitedLaws.{delimited-is, backticked-other}
use Rattle.restructured_text.proofs.InlineLaws.{text2dest-refused, text-label2dest-refused, text2label-refused}
use Rattle.parse.specs.declared.Known.{Known}
use Rattle.parse.specs.Link.{Scanned, nothing, behind, or_else}
use Rattle.parse.specs.Forms.{anonymous, named, reference, tried, rst}
use Rattle.parse.specs.Scan.{is_opening, opening_of, reference_at, followed, inline_at}
use Rattle.parse.specs.Inner.{Each, Tick, Any, NoPart, NoLink, NoBlock, Shut, RunsTo, Holds}
use Rattle.parse.proofs.FormsLaws.{tried-next}

-- Any claim of the bytes from a place on.
module _ (Claim : ℕ → List ℕ → Type 0) where
  -- nothing is claimed of no places
  pub each_none : (s : List ℕ) (m n : ℕ) → n ≤ m → Each Claim m n s
  each_none s m n h i k l = absurd (omega arith)

  -- what is known from m on is known from a later place on
  pub each-later : (s : List ℕ) (m k n : ℕ) → m ≤ k → Each Claim m n s → Each Claim k n s
  each-later s m k n h f i l = f i (le_trans h l)

  -- what is known of s from place k on, t, is known of s
  pub each-behind : (s t : List ℕ) (k n : ℕ) → t ≡ drop k s → Each Claim 0 n t → Each Claim k (k + n) s
  each-behind s t k n e f i h l =
      let z : k + (i - k) ≡ i = omega arith in
      let g : get_or t (i - k) 0 ≡ get_or s i 0 = ap (λ (x : List ℕ). get_or x (i - k) 0) e ∙ get_or-drop k s (i - k) 0 ∙ ap (λ (j : ℕ). get_or s j 0) z in
      let d : drop (i - k) t ≡ drop i s = ap (drop (i - k)) e ∙ drop-drop (i - k) k s ∙ ap (λ (j : ℕ). drop j s) z in
      subst (λ (b : ℕ). Claim b (drop i s)) g (subst (Claim (get_or t (i - k) 0)) d (f (i - k) (omega arith) (omega arith)))

  -- what is known of s from m on is known of what stands from a later place k on
  pub each-front : (s : List ℕ) (m k n : ℕ) → m ≤ k → Each Claim m n s → Each Claim 0 (n - k) (drop k s)
  each-front s m k n h f i l g =
      subst⁻¹ (λ (b : ℕ). Claim b (drop i (drop k s))) (get_or-drop k s i 0)
      (subst⁻¹ (Claim (get_or s (k + i) 0)) (drop-drop i k s) (f (k + i) (omega arith) (omega arith)))

-- all that is known stays known further on
pub holds_later : (s marks : List ℕ) (m k : ℕ) (known : Known) → m ≤ k → Holds m known marks s → Holds k known marks s
holds_later s marks m k known h w =
    (each-later (Tick NoPart) s m k known.shut h w.0, each-later (Tick NoLink) s m k known.barren h w.1, each-later (Any NoBlock) s m k known.blocks h w.2, w.3)

-- where a part that is read from place i on ends, it is not closed
abbrev pub Unclosed : List ℕ → ℕ → Type 0
Unclosed s i = (m : ℕ) → taking 0x60 0x60 false i (drop i s) ≡ Some m → (anonym : Bool) → starts_with (closing anonym) (drop m s) ≡ false

-- a part that is read from behind a backtick before i runs on to i
abbrev pub Runs : List ℕ → ℕ → Type 0
Runs s i = (q : ℕ) → q < i → get_or s q 0 ≡ 0x60 → taking 0x60 0x60 false (q + 1) (drop (q + 1) s) ≡ taking 0x60 0x60 false i (drop i s)

-- a backtick before a part that is not closed begins nothing
unclosed-refused : (s : List ℕ) (i : ℕ) → Unclosed s (i + 1) → (anonym : Bool) → backticked_of anonym (drop i s) ≡ None
unclosed-refused s i f anonym = go (backticked_of anonym (drop i s)) refl
  where
    go : (x : Option ℕ) → backticked_of anonym (drop i s) ≡ x → backticked_of anonym (drop i s) ≡ None
    go None e = e
    go (Some n) e =
        let d = delimited-is (0x60 ∷ []) 0x60 0x60 (closing anonym) (drop i s) n e in
        let u : drop 1 (drop i s) ≡ drop (i + 1) s = drop-drop 1 i s in
        let t = taken-from 0x60 0x60 (i + 1) (drop 1 (drop i s)) n d.inner in
        let c = f (i + 1 + n) (ap (taking 0x60 0x60 false (i + 1)) (sym u) ∙ t) anonym in
        absurd (true≢false (sym d.ends ∙ ap (λ (x : List ℕ). starts_with (closing anonym) (drop n x)) u ∙ ap (starts_with (closing anonym)) (drop-drop n (i + 1) s) ∙ c))

-- so what `part_end` says where a part ends and is not closed is right
pub runs-shut : (s : List ℕ) (i : ℕ) → Runs s i → Unclosed s i → (n : ℕ) → n ≤ i → Shut 0 n s
runs-shut s i f u n k q h l b anonym = unclosed-refused s q (λ m t. u m (sym (f q (omega arith) b) ∙ t)) anonym

-- a backslash is no backtick
apart : ◌≡◌ {A = ℕ} 0x5C 0x60 → ⊥
apart e = omega arith

-- The loop of `part_end`, by the code's tests.

pub runs-start : (s : List ℕ) → Runs s 1
runs-start s q h b =
    let z : q + 1 ≡ 1 = omega arith in
    ap (λ (j : ℕ). taking 0x60 0x60 false j (drop j s)) z

module _ (s : List ℕ) (i : ℕ) (f : Runs s i) (h : i < length s) where
  -- a byte that is no backslash and no backtick
  pub runs-plain : (get_or s i 0 ≡ 0x60 → ⊥) → (get_or s i 0 ≡ 0x5C → ⊥) → Runs s (i + 1)
  unfolding is_stop
  runs-plain a b q l e =
      ⊎_elim
      (λ g. f q g e ∙ at_plain 0x60 0x60 s i h b (simp (ne_eqb _ _ a)))
      (λ g.
      let z : q ≡ i = omega arith in
      absurd (a (ap (λ (j : ℕ). get_or s j 0) (sym z) ∙ e)))
      (lt-or-le q i)

  -- a backslash with a byte that it takes along, which may be a backtick
  pub runs-pair : i + 1 < length s → get_or s i 0 ≡ 0x5C → is_escapable (get_or s (i + 1) 0) ≡ true → Runs s (i + 2)
  runs-pair k b c q l e =
      ⊎_elim
      (λ g. f q g e ∙ at_pair 0x60 0x60 s i k b c)
      (λ g. ⊎_elim
      (λ x.
      let z : q ≡ i = omega arith in
      absurd (apart (sym b ∙ ap (λ (j : ℕ). get_or s j 0) (sym z) ∙ e)))
      (λ x.
      let z : q + 1 ≡ i + 2 = omega arith in
      ap (λ (j : ℕ). taking 0x60 0x60 false j (drop j s)) z)
      (lt-or-le q (i + 1)))
      (lt-or-le q i)

-- a backslash is no backtick, and a backtick is one
no-slash : is_stop 0x60 0x60 0x5C ≡ false
unfolding is_stop
no-slash = refl

tick-stops : {b : ℕ} → b ≡ 0x60 → is_stop 0x60 0x60 b ≡ true
unfolding is_stop
tick-stops {b} e = simp (eq-eqb b 0x60 e)

-- r bytes that are taken as a whole: a backtick among them is one that a backslash takes along
pub runs-front : (s : List ℕ) (i r : ℕ) → Runs s i → i + r ≤ length s → taking 0x60 0x60 false 0 (take r (drop i s)) ≡ Some r → Runs s (i + r)
runs-front s i r f h e q l b =
    ⊎_elim
    (λ (g : q < i). f q g b ∙ whole-over 0x60 0x60 s i r h e)
    (λ (g : i ≤ q).
    let k = q - i in
    let part = take r (drop i s) in
    let there : i + k ≡ q = omega arith in
    let at : get_or part k 0 ≡ 0x60 = get_or-take r (drop i s) k 0 (omega arith) ∙ get_or-drop i s k 0 ∙ ap (λ (n : ℕ). get_or s n 0) there ∙ b in
    let rest : taking 0x60 0x60 false 0 (drop (suc k) part) ≡ Some (r - suc k) = cut-rest 0x60 0x60 no-slash part r k (omega arith) e (tick-stops at) (omega (arith, length-take-le r (drop i s) (omega (arith, length-drop i s)))) in
    let size : r ≡ suc k + (r - suc k) = omega arith in
    let start : i + suc k ≡ q + 1 = omega arith in
    let is : drop (suc k) part ≡ take (r - suc k) (drop (q + 1) s) =
    ap (λ (n : ℕ). drop (suc k) (take n (drop i s))) size
    ∙ drop-take (suc k) (r - suc k) (drop i s)
    ∙ ap (take (r - suc k)) (drop-drop (suc k) i s ∙ ap (λ (n : ℕ). drop n s) start) in
    let z : q + 1 + (r - suc k) ≡ i + r = omega arith in
    whole-over 0x60 0x60 s (q + 1) (r - suc k) (omega arith) (ap (taking 0x60 0x60 false 0) (sym is) ∙ rest) ∙ ap (λ (n : ℕ). taking 0x60 0x60 false n (drop n s)) z)
    (lt-or-le q i)

-- what is left where the text ends, or at a last backtick, or at one before another byte than '_', is no closing tag
closing_end : (anonym : Bool) → starts_with (closing anonym) [] ≡ false
unfolding starts_with
closing_end true = refl
closing_end false = refl

closing-last : (anonym : Bool) (b : ℕ) → starts_with (closing anonym) (b ∷ []) ≡ false
unfolding starts_with
closing-last true b = by-test (λ x. x ≡ false) (eqb b 0x60) _ _ (λ e. refl) (λ e. refl)
closing-last false b = by-test (λ x. x ≡ false) (eqb b 0x60) _ _ (λ e. refl) (λ e. refl)

closing-other : (anonym : Bool) (b c : ℕ) (l : List ℕ) → (c ≡ 0x5F → ⊥) → starts_with (closing anonym) (b ∷ c ∷ l) ≡ false
unfolding starts_with
closing-other true b c l h = by-test (λ x. x ≡ false) (eqb b 0x60) _ _ (λ e. simp (ne_eqb c 0x5F h)) (λ e. refl)
closing-other false b c l h = by-test (λ x. x ≡ false) (eqb b 0x60) _ _ (λ e. simp (ne_eqb c 0x5F h)) (λ e. refl)

-- The ends of a part, by the code's tests.
module _ (s : List ℕ) (i : ℕ) where
  -- it ends at i, where no closing tag stands
  ended : taking 0x60 0x60 false i (drop i s) ≡ Some i → ((anonym : Bool) → starts_with (closing anonym) (drop i s) ≡ false) → Unclosed s i
  ended e f m t anonym = ap (λ (j : ℕ). starts_with (closing anonym) (drop j s)) (taken_is m i (sym t ∙ e)) ∙ f anonym

  -- it is refused
  refused : taking 0x60 0x60 false i (drop i s) ≡ None → Unclosed s i
  refused e m t = absurd (refused-taken m (sym e ∙ t))

  -- a backtick
  stopped : i < length s → get_or s i 0 ≡ 0x60 → taking 0x60 0x60 false i (drop i s) ≡ Some i
  unfolding is_stop
  stopped h e = at-stop 0x60 0x60 s i h (λ f. apart (sym f ∙ e)) (simp (eq-eqb _ _ e))

  -- a part from each backtick before it runs up to that
  pub runs-to : Runs s i → i < length s → get_or s i 0 ≡ 0x60 → RunsTo i s
  runs-to f h e q l b = f q l b ∙ stopped h e

  -- the text ends
  pub unclosed-end : length s ≤ i → Unclosed s i
  unclosed-end h =
      ended (at-end 0x60 0x60 s i h) (λ anonym. ap (starts_with (closing anonym)) (drop-end s i h) ∙ closing_end anonym)

  -- a backslash, last or with another byte
  pub unclosed-alone : i < length s → length s ≤ i + 1 → get_or s i 0 ≡ 0x5C → Unclosed s i
  unclosed-alone h l e = refused (at-alone 0x60 0x60 s i h l e)

  pub unclosed-wrong : i + 1 < length s → get_or s i 0 ≡ 0x5C → is_escapable (get_or s (i + 1) 0) ≡ false → Unclosed s i
  unclosed-wrong h e f = refused (at-wrong 0x60 0x60 s i h e f)

  -- a backtick, last or before another byte than '_'
  pub unclosed-tick : i < length s → get_or s i 0 ≡ 0x60 → (i + 1 < length s → get_or s (i + 1) 0 ≡ 0x5F → ⊥) → Unclosed s i
  unclosed-tick h e f = ⊎_elim other last (lt-or-le (i + 1) (length s))
    where
      other : i + 1 < length s → Unclosed s i
      other l = ended (stopped h e) (λ anonym. ap (starts_with (closing anonym)) (drop-two s i l) ∙ closing-other anonym _ _ _ (f l))

      last : length s ≤ i + 1 → Unclosed s i
      last l = ended (stopped h e) (λ anonym. ap (starts_with (closing anonym)) (drop-last s i h l) ∙ closing-last anonym _)

-- What is found at a place.

-- where no backticked run begins there is no embedded link
embedded-refused : (s : List ℕ) → ((anonym : Bool) → backticked_of anonym s ≡ None) → tried rst.embedded s ≡ nothing
embedded-refused s f =
    tried-next anonymous (named ∷ []) s (text2dest-refused s (f true)) ∙ tried-next named [] s (text-label2dest-refused s (f false))

-- and no reference, if it is a backtick that begins none; a backtick is no opening that is skipped
quoted-refused : (spaced : Bool) (r : List ℕ) → backticked_of false (0x60 ∷ r) ≡ None → reference_at rst spaced (0x60 ∷ r) ≡ nothing
unfolding opening_of is_opening
quoted-refused true r e = ap (behind 0) (tried-next reference [] (0x60 ∷ r) (text2label-refused r e))
quoted-refused false r e = refl

-- nor at another byte than a backtick
pub other-unlinked : (s : List ℕ) (i : ℕ) → i < length s → (get_or s i 0 ≡ 0x60 → ⊥) → tried rst.embedded (drop i s) ≡ nothing
other-unlinked s i h e =
    embedded-refused (drop i s) (λ anonym. ap (backticked_of anonym) (drop-next s i h) ∙ backticked-other anonym _ _ e)

module _ (spaced : Bool) (s : List ℕ) (i : ℕ) (h : i < length s) where
  -- where (d) finds nothing, what (e) finds is the answer
  pub unlinked-inline : tried rst.embedded (drop i s) ≡ nothing → inline_at rst spaced (drop i s) ≡ followed rst (drop i s) (reference_at rst spaced (drop i s))
  unfolding inline_at
  unlinked-inline e = ap (λ (x : Scanned). followed rst (drop i s) (or_else x (reference_at rst spaced (drop i s)))) e

  -- at a backtick of which it is known
  pub shut-inline : (n : ℕ) → Shut i n s → i < n → get_or s i 0 ≡ 0x60 → inline_at rst spaced (drop i s) ≡ nothing
  shut-inline n f l e = unlinked-inline (embedded-refused (drop i s) shut) ∙ ap (followed rst (drop i s)) (ap (reference_at rst spaced) is ∙ quoted-refused spaced _ (ap (backticked_of false) (sym is) ∙ shut false))
    where
      shut : (anonym : Bool) → backticked_of anonym (drop i s) ≡ None
      shut = f i (le_refl i) l e

      is : drop i s ≡ 0x60 ∷ drop (i + 1) s
      is = drop-next s i h ∙ ap (λ (b : ℕ). b ∷ drop (i + 1) s) e
