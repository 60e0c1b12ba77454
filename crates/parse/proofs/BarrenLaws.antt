-- Where no embedded link begins (`Barren`): behind a backtick that begins none, up to the first unescaped backtick or <, since each
-- backtick on the way has an escape before it, so that a link there were one at the first backtick too; and where before the next
-- unescaped backtick no unescaped < stands, or two do.
-- Assumes nothing.
use Rattle.std.proofs.Common.{Some}
use Prim.Native.Nat.{ℕ, zero, suc, ◌+◌, ◌-◌, ◌<◌, ◌≤◌}
use native.Mathlib.Omega.{arith}
use mathlib.Core.Path.{◌≡◌, refl, sym, ap, subst, ◌∙◌}
use mathlib.Core.List.{List, [], ◌∷◌}
use mathlib.Core.Bool.{Bool, true, false, true≢false}
use lib.ListN.{length, get_or, drop, take, length-drop, take-append-drop}
use lib.Seq.{drop-drop, drop-cons, get_or-drop, length-take-le}
use mathlib.Core.Logic.{⊎_elim}
use borrow.Author.Tests.{eq-eqb}
use Rattle.rst_bytes.specs.Escaped.{is_stop, taking, escaped_of}
use Rattle.rst_bytes.proofs.EscapedLaws.{first-other, at-stop, stop_is, taking-stop, taking-le, taken_back, cut-front, cut-rest}
use Rattle.rst_bytes.proofs.TestLaws.{lt-or-le}
use Rattle.rst_bytes.proofs.TrimLaws.{trim-behind}
use Rattle.restructured_text.specs.Strings.{Link, link, none, no_room}
use Rattle.restructured_text.specs.Inline.{embedded_of, text2dest_of, text_label2dest_of}
use Rattle.restructured_text.proofs.InlineLaws.{text2dest-room, text-label2dest-room, embedded-longer, embedded-unbracketed, embedded-unangled, embedded-opened}
use Rattle.parse.specs.Forms.{anonymous, named, tried, rst}
use Rattle.parse.specs.Inner.{Tick, NoLink, Barren, Opened, RunsTo}
use Rattle.parse.proofs.FormsLaws.{tried-link, tried-next}
use Rattle.parse.proofs.RoundLaws.{found_nothing}
use Rattle.parse.proofs.BacktickLaws.{each_none, each-behind}

-- Neither embedded form is found.
module _ (s : List ℕ) where
  unlinked : ((anonym : Bool) → embedded_of anonym s ≡ none) → NoLink s
  unfolding text2dest_of text_label2dest_of
  unlinked f = tried-next anonymous (named ∷ []) s (f true) ∙ tried-next named [] s (f false)

  module _ (e : NoLink s) where
    none-anonymous : text2dest_of s ≡ none
    none-anonymous = go (text2dest_of s) refl
      where
        go : (x : Link) → text2dest_of s ≡ x → text2dest_of s ≡ none
        go (link x y n) f = absurd (found_nothing _ _ _ _ _ (sym (tried-link anonymous (named ∷ []) s x y n f) ∙ e))
        go none f = f
        go no_room f = absurd (text2dest-room s f)

    none_named : text_label2dest_of s ≡ none
    none_named = go (text_label2dest_of s) refl
      where
        go : (x : Link) → text_label2dest_of s ≡ x → text_label2dest_of s ≡ none
        go (link x y n) f = absurd (found_nothing _ _ _ _ _ (sym (tried-next anonymous (named ∷ []) s none-anonymous ∙ tried-link named [] s x y n f) ∙ e))
        go none f = f
        go no_room f = absurd (text-label2dest-room s f)

    none_found : (anonym : Bool) → embedded_of anonym s ≡ none
    unfolding text2dest_of text_label2dest_of
    none_found true = none-anonymous
    none_found false = none_named

-- a text at a place where a backtick stands
at_tick : (s : List ℕ) (i : ℕ) → i < length s → get_or s i 0 ≡ 0x60 → drop i s ≡ 0x60 ∷ drop (suc i) s
at_tick s i h e = drop-cons s i 0 h ∙ ap (λ (b : ℕ). b ∷ drop (suc i) s) e

-- a backtick stops, a backslash does not
tick-stops : (b : ℕ) → b ≡ 0x60 → is_stop 0x60 0x3C b ≡ true
unfolding is_stop
tick-stops b e = simp (eq-eqb b 0x60 e)

slash-passes : is_stop 0x60 0x3C 0x5C ≡ false
unfolding is_stop
slash-passes = refl

-- no bytes stand before the first of these where it is at the front
pub marked-stop : (s : List ℕ) → 0 < length s → is_stop 0x60 0x3C (get_or s 0 0) ≡ true → Some 0 ≡ taking 0x60 0x3C false 0 s
marked-stop s h e =
    sym (at-stop 0x60 0x3C s 0 h (λ (g : get_or s 0 0 ≡ 0x5C). absurd (true≢false (sym e ∙ ap (is_stop 0x60 0x3C) g ∙ slash-passes))) e)

-- and where none is
pub marked-else : (s : List ℕ) → (0 < length s → is_stop 0x60 0x3C (get_or s 0 0) ≡ false) → escaped_of 0x60 0x3C s ≡ taking 0x60 0x3C false 0 s
unfolding escaped_of taking
marked-else [] f = refl
marked-else (b ∷ s) f = first-other 0x60 0x3C (b ∷ s) (omega arith) (f (omega arith))

-- n bytes of a text l are taken up to an unescaped backtick or <; a backtick stands at a place k of them.
module _ (l : List ℕ) (n k : ℕ) (e : taking 0x60 0x3C false 0 l ≡ Some n) (h : k < n) (f : get_or l k 0 ≡ 0x60) where
  some : suc k ≤ length l
  some = omega (arith, taking-le 0x60 0x3C l n e)

  -- a link that begins there begins at a backtick before l too
  tick-longer : (anonym : Bool) → embedded_of anonym (0x60 ∷ l) ≡ none → embedded_of anonym (0x60 ∷ drop (suc k) l) ≡ none
  tick-longer anonym g = embedded-longer (take (suc k) l) (drop (suc k) l) (omega (arith, len)) (cut-front 0x60 0x3C slash-passes l n k h e (tick-stops _ f) ∙ ap Some (sym len)) (λ t. omega (arith, trim-behind l t k some f, len)) anonym (ap (λ (x : List ℕ). embedded_of anonym (0x60 ∷ x)) (take-append-drop (suc k) l) ∙ g)
    where
      len : length (take (suc k) l) ≡ suc k
      len = length-take-le (suc k) l some

  -- and none begins there if they end at a backtick
  tick-unbracketed : n < length l → get_or l n 0 ≡ 0x60 → (anonym : Bool) → embedded_of anonym (0x60 ∷ drop (suc k) l) ≡ none
  tick-unbracketed g i =
      let z : suc k + (n - suc k) ≡ n = omega arith in
      embedded-unbracketed (drop (suc k) l) (n - suc k) (cut-rest 0x60 0x3C slash-passes l n k h e (tick-stops _ f) some) (omega (arith, length-drop (suc k) l))
      (get_or-drop (suc k) l (n - suc k) 0 ∙ ap (λ (j : ℕ). get_or l j 0) z ∙ i)

  -- nor if they end at <, and the next of these two is < again
  tick-opened : n < length l → get_or l n 0 ≡ 0x3C → Opened (drop (n + 1) l) → (anonym : Bool) → embedded_of anonym (0x60 ∷ drop (suc k) l) ≡ none
  tick-opened g i o =
      let z : suc k + (n - suc k) ≡ n = omega arith in
      let y : suc k + (n - suc k + 1) ≡ n + 1 = omega arith in
      let d : drop (n + 1) l ≡ drop (n - suc k + 1) (drop (suc k) l) = sym (drop-drop (n - suc k + 1) (suc k) l ∙ ap (λ (j : ℕ). drop j l) y) in
      let o' = subst Opened d o in
      embedded-opened (drop (suc k) l) (n - suc k) o'.0 (cut-rest 0x60 0x3C slash-passes l n k h e (tick-stops _ f) some) (omega (arith, length-drop (suc k) l))
      (get_or-drop (suc k) l (n - suc k) 0 ∙ ap (λ (j : ℕ). get_or l j 0) z ∙ i) o'.1 o'.2 o'.3

-- no < stands before the close
barren-unbracketed : (s : List ℕ) (n : ℕ) → taking 0x60 0x3C false 0 s ≡ Some n → n < length s → get_or s n 0 ≡ 0x60 → Barren 0 n s
barren-unbracketed s n e h f i k l g =
    ap (tried rst.embedded) (at_tick s i (omega arith) g) ∙ unlinked (0x60 ∷ drop (suc i) s) (tick-unbracketed s n i e l g h f)

-- two do
barren-opened : (s : List ℕ) (n : ℕ) → taking 0x60 0x3C false 0 s ≡ Some n → n < length s → get_or s n 0 ≡ 0x3C → Opened (drop (n + 1) s) → Barren 0 n s
barren-opened s n e h f o i k l g =
    ap (tried rst.embedded) (at_tick s i (omega arith) g) ∙ unlinked (0x60 ∷ drop (suc i) s) (tick-opened s n i e l g h f o)

-- no > stands at the close
pub barren-unangled : (s : List ℕ) (n : ℕ) → RunsTo n s → n < length s → (get_or s (n - 1) 0 ≡ 0x3E → ⊥) → Barren 0 n s
barren-unangled s n r h f i k l g =
    ap (tried rst.embedded) (at_tick s i (omega arith) g) ∙ unlinked (0x60 ∷ drop (suc i) s) (embedded-unangled (drop (suc i) s) (n - suc i) part last)
  where
    part : taking 0x60 0x60 false 0 (drop (suc i) s) ≡ Some (n - suc i)
    part =
        let z : i + 1 ≡ suc i = omega arith in
        (taken_back 0x60 0x60 (suc i) (drop (suc i) s) n (ap (λ (j : ℕ). taking 0x60 0x60 false j (drop j s)) (sym z) ∙ r i l g)).1

    last : (k : ℕ) → k + 1 ≡ n - suc i → get_or (drop (suc i) s) k 0 ≡ 0x3E → ⊥
    last k e b =
        let z : suc i + k ≡ n - 1 = omega arith in
        f (ap (λ (j : ℕ). get_or s j 0) (sym z) ∙ sym (get_or-drop (suc i) s k 0) ∙ b)

-- none begins at the front, a backtick with r behind it, if an unescaped one stands before the first <
pub unbracketed-none :
    (s r : List ℕ) (n : ℕ) → (0 < length s) × (get_or s 0 0 ≡ 0x60) → r ≡ drop 1 s → taking 0x60 0x3C false 0 r ≡ Some n → n < length r → get_or r n 0 ≡ 0x60
    → NoLink s
unbracketed-none s r n h i e l f =
    ap (tried rst.embedded) (at_tick s 0 h.0 h.1 ∙ ap (λ (x : List ℕ). 0x60 ∷ x) (sym i)) ∙ unlinked (0x60 ∷ r) (embedded-unbracketed r n e l f)

-- A text that begins with a backtick, at which no link begins.
module _ (s : List ℕ) (h : (0 < length s) × (get_or s 0 0 ≡ 0x60)) (none-there : NoLink s) where
  pub barren-first : (n : ℕ) → taking 0x60 0x3C false 0 (drop 1 s) ≡ Some n → Barren 0 (n + 1) s
  barren-first n e zero k l g = none-there
  barren-first n e (suc i) k l g =
      let le = taking-le 0x60 0x3C (drop 1 s) n e in
      let z : 1 + i ≡ suc i = omega arith in
      let y : 1 + suc i ≡ suc (suc i) = omega arith in
      let b : get_or (drop 1 s) i 0 ≡ 0x60 = get_or-drop 1 s i 0 ∙ ap (λ (j : ℕ). get_or s j 0) z ∙ g in
      let d : drop (suc i) s ≡ 0x60 ∷ drop (suc i) (drop 1 s) = at_tick s (suc i) (omega (arith, length-drop 1 s)) g ∙ ap (λ (x : List ℕ). 0x60 ∷ x) (sym (drop-drop (suc i) 1 s ∙ ap (λ (j : ℕ). drop j s) y)) in
      let a : (anonym : Bool) → embedded_of anonym (0x60 ∷ drop 1 s) ≡ none = λ anonym. ap (embedded_of anonym) (sym (at_tick s 0 h.0 h.1)) ∙ none_found s none-there anonym in
      ap (tried rst.embedded) d ∙ unlinked (0x60 ∷ drop (suc i) (drop 1 s)) (λ anonym. tick-longer (drop 1 s) n i e (omega arith) b anonym (a anonym))

-- what is known up to a byte that is no backtick, and from behind it on
pub barren-over : (s : List ℕ) (j n : ℕ) → Barren 0 j s → (get_or s j 0 ≡ 0x60 → ⊥) → Barren (j + 1) n s → Barren 0 n s
barren-over s j n f b g i k l e =
    ⊎_elim
    (λ h. f i k h e)
    (λ h. ⊎_elim
    (λ m. g i (omega arith) l e)
    (λ m.
    let z : i ≡ j = omega arith in
    absurd (b (ap (λ (x : ℕ). get_or s x 0) (sym z) ∙ e)))
    (lt-or-le j i))
    (lt-or-le i j)

-- The loop of `unbracketed`: what is known up to place i, and what stands from there on, t, of which n bytes are taken.
module _ (s : List ℕ) (i : ℕ) (f : Barren 0 i s) (t : List ℕ) (it : t ≡ drop i s) (n : ℕ) (e : taking 0x60 0x3C false 0 t ≡ Some n) (h : i + n < length s) where
  within : n < length t
  within = omega (arith, ap length it, length-drop i s)

  byte : get_or t n 0 ≡ get_or s (i + n) 0
  byte = ap (λ (x : List ℕ). get_or x n 0) it ∙ get_or-drop i s n 0

  joined : Barren 0 n t → Barren 0 (i + n) s
  joined g k l m b = ⊎_elim (λ j. f k l j b) (λ j. each-behind (Tick NoLink) s t i n it g k j m b) (lt-or-le k i)

  pub loop-tick : get_or s (i + n) 0 ≡ 0x60 → Barren 0 (i + n) s
  loop-tick b = joined (barren-unbracketed t n e within (byte ∙ b))

  pub loop-opened : (get_or s (i + n) 0 ≡ 0x60 → ⊥) → (u : List ℕ) → u ≡ drop (i + n + 1) s → Opened u → Barren 0 (i + n + 1) s
  loop-opened b u iu o = barren-over s (i + n) (i + n + 1) (joined (barren-opened t n e within angle (subst Opened (iu ∙ behind) o))) b (each_none (Tick NoLink) s (i + n + 1) (i + n + 1) (omega arith))
    where
      angle : get_or t n 0 ≡ 0x3C
      angle = ⊎_elim (λ g. absurd (b (sym byte ∙ g))) (λ g. g) (stop_is 0x60 0x3C (get_or t n 0) (taking-stop 0x60 0x3C t n e within))

      behind : drop (i + n + 1) s ≡ drop (n + 1) t
      behind =
          let z : i + (n + 1) ≡ i + n + 1 = omega arith in
          sym (ap (drop (n + 1)) it ∙ drop-drop (n + 1) i s ∙ ap (λ (j : ℕ). drop j s) z)
