-- The laws of `specs/Scan.antt`, for any forms that consume at least one byte and no more than there are: a round ends within the
-- input or passes some of it; so the rounds end, and by the round at a place they give its link or go on behind what it passed.
-- Assumes nothing.
use Rattle.std.proofs.Common.{Option, Some, None}
use Prim.Native.Nat.{ℕ, zero, suc, ◌+◌, ◌-◌, ◌<◌, ◌≤◌}
use native.Mathlib.Nat.{not-suc-le-zero, add-zero, zero-add}
use native.Mathlib.Omega.{arith}
use mathlib.Core.Path.{◌≡◌, refl, ap, subst, ◌∙◌}
use mathlib.Core.List.{List, [], ◌∷◌}
use mathlib.Core.Bool.{Bool, true, false, ◌||◌, true≢false, false≢true}
use lib.Dec.{ltb}
use lib.ListN.{length, drop, length-drop, drop_of_length-le}
use lib.Seq.{drop-drop}
use Rattle.rst_bytes.specs.Line.{space1_of}
use Rattle.rst_bytes.proofs.TestLaws.{by-test}
use Rattle.rst_bytes.proofs.LineLaws.{bytes-within, space1-le}
use Rattle.restructured_text.specs.Strings.{Link, link, none, no_room}
use Rattle.restructured_text.specs.Target.{label2dest_of}
use Rattle.restructured_text.proofs.InlineLaws.{text2dest-consumed, text-label2dest-consumed, text2label-consumed}
use Rattle.restructured_text.proofs.TargetLaws.{label2dest-consumed, label2label-consumed}
use Rattle.parse.specs.Link.{Kind, Scanned, found, nothing, behind, or_else}
use Rattle.parse.specs.Forms.{Form, Forms, AllConsuming, Consuming, tried, rst}
use Rattle.parse.specs.Laws.{Inside, RoundInside}
use Rattle.parse.specs.Scan.{Round, ends, passes, later, is_lf, lfs_of, block_at, is_opening, opening_of, reference_at, consumed_of, followed, inline_at, is_plain, passed_of, text_round, blank_round, line_round, round_of, rounds, scan_with, scan_of}

-- which of the two a round is, and what it says
abbrev is_pass : Round → Bool
is_pass (ends x) = false
is_pass (passes n) = true

abbrev end_of : Round → Scanned
end_of (ends x) = x
end_of (passes n) = nothing

abbrev pub pass_of : Round → ℕ
pass_of (ends x) = 0
pass_of (passes n) = n

-- the same with n bytes before
behind-inside : (n a m : ℕ) (x : Scanned) → Inside a m x → Inside (n + a) (n + m) (behind n x)
behind-inside n a m (found k x y i c) w = (omega arith, w.1, omega arith)
behind-inside n a m nothing w = tt
behind-inside n a m Scanned.no_room w = w

later-inside : (n m : ℕ) (r : Round) → RoundInside m r → RoundInside (n + m) (later n r)
later-inside n m (ends x) w = weaker (n + 0) (behind n x) (behind-inside n 0 m x w)
  where
    weaker : (a : ℕ) (x : Scanned) → Inside a (n + m) x → Inside 0 (n + m) x
    weaker a (found k x y i c) w = (omega arith, w.1, w.2)
    weaker a nothing w = tt
    weaker a Scanned.no_room w = w
later-inside n m (passes i) w = (omega arith, omega arith)

-- the same with one byte before
next-inside : (n m : ℕ) (x : Scanned) → Inside (n + 1) (n + 1 + m) x → Inside n (n + suc m) x
next-inside n m (found k x y i c) w = (omega arith, w.1, omega arith)
next-inside n m nothing w = tt
next-inside n m Scanned.no_room w = w

-- the first that is a link
else-inside : (n m : ℕ) (x z : Scanned) → Inside n m x → Inside n m z → Inside n m (or_else x z)
else-inside n m (found k x y i c) z w v = w
else-inside n m nothing z w v = v
else-inside n m Scanned.no_room z w v = w

-- What is tried: a link starts where the text does.
abbrev Here : ℕ → Scanned → Type 0
Here m (found k x y skipped consumed) = (skipped ≡ 0) × (0 < consumed) × (consumed ≤ m)
Here m nothing = Unit {0}
Here m Scanned.no_room = ⊥

tried_here : (fs : List Form) → AllConsuming fs → (s : List ℕ) → Here (length s) (tried fs s)
tried_here [] c s = tt
tried_here (f ∷ fs) c s = go (f.parser s) refl (tried_here fs c.1 s)
  where
    go :
        (z : Link) → f.parser s ≡ z → Here (length s) (tried fs s)
        → Here (length s) (elim z [ link x y n ↦ found f.kind x y 0 n | none ↦ tried fs s | no_room ↦ tried fs s ])
    go (link x y n) e w = (refl, (c.0 s x y n e).0, (c.0 s x y n e).1)
    go none e w = w
    go no_room e w = w

here-inside : (m : ℕ) (x : Scanned) → Here m x → Inside 0 m x
here-inside m (found k x y i c) w = (omega arith, w.1, omega arith)
here-inside m nothing w = tt
here-inside m Scanned.no_room w = w

tried-inside : (fs : List Form) → AllConsuming fs → (s : List ℕ) → Inside 0 (length s) (tried fs s)
tried-inside fs c s = here-inside (length s) (tried fs s) (tried_here fs c s)

tried-consumed : (fs : List Form) → AllConsuming fs → (s : List ℕ) → consumed_of (tried fs s) ≤ length s
tried-consumed fs c s = go (tried fs s) (tried_here fs c s)
  where
    go : (x : Scanned) → Here (length s) x → consumed_of x ≤ length s
    go (found k x y i n) w = w.2
    go nothing w = omega arith
    go Scanned.no_room w = absurd w

pub opening-le : (s : List ℕ) → opening_of s ≤ length s
unfolding opening_of
opening-le [] = omega arith
opening-le (b ∷ s) = by-test (λ n. n ≤ suc (length s)) (is_opening b) _ _ (λ e. omega arith) (λ e. omega arith)

-- n bytes and what is behind them are all
pub split : (n : ℕ) (s : List ℕ) → n ≤ length s → n + length (drop n s) ≡ length s
split n s h = omega (arith, length-drop n s)

module _ (forms : Forms) (c : Consuming forms) where
  pub block_inside : (line : Bool) (s : List ℕ) → Inside 0 (length s) (block_at forms line s)
  block_inside true s = tried-inside forms.blocks c.0 s
  block_inside false s = tt

  reference-inside : (spaced : Bool) (s : List ℕ) → Inside 0 (length s) (reference_at forms spaced s)
  reference-inside true s =
      go (tried forms.references (drop (opening_of s) s)) (tried_here forms.references c.2 (drop (opening_of s) s))
    where
      go : (x : Scanned) → Here (length (drop (opening_of s) s)) x → Inside 0 (length s) (behind (opening_of s) x)
      go (found k x y i n) w = (omega arith, w.1, omega (arith, split (opening_of s) s (opening-le s)))
      go nothing w = tt
      go Scanned.no_room w = w
  reference-inside false s = tt

  followed-inside : (s : List ℕ) (x : Scanned) → Inside 0 (length s) x → Inside 0 (length s) (followed forms s x)
  followed-inside s (found k x y i n) w =
      let h = tried-consumed forms.unreported c.3 (drop (i + n) s) in
      (omega arith, omega arith, omega (arith, h, split (i + n) s w.2))
  followed-inside s nothing w = tt
  followed-inside s Scanned.no_room w = w

  -- links that are no blocks, without what follows them and with it
  pub either-inside : (spaced : Bool) (s : List ℕ) → Inside 0 (length s) (or_else (tried forms.embedded s) (reference_at forms spaced s))
  either-inside spaced s =
      else-inside 0 (length s) (tried forms.embedded s) (reference_at forms spaced s)
      (tried-inside forms.embedded c.1 s)
      (reference-inside spaced s)

  pub inline-inside : (spaced : Bool) (s : List ℕ) → Inside 0 (length s) (inline_at forms spaced s)
  unfolding inline_at
  inline-inside spaced s = followed-inside s (or_else (tried forms.embedded s) (reference_at forms spaced s)) (either-inside spaced s)

  passed-inside : (s : List ℕ) → RoundInside (length s) (passed_of s)
  unfolding passed_of
  passed-inside [] = tt
  passed-inside (b ∷ s) = let h = bytes-within is_plain s in (omega arith, omega (arith, h))

  -- The rounds' parts, each within its text.
  text-inside : (spaced : Bool) (s : List ℕ) → RoundInside (length s) (text_round forms spaced s)
  unfolding text_round
  text-inside spaced s = go (inline_at forms spaced s) (inline-inside spaced s)
    where
      go :
          (z : Scanned) → Inside 0 (length s) z
          → RoundInside (length s) (elim z [ found k x y m n ↦ ends (found k x y m n) | nothing ↦ passed_of s | Scanned.no_room ↦ ends Scanned.no_room ])
      go (found k x y m n) w = w
      go nothing w = passed-inside s
      go Scanned.no_room w = w

  blank-inside : (line : Bool) (s : List ℕ) → RoundInside (length s) (blank_round forms line s)
  unfolding blank_round
  blank-inside line s = go (space1_of s) refl
    where
      go :
          (z : Option ℕ) → space1_of s ≡ z
          → RoundInside (length s) (elim z [ Some n ↦ later n (text_round forms true (drop n s)) | None ↦ text_round forms line s ])
      go (Some n) e =
          subst (λ m. RoundInside m (later n (text_round forms true (drop n s)))) (split n s (space1-le s n e))
          (later-inside n (length (drop n s)) (text_round forms true (drop n s)) (text-inside true (drop n s)))
      go None e = text-inside line s

  pub line-inside : (line : Bool) (s : List ℕ) → RoundInside (length s) (line_round forms line s)
  unfolding line_round
  line-inside line s = go (block_at forms line s) (block_inside line s)
    where
      go :
          (z : Scanned) → Inside 0 (length s) z
          → RoundInside (length s) (elim z [ found k x y m n ↦ ends (found k x y m n) | nothing ↦ blank_round forms line s | Scanned.no_room ↦ ends Scanned.no_room ])
      go (found k x y m n) w = w
      go nothing w = blank-inside line s
      go Scanned.no_room w = w

  -- a round's link stands within the input; what a round passes is some of it
  pub round-inside : (start : Bool) (s : List ℕ) → RoundInside (length s) (round_of forms start s)
  unfolding round_of
  round-inside start s =
      let line = start || ltb 0 (lfs_of s) in
      let rest = drop (lfs_of s) s in
      subst (λ m. RoundInside m (later (lfs_of s) (line_round forms line rest))) (split (lfs_of s) s (bytes-within is_lf s))
      (later-inside (lfs_of s) (length rest) (line_round forms line rest) (line-inside line rest))

-- The rounds, by the round at a place.
module _ (forms : Forms) where
  -- the bytes that the last round passes are skipped
  pub rounds-skip : (s : List ℕ) (k : ℕ) (start : Bool) (n : ℕ) → rounds forms k start n s ≡ rounds forms 0 start (n + k) (drop k s)
  unfolding rounds
  rounds-skip [] zero start n = refl
  rounds-skip [] (suc k) start n = refl
  rounds-skip (b ∷ s) zero start n = let e : n + 0 ≡ n = omega arith in rw e refl
  rounds-skip (b ∷ s) (suc k) start n = let e : n + suc k ≡ (n + 1) + k = omega arith in rw e (rounds-skip s k start (n + 1))

  -- the round at the front ends the scan, or passes m bytes
  front-stops : (start : Bool) (n : ℕ) (s : List ℕ) (x : Scanned) → 0 < length s → round_of forms start s ≡ ends x → rounds forms 0 start n s ≡ behind n x
  unfolding rounds
  front-stops start n [] x h e = absurd (not-suc-le-zero h)
  front-stops start n (b ∷ s) x h e = rw (e, rounds) refl

  front-passes : (start : Bool) (n : ℕ) (s : List ℕ) (m : ℕ) → 0 < m → round_of forms start s ≡ passes m → rounds forms 0 start n s ≡ rounds forms 0 false (n + m) (drop m s)
  unfolding rounds
  front-passes start n s zero h e = absurd (not-suc-le-zero h)
  front-passes start n [] (suc m) h e = refl
  front-passes start n (b ∷ s) (suc m) h e =
      let f : n + suc m ≡ (n + 1) + m = omega arith in
      let g : suc m - 1 ≡ m = omega arith in
      rw (e, rounds) (rw (f, g) (rounds-skip s m false (n + 1)))

  -- the same at place i of a text
  module _ (start : Bool) (s : List ℕ) (i : ℕ) where
    -- nothing is left
    pub rounds-end : length s ≤ i → rounds forms 0 start i (drop i s) ≡ nothing
    unfolding rounds
    rounds-end h = rw (drop_of_length-le s h) refl

    round-stops : (x : Scanned) → i < length s → round_of forms start (drop i s) ≡ ends x → rounds forms 0 start i (drop i s) ≡ behind i x
    round-stops x h e = front-stops start i (drop i s) x (omega (arith, length-drop i s)) e

    round-passes : (m : ℕ) → 0 < m → round_of forms start (drop i s) ≡ passes m → rounds forms 0 start i (drop i s) ≡ rounds forms 0 false (i + m) (drop (i + m) s)
    round-passes m h e = front-passes start i (drop i s) m h e ∙ ap (rounds forms 0 false (i + m)) (drop-drop m i s)

-- what a round gives at place i, with its place counted from the front
module _ (forms : Forms) (c : Consuming forms) (start : Bool) (s : List ℕ) (i : ℕ) (h : i < length s) where
  pub later-stops : (y : Scanned) → later i (round_of forms start (drop i s)) ≡ ends y → rounds forms 0 start i (drop i s) ≡ y
  later-stops y e = go (round_of forms start (drop i s)) refl e
    where
      go : (r : Round) → round_of forms start (drop i s) ≡ r → later i r ≡ ends y → rounds forms 0 start i (drop i s) ≡ y
      go (ends x) f g = round-stops forms start s i x h f ∙ ap end_of g
      go (passes m) f g = absurd (true≢false (ap is_pass g))

  pub later-passes :
      (j : ℕ) → later i (round_of forms start (drop i s)) ≡ passes j
      → (rounds forms 0 start i (drop i s) ≡ rounds forms 0 false j (drop j s)) × (i < j) × (j ≤ length s)
  later-passes j e = go (round_of forms start (drop i s)) refl (round-inside forms c start (drop i s)) e
    where
      go :
          (r : Round) → round_of forms start (drop i s) ≡ r → RoundInside (length (drop i s)) (round_of forms start (drop i s)) → later i r ≡ passes j
          → (rounds forms 0 start i (drop i s) ≡ rounds forms 0 false j (drop j s)) × (i < j) × (j ≤ length s)
      go (ends x) f w g = absurd (false≢true (ap is_pass g))
      go (passes m) f w g =
          let v = subst (RoundInside (length (drop i s))) f w in
          let k : i + m ≡ j = ap pass_of g in (
            round-passes forms start s i m v.0 f ∙ ap (λ (n : ℕ). rounds forms 0 false n (drop n s)) k,
            omega arith,
            omega (arith, k, v.1, length-drop i s),
          )

-- What the rounds find stands within what is left, and at place n or behind it.
module _ (forms : Forms) (c : Consuming forms) where
  pub rounds-inside : (s : List ℕ) (k : ℕ) (start : Bool) (n : ℕ) → Inside n (n + length s) (rounds forms k start n s)
  unfolding rounds
  rounds-inside [] zero start n = tt
  rounds-inside [] (suc k) start n = tt
  rounds-inside (b ∷ s) (suc k) start n = next-inside n (length s) (rounds forms k start (n + 1) s) (rounds-inside s k start (n + 1))
  rounds-inside (b ∷ s) zero start n = go (round_of forms start (b ∷ s)) (round-inside forms c start (b ∷ s)) (λ m. rounds-inside s m false (n + 1))
    where
      go :
          (r : Round) → RoundInside (suc (length s)) r → ((m : ℕ) → Inside (n + 1) (n + 1 + length s) (rounds forms m false (n + 1) s))
          → Inside n (n + suc (length s)) (elim r [ ends x ↦ behind n x | passes m ↦ rounds forms (m - 1) false (n + 1) s ])
      go (ends x) w ih = subst (λ m. Inside m (n + suc (length s)) (behind n x)) (add-zero n) (behind-inside n 0 (suc (length s)) x w)
      go (passes m) w ih = next-inside n (length s) (rounds forms (m - 1) false (n + 1) s) (ih (m - 1))

  -- "scanning ends": with a link of at least one byte within the input, or with none
  pub scan-inside : (s : List ℕ) → Inside 0 (length s) (scan_with forms s)
  unfolding scan_with
  scan-inside s = subst (λ m. Inside 0 m (scan_with forms s)) (zero-add (length s)) (rounds-inside s 0 true 0)

  pub scan-within : (s : List ℕ) (k : Kind) (x y : List ℕ) (m n : ℕ) → scan_with forms s ≡ found k x y m n → (0 < n) × (m + n ≤ length s)
  scan-within s k x y m n e = let w = subst (Inside 0 (length s)) e (scan-inside s) in (w.1, w.2)

  pub scan-room : (s : List ℕ) → scan_with forms s ≡ Scanned.no_room → ⊥
  scan-room s e = subst (Inside 0 (length s)) e (scan-inside s)

-- The five forms of reStructuredText consume so.
pub rst-consuming : Consuming rst
rst-consuming = (
  (λ s x y n e. let w = label2label-consumed s x y n e in (w.0, w.1), (block, tt)),
  (λ s x y n e. let w = text2dest-consumed s x y n e in (w.0, w.1), (λ s x y n e. let w = text-label2dest-consumed s x y n e in (w.0, w.1), tt)),
  (λ s x y n e. let w = text2label-consumed s x y n e in (w.0, w.1), tt),
  (block, tt),
)
  where
    block : (s x y : List ℕ) (n : ℕ) → label2dest_of s ≡ link x y n → (0 < n) × (n ≤ length s)
    block s x y n e = let w = label2dest-consumed s x y n e in (w.0, w.1)

-- so this scanner ends
pub scan-of-within : (s : List ℕ) (k : Kind) (x y : List ℕ) (m n : ℕ) → scan_of s ≡ found k x y m n → (0 < n) × (m + n ≤ length s)
unfolding scan_of
scan-of-within s k x y m n e = scan-within rst rst-consuming s k x y m n e

pub scan-of-room : (s : List ℕ) → scan_of s ≡ Scanned.no_room → ⊥
unfolding scan_of
scan-of-room s e = scan-room rst rst-consuming s e
