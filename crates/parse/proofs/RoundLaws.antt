-- The laws of one round at a place of a text s, by the tests of the code: what each step of specs/Scan.antt gives there, with places
-- counted from the front of s. A step at place i of what stands at place n of s is a step at place n + i of s.
-- Assumes nothing.
use Rattle.std.proofs.Common.{Option, Some, None, Result}
use Rattle.std.specs.Option.{ok_or}
use Rattle.restructured_text.specs.declared.ParseError.{ParseError}
use Rattle.restructured_text.specs.declared.ParseError.TheVariants.{NotFound}
use Prim.Native.Nat.{ℕ, ◌+◌, ◌<◌, ◌≤◌}
use mathlib.Core.Path.{◌≡◌, refl, sym, ap, ◌∙◌}
use mathlib.Core.List.{List, []}
use mathlib.Core.Bool.{Bool, true, false, cond, ◌||◌, or-false, or-true}
use native.Mathlib.Omega.{arith}
use native.Mathlib.Nat.{add_assoc}
use lib.Dec.{ltb, eqb}
use lib.ListN.{length, drop, get_or, length-drop}
use lib.Seq.{drop-drop}
use borrow.Author.Tests.{eqb-true, eqb-false, lt-ltb, le-ltb}
use Rattle.rst_bytes.specs.Line.{is_space, bytes_from, space0_of, space1_of}
use Rattle.rst_bytes.proofs.Lists.{drop-next, drop-end}
use Rattle.rst_bytes.proofs.LineLaws.{bytes-within, space1-none, space1-some}
use Rattle.parse.specs.declared.Link.{Link}
use Rattle.parse.specs.declared.Link.TheVariants.{Text2Dest, TextLabel2Dest, Text2Label, Label2Dest, Label2Label}
use Rattle.parse.specs.Link.{Kind, Scanned, found, nothing, no_room, behind, or_else, link_of, found_of, scanned_of, lent}
use Rattle.parse.specs.Forms.{Forms, tried, rst}
use Rattle.parse.specs.Laws.{Inside}
use Rattle.parse.proofs.ScanLaws.{pass_of, inline-inside, later-stops, later-passes, rst-consuming}
use Rattle.parse.specs.Scan.{
  Round,
  ends,
  passes,
  later,
  is_lf,
  lfs_of,
  opening_of,
  is_opening,
  reference_at,
  followed,
  consumed_of,
  block_at,
  inline_at,
  is_plain,
  passed_of,
  text_round,
  blank_round,
  line_round,
  round_of,
  rounds,
}
use Rattle.std.specs.declared.ops.ControlFlow.{ControlFlow}
use Rattle.std.specs.declared.ops.ControlFlow.TheVariants.{Break, Continue}
use Rattle.parse.specs.Inner.{step_of}

-- what stands behind i and then m bytes stands behind both
behind-behind : (i m : ℕ) (x : Scanned) → behind i (behind m x) ≡ behind (i + m) x
behind-behind i m (found k x y a n) = ap (λ (b : ℕ). found k x y b n) (sym (add_assoc i m a))
behind-behind i m nothing = refl
behind-behind i m no_room = refl

later-later : (i m : ℕ) (r : Round) → later i (later m r) ≡ later (i + m) r
later-later i m (ends x) = ap ends (behind-behind i m x)
later-later i m (passes n) = ap passes (sym (add_assoc i m n))

-- a block that follows a link which stands behind m bytes
followed-behind : (forms : Forms) (s : List ℕ) (m : ℕ) (x : Scanned) → followed forms s (behind m x) ≡ behind m (followed forms (drop m s) x)
followed-behind forms s m (found k x y a n) =
    ap (λ (l : List ℕ). found k x y (m + a) (n + consumed_of (tried forms.unreported l)))
    (ap (λ (b : ℕ). drop b s) (add_assoc m a n) ∙ sym (drop-drop (a + n) m s))
followed-behind forms s m nothing = refl
followed-behind forms s m no_room = refl

-- answers that differ
pub found_nothing : (k : Kind) (x y : List ℕ) (m n : ℕ) → found k x y m n ≡ nothing → ⊥
found_nothing k x y m n e = let z : ◌≡◌ {A = ℕ} 0 1 = cc in omega arith

found-room : (k : Kind) (x y : List ℕ) (m n : ℕ) → found k x y m n ≡ no_room → ⊥
found-room k x y m n e = let z : ◌≡◌ {A = ℕ} 0 1 = cc in omega arith

nothing-room : nothing ≡ no_room → ⊥
nothing-room e = let z : ◌≡◌ {A = ℕ} 0 1 = cc in omega arith

-- a link, whichever case it is, is found
pub link-nothing : (x : Link) (d : List ℕ) → link_of x d ≡ nothing → ⊥
link-nothing (Text2Dest a b m n) d e = found_nothing _ _ _ _ _ e
link-nothing (TextLabel2Dest a b m n) d e = found_nothing _ _ _ _ _ e
link-nothing (Text2Label a b m n) d e = found_nothing _ _ _ _ _ e
link-nothing (Label2Dest a b m n) d e = found_nothing _ _ _ _ _ e
link-nothing (Label2Label a b m n) d e = found_nothing _ _ _ _ _ e

pub link-room : (x : Link) (d : List ℕ) → link_of x d ≡ no_room → ⊥
link-room (Text2Dest a b m n) d e = found-room _ _ _ _ _ e
link-room (TextLabel2Dest a b m n) d e = found-room _ _ _ _ _ e
link-room (Text2Label a b m n) d e = found-room _ _ _ _ _ e
link-room (Label2Dest a b m n) d e = found-room _ _ _ _ _ e
link-room (Label2Label a b m n) d e = found-room _ _ _ _ _ e

-- an answer that is known to be x says what x says
pub is-scanned : {r x : Option Link} → r ≡ x → (d : List ℕ) → found_of x d ≡ found_of r d
is-scanned e d = ap (λ (y : Option Link). found_of y d) (sym e)

-- what is found, as the scanner's answer
pub scanned_is : (x : Option Link) (r : Result Link ParseError) (d : List ℕ) → r ≡ ok_or x NotFound → scanned_of r d ≡ found_of x d
scanned_is (Some x) r d e = ap (λ (y : Result Link ParseError). scanned_of y d) e
scanned_is None r d e = ap (λ (y : Result Link ParseError). scanned_of y d) e

-- What was looked for first, z, stands behind i bytes of the text: it ends the scan if it is a link, else r is what comes.
abbrev pub or_go : Scanned → Round → Round
or_go z r = elim z [ found k x y m n ↦ ends (found k x y m n) | nothing ↦ r | no_room ↦ ends no_room ]

go-found : (i : ℕ) (z : Scanned) (r : Round) (x : Link) (d : List ℕ) → link_of x d ≡ behind i z → ends (link_of x d) ≡ later i (or_go z r)
go-found i (found k u v m n) r x d e = ap ends e
go-found i nothing r x d e = absurd (link-nothing x d e)
go-found i no_room r x d e = absurd (link-room x d e)

go-nothing : (i : ℕ) (z : Scanned) (r : Round) → nothing ≡ behind i z → later i r ≡ later i (or_go z r)
go-nothing i (found k u v m n) r e = absurd (found_nothing _ _ _ _ _ (sym e))
go-nothing i nothing r e = refl
go-nothing i no_room r e = absurd (nothing-room e)

-- (d) and (e): a link of (d) is the answer; where there is none, it is that of (e)
module _ (i : ℕ) (u : List ℕ) where
  else-found : (z w : Scanned) (x : Link) (d : List ℕ) → link_of x d ≡ behind i (followed rst u z) → link_of x d ≡ behind i (followed rst u (or_else z w))
  else-found (found k y v m n) w x d e = e
  else-found nothing w x d e = absurd (link-nothing x d e)
  else-found no_room w x d e = absurd (link-room x d e)

  else-nothing : (z w y : Scanned) → nothing ≡ behind i (followed rst u z) → y ≡ behind i (followed rst u w) → y ≡ behind i (followed rst u (or_else z w))
  else-nothing (found k x v m n) w y e f = absurd (found_nothing _ _ _ _ _ (sym e))
  else-nothing nothing w y e f = f
  else-nothing no_room w y e f = absurd (nothing-room e)

  module _ (spaced : Bool) where
    module _ (r : Option Link) (d : List ℕ) (e : found_of r d ≡ behind i (followed rst u (tried rst.embedded u))) where
      pub inline-embedded : (x : Link) → r ≡ Some x → found_of r d ≡ behind i (inline_at rst spaced u)
      unfolding inline_at
      inline-embedded x f = sym (is-scanned f d) ∙ else-found (tried rst.embedded u) (reference_at rst spaced u) x d (is-scanned f d ∙ e)

      pub inline-reference : (y : Scanned) → r ≡ None → y ≡ behind i (followed rst u (reference_at rst spaced u)) → y ≡ behind i (inline_at rst spaced u)
      unfolding inline_at
      inline-reference y f g = else-nothing (tried rst.embedded u) (reference_at rst spaced u) y (is-scanned f d ∙ e) g

    -- where neither finds a link, (d) does not
    pub inline-unlinked : nothing ≡ behind i (inline_at rst spaced u) → tried rst.embedded u ≡ nothing
    unfolding inline_at
    inline-unlinked e = go (tried rst.embedded u) refl e
      where
        go : (z : Scanned) → tried rst.embedded u ≡ z → nothing ≡ behind i (followed rst u (or_else z (reference_at rst spaced u))) → tried rst.embedded u ≡ nothing
        go (found k x y m n) q f = absurd (found_nothing _ _ _ _ _ (sym f))
        go nothing q f = q
        go no_room q f = absurd (nothing-room f)

    -- (d) to (f)
    module _ (r : Option Link) (d : List ℕ) (e : found_of r d ≡ behind i (inline_at rst spaced u)) where
      pub text-found : (x : Link) → r ≡ Some x → ends (found_of r d) ≡ later i (text_round rst spaced u)
      unfolding text_round
      text-found x f = ap ends (sym (is-scanned f d)) ∙ go-found i (inline_at rst spaced u) (passed_of u) x d (is-scanned f d ∙ e)

    pub text-passed : (j : ℕ) → nothing ≡ behind i (inline_at rst spaced u) → later i (passed_of u) ≡ passes j → passes j ≡ later i (text_round rst spaced u)
    unfolding text_round
    text-passed j e f = sym f ∙ go-nothing i (inline_at rst spaced u) (passed_of u) e

  -- (b) to (f)
  module _ (line : Bool) where
    module _ (r : Option Link) (d : List ℕ) (e : found_of r d ≡ behind i (block_at rst line u)) where
      pub line-found : (x : Link) → r ≡ Some x → ends (found_of r d) ≡ later i (line_round rst line u)
      unfolding line_round
      line-found x f = ap ends (sym (is-scanned f d)) ∙ go-found i (block_at rst line u) (blank_round rst line u) x d (is-scanned f d ∙ e)

    pub line-blank : nothing ≡ behind i (block_at rst line u) → later i (blank_round rst line u) ≡ later i (line_round rst line u)
    unfolding line_round
    line-blank e = go-nothing i (block_at rst line u) (blank_round rst line u) e

-- (e) behind o bytes that are skipped
reference-at : (s : List ℕ) (i o : ℕ) → opening_of (drop i s) ≡ o → behind (i + o) (followed rst (drop (i + o) s) (tried rst.references (drop (i + o) s))) ≡ behind i (followed rst (drop i s) (reference_at rst true (drop i s)))
reference-at s i o e =
    let u = drop i s in
    ap (λ (l : List ℕ). behind (i + o) (followed rst l (tried rst.references l))) (sym (drop-drop o i s))
    ∙ sym (behind-behind i o (followed rst (drop o u) (tried rst.references (drop o u))))
    ∙ ap (behind i) (sym (followed-behind rst u o (tried rst.references (drop o u))))
    ∙ ap (λ (n : ℕ). behind i (followed rst u (behind n (tried rst.references (drop n u))))) (sym e)

module _ (s : List ℕ) (i : ℕ) (h : i < length s) where
  opening-one : is_opening (get_or s i 0) ≡ true → opening_of (drop i s) ≡ 1
  unfolding opening_of
  opening-one e = rw (drop-next s i h) (rw (e, opening_of) refl)

  opening-none : is_opening (get_or s i 0) ≡ false → opening_of (drop i s) ≡ 0
  unfolding opening_of
  opening-none e = rw (drop-next s i h) (rw (e, opening_of) refl)

  -- (e) behind one of the openings if there is one
  pub reference-opened :
      (n : ℕ) (b : Bool) → b ≡ is_opening (get_or s i 0) → n ≡ cond b 1 0
      → behind (i + n) (followed rst (drop (i + n) s) (tried rst.references (drop (i + n) s))) ≡ behind i (followed rst (drop i s) (reference_at rst true (drop i s)))
  reference-opened n true e f = reference-at s i n (opening-one (sym e) ∙ sym f)
  reference-opened n false e f = reference-at s i n (opening-none (sym e) ∙ sym f)

-- (d) to (f) at the end
pub text-end : (spaced : Bool) (s : List ℕ) (i : ℕ) → length s ≤ i → ends nothing ≡ later i (text_round rst spaced (drop i s))
unfolding text_round passed_of
text-end spaced s i h = rw (drop-end s i h) (go (inline_at rst spaced []) (inline-inside rst rst-consuming spaced []))
  where
    go : (z : Scanned) → Inside 0 0 z → ends nothing ≡ later i (or_go z (ends nothing))
    go (found k x y m n) w = absurd (omega (arith, w.1, w.2))
    go nothing w = refl
    go no_room w = absurd w

-- (f) one byte and those others
pub passed-at : (s : List ℕ) (i : ℕ) → i < length s → later i (passed_of (drop i s)) ≡ passes (i + 1 + bytes_from is_plain 0 (drop (i + 1) s))
unfolding passed_of
passed-at s i h = rw (drop-next s i h) (ap passes (omega arith))

-- and so no byte is read again
pub passed-le : (s : List ℕ) (i j : ℕ) → i < length s → later i (passed_of (drop i s)) ≡ passes j → i ≤ j
passed-le s i j h e = omega (arith, ap pass_of (sym (passed-at s i h) ∙ e))

-- (a) LFs, and then (b) to (f) behind them
pub round-at : (start : Bool) (s : List ℕ) (i : ℕ) → let n = lfs_of (drop i s) in later i (round_of rst start (drop i s)) ≡ later (i + n) (line_round rst (start || ltb 0 n) (drop (i + n) s))
unfolding round_of
round-at start s i =
    let n = lfs_of (drop i s) in
    later-later i n (line_round rst (start || ltb 0 n) (drop n (drop i s)))
    ∙ ap (λ (l : List ℕ). later (i + n) (line_round rst (start || ltb 0 n) l)) (drop-drop n i s)

-- (c) where blanks are taken, and where there are none
module _ (line : Bool) (u : List ℕ) where
  abbrev blanks_then : Option ℕ → Round
  blanks_then p = elim p [ Some n ↦ later n (text_round rst true (drop n u)) | None ↦ text_round rst line u ]

  blank_none : space1_of u ≡ None → blank_round rst line u ≡ text_round rst line u
  unfolding blank_round
  blank_none e = ap blanks_then e

  blank-some : (m : ℕ) → space1_of u ≡ Some m → blank_round rst line u ≡ later m (text_round rst true (drop m u))
  unfolding blank_round
  blank-some m e = ap blanks_then e

-- (c) blanks, and then (d) to (f) behind them
pub blank-at : (line : Bool) (s : List ℕ) (a : ℕ) → let m = space0_of (drop a s) in later a (blank_round rst line (drop a s)) ≡ later (a + m) (text_round rst (line || ltb 0 m) (drop (a + m) s))
blank-at line s a = go (eqb m 0) refl
  where
    m : ℕ
    m = space0_of (drop a s)

    at : (n : ℕ) (spaced : Bool) → Round
    at n spaced = later n (text_round rst spaced (drop n s))

    go : (t : Bool) → eqb m 0 ≡ t → later a (blank_round rst line (drop a s)) ≡ later (a + m) (text_round rst (line || ltb 0 m) (drop (a + m) s))
    go true e =
        let f : m ≡ 0 = eqb-true m 0 e in
        let g : a ≡ a + m = omega (arith, f) in
        ap (later a) (blank_none line (drop a s) (space1-none (drop a s) f))
        ∙ ap (λ (b : Bool). at a b) (sym (or-false line))
        ∙ ap (λ (n : ℕ). at a (line || ltb 0 n)) (sym f)
        ∙ ap (λ (n : ℕ). at n (line || ltb 0 m)) g
    go false e =
        let f = eqb-false m 0 e in
        ap (later a) (blank-some line (drop a s) m (space1-some (drop a s) f))
        ∙ later-later a m (text_round rst true (drop m (drop a s)))
        ∙ ap (λ (l : List ℕ). later (a + m) (text_round rst true l)) (drop-drop m a s)
        ∙ ap (λ (b : Bool). at (a + m) b) (sym (ap (λ (b : Bool). line || b) (lt-ltb 0 m (omega arith)) ∙ or-true line))

-- The same in the code's form: the counts are those of what stands at place i, r, and a start is told by a test.
module _ (s r : List ℕ) (i n : ℕ) (h : i ≤ length s) (q : r ≡ drop i s) where
  counted-le : (f : ℕ → Bool) → n ≡ bytes_from f 0 (drop i s) → i + n ≤ length s
  counted-le f e = omega (arith, e, bytes-within f (drop i s), length-drop i s)

  module _ (e : n ≡ lfs_of r) where
    pub lfs-le : i + n ≤ length s
    lfs-le = counted-le is_lf (e ∙ ap lfs_of q)

    pub round-lines : (start line : Bool) → line ≡ (start || ltb 0 n) → later (i + n) (line_round rst line (drop (i + n) s)) ≡ later i (round_of rst start (drop i s))
    round-lines start line f =
        ap (λ (b : Bool). later (i + n) (line_round rst b (drop (i + n) s))) f
        ∙ ap (λ (m : ℕ). later (i + m) (line_round rst (start || ltb 0 m) (drop (i + m) s))) (e ∙ ap lfs_of q)
        ∙ sym (round-at start s i)

  module _ (e : n ≡ space0_of r) where
    pub blanks-le : i + n ≤ length s
    blanks-le = counted-le is_space (e ∙ ap space0_of q)

    pub line-text : (line spaced : Bool) → spaced ≡ (line || ltb 0 n) → later (i + n) (text_round rst spaced (drop (i + n) s)) ≡ later i (blank_round rst line (drop i s))
    line-text line spaced f =
        ap (λ (b : Bool). later (i + n) (text_round rst b (drop (i + n) s))) f
        ∙ ap (λ (m : ℕ). later (i + m) (text_round rst (line || ltb 0 m) (drop (i + m) s))) (e ∙ ap space0_of q)
        ∙ sym (blank-at line s i)

-- A round's answer at place i of s, by which case the code's is.
module _ (start : Bool) (s : List ℕ) (i : ℕ) (h : i < length s) (r : ControlFlow (Option Link) ℕ) (d : List ℕ) (e : step_of r d ≡ later i (round_of rst start (drop i s))) where
  step_is : (x : ControlFlow (Option Link) ℕ) → r ≡ x → later i (round_of rst start (drop i s)) ≡ step_of x d
  step_is x f = sym e ∙ ap (λ (y : ControlFlow (Option Link) ℕ). step_of y d) f

  pub step-stops : (x : Option Link) → r ≡ Break x → found_of x d ≡ rounds rst 0 start i (drop i s)
  step-stops x f = sym (later-stops rst rst-consuming start s i h (found_of x d) (step_is (Break x) f))

  pub step-passes : (j : ℕ) → r ≡ Continue j → (rounds rst 0 start i (drop i s) ≡ rounds rst 0 false j (drop j s)) × (i < j) × (j ≤ length s)
  step-passes j f = later-passes rst rst-consuming start s i h j (step_is (Continue j) f)

-- The scratch d of a text s is too short, or long enough.
module _ (s d : List ℕ) (x : Scanned) where
  pub lent-short : length d < length s → no_room ≡ lent s d x
  lent-short h = rw (lt-ltb (length d) (length s) h, lent)

  pub lent-enough : length s ≤ length d → x ≡ lent s d x
  lent-enough h = rw (le-ltb (length d) (length s) h, lent)
