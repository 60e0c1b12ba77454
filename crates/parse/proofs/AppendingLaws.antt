-- The laws of `specs/Scan.antt` and `specs/Links.antt` on appended text: LF and a tail behind a text change no link of it. The forms
-- find there what they found, so a round gives what it gave, unless it had reached the end; then what it finds is behind that LF.
-- Assumes nothing.
use Rattle.std.proofs.Common.{Option, Some, None}
use Prim.Native.Nat.{ℕ, zero, suc, ◌+◌, ◌-◌, ◌<◌, ◌≤◌}
use native.Mathlib.Nat.{zero-add}
use native.Mathlib.Omega.{arith}
use mathlib.Core.Path.{◌≡◌, refl, ap, subst, subst⁻¹, ◌∙◌}
use mathlib.Core.List.{List, [], ◌∷◌, ◌++◌}
use mathlib.Core.Bool.{Bool, true, false, ◌||◌}
use mathlib.Core.Logic.{◌⊎◌, inl, inr}
use lib.Dec.{ltb}
use lib.ListN.{length, drop, length-drop}
use lib.Seq.{drop-append-le}
use Rattle.rst_bytes.specs.Appending.{Body, Tail}
use Rattle.rst_bytes.specs.Line.{bytes_from, space1_of}
use Rattle.rst_bytes.proofs.TestLaws.{by-test₂}
use Rattle.rst_bytes.proofs.LineLaws.{bytes-within, bytes-append, bytes_count, space1-le, space1-lf, body-drop}
use Rattle.restructured_text.specs.Strings.{Link, link, none, no_room}
use Rattle.restructured_text.proofs.InlineLaws.{text2dest-lf, text-label2dest-lf, text2label-lf}
use Rattle.restructured_text.proofs.TargetLaws.{label2dest-lf, label2label-lf}
use Rattle.parse.specs.Link.{Kind, Scanned, found, nothing, behind, or_else}
use Rattle.parse.specs.Forms.{Form, Forms, Consuming, tried, rst}
use Rattle.parse.specs.Scan.{Round, ends, passes, later, is_lf, lfs_of, block_at, is_opening, opening_of, reference_at, consumed_of, followed, inline_at, is_start, is_plain, passed_of, text_round, blank_round, line_round, round_of, rounds, scan_with, scan_of}
use Rattle.parse.specs.Links.{Placed, placed, links_from, links_of}
use Rattle.parse.specs.Laws.{Inside, RoundInside, Apart, AllKeeping, Keeping, Later, Stays, AllBehind, Continues}
use Rattle.parse.proofs.ScanLaws.{split, opening-le, block_inside, either-inside, inline-inside, line-inside, round-inside, rounds-skip, rounds-inside, scan-inside, rst-consuming}
use Rattle.parse.proofs.LinksLaws.{links_in, links-skip, links-apart}

-- so it is for reStructuredText
rst-keeping : (t : List ℕ) → Tail t → Keeping t rst
rst-keeping t h = (
  (λ s b. label2label-lf s t h b, (λ s b. label2dest-lf s t h b, tt)),
  (λ s b. text2dest-lf s t h, (λ s b. text-label2dest-lf s t h, tt)),
  (λ s b. text2label-lf s t h, tt),
  (λ s b. label2dest-lf s t h b, tt),
)

-- a round that finds nothing up to place p
abbrev Past : ℕ → Round → Type 0
Past p (ends x) = Later p x
Past p (passes n) = p < n

-- a round is the same, or it found nothing and now it finds nothing up to place p
abbrev Keeps : ℕ → Round → Round → Type 0
Keeps p (ends (found k x y m n)) r = r ≡ ends (found k x y m n)
Keeps p (ends nothing) r = Past p r
Keeps p (ends Scanned.no_room) r = ⊥
Keeps p (passes n) r = r ≡ passes n

behind-later : (n p : ℕ) (x : Scanned) → Later p x → Later (n + p) (behind n x)
behind-later n p (found k x y i c) w = omega arith
behind-later n p nothing w = tt
behind-later n p Scanned.no_room w = tt

later-past : (n p : ℕ) (r : Round) → Past p r → Past (n + p) (later n r)
later-past n p (ends x) w = behind-later n p x w
later-past n p (passes m) w = omega arith

later-keeps : (n p : ℕ) (r r' : Round) → Keeps p r r' → Keeps (n + p) (later n r) (later n r')
later-keeps n p (ends (found k x y i c)) r' w = ap (later n) w
later-keeps n p (ends nothing) r' w = later-past n p r' w
later-keeps n p (ends Scanned.no_room) r' w = w
later-keeps n p (passes m) r' w = ap (later n) w

-- n bytes of s and what a part of a round, which keeps, says of the rest
later-rest :
    (t : List ℕ) (f : List ℕ → Round) (n : ℕ) (s : List ℕ) → n ≤ length s → Keeps (length (drop n s)) (f (drop n s)) (f (drop n s ++ 10 ∷ t))
    → Keeps (length s) (later n (f (drop n s))) (later n (f (drop n (s ++ 10 ∷ t))))
later-rest t f n s h w =
    rw (drop-append-le n s (10 ∷ t) h)
    (subst (λ m. Keeps m (later n (f (drop n s))) (later n (f (drop n s ++ 10 ∷ t)))) (split n s h)
    (later-keeps n (length (drop n s)) (f (drop n s)) (f (drop n s ++ 10 ∷ t)) w))

-- behind more than p bytes a round finds nothing up to place p
far-past : (n p : ℕ) (r : Round) → p < n → Past p (later n r)
far-past n p (ends (found k x y i c)) h = omega arith
far-past n p (ends nothing) h = tt
far-past n p (ends Scanned.no_room) h = tt
far-past n p (passes m) h = omega arith

-- where no byte is left, a round finds nothing
none_left : (r : Round) → RoundInside 0 r → r ≡ ends nothing
none_left (ends (found k x y i c)) w = absurd (omega arith)
none_left (ends nothing) w = refl
none_left (ends Scanned.no_room) w = absurd w
none_left (passes m) w = absurd (omega arith)

apart-behind : (n m p : ℕ) (xs : List Placed) → p < n → Apart n m xs → AllBehind p xs
apart-behind n m p [] h w = tt
apart-behind n m p (x ∷ xs) h w = (omega arith, apart-behind (x.place + x.consumed) m p xs (omega arith) w.1)

-- The LFs at the front: all of a text of LFs, and one more at least; or as many as before.
lfs-lf :
    (t s : List ℕ) (n : ℕ)
    → ((bytes_from is_lf n s < n + length s) × (bytes_from is_lf n (s ++ 10 ∷ t) ≡ bytes_from is_lf n s))
    ⊎ ((bytes_from is_lf n s ≡ n + length s) × (n + length s < bytes_from is_lf n (s ++ 10 ∷ t)))
unfolding bytes_from
lfs-lf t [] n = inr (omega arith, omega (arith, bytes_count is_lf t (n + 1)))
lfs-lf t (b ∷ s) n =
    by-test₂ (λ x y. ((x < n + suc (length s)) × (y ≡ x)) ⊎ ((x ≡ n + suc (length s)) × (n + suc (length s) < y))) (is_lf b) _ _ _ _
    (λ e. go (lfs-lf t s (n + 1)))
    (λ e. inl (omega arith, refl))
  where
    go :
        ((bytes_from is_lf (n + 1) s < n + 1 + length s) × (bytes_from is_lf (n + 1) (s ++ 10 ∷ t) ≡ bytes_from is_lf (n + 1) s))
        ⊎ ((bytes_from is_lf (n + 1) s ≡ n + 1 + length s) × (n + 1 + length s < bytes_from is_lf (n + 1) (s ++ 10 ∷ t)))
        → ((bytes_from is_lf (n + 1) s < n + suc (length s)) × (bytes_from is_lf (n + 1) (s ++ 10 ∷ t) ≡ bytes_from is_lf (n + 1) s))
        ⊎ ((bytes_from is_lf (n + 1) s ≡ n + suc (length s)) × (n + suc (length s) < bytes_from is_lf (n + 1) (s ++ 10 ∷ t)))
    go (inl w) = inl (omega arith, w.1)
    go (inr w) = inr (omega arith, omega arith)

opening-lf : (t s : List ℕ) → opening_of (s ++ 10 ∷ t) ≡ opening_of s
unfolding opening_of is_opening
opening-lf t [] = refl
opening-lf t (b ∷ s) = refl

-- what a form finds, else z
abbrev picked : Form → Link → Scanned → Scanned
picked f r z = elim r [ link x y n ↦ found f.kind x y 0 n | none ↦ z | no_room ↦ z ]

tried-lf : (t : List ℕ) (fs : List Form) → AllKeeping t fs → (s : List ℕ) → Body s → tried fs (s ++ 10 ∷ t) ≡ tried fs s
tried-lf t [] k s b = refl
tried-lf t (f ∷ fs) k s b =
    ap (λ (z : Link). picked f z (tried fs (s ++ 10 ∷ t))) (k.0 s b) ∙ ap (picked f (f.parser s)) (tried-lf t fs k.1 s b)

module _ (forms : Forms) (c : Consuming forms) (t : List ℕ) (kept : Keeping t forms) where
  block-lf : (line : Bool) (s : List ℕ) → Body s → block_at forms line (s ++ 10 ∷ t) ≡ block_at forms line s
  block-lf true s b = tried-lf t forms.blocks kept.0 s b
  block-lf false s b = refl

  reference-lf : (spaced : Bool) (s : List ℕ) → Body s → reference_at forms spaced (s ++ 10 ∷ t) ≡ reference_at forms spaced s
  reference-lf true s b =
      ap (λ (n : ℕ). behind n (tried forms.references (drop n (s ++ 10 ∷ t)))) (opening-lf t s)
      ∙ ap (λ (l : List ℕ). behind (opening_of s) (tried forms.references l)) (drop-append-le (opening_of s) s (10 ∷ t) (opening-le s))
      ∙ ap (behind (opening_of s)) (tried-lf t forms.references kept.2 (drop (opening_of s) s) (body-drop s (opening_of s) b))
  reference-lf false s b = refl

  followed-lf : (s : List ℕ) → Body s → (x : Scanned) → Inside 0 (length s) x → followed forms (s ++ 10 ∷ t) x ≡ followed forms s x
  followed-lf s b (found k x y m n) w =
      ap (λ (l : List ℕ). found k x y m (n + consumed_of (tried forms.unreported l))) (drop-append-le (m + n) s (10 ∷ t) w.2)
      ∙ ap (λ (z : Scanned). found k x y m (n + consumed_of z)) (tried-lf t forms.unreported kept.3 (drop (m + n) s) (body-drop s (m + n) b))
  followed-lf s b nothing w = refl
  followed-lf s b Scanned.no_room w = refl

  -- links that are no blocks stay
  inline-lf : (spaced : Bool) (s : List ℕ) → Body s → inline_at forms spaced (s ++ 10 ∷ t) ≡ inline_at forms spaced s
  unfolding inline_at
  inline-lf spaced s b =
      ap (λ (x : Scanned). followed forms (s ++ 10 ∷ t) (or_else x (reference_at forms spaced (s ++ 10 ∷ t)))) (tried-lf t forms.embedded kept.1 s b)
      ∙ ap (λ (x : Scanned). followed forms (s ++ 10 ∷ t) (or_else (tried forms.embedded s) x)) (reference-lf spaced s b)
      ∙ followed-lf s b (or_else (tried forms.embedded s) (reference_at forms spaced s)) (either-inside forms c spaced s)

  passed-keeps : (s : List ℕ) → Keeps (length s) (passed_of s) (passed_of (s ++ 10 ∷ t))
  unfolding passed_of is_start
  passed-keeps [] = omega arith
  passed-keeps (b ∷ s) = ap (λ (n : ℕ). passes (1 + n)) (bytes-append is_plain 10 t refl s 0)

  -- The rounds' parts keep.
  text-keeps : (spaced : Bool) (s : List ℕ) → Body s → Keeps (length s) (text_round forms spaced s) (text_round forms spaced (s ++ 10 ∷ t))
  unfolding text_round
  text-keeps spaced s b = go (inline_at forms spaced s) (inline_at forms spaced (s ++ 10 ∷ t)) (inline-lf spaced s b) (inline-inside forms c spaced s)
    where
      go :
          (z z' : Scanned) → z' ≡ z → Inside 0 (length s) z
          → Keeps (length s)
          (elim z [ found k x y m n ↦ ends (found k x y m n) | nothing ↦ passed_of s | Scanned.no_room ↦ ends Scanned.no_room ])
          (elim z' [ found k x y m n ↦ ends (found k x y m n) | nothing ↦ passed_of (s ++ 10 ∷ t) | Scanned.no_room ↦ ends Scanned.no_room ])
      go (found k x y m n) z' e w = rw e refl
      go nothing z' e w = rw e (passed-keeps s)
      go Scanned.no_room z' e w = absurd w

  blank-keeps : (line : Bool) (s : List ℕ) → Body s → Keeps (length s) (blank_round forms line s) (blank_round forms line (s ++ 10 ∷ t))
  unfolding blank_round
  blank-keeps line s b = go (space1_of s) (space1_of (s ++ 10 ∷ t)) (space1-lf s t) refl
    where
      go :
          (z z' : Option ℕ) → z' ≡ z → space1_of s ≡ z
          → Keeps (length s)
          (elim z [ Some n ↦ later n (text_round forms true (drop n s)) | None ↦ text_round forms line s ])
          (elim z' [ Some n ↦ later n (text_round forms true (drop n (s ++ 10 ∷ t))) | None ↦ text_round forms line (s ++ 10 ∷ t) ])
      go (Some n) z' e f =
          rw e (later-rest t (text_round forms true) n s (space1-le s n f) (text-keeps true (drop n s) (body-drop s n b)))
      go None z' e f = rw e (text-keeps line s b)

  line-keeps : (line : Bool) (s : List ℕ) → Body s → Keeps (length s) (line_round forms line s) (line_round forms line (s ++ 10 ∷ t))
  unfolding line_round
  line-keeps line s b = go (block_at forms line s) (block_at forms line (s ++ 10 ∷ t)) (block-lf line s b) (block_inside forms c line s)
    where
      go :
          (z z' : Scanned) → z' ≡ z → Inside 0 (length s) z
          → Keeps (length s)
          (elim z [ found k x y m n ↦ ends (found k x y m n) | nothing ↦ blank_round forms line s | Scanned.no_room ↦ ends Scanned.no_room ])
          (elim z' [ found k x y m n ↦ ends (found k x y m n) | nothing ↦ blank_round forms line (s ++ 10 ∷ t) | Scanned.no_room ↦ ends Scanned.no_room ])
      go (found k x y m n) z' e w = rw e refl
      go nothing z' e w = rw e (blank-keeps line s b)
      go Scanned.no_room z' e w = absurd w

  round_keeps : (start : Bool) (s : List ℕ) → Body s → Keeps (length s) (round_of forms start s) (round_of forms start (s ++ 10 ∷ t))
  unfolding round_of
  round_keeps start s b = go (lfs-lf t s 0)
    where
      line : ℕ → List ℕ → Round
      line n l = line_round forms (start || ltb 0 n) l

      go :
          ((lfs_of s < 0 + length s) × (lfs_of (s ++ 10 ∷ t) ≡ lfs_of s)) ⊎ ((lfs_of s ≡ 0 + length s) × (0 + length s < lfs_of (s ++ 10 ∷ t)))
          → Keeps (length s) (round_of forms start s) (round_of forms start (s ++ 10 ∷ t))
      go (inl w) =
          rw w.1
          (later-rest t (line (lfs_of s)) (lfs_of s) s (bytes-within is_lf s)
          (line-keeps (start || ltb 0 (lfs_of s)) (drop (lfs_of s) s) (body-drop s (lfs_of s) b)))
      go (inr w) =
          let e : length (drop (lfs_of s) s) ≡ 0 = omega (arith, w.0, length-drop (lfs_of s) s) in
          let i = line-inside forms c (start || ltb 0 (lfs_of s)) (drop (lfs_of s) s) in
          subst⁻¹ (λ r. Keeps (length s) (later (lfs_of s) r) (round_of forms start (s ++ 10 ∷ t)))
          (none_left (line (lfs_of s) (drop (lfs_of s) s)) (subst (λ m. RoundInside m (line (lfs_of s) (drop (lfs_of s) s))) e i))
          (far-past (lfs_of (s ++ 10 ∷ t)) (length s) (line (lfs_of (s ++ 10 ∷ t)) (drop (lfs_of (s ++ 10 ∷ t)) (s ++ 10 ∷ t))) (omega (arith, w.1)))

  -- behind more than p bytes the rounds find nothing up to place p
  rounds-far : (l : List ℕ) (k : ℕ) (start : Bool) (n p : ℕ) → p < n + k → Later p (rounds forms k start n l)
  rounds-far l k start n p h =
      subst⁻¹ (Later p) (rounds-skip forms l k start n)
      (go (rounds forms 0 start (n + k) (drop k l)) (rounds-inside forms c (drop k l) 0 start (n + k)))
    where
      go : (x : Scanned) → Inside (n + k) (n + k + length (drop k l)) x → Later p x
      go (found kind x y i m) w = omega arith
      go nothing w = tt
      go Scanned.no_room w = tt

  past-later :
      (n p : ℕ) (l : List ℕ) (r : Round) → Past p r
      → Later (n + p) (elim r [ ends x ↦ behind n x | passes m ↦ rounds forms (m - 1) false (n + 1) l ])
  past-later n p l (ends x) w = behind-later n p x w
  past-later n p l (passes m) w = rounds-far l (m - 1) false (n + 1) (n + p) (omega arith)

  rounds-stay :
      (s : List ℕ) (k : ℕ) (start : Bool) (n : ℕ) → k ≤ length s → Body s
      → Stays (n + length s) (rounds forms k start n s) (rounds forms k start n (s ++ 10 ∷ t))
  unfolding rounds
  rounds-stay [] (suc k) start n h b = absurd (omega arith)
  rounds-stay [] zero start n h b =
      past-later n 0 t (round_of forms start (10 ∷ t))
      (subst (λ r. Keeps 0 r (round_of forms start (10 ∷ t))) (none_left (round_of forms start []) (round-inside forms c start [])) (round_keeps start [] b))
  rounds-stay (d ∷ s) (suc k) start n h b =
      let e : n + 1 + length s ≡ n + suc (length s) = omega arith in
      subst (λ m. Stays m (rounds forms k start (n + 1) s) (rounds forms k start (n + 1) (s ++ 10 ∷ t))) e
      (rounds-stay s k start (n + 1) (omega arith) (body-drop (d ∷ s) 1 b))
  rounds-stay (d ∷ s) zero start n h b =
      go (round_of forms start (d ∷ s)) (round_of forms start (d ∷ s ++ 10 ∷ t)) (round-inside forms c start (d ∷ s)) (round_keeps start (d ∷ s) b)
      (λ k g. rounds-stay s k false (n + 1) g (body-drop (d ∷ s) 1 b))
    where
      go :
          (r r' : Round) → RoundInside (suc (length s)) r → Keeps (suc (length s)) r r'
          → ((k : ℕ) → k ≤ length s → Stays (n + 1 + length s) (rounds forms k false (n + 1) s) (rounds forms k false (n + 1) (s ++ 10 ∷ t)))
          → Stays (n + suc (length s))
          (elim r [ ends x ↦ behind n x | passes m ↦ rounds forms (m - 1) false (n + 1) s ])
          (elim r' [ ends x ↦ behind n x | passes m ↦ rounds forms (m - 1) false (n + 1) (s ++ 10 ∷ t) ])
      go (ends (found k x y i m)) r' w v ih = rw v refl
      go (ends nothing) r' w v ih = past-later n (suc (length s)) (s ++ 10 ∷ t) r' v
      go (ends Scanned.no_room) r' w v ih = absurd w
      go (passes m) r' w v ih =
          let e : n + 1 + length s ≡ n + suc (length s) = omega arith in
          rw (v, ← e) (ih (m - 1) (omega arith))

  -- the first link of a text stays; where there is none, the first is behind that LF
  pub scan-stays : (s : List ℕ) → Body s → Stays (length s) (scan_with forms s) (scan_with forms (s ++ 10 ∷ t))
  unfolding scan_with
  scan-stays s b = subst (λ m. Stays m (scan_with forms s) (scan_with forms (s ++ 10 ∷ t))) (zero-add (length s)) (rounds-stay s 0 true 0 (omega arith) b)

  -- The same of all links.
  links-far : (l : List ℕ) (k n p : ℕ) → p < n + k → AllBehind p (links_from forms k n l)
  links-far l k n p h =
      subst⁻¹ (AllBehind p) (links-skip forms l k n)
      (apart-behind (n + k) (n + k + length (drop k l)) p (links_from forms 0 (n + k) (drop k l)) h (links-apart forms c (n + k) (drop k l)))

  later-behind : (n p : ℕ) (l : List ℕ) (z : Scanned) → Later p z → AllBehind (n + p) (links_in forms n l z)
  later-behind n p l (found kind x y i m) w = (omega arith, links-far l (i + m - 1) (n + 1) (n + p) (omega arith))
  later-behind n p l nothing w = tt
  later-behind n p l Scanned.no_room w = tt

  links-continue :
      (s : List ℕ) (k n : ℕ) → k ≤ length s → Body s → Continues (n + length s) (links_from forms k n s) (links_from forms k n (s ++ 10 ∷ t))
  unfolding links_from scan_with rounds
  links-continue [] (suc k) n h b = absurd (omega arith)
  links-continue [] zero n h b =
      (links_in forms n t (scan_with forms (10 ∷ t)), refl, later-behind n 0 t (scan_with forms (10 ∷ t)) (scan-stays [] b))
  links-continue (d ∷ s) (suc k) n h b =
      let e : n + 1 + length s ≡ n + suc (length s) = omega arith in
      subst (λ m. Continues m (links_from forms k (n + 1) s) (links_from forms k (n + 1) (s ++ 10 ∷ t))) e
      (links-continue s k (n + 1) (omega arith) (body-drop (d ∷ s) 1 b))
  links-continue (d ∷ s) zero n h b =
      go (scan_with forms (d ∷ s)) (scan_with forms (d ∷ s ++ 10 ∷ t)) (scan-inside forms c (d ∷ s)) (scan-stays (d ∷ s) b)
      (λ k g. links-continue s k (n + 1) g (body-drop (d ∷ s) 1 b))
    where
      go :
          (z z' : Scanned) → Inside 0 (suc (length s)) z → Stays (suc (length s)) z z'
          → ((k : ℕ) → k ≤ length s → Continues (n + 1 + length s) (links_from forms k (n + 1) s) (links_from forms k (n + 1) (s ++ 10 ∷ t)))
          → Continues (n + suc (length s)) (links_in forms n s z) (links_in forms n (s ++ 10 ∷ t) z')
      go (found kind x y i m) z' w v ih =
          let u = ih (i + m - 1) (omega arith) in
          let e : n + 1 + length s ≡ n + suc (length s) = omega arith in
          (u.0, rw v (ap (λ (xs : List Placed). placed n kind x y i m ∷ xs) u.1), rw (← e) u.2)
      go nothing z' w v ih = (links_in forms n (s ++ 10 ∷ t) z', refl, later-behind n (suc (length s)) (s ++ 10 ∷ t) z' v)
      go Scanned.no_room z' w v ih = absurd w

-- The scanner of reStructuredText, on a text and on the text with LF and a tail behind it.
module _ (s t : List ℕ) (h : Tail t) (b : Body s) where
  stays : Stays (length s) (scan_of s) (scan_of (s ++ 10 ∷ t))
  unfolding scan_of
  stays = scan-stays rst rst-consuming t (rst-keeping t h) s b

  -- the first link is the same
  pub scan-lf : (k : Kind) (x y : List ℕ) (m n : ℕ) → scan_of s ≡ found k x y m n → scan_of (s ++ 10 ∷ t) ≡ found k x y m n
  scan-lf k x y m n e = subst (λ z. Stays (length s) z (scan_of (s ++ 10 ∷ t))) e stays

  -- where there is none, the first one is behind that LF
  pub scan-none-lf : scan_of s ≡ nothing → Later (length s) (scan_of (s ++ 10 ∷ t))
  scan-none-lf e = subst (λ z. Stays (length s) z (scan_of (s ++ 10 ∷ t))) e stays

  -- the links are the same, and then those behind that LF
  pub links-lf : Continues (length s) (links_of s) (links_of (s ++ 10 ∷ t))
  unfolding links_of
  links-lf =
      subst (λ m. Continues m (links_of s) (links_of (s ++ 10 ∷ t))) (zero-add (length s))
      (links-continue rst rst-consuming t (rst-keeping t h) s 0 0 (omega arith) b)
