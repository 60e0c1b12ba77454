-- The claim holds of any two calls: an accepted call's records hold the links of what its document collects (iterator, AcceptedLaws), and what
-- the second document collects keeps the links of the first (RemainingLaws appended-keeps).
-- Assumes nothing.
use Prim.Native.Nat.{ℕ, ◌+◌}
use mathlib.Core.Path.{◌≡◌, refl, sym, ap, subst, ◌∙◌}
use mathlib.Core.List.{List, [], ◌∷◌, ◌++◌, map}
use mathlib.Core.Bool.{Bool, true, false, ◌||◌, true≢false}
use lib.Dec.{eqb}
use lib.ListN.{length}
use Rattle.rst_bytes.specs.Escaped.{is_stop}
use Rattle.rst_bytes.specs.Line.{is_space}
use Rattle.rst_bytes.specs.Appending.{free, ends_in_cr, starts_space}
use Rattle.restructured_text.proofs.PartLaws.{part-append}
use Rattle.parse.specs.Links.{links_of}
use Rattle.iterator.specs.Collect.{Collection, collected, collect_all}
use Rattle.iterator.specs.Resolve.{Hyperlink, hyperlinks_of}
use Rattle.iterator.specs.Document.{Answer, Verdict, verdict_of}
use Rattle.iterator.specs.Laws.{Standing, Accepted}
use Rattle.iterator.proofs.OrderLaws.{collected-standing}
use Rattle.iterator.proofs.ReadBackLaws.{standing-end}
use Rattle.iterator.proofs.AcceptedLaws.{accepted, accepted-held}
use Rattle.appending.specs.Claim.{
  line_feed,
  carriage_return,
  backtick,
  space,
  tab,
  holds,
  begins_with,
  ends_with,
  collected_by,
  defines_once,
  unresolved_of,
  unresolved,
  remaining,
  seen,
  Keeps,
  Theorem,
}
use Rattle.appending.proofs.RemainingLaws.{appended-keeps}

-- The premises, as the layers' laws have them

ends-in-cr : (s : List ℕ) → ends_in_cr s ≡ ends_with carriage_return s
unfolding ends_in_cr ends_with
ends-in-cr [] = refl
ends-in-cr (b ∷ []) = refl
ends-in-cr (b ∷ c ∷ s) = ends-in-cr (c ∷ s)

no-backtick : (t : List ℕ) → holds backtick t ≡ false → free backtick backtick t ≡ true
unfolding holds free is_stop
no-backtick [] h = refl
no-backtick (b ∷ t) h = go (eqb b backtick) (holds backtick t) h (no-backtick t)
  where
    go :
        (x y : Bool) → (x || y) ≡ false → (y ≡ false → free backtick backtick t ≡ true)
        → elim (x || x) [ true ↦ false | false ↦ free backtick backtick t ] ≡ true
    go true y h ih = absurd (true≢false h)
    go false y h ih = ih h

no-blank : (t : List ℕ) → begins_with space t ≡ false → begins_with tab t ≡ false → starts_space t ≡ false
unfolding begins_with starts_space is_space
no-blank [] h k = refl
no-blank (b ∷ t) h k = rw (h, k)

-- what an accepted document collects
collected-by :
    (render : ℕ) (s : List ℕ) (c : Collection) → collect_all render s (links_of s) ≡ collected c → collected_by render s ≡ c
collected-by render s c e = rw (e, collected_by) refl

-- Links that end within s consume the same bytes with more behind s.
seen-kept :
    (s u : List ℕ) (links : List Hyperlink) (n : ℕ) → Standing n (length s) links → map (seen (s ++ u)) links ≡ map (seen s) links
unfolding Standing
seen-kept s u [] n w = refl
seen-kept s u (x ∷ links) n w =
    let h = standing-end links (x.place + x.consumed) (length s) w.3 in
    λ j. record {
      place = x.place;
      consumed = x.consumed;
      part = part-append s u x.place x.consumed h j;
      text = x.text;
      dest = x.dest;
    }
    ∷ seen-kept s u links (x.place + x.consumed) w.3 j

-- the claim of two documents that are accepted
accepted-keep :
    (render : ℕ) (first second : List ℕ) (v w : Verdict) → Accepted render first v → Accepted render second w
    → Keeps render first second v w
accepted-keep render first second v w a b t e f g cr bt sp tb once =
    let c = a.collection in
    let d = b.collection in
    let kept : remaining (length first) (unresolved_of c) (hyperlinks_of d) ≡ hyperlinks_of c = appended-keeps
    render
    first
    t
    (no-backtick t bt, no-blank t sp tb)
    (ends-in-cr first ∙ cr)
    c
    d
    a.collects
    (subst (λ (s : List ℕ). collect_all render s (links_of s) ≡ collected d) e b.collects)
    (subst (λ (x : Collection). defines_once x ≡ true) (collected-by render second d b.collects) once) in
    ap
    (λ (l : List Hyperlink). map (seen second) (remaining (length first) (unresolved render first) l))
    (accepted-held render second w b)
    ∙ ap
    (λ (x : Collection). map (seen second) (remaining (length first) (unresolved_of x) (hyperlinks_of d)))
    (collected-by render first c a.collects)
    ∙ ap (map (seen second)) kept
    ∙ ap (λ (s : List ℕ). map (seen s) (hyperlinks_of c)) e
    ∙ seen-kept first (line_feed ∷ t) (hyperlinks_of c) 0 (collected-standing render first c a.collects)
    ∙ ap (map (seen first)) (sym (accepted-held render first v a))

pub appending-keeps : Theorem
appending-keeps render first second numbers bytes output numbers' bytes' output' tail e f g =
    accepted-keep
    render
    first
    second
    (verdict_of first render numbers bytes output)
    (verdict_of second render numbers' bytes' output')
    (accepted render first output numbers bytes f)
    (accepted render second output' numbers' bytes' g)
    tail
    e
    f
    g

-- an answer without the work areas
abbrev pub verdict_in : Answer → Verdict
verdict_in a = record { number = a.number; links = a.links; bytes = a.bytes; output = a.output }

-- The same of two calls by what the document call promises: v and w are what they returned and left in their outputs.
pub calls-keep :
    (render : ℕ) (first second : List ℕ) (numbers bytes : ℕ) (output : List ℕ) (numbers' bytes' : ℕ) (output' : List ℕ)
    (v w : Verdict) → v ≡ verdict_of first render numbers bytes output → w ≡ verdict_of second render numbers' bytes' output'
    → Keeps render first second v w
calls-keep render first second numbers bytes output numbers' bytes' output' v w e f =
    rw (e, f) (appending-keeps render first second numbers bytes output numbers' bytes' output')
