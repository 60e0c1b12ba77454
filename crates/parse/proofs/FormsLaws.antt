-- Trying the forms of `rst`, by what each parser finds: the first one that finds a link says which link it is. The strings of a link
-- stand in the first bytes of the scratch, as many as the link consumes, so that what is written behind them does not matter.
-- Assumes nothing.
use Rattle.std.proofs.Common.{Option, Some, Result, Ok, Err}
use Rattle.std.specs.Result.{result_ok}
use Rattle.restructured_text.specs.declared.ParseError.{ParseError}
use Rattle.restructured_text.specs.declared.ParseError.TheVariants.{NotFound, NoRoom}
use Rattle.restructured_text.specs.Spans.{Spans}
use Rattle.restructured_text.specs.declared.target.Definition.{Definition}
use Prim.Native.Nat.{ℕ, ◌+◌, ◌≤◌}
use mathlib.Core.Path.{◌≡◌, sym, ap, ◌∙◌}
use mathlib.Core.List.{List, [], ◌∷◌}
use native.Mathlib.Omega.{arith}
use lib.ListN.{length, take, drop, length-drop}
use lib.Seq.{drop-drop}
use Rattle.restructured_text.specs.declared.Span.{Span}
use Rattle.restructured_text.specs.Strings.{no_room, Link, link, none, part, strings_of, lent}
use Rattle.restructured_text.specs.Inline.{text2dest_of, text_label2dest_of, text2label_of}
use Rattle.restructured_text.specs.Target.{label2dest_of, label2label_of}
use Rattle.restructured_text.specs.Definition.{alias_in, destination_in}
use Rattle.restructured_text.proofs.PartLaws.{part-front}
use Rattle.restructured_text.proofs.StringsLaws.{lent-enough}
use Rattle.parse.specs.Link.{Kind, Scanned, text2dest, text-label2dest, text2label, found, behind}
use Rattle.parse.specs.Forms.{Form, alias, destination, anonymous, named, reference, tried, rst}
use Rattle.parse.specs.Scan.{consumed_of, followed}
use Rattle.parse.specs.Inner.{NoBlock}

-- what `x.ok()?` goes on with
pub ok-some : {X E : Type 0} (x : Result X E) {o : Option X} {a : X} → o ≡ result_ok x → o ≡ Some a → x ≡ Ok a
ok-some (Ok b) e f = cc
ok-some (Err b) e f = cc

-- What a parser found, z, by its answer x, which is y: the scratch d is long enough, and was left as d'.
pub answered : (s d d' : List ℕ) (z : Link) (x y : Result Spans ParseError) → length s ≤ length d → strings_of x d' ≡ lent s d z → x ≡ y → z ≡ strings_of y d'
answered s d d' z x y h e f = lent-enough s d z h ∙ sym e ∙ ap (λ (w : Result Spans ParseError). strings_of w d') f

-- The same of a parser that was lent what stands at place m of t, r.
pub answered-at :
    (parser : List ℕ → Link) (t r : List ℕ) (m : ℕ) (d d' : List ℕ) (x y : Result Spans ParseError) → r ≡ drop m t → length t ≤ length d
    → strings_of x d' ≡ lent r d (parser r) → x ≡ y → parser (drop m t) ≡ strings_of y d'
answered-at parser t r m d d' x y q h e f =
    ap parser (sym q) ∙ answered r d d' (parser r) x y (omega (arith, ap length q, length-drop m t, h)) e f

-- The scratch is long enough: so what is not found is not there.
pub missed-at :
    (parser : List ℕ → Link) (t r : List ℕ) (m : ℕ) (d d' : List ℕ) (x : Result Spans ParseError) (e : ParseError) → r ≡ drop m t → length t ≤ length d
    → strings_of x d' ≡ lent r d (parser r) → (parser (drop m t) ≡ no_room → ⊥) → x ≡ Err e → parser (drop m t) ≡ none
missed-at parser t r m d d' x NotFound q h e f g = answered-at parser t r m d d' x (Err NotFound) q h e g
missed-at parser t r m d d' x NoRoom q h e f g = absurd (f (answered-at parser t r m d d' x (Err NoRoom) q h e g))

-- The same of the reader of both blocks.
pub answered-both :
    (s d d' : List ℕ) (x y : Result Definition ParseError) → length s ≤ length d → strings_of (alias_in x) d' ≡ lent s d (label2label_of s)
    → strings_of (destination_in x) d' ≡ lent s d (label2dest_of s) → x ≡ y
    → (label2label_of s ≡ strings_of (alias_in y) d') × (label2dest_of s ≡ strings_of (destination_in y) d')
answered-both s d d' x y h e f g =
    (answered s d d' (label2label_of s) (alias_in x) (alias_in y) h e (ap alias_in g), answered s d d' (label2dest_of s) (destination_in x) (destination_in y) h f (ap destination_in g))

-- The first form finds a link, or not.
module _ (f : Form) (fs : List Form) (s : List ℕ) where
  pub tried-link : (x y : List ℕ) (n : ℕ) → f.parser s ≡ link x y n → tried (f ∷ fs) s ≡ found f.kind x y 0 n
  tried-link x y n e = rw e

  pub tried-next : f.parser s ≡ none → tried (f ∷ fs) s ≡ tried fs s
  tried-next e = rw e

-- a link at the front, with m bytes before it
at_front : (z : Scanned) (k : Kind) (x y : List ℕ) (m n : ℕ) → z ≡ found k x y 0 n → found k x y m n ≡ behind m z
at_front z k x y m n e =
    let f : m ≡ m + 0 = omega arith in
    ap (λ (i : ℕ). found k x y i n) f ∙ sym (ap (behind m) e)

-- the same at place m of t, with what stands directly behind it
at-front-followed :
    (t : List ℕ) (z : Scanned) (k : Kind) (x y : List ℕ) (m n c : ℕ) → z ≡ found k x y 0 n
    → c ≡ n + consumed_of (tried rst.unreported (drop (m + n) t)) → found k x y m c ≡ behind m (followed rst (drop m t) z)
at-front-followed t z k x y m n c e f =
    let g : 0 + n ≡ n = omega arith in
    let h : drop (m + n) t ≡ drop (0 + n) (drop m t) = sym (drop-drop n m t) ∙ ap (λ (i : ℕ). drop i (drop m t)) (sym g) in
    at_front (followed rst (drop m t) z) k x y m c
    (ap (followed rst (drop m t)) e ∙ ap (found k x y 0) (ap (λ (l : List ℕ). n + consumed_of (tried rst.unreported l)) (sym h) ∙ sym f))

-- where there is neither an alias block nor a destination block there is no block
pub no_block : (s : List ℕ) → label2label_of s ≡ none → label2dest_of s ≡ none → NoBlock s
no_block s e f = tried-next alias (destination ∷ []) s e ∙ tried-next destination [] s f

-- (d) and (e) with what follows, at place m of t: an anonymous embedded link, a named one; a reference. A link consumes c
-- bytes with the block behind it.
module _ (t : List ℕ) (m : ℕ) where
  pub embedded-anonymous :
      (x y : List ℕ) (n c : ℕ) → text2dest_of (drop m t) ≡ link x y n → c ≡ n + consumed_of (tried rst.unreported (drop (m + n) t))
      → found text2dest x y m c ≡ behind m (followed rst (drop m t) (tried rst.embedded (drop m t)))
  embedded-anonymous x y n c e f =
      at-front-followed t (tried rst.embedded (drop m t)) text2dest x y m n c (tried-link anonymous (named ∷ []) (drop m t) x y n e) f

  pub embedded-named :
      (x y : List ℕ) (n c : ℕ) → text2dest_of (drop m t) ≡ none → text_label2dest_of (drop m t) ≡ link x y n
      → c ≡ n + consumed_of (tried rst.unreported (drop (m + n) t))
      → found text-label2dest x y m c ≡ behind m (followed rst (drop m t) (tried rst.embedded (drop m t)))
  embedded-named x y n c e f g =
      at-front-followed t (tried rst.embedded (drop m t)) text-label2dest x y m n c
      (tried-next anonymous (named ∷ []) (drop m t) e ∙ tried-link named [] (drop m t) x y n f) g

  pub reference-found :
      (x y : List ℕ) (n c : ℕ) → text2label_of (drop m t) ≡ link x y n → c ≡ n + consumed_of (tried rst.unreported (drop (m + n) t))
      → found text2label x y m c ≡ behind m (followed rst (drop m t) (tried rst.references (drop m t)))
  reference-found x y n c e f =
      at-front-followed t (tried rst.references (drop m t)) text2label x y m n c (tried-link reference [] (drop m t) x y n e) f

-- a part of the first n bytes, which are kept
part-kept : (a : Span) (n : ℕ) (d d' : List ℕ) → a.start + a.len ≤ n → take n d' ≡ take n d → part a d ≡ part a d'
part-kept a n d d' h e =
    sym (part-front a.start a.len n d h)
    ∙ ap (part a) (sym e)
    ∙ part-front a.start a.len n d' h

-- two of them
pub link-kept : (a b : Span) (n : ℕ) (d d' : List ℕ) → (a.start + a.len ≤ n) × (b.start + b.len ≤ n) → take n d' ≡ take n d → strings_of (Ok (a, b, n)) d ≡ strings_of (Ok (a, b, n)) d'
link-kept a b n d d' h e = rw (part-kept a n d d' h.0 e, part-kept b n d d' h.1 e)
