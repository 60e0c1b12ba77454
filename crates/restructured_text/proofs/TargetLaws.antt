-- The laws of `specs/Target.antt`: names, targets and blocks by the code's tests; where name and target stand; how much a target
-- block consumes; that none is both an alias and a destination; and that LF and a tail behind the input change nothing.
-- Assumes nothing.
use Rattle.std.proofs.Common.{Option, Some, None, Result, Ok, Err}
use Rattle.restructured_text.specs.declared.ParseError.{ParseError}
use Rattle.restructured_text.specs.declared.ParseError.TheVariants.{NotFound, NoRoom}
use Rattle.restructured_text.specs.Spans.{Spans}
use Rattle.restructured_text.specs.declared.target.Definition.{Definition}
use Prim.Native.Nat.{ℕ, zero, suc, ◌+◌, ◌<◌, ◌≤◌}
use native.Mathlib.Omega.{arith}
use mathlib.Core.Path.{◌≡◌, refl, sym, ap, subst, subst⁻¹, ◌∙◌}
use mathlib.Core.List.{List, [], ◌∷◌, ◌++◌}
use mathlib.Core.Bool.{Bool, true, false, not, ◌&&◌, false≢true, true≢false}
use mathlib.Core.Logic.{◌⊎◌, inl, inr, ⊎_elim}
use lib.ListN.{length, drop, take, set, length-take, length-drop}
use lib.Seq.{take-length, drop-drop}
use borrow.Author.Tests.{lt-ltb, le-ltb}
use borrow.Rule.Slice.PartMut.{mid_of, put_mid}
use Rattle.rst_bytes.specs.Appending.{free, Body, Tail}
use Rattle.rst_bytes.specs.Escaped.{is_stop}
use Rattle.rst_bytes.specs.Line.{not_line_ending_of, space0_of}
use Rattle.rst_bytes.specs.Tag.{starts_with}
use Rattle.restructured_text.specs.declared.Span.{Span}
use Rattle.restructured_text.specs.declared.label.Label.{Label}
use Rattle.restructured_text.specs.declared.target.Raw.{Raw}
use Rattle.restructured_text.specs.Delimited.{delimited_of}
use Rattle.restructured_text.specs.Label.{simple_label_of}
use Rattle.restructured_text.specs.Block.{start_of, further_of, lines_of, BlockText, block, no_block, no-scratch, block_of, block_in, lent_block}
use Rattle.restructured_text.specs.Inner.{is_refused}
use Rattle.restructured_text.specs.Transform.{Given, whole, refused, kept_of, text_of, destination_of, answer_of, bytes_of, over}
use Rattle.restructured_text.specs.Strings.{Link, link, none, no_room, part, paired, linked, strings_of, Ends, lent}
use Rattle.restructured_text.specs.Target.{plain_name_of, name_of, label_in, rest_of, is_named, excluded, behind_name, parse_label2target_of, named_in, named_of, anonymous_in, anonymous_of, anonymous_block_of, label2target_of, label2dest_of, label2label_of, starts_target}
use Rattle.restructured_text.specs.Definition.{Defines, told_as, raw_in, raw_of, raw_span, is_alias}
use Rattle.rst_bytes.proofs.TestLaws.{lt-or-le, neither}
use Rattle.rst_bytes.proofs.TagLaws.{starts-append}
use Rattle.restructured_text.proofs.DelimitedLaws.{delimited-none, delimited-within}
use Rattle.restructured_text.proofs.LabelLaws.{Standing, simple-standing}
use Rattle.restructured_text.proofs.TransformLaws.{answer-part, answer-refused, destination-dead, text-le, destination-le}
use Rattle.restructured_text.proofs.PartLaws.{part_length, part-front, put-here, put-length, set_here, set_before}
use Rattle.restructured_text.proofs.Text2targetLaws.{Apart}
use Rattle.restructured_text.proofs.BlockLaws.{start_is, start-begins, lines_end, lines-further, block_none, block-no-line, block-taken, lent-short, lent-enough, block-consumed, block-scratch, block-lf}
use Rattle.restructured_text.proofs.StringsLaws.{reach, link-room, linked-room}
use Rattle.restructured_text.proofs.StringsLaws.{lent-enough as strings-enough}

-- A name, by the code's tests: in backticks, else plain.
abbrev quoted_in : List ℕ → Option ℕ
quoted_in s = delimited_of (0x5F ∷ 0x60 ∷ []) 0x60 0x60 (0x60 ∷ 0x3A ∷ 0x20 ∷ []) s

abbrev plain_in : List ℕ → Option ℕ
plain_in s = delimited_of (0x5F ∷ []) 0x3A 0x3A (0x3A ∷ 0x20 ∷ []) s

module _ (s : List ℕ) where
  pub name-quoted : (n : ℕ) → quoted_in s ≡ Some n → name_of s ≡ Some ((record { start = 2; len = n }), (n + 5))
  unfolding name_of
  name-quoted n e = simp (e, name_of)

  pub plain-named : (n : ℕ) → plain_in s ≡ Some n → plain_name_of s ≡ Some ((record { start = 1; len = n }), (n + 3))
  unfolding plain_name_of
  plain-named n f = simp (f, plain_name_of)

  pub plain-none : plain_in s ≡ None → plain_name_of s ≡ None
  unfolding plain_name_of
  plain-none f = simp (f, plain_name_of)

  pub name-plain : quoted_in s ≡ None → name_of s ≡ plain_name_of s
  unfolding name_of
  name-plain e = simp (e, name_of)

-- what they take lies within the text
module _ (s : List ℕ) (n : ℕ) where
  quoted-within : quoted_in s ≡ Some n → n + 5 ≤ length s
  quoted-within e = let w = delimited-within (0x5F ∷ 0x60 ∷ []) 0x60 0x60 (0x60 ∷ 0x3A ∷ 0x20 ∷ []) s n e in omega arith

  pub plain-within : plain_in s ≡ Some n → n + 3 ≤ length s
  plain-within e = let w = delimited-within (0x5F ∷ []) 0x3A 0x3A (0x3A ∷ 0x20 ∷ []) s n e in omega arith

-- The target in the rest, and what is excluded, by what is asked for.
module _ (label : Bool) (s : List ℕ) where
  pub rest-label : (x : Option (Label × ℕ)) → label ≡ true → simple_label_of s ≡ x → rest_of label s ≡ label_in x
  unfolding rest_of
  rest-label x l e = rw (l, e)

  pub rest_all : label ≡ false → rest_of label s ≡ Some (record { start = 0; len = length s })
  unfolding rest_of
  rest_all l = rw l

  excluded-label : label ≡ true → excluded label s ≡ false
  unfolding excluded
  excluded-label l = rw l

  excluded-rest : (x : Option (Label × ℕ)) → label ≡ false → simple_label_of s ≡ x → excluded label s ≡ is_named x
  unfolding excluded
  excluded-rest x l e = rw (l, e)

-- Either target in the rest, by what its reader gave.
module _ (s : List ℕ) (r : Raw) (i : r ≡ raw_of s) where
  pub raw-is : (x : Option (Label × ℕ)) → simple_label_of s ≡ x → r ≡ raw_in s x
  unfolding raw_of
  raw-is x e = i ∙ ap (raw_in s) e

  -- it is the target that is asked for
  raw-rest : rest_of (is_alias r) s ≡ Some (raw_span r)
  raw-rest = go (simple_label_of s) refl
    where
      go : (x : Option (Label × ℕ)) → simple_label_of s ≡ x → rest_of (is_alias r) s ≡ Some (raw_span r)
      go (Some (l, m)) e = subst⁻¹ (λ (y : Raw). rest_of (is_alias y) s ≡ Some (raw_span y)) (raw-is _ e) (rest-label true s _ refl e)
      go None e = subst⁻¹ (λ (y : Raw). rest_of (is_alias y) s ≡ Some (raw_span y)) (raw-is _ e) (rest_all false s refl)

  -- which is not excluded
  raw-kept : (v : List ℕ) → v ≡ part (raw_span r) s → excluded (is_alias r) v ≡ false
  raw-kept v j = go (simple_label_of s) refl
    where
      go : (x : Option (Label × ℕ)) → simple_label_of s ≡ x → excluded (is_alias r) v ≡ false
      go (Some (l, m)) e = excluded-label (is_alias r) v (ap (λ (y : Raw). (is_alias y)) (raw-is _ e))
      go None e =
          excluded-rest (is_alias r) v None (ap (λ (y : Raw). (is_alias y)) (raw-is _ e))
          (ap simple_label_of (j ∙ ap (λ (y : Raw). part (raw_span y) s) (raw-is _ e) ∙ take-length s) ∙ e)

-- Name and target: v is what stands behind the name.
module _ (label : Bool) (s : List ℕ) where
  pub parse-none : name_of s ≡ None → parse_label2target_of label s ≡ None
  unfolding parse_label2target_of
  parse-none e = simp (e, parse_label2target_of)

  pub parse-rest : (name : Span) (k : ℕ) (v : List ℕ) (x : Option Span) → name_of s ≡ Some (name, k) → v ≡ drop k s → rest_of label v ≡ x → parse_label2target_of label s ≡ behind_name s name k x
  unfolding parse_label2target_of
  parse-rest name k v x e iv f = simp (e, ← iv, f, parse_label2target_of)

-- Where a name and its colon stand, and what is behind them.
abbrev NameIn : ℕ → Option (Span × ℕ) → Type 0
NameIn size (Some (name, k)) = (name.start + name.len ≤ k) × (0 < k) × (k ≤ size)
NameIn size None = Unit {0}

name_in : (s : List ℕ) → NameIn (length s) (name_of s)
name_in s = quoted (quoted_in s) refl
  where
    plain : quoted_in s ≡ None → (x : Option ℕ) → plain_in s ≡ x → NameIn (length s) (name_of s)
    plain e (Some n) f = subst⁻¹ (NameIn (length s)) (name-plain s e ∙ plain-named s n f) (omega arith, omega arith, plain-within s n f)
    plain e None f = subst⁻¹ (NameIn (length s)) (name-plain s e ∙ plain-none s f) tt

    quoted : (x : Option ℕ) → quoted_in s ≡ x → NameIn (length s) (name_of s)
    quoted (Some n) e = subst⁻¹ (NameIn (length s)) (name-quoted s n e) (omega arith, omega arith, quoted-within s n e)
    quoted None e = plain e _ refl

-- The target stands within the rest.
abbrev RestIn : ℕ → Option Span → Type 0
RestIn size (Some t) = t.start + t.len ≤ size
RestIn size None = Unit {0}

rest_in : (label : Bool) (s : List ℕ) → RestIn (length s) (rest_of label s)
rest_in label s = go label refl
  where
    standing : (x : Option (Label × ℕ)) → Standing (length s) x → RestIn (length s) (label_in x)
    standing (Some (l, n)) w = omega (arith, w.0, w.1)
    standing None w = tt

    go : (l : Bool) → label ≡ l → RestIn (length s) (rest_of label s)
    go true l = subst⁻¹ (RestIn (length s)) (rest-label label s _ l refl) (standing (simple_label_of s) (simple-standing s))
    go false l = subst⁻¹ (RestIn (length s)) (rest_all label s l) (omega arith)

pub rest-within : (label : Bool) (s : List ℕ) (t : Span) → rest_of label s ≡ Some t → t.start + t.len ≤ length s
rest-within label s t e = subst (RestIn (length s)) e (rest_in label s)

-- Both by what the code has: v is what stands behind the name.
module _ (s : List ℕ) (name : Span) (k : ℕ) (e : name_of s ≡ Some (name, k)) where
  pub name-within : k ≤ length s
  name-within = (subst (NameIn (length s)) e (name_in s)).2

-- Name and target stand one behind the other.
pub parse-apart : (label : Bool) (s : List ℕ) → Apart (length s) (parse_label2target_of label s)
parse-apart label s = go (name_of s) refl (name_in s)
  where
    rest : (name : Span) (k : ℕ) → NameIn (length s) (Some (name, k)) → (x : Option Span) → RestIn (length (drop k s)) x → Apart (length s) (behind_name s name k x)
    rest name k w (Some t) v = (omega (arith, w.0), omega (arith, w.2, v, length-drop k s), omega arith, omega (arith, w.1, w.2))
    rest name k w None v = tt

    go : (x : Option (Span × ℕ)) → name_of s ≡ x → NameIn (length s) (name_of s) → Apart (length s) (parse_label2target_of label s)
    go (Some (name, k)) e w =
        subst⁻¹ (Apart (length s)) (parse-rest label s name k _ _ e refl refl)
        (rest name k (subst (NameIn (length s)) e w) (rest_of label (drop k s)) (rest_in label (drop k s)))
    go None e w = subst⁻¹ (Apart (length s)) (parse-none label s e) tt

-- A part, as `&s[b..e]` has it.
part-reach : (a : Span) (s : List ℕ) → mid_of a.start (reach a) s ≡ part a s
part-reach a s =
    let e : reach a ≡ a.len = omega arith in
    ap (λ (k : ℕ). take k (drop a.start s)) e

-- The target of a `.. ` block by the code's tests.
module _ (label : Bool) (text : List ℕ) (n : ℕ) where
  pub named_none : parse_label2target_of label text ≡ None → named_of label text n ≡ none
  unfolding named_of
  named_none e = simp (e, named_in)

  module _ (a b : Span) (m : ℕ) (e : parse_label2target_of label text ≡ Some (a, b, m)) where
    named-excluded : excluded label (part b text) ≡ true → named_of label text n ≡ none
    unfolding named_of
    named-excluded f = simp (e, f, named_in)

    named-linked : excluded label (part b text) ≡ false → named_of label text n ≡ linked true text a b n
    unfolding named_of
    named-linked f = simp (e, f, named_in)

-- That of a `__ ` block.
module _ (label : Bool) (text : List ℕ) (n : ℕ) where
  anonymous-none : rest_of label text ≡ None → anonymous_of label text n ≡ none
  unfolding anonymous_of
  anonymous-none e = simp (e, anonymous_in)

  module _ (t : Span) (e : rest_of label text ≡ Some t) where
    anonymous-excluded : excluded label (part t text) ≡ true → anonymous_of label text n ≡ none
    unfolding anonymous_of
    anonymous-excluded f = simp (e, f, anonymous_in)

    anonymous-paired : excluded label (part t text) ≡ false → anonymous_of label text n ≡ paired (whole (0x5F ∷ [])) (destination_of (part t text)) n
    unfolding anonymous_of
    anonymous-paired f = simp (e, f, anonymous_in)

-- The text of a `.. ` block is the first len bytes of d.
module _ (label : Bool) (d : List ℕ) (len n : ℕ) (h : (len ≤ n) × (n ≤ length d)) (a b : Span) (m : ℕ) (e : parse_label2target_of label (take len d) ≡ Some (a, b, m)) where
  -- name and target stand one behind the other in it
  named-text : b.start + b.len ≤ length (take len d)
  named-text = let w = subst (Apart (length (take len d))) e (parse-apart label (take len d)) in omega (arith, w.1, w.2)

  named-apart : (a.start + a.len ≤ b.start) × (b.start + b.len ≤ n) × (n ≤ length d)
  named-apart =
      ((subst (Apart (length (take len d))) e (parse-apart label (take len d))).0, omega (arith, named-text, length-take len d), h.1)

  named-within : b.start + b.len ≤ len
  named-within = omega (arith, named-text, length-take len d)

  -- the target is not excluded: name and target are the parts of d
  named-found : excluded label (part b (take len d)) ≡ false → named_of label (take len d) n ≡ linked true d a b n
  named-found f =
      named-linked label (take len d) n a b m e f
      ∙ ap (λ (x : List ℕ). paired (text_of x) (destination_of (part b (take len d))) n) (part-front a.start a.len len d (omega (arith, named-apart.0, named-within)))
      ∙ ap (λ (x : List ℕ). paired (text_of (part a d)) (destination_of x) n) (part-front b.start b.len len d named-within)

-- The text of a `__ ` block is the first len bytes of d.
module _ (label : Bool) (d : List ℕ) (len n : ℕ) (h : (len < n) × (n ≤ length d)) (t : Span) (e : rest_of label (take len d) ≡ Some t) where
  -- the target stands in it
  anonymous-text : t.start + t.len ≤ length (take len d)
  anonymous-text = subst (RestIn (length (take len d))) e (rest_in label (take len d))

  anonymous-within : t.start + t.len ≤ len
  anonymous-within = omega (arith, anonymous-text, length-take len d)

  -- it is not excluded: the transform left y in its place
  module _ (f : excluded label (mid_of t.start (reach t) (take len d)) ≡ false) where
    -- the target is the part of d
    anonymous-part : anonymous_of label (take len d) n ≡ paired (whole (0x5F ∷ [])) (destination_of (mid_of t.start (reach t) d)) n
    anonymous-part =
        anonymous-paired label (take len d) n t e (ap (excluded label) (sym (part-reach t (take len d))) ∙ f)
        ∙ ap (λ (x : List ℕ). paired (whole (0x5F ∷ [])) (destination_of x) n) (part-front t.start t.len len d anonymous-within ∙ sym (part-reach t d))

    -- it was refused
    anonymous-wrong : None ≡ answer_of (destination_of (mid_of t.start (reach t) d)) → anonymous_of label (take len d) n ≡ none
    anonymous-wrong g = anonymous-part ∙ ap (λ (x : Given). paired (whole (0x5F ∷ [])) x n) (answer-refused (destination_of (mid_of t.start (reach t) d)) g)

    -- it gave a string; the name was put behind the text
    module _ (y z : List ℕ) (l : length y ≡ length (mid_of t.start (reach t) d)) where
      abbrev left : List ℕ
      left = set (put_mid t.start (reach t) d y) len 0x5F

      anonymous-found :
          (j : ℕ) → Some j ≡ answer_of (destination_of (mid_of t.start (reach t) d)) → y ≡ over (bytes_of (destination_of (mid_of t.start (reach t) d))) z
          → (link (take 1 (drop len left)) (take j (drop t.start left)) n ≡ anonymous_of label (take len d) n) × ((len + 1 ≤ n) × (t.start + j ≤ n))
      anonymous-found j g i =
          let w = answer-part (destination_of (mid_of t.start (reach t) d)) z y j g i in
          let p : length (mid_of t.start (reach t) d) ≡ reach t = part_length t.start (reach t) d (omega (arith, anonymous-within)) in
          let q : length (put_mid t.start (reach t) d y) ≡ length d = put-length t.start (reach t) d y (omega (arith, anonymous-within)) (l ∙ p) in
          let r : t.start + j ≤ len = omega (arith, anonymous-within, w.1, l, p) in
          let u : take 1 (drop len left) ≡ 0x5F ∷ [] = set_here (put_mid t.start (reach t) d y) len 0x5F (omega (arith, q)) in
          let v : take j (drop t.start left) ≡ take j y = set_before (put_mid t.start (reach t) d y) len 0x5F t.start j r ∙ put-here t.start (reach t) d y j (omega (arith, anonymous-within)) w.1 in
          (rw (u, v) (sym (anonymous-part ∙ ap (λ (x : Given). paired (whole (0x5F ∷ [])) x n) w.0)), (omega arith, omega (arith, r)))

-- The other target: where the rest begins with a simple label there is no destination, and else no alias.
module _ (text : List ℕ) (n : ℕ) where
  -- the label at the front excludes the whole
  whole-excluded : (v : List ℕ) (l : Label) (m : ℕ) → simple_label_of v ≡ Some (l, m) → (w : List ℕ) → w ≡ v → excluded false w ≡ true
  whole-excluded v l m e w i = excluded-rest false w (Some (l, m)) refl (ap simple_label_of i ∙ e)

  named_other : (name : Span) (k : ℕ) → name_of text ≡ Some (name, k) → (r : Raw) → r ≡ raw_of (drop k text) → named_of (not (is_alias r)) text n ≡ none
  named_other name k e r i = go (simple_label_of (drop k text)) refl
    where
      go : (x : Option (Label × ℕ)) → simple_label_of (drop k text) ≡ x → named_of (not (is_alias r)) text n ≡ none
      go (Some (l, m)) f =
          let z : k + 0 ≡ k = omega arith in
          ap (λ (y : Raw). named_of (not (is_alias y)) text n) (raw-is (drop k text) r i _ f)
          ∙ named-excluded false text n _ _ _ (parse-rest false text name k (drop k text) _ e refl (rest_all false (drop k text) refl))
          (whole-excluded (drop k text) l m f _ (ap (λ (i : ℕ). take (length (drop k text)) (drop i text)) z ∙ take-length (drop k text)))
      go None f =
          ap (λ (y : Raw). named_of (not (is_alias y)) text n) (raw-is (drop k text) r i _ f)
          ∙ named_none true text n (parse-rest true text name k (drop k text) None e refl (rest-label true (drop k text) None refl f))

  anonymous-other : (r : Raw) → r ≡ raw_of text → anonymous_of (not (is_alias r)) text n ≡ none
  anonymous-other r i = go (simple_label_of text) refl
    where
      go : (x : Option (Label × ℕ)) → simple_label_of text ≡ x → anonymous_of (not (is_alias r)) text n ≡ none
      go (Some (l, m)) f =
          ap (λ (y : Raw). anonymous_of (not (is_alias y)) text n) (raw-is text r i _ f)
          ∙ anonymous-excluded false text n _ (rest_all false text refl) (whole-excluded text l m f _ (take-length text))
      go None f =
          ap (λ (y : Raw). anonymous_of (not (is_alias y)) text n) (raw-is text r i _ f)
          ∙ anonymous-none true text n (rest-label true text None refl f)

-- Where the target that the rest has is refused there is none.
either-none : (F : Bool → Link) (alias : Bool) → F alias ≡ none → F (not alias) ≡ none → (label : Bool) → F label ≡ none
either-none F true e f true = e
either-none F true e f false = f
either-none F false e f true = f
either-none F false e f false = e

-- it is all of the rest, if it is no alias's
pub raw-all : (s : List ℕ) (r : Raw) → r ≡ raw_of s → is_alias r ≡ false → part (raw_span r) s ≡ s
raw-all s r i f = go (simple_label_of s) refl
  where
    go : (x : Option (Label × ℕ)) → simple_label_of s ≡ x → part (raw_span r) s ≡ s
    go (Some (l, m)) e = absurd (true≢false (sym (ap (λ (y : Raw). (is_alias y)) (raw-is s r i _ e)) ∙ f))
    go None e = ap (λ (y : Raw). part (raw_span y) s) (raw-is s r i _ e) ∙ take-length s

refused_none : (g : Given) (x : List ℕ) (n : ℕ) → paired g (refused x) n ≡ none
refused_none (whole y) x n = refl
refused_none (refused y) x n = refl

module _ (text : List ℕ) (n : ℕ) where
  pub named-refused :
      (name : Span) (k : ℕ) (v : List ℕ) → name_of text ≡ Some (name, k) → v ≡ drop k text → (x : List ℕ)
      → destination_of (part (raw_span (raw_of v)) v) ≡ refused x → (label : Bool) → named_of label text n ≡ none
  named-refused name k v e iv x f =
      either-none (λ (l : Bool). named_of l text n) (is_alias (raw_of v))
      (named-linked (is_alias (raw_of v)) text n name (record { start = k + (raw_span (raw_of v)).start; len = (raw_span (raw_of v)).len }) _ (parse-rest (is_alias (raw_of v)) text name k v _ e iv (raw-rest v (raw_of v) refl)) (raw-kept v (raw_of v) refl _ stands)
      ∙ ap (λ (y : List ℕ). paired (text_of (part name text)) (destination_of y) n) stands
      ∙ ap (λ (g : Given). paired (text_of (part name text)) g n) f
      ∙ refused_none (text_of (part name text)) x n)
      (named_other text n name k e (raw_of v) (ap raw_of iv))
    where
      stands : part (record { start = k + (raw_span (raw_of v)).start; len = (raw_span (raw_of v)).len }) text ≡ part (raw_span (raw_of v)) v
      stands = ap (take (raw_span (raw_of v)).len) (sym (drop-drop (raw_span (raw_of v)).start k text) ∙ ap (drop (raw_span (raw_of v)).start) (sym iv))

  pub anonymous-refuses :
      (x : List ℕ) → destination_of (part (raw_span (raw_of text)) text) ≡ refused x → (label : Bool)
      → anonymous_of label text n ≡ none
  anonymous-refuses x f =
      either-none (λ (l : Bool). anonymous_of l text n) (is_alias (raw_of text))
      (anonymous-paired (is_alias (raw_of text)) text n (raw_span (raw_of text)) (raw-rest text (raw_of text) refl) (raw-kept text (raw_of text) refl _ refl)
      ∙ ap (λ (g : Given). paired (whole (0x5F ∷ [])) g n) f)
      (anonymous-other text n (raw_of text) refl)

-- What an answer y says of both, with the scratch d: F is what there is of an alias and of a destination.
abbrev Both : (Bool → Link) → List ℕ → Result Definition ParseError → Type 0
Both F d y = Defines (F true) (F false) d y

-- what was not found is told so
pub told-err : (alias : Bool) (e : ParseError) → Err e ≡ told_as alias (Err e)
told-err true NotFound = refl
told-err true NoRoom = refl
told-err false NotFound = refl
told-err false NoRoom = refl

-- there is none of the other
told-both : (F : Bool → Link) (d : List ℕ) (alias : Bool) (x : Result Spans ParseError) → strings_of x d ≡ F alias → (F alias ≡ no_room → ⊥) → F (not alias) ≡ none → Ends x → Both F d (told_as alias x)
told-both F d true (Ok (a, b, n)) e r f w = record { alias = e; destination = sym f; ends = (w, tt) }
told-both F d false (Ok (a, b, n)) e r f w = record { alias = sym f; destination = e; ends = (tt, w) }
told-both F d true (Err NotFound) e r f w = record { alias = e; destination = sym f; ends = (tt, tt) }
told-both F d false (Err NotFound) e r f w = record { alias = sym f; destination = e; ends = (tt, tt) }
told-both F d true (Err NoRoom) e r f w = absurd (r (sym e))
told-both F d false (Err NoRoom) e r f w = absurd (r (sym e))

-- there is neither
told-neither : (F : Bool → Link) (d : List ℕ) (alias : Bool) → F alias ≡ none → F (not alias) ≡ none → Both F d (Err NotFound)
told-neither F d true e f = record { alias = sym e; destination = sym f; ends = (tt, tt) }
told-neither F d false e f = record { alias = sym f; destination = sym e; ends = (tt, tt) }

-- the same of G
both-are : (F G : Bool → Link) (d : List ℕ) (y : Result Definition ParseError) → ((l : Bool) → F l ≡ G l) → Both F d y → Both G d y
both-are F G d y e w = record { alias = w.alias ∙ e true; destination = w.destination ∙ e false; ends = w.ends }

-- The text of a `.. ` block is the first len bytes of d; r is what the reader of v, which stands behind the name, gave.
module _ (d : List ℕ) (len n : ℕ) (h : (len ≤ n) × (n ≤ length d)) where
  -- there is no name
  pub nameless : (d' : List ℕ) → name_of (take len d) ≡ None → Both (λ (l : Bool). named_of l (take len d) n) d' (Err NotFound)
  nameless d' e =
      told-neither (λ (l : Bool). named_of l (take len d) n) d' true (named_none true (take len d) n (parse-none true (take len d) e))
      (named_none false (take len d) n (parse-none false (take len d) e))

  module _ (name : Span) (k : ℕ) (e : name_of (take len d) ≡ Some (name, k)) (v : List ℕ) (iv : v ≡ drop k (take len d)) (r : Raw) (i : r ≡ raw_of v) (t : Span) (j : t ≡ raw_span r) where
    abbrev target : Span
    target = record { start = k + t.start; len = t.len }

    parsed : parse_label2target_of (is_alias r) (take len d) ≡ Some (name, target, (length (take len d)))
    parsed = parse-rest (is_alias r) (take len d) name k v _ e iv (raw-rest v r i ∙ ap Some (sym j))

    pub named-stands : (name.start + name.len ≤ target.start) × (target.start + target.len ≤ n) × (n ≤ length d)
    named-stands = named-apart (is_alias r) d len n h name target _ parsed

    pub named-inside : target.start + target.len ≤ length (take len d)
    named-inside = named-text (is_alias r) d len n h name target _ parsed

    behind : part target (take len d) ≡ part t v
    behind = ap (take t.len) (sym (drop-drop t.start k (take len d)) ∙ ap (drop t.start) (sym iv))

    -- the target is refused
    pub named-dead : (d' : List ℕ) → is_refused (kept_of (part target (take len d))) ≡ true → Both (λ (l : Bool). named_of l (take len d) n) d' (Err NotFound)
    named-dead d' g =
        let same : part (raw_span (raw_of v)) v ≡ part target (take len d) = ap (λ (y : Raw). part (raw_span y) v) (sym i) ∙ ap (λ (x : Span). part x v) (sym j) ∙ sym behind in
        let f = ap (λ (x : List ℕ). is_refused (kept_of x)) same ∙ g in
        let w = named-refused (take len d) n name k v e iv _ (destination-dead (part (raw_span (raw_of v)) v) f) in
        told-neither (λ (l : Bool). named_of l (take len d) n) d' true (w true) (w false)

    kept : excluded (is_alias r) (part target (take len d)) ≡ false
    kept = raw-kept v r i _ (behind ∙ ap (λ (x : Span). part x v) j)

    is-linked : named_of (is_alias r) (take len d) n ≡ linked true d name target n
    is-linked = named-found (is_alias r) d len n h name target _ parsed kept

    -- both were transformed and told
    pub named-told :
        (d' : List ℕ) (x : Result Spans ParseError) (y : Result Definition ParseError) → strings_of x d' ≡ linked true d name target n → Ends x
        → y ≡ told_as (is_alias r) x → Both (λ (l : Bool). named_of l (take len d) n) d' y
    named-told d' x y f w g =
        subst⁻¹ (Both (λ (l : Bool). named_of l (take len d) n) d') g
        (told-both (λ (l : Bool). named_of l (take len d) n) d' (is_alias r) x (f ∙ sym is-linked) (λ z. linked-room true name target n d (sym is-linked ∙ z)) (named_other (take len d) n name k e r (i ∙ ap raw_of iv)) w)

-- That of a `__ ` block likewise; r is what the reader of the text gave.
module _ (d : List ℕ) (len n : ℕ) (h : (len < n) × (n ≤ length d)) (r : Raw) (i : r ≡ raw_of (take len d)) (t : Span) (j : t ≡ raw_span r) where
  whole-rest : rest_of (is_alias r) (take len d) ≡ Some t
  whole-rest = raw-rest (take len d) r i ∙ ap Some (sym j)

  pub anonymous-stands : t.start + t.len ≤ len
  anonymous-stands = anonymous-within (is_alias r) d len n h t whole-rest

  whole-kept : excluded (is_alias r) (mid_of t.start (reach t) (take len d)) ≡ false
  whole-kept = raw-kept (take len d) r i _ (part-reach t (take len d) ∙ ap (λ (x : Span). part x (take len d)) j)

  -- it was refused
  pub anonymous-refused : (d' : List ℕ) → None ≡ answer_of (destination_of (mid_of t.start (reach t) d)) → Both (λ (l : Bool). anonymous_of l (take len d) n) d' (Err NotFound)
  anonymous-refused d' g =
      told-neither (λ (l : Bool). anonymous_of l (take len d) n) d' (is_alias r) (anonymous-wrong (is_alias r) d len n h t whole-rest whole-kept g)
      (anonymous-other (take len d) n r i)

  -- whitespace could not be dropped, so that it is
  pub anonymous-dead : (d' : List ℕ) → is_refused (kept_of (part t d)) ≡ true → Both (λ (l : Bool). anonymous_of l (take len d) n) d' (Err NotFound)
  anonymous-dead d' g =
      let f = ap (λ (x : List ℕ). is_refused (kept_of x)) (part-reach t d) ∙ g in
      anonymous-refused d' (sym (ap answer_of (destination-dead (mid_of t.start (reach t) d) f)))

  -- it gave a string, which was told with the name behind the text
  pub anonymous-told :
      (y z : List ℕ) (k : ℕ) (x : Result Definition ParseError) → length y ≡ length (mid_of t.start (reach t) d)
      → Some k ≡ answer_of (destination_of (mid_of t.start (reach t) d)) → y ≡ over (bytes_of (destination_of (mid_of t.start (reach t) d))) z
      → x ≡ told_as (is_alias r) (Ok (record { start = len; len = 1 }, record { start = t.start; len = k }, n))
      → Both (λ (l : Bool). anonymous_of l (take len d) n) (set (put_mid t.start (reach t) d y) len 0x5F) x
  anonymous-told y z k x l g f e =
      let w = anonymous-found (is_alias r) d len n h t whole-rest whole-kept y z l k g f in
      subst⁻¹ (Both (λ (a : Bool). anonymous_of a (take len d) n) (set (put_mid t.start (reach t) d y) len 0x5F)) e
      (told-both (λ (a : Bool). anonymous_of a (take len d) n) (set (put_mid t.start (reach t) d y) len 0x5F) (is_alias r) (Ok (record { start = len; len = 1 }, record { start = t.start; len = k }, n)) w.0 (λ q. link-room _ _ _ (w.0 ∙ q)) (anonymous-other (take len d) n r i) w.1)

-- A block's start, `.. ` or `__ `.
abbrev dots : List ℕ
dots = 0x2E ∷ 0x2E ∷ 0x20 ∷ []

abbrev strokes : List ℕ
strokes = 0x5F ∷ 0x5F ∷ 0x20 ∷ []

-- the target by the two blocks
abbrev target_in : Bool → BlockText → BlockText → Link
target_in label (block text n) y = named_of label text n
target_in label no_block y = anonymous_block_of label y
target_in label no-scratch y = no_room

target_is : (label : Bool) (s : List ℕ) → target_in label (block_of dots s) (block_of strokes s) ≡ label2target_of label s
unfolding label2target_of
target_is label s = go (block_of dots s) refl
  where
    go : (x : BlockText) → block_of dots s ≡ x → target_in label (block_of dots s) (block_of strokes s) ≡ label2target_of label s
    go (block text n) e = simp (e, label2target_of)
    go no_block e = simp (e, label2target_of)
    go no-scratch e = simp (e, label2target_of)

-- the scratch that is lent to the readers is long enough for both, or for neither
target-lent : (label : Bool) (s d d' : List ℕ) → length d' ≡ length d → target_in label (lent_block s d (block_of dots s)) (lent_block s d' (block_of strokes s)) ≡ lent s d (label2target_of label s)
target-lent label s d d' h = ⊎_elim short enough (lt-or-le (length d) (length s))
  where
    short : length d < length s → target_in label (lent_block s d (block_of dots s)) (lent_block s d' (block_of strokes s)) ≡ lent s d (label2target_of label s)
    short l =
        ap (λ (x : BlockText). target_in label x (lent_block s d' (block_of strokes s))) (lent-short dots s d l)
        ∙ sym (ap (λ (t : Bool). elim t [ true ↦ no_room | false ↦ label2target_of label s ]) (lt-ltb (length d) (length s) l))

    enough : length s ≤ length d → target_in label (lent_block s d (block_of dots s)) (lent_block s d' (block_of strokes s)) ≡ lent s d (label2target_of label s)
    enough l =
        ap (λ (x : BlockText). target_in label x (lent_block s d' (block_of strokes s))) (lent-enough dots s d l)
        ∙ ap (target_in label (block_of dots s)) (lent-enough strokes s d' (omega arith))
        ∙ target_is label s
        ∙ sym (ap (λ (t : Bool). elim t [ true ↦ no_room | false ↦ label2target_of label s ]) (le-ltb (length d) (length s) l))

-- A block of the first len bytes of d', when d was lent, ends within n bytes, and these within d'.
joined-within : (header s d d' : List ℕ) (len n : ℕ) → 0 < length header → length d' ≡ length d → block (take len d') n ≡ lent_block s d (block_of header s) → (len < n) × (n ≤ length d')
joined-within header s d d' len n h l e = ⊎_elim short enough (lt-or-le (length d) (length s))
  where
    short : length d < length s → (len < n) × (n ≤ length d')
    short g = absurd (block-is (take len d') n (e ∙ lent-short header s d g))
      where
        block-is : (text : List ℕ) (n : ℕ) → block text n ≡ no-scratch → ⊥
        block-is text n f = false≢true (ap joins f)
          where
            joins : BlockText → Bool
            joins (block t m) = false
            joins no_block = false
            joins no-scratch = true

    enough : length s ≤ length d → (len < n) × (n ≤ length d')
    enough g =
        let w = block-consumed header s (take len d') n (sym (e ∙ lent-enough header s d g)) in
        (omega (arith, w.0, w.1, length-take len d'), omega (arith, w.1))

-- the same, of what the reader answered
pub block_room : (header s d d' : List ℕ) (x : Result (ℕ × ℕ) ParseError) (len n : ℕ) → length d' ≡ length d → block_in x d' ≡ lent_block s d (block_of header s) → x ≡ Ok (len, n) → 0 < length header → (len < n) × (n ≤ length d')
block_room header s d d' x len n l f e h = joined-within header s d d' len n h l (sym (ap (λ (b : Result (ℕ × ℕ) ParseError). block_in b d') e) ∙ f)

-- What the first reader answered, and left in d'.
module _ (s d d' : List ℕ) (x : Result (ℕ × ℕ) ParseError) (l : length d' ≡ length d) (f : block_in x d' ≡ lent_block s d (block_of dots s)) where
  abbrev given : Bool → Link
  given label = lent s d (label2target_of label s)

  first : (y : BlockText) → block_in x d' ≡ y → (label : Bool) → target_in label y (lent_block s d (block_of strokes s)) ≡ given label
  first y e label = ap (λ (b : BlockText). target_in label b (lent_block s d (block_of strokes s))) (sym e ∙ f) ∙ target-lent label s d d refl

  pub target-named : (len n : ℕ) → x ≡ Ok (len, n) → (d'' : List ℕ) (y : Result Definition ParseError) → Both (λ (a : Bool). named_of a (take len d') n) d'' y → Both given d'' y
  target-named len n e d'' y w = both-are (λ (a : Bool). named_of a (take len d') n) given d'' y (first _ (ap (λ (b : Result (ℕ × ℕ) ParseError). block_in b d') e)) w

  pub target-no-room : x ≡ Err NoRoom → Both given d' (Err NoRoom)
  target-no-room e =
      let w = first no-scratch (ap (λ (b : Result (ℕ × ℕ) ParseError). block_in b d') e) in
      record { alias = w true; destination = w false; ends = (tt, tt) }

  -- There was no block. What the second reader answered, and left in d''.
  module _ (e : x ≡ Err NotFound) (d'' : List ℕ) (y : Result (ℕ × ℕ) ParseError) (g : block_in y d'' ≡ lent_block s d' (block_of strokes s)) where
    second : (z : Result (ℕ × ℕ) ParseError) → y ≡ z → (label : Bool) → anonymous_block_of label (block_in z d'') ≡ given label
    second z i label =
        ap (anonymous_block_of label) (sym (ap (λ (b : Result (ℕ × ℕ) ParseError). block_in b d'') i) ∙ g)
        ∙ ap (λ (b : BlockText). target_in label b (lent_block s d' (block_of strokes s))) (sym (ap (λ (b : Result (ℕ × ℕ) ParseError). block_in b d') e) ∙ f)
        ∙ target-lent label s d d' l

    pub target-anonymous : (len n : ℕ) → y ≡ Ok (len, n) → (d''' : List ℕ) (z : Result Definition ParseError) → Both (λ (a : Bool). anonymous_of a (take len d'') n) d''' z → Both given d''' z
    target-anonymous len n i d''' z w = both-are (λ (a : Bool). anonymous_of a (take len d'') n) given d''' z (second (Ok (len, n)) i) w

    pub target-neither : (d''' : List ℕ) (r : ParseError) → y ≡ Err r → Both given d''' (Err r)
    target-neither d''' NotFound i = record { alias = second (Err NotFound) i true; destination = second (Err NotFound) i false; ends = (tt, tt) }
    target-neither d''' NoRoom i = record { alias = second (Err NoRoom) i true; destination = second (Err NoRoom) i false; ends = (tt, tt) }

-- What a link consumes: at least one byte, at most `size`, and as many as its strings have together. There is no want of scratch.
abbrev LinkIn : ℕ → Link → Type 0
LinkIn size (link x y n) = (0 < n) × (n ≤ size) × (length x + length y ≤ n)
LinkIn size none = Unit {0}
LinkIn size no_room = ⊥

paired-in : (size n : ℕ) (g h : Given) → n ≤ size → 0 < n → length (bytes_of g) + length (bytes_of h) ≤ n → LinkIn size (paired g h n)
paired-in size n (whole x) (whole y) l p w = (p, l, w)
paired-in size n (whole x) (refused y) l p w = tt
paired-in size n (refused x) h l p w = tt

module _ (label : Bool) (text : List ℕ) (n size : ℕ) (l : n ≤ size) (h : length text < n) where
  named-in : LinkIn size (named_of label text n)
  named-in = go (parse_label2target_of label text) refl (parse-apart label text)
    where
      both : (a b : Span) (m : ℕ) → Apart (length text) (Some (a, b, m)) → LinkIn size (linked true text a b n)
      both a b m w =
          paired-in size n (text_of (part a text)) (destination_of (part b text)) l (omega arith)
          (omega (arith, w.0, w.1, w.2, text-le (part a text), destination-le (part b text), length-take a.len (drop a.start text), length-take b.len (drop b.start text)))

      test : (a b : Span) (m : ℕ) → parse_label2target_of label text ≡ Some (a, b, m) → Apart (length text) (Some (a, b, m)) → (x : Bool) → excluded label (part b text) ≡ x → LinkIn size (named_of label text n)
      test a b m e w true f = subst⁻¹ (LinkIn size) (named-excluded label text n a b m e f) tt
      test a b m e w false f = subst⁻¹ (LinkIn size) (named-linked label text n a b m e f) (both a b m w)

      go : (x : Option Spans) → parse_label2target_of label text ≡ x → Apart (length text) (parse_label2target_of label text) → LinkIn size (named_of label text n)
      go (Some (a, b, m)) e w = test a b m e (subst (Apart (length text)) e w) _ refl
      go None e w = subst⁻¹ (LinkIn size) (named_none label text n e) tt

  anonymous-in : LinkIn size (anonymous_of label text n)
  anonymous-in = go (rest_of label text) refl (rest_in label text)
    where
      test : (t : Span) → rest_of label text ≡ Some t → t.start + t.len ≤ length text → (x : Bool) → excluded label (part t text) ≡ x → LinkIn size (anonymous_of label text n)
      test t e w true f = subst⁻¹ (LinkIn size) (anonymous-excluded label text n t e f) tt
      test t e w false f =
          subst⁻¹ (LinkIn size) (anonymous-paired label text n t e f)
          (paired-in size n (whole (0x5F ∷ [])) (destination_of (part t text)) l (omega arith)
          (omega (arith, w, destination-le (part t text), length-take t.len (drop t.start text))))

      go : (x : Option Span) → rest_of label text ≡ x → RestIn (length text) (rest_of label text) → LinkIn size (anonymous_of label text n)
      go (Some t) e w = test t e (subst (RestIn (length text)) e w) _ refl
      go None e w = subst⁻¹ (LinkIn size) (anonymous-none label text n e) tt

target-in : (label : Bool) (s : List ℕ) → LinkIn (length s) (label2target_of label s)
target-in label s = subst (LinkIn (length s)) (target_is label s) (named (block_of dots s) refl)
  where
    anonymous : (y : BlockText) → block_of strokes s ≡ y → LinkIn (length s) (anonymous_block_of label y)
    anonymous (block text n) e = let w = block-consumed strokes s text n e in anonymous-in label text n (length s) w.1 (omega (arith, w.0))
    anonymous no_block e = tt
    anonymous no-scratch e = absurd (block-scratch strokes s e)

    named : (x : BlockText) → block_of dots s ≡ x → LinkIn (length s) (target_in label x (block_of strokes s))
    named (block text n) e = let w = block-consumed dots s text n e in named-in label text n (length s) w.1 (omega (arith, w.0))
    named no_block e = anonymous (block_of strokes s) refl
    named no-scratch e = absurd (block-scratch dots s e)

pub label2target-consumed : (label : Bool) (s x y : List ℕ) (n : ℕ) → label2target_of label s ≡ link x y n → (0 < n) × (n ≤ length s) × (length x + length y ≤ n)
label2target-consumed label s x y n e = subst (LinkIn (length s)) e (target-in label s)

pub label2target-room : (label : Bool) (s : List ℕ) → label2target_of label s ≡ no_room → ⊥
label2target-room label s e = subst (LinkIn (length s)) e (target-in label s)

-- and so for either
module _ (s : List ℕ) where
  pub label2dest-consumed : (x y : List ℕ) (n : ℕ) → label2dest_of s ≡ link x y n → (0 < n) × (n ≤ length s) × (length x + length y ≤ n)
  unfolding label2dest_of
  label2dest-consumed x y n e = label2target-consumed false s x y n e

  pub label2label-consumed : (x y : List ℕ) (n : ℕ) → label2label_of s ≡ link x y n → (0 < n) × (n ≤ length s) × (length x + length y ≤ n)
  unfolding label2label_of
  label2label-consumed x y n e = label2target-consumed true s x y n e

  pub label2dest-room : label2dest_of s ≡ no_room → ⊥
  unfolding label2dest_of
  label2dest-room e = label2target-room false s e

  pub label2label-room : label2label_of s ≡ no_room → ⊥
  unfolding label2label_of
  label2label-room e = label2target-room true s e

-- A text gives an alias or a destination, not both.
one_of : (F : Bool → Link) (alias : Bool) → F (not alias) ≡ none → (F true ≡ none) ⊎ (F false ≡ none)
one_of F true e = inr e
one_of F false e = inl e

module _ (text : List ℕ) (n : ℕ) where
  one-named : (named_of true text n ≡ none) ⊎ (named_of false text n ≡ none)
  one-named = go (name_of text) refl
    where
      go : (x : Option (Span × ℕ)) → name_of text ≡ x → (named_of true text n ≡ none) ⊎ (named_of false text n ≡ none)
      go (Some (name, k)) e = one_of (λ (l : Bool). named_of l text n) (is_alias (raw_of (drop k text))) (named_other text n name k e _ refl)
      go None e = inl (named_none true text n (parse-none true text e))

  one-anonymous : (anonymous_of true text n ≡ none) ⊎ (anonymous_of false text n ≡ none)
  one-anonymous = one_of (λ (l : Bool). anonymous_of l text n) (is_alias (raw_of text)) (anonymous-other text n _ refl)

one-target : (s : List ℕ) → (label2target_of true s ≡ none) ⊎ (label2target_of false s ≡ none)
one-target s = named (block_of dots s) refl
  where
    is : (label : Bool) (x y : BlockText) → block_of dots s ≡ x → block_of strokes s ≡ y → target_in label x y ≡ none → label2target_of label s ≡ none
    is label x y e f g =
        sym (target_is label s)
        ∙ ap (λ (b : BlockText). target_in label b (block_of strokes s)) e
        ∙ ap (target_in label x) f
        ∙ g

    anonymous : block_of dots s ≡ no_block → (y : BlockText) → block_of strokes s ≡ y → (label2target_of true s ≡ none) ⊎ (label2target_of false s ≡ none)
    anonymous e (block text n) f = ⊎_elim (λ g. inl (is true no_block (block text n) e f g)) (λ g. inr (is false no_block (block text n) e f g)) (one-anonymous text n)
    anonymous e no_block f = inl (is true no_block no_block e f refl)
    anonymous e no-scratch f = absurd (block-scratch strokes s f)

    named : (x : BlockText) → block_of dots s ≡ x → (label2target_of true s ≡ none) ⊎ (label2target_of false s ≡ none)
    named (block text n) e = ⊎_elim (λ g. inl (is true (block text n) _ e refl g)) (λ g. inr (is false (block text n) _ e refl g)) (one-named text n)
    named no_block e = anonymous e _ refl
    named no-scratch e = absurd (block-scratch dots s e)

-- a link is not none
link-none : (x y : List ℕ) (n : ℕ) → link x y n ≡ none → ⊥
link-none x y n e = false≢true (ap empty e)
  where
    empty : Link → Bool
    empty (link u v m) = false
    empty none = true
    empty no_room = true

pub alias-or-destination : (s x y : List ℕ) (n : ℕ) → label2label_of s ≡ link x y n → label2dest_of s ≡ none
unfolding label2label_of label2dest_of
alias-or-destination s x y n e = ⊎_elim (λ f. absurd (link-none x y n (sym e ∙ f))) (λ f. f) (one-target s)

pub destination-or-alias : (s x y : List ℕ) (n : ℕ) → label2dest_of s ≡ link x y n → label2label_of s ≡ none
unfolding label2label_of label2dest_of
destination-or-alias s x y n e = ⊎_elim (λ f. f) (λ f. absurd (link-none x y n (sym e ∙ f))) (one-target s)

-- LF and a tail behind the input.
module _ (s t : List ℕ) (h : Tail t) (b : Body s) where
  pub label2target-lf : (label : Bool) → label2target_of label (s ++ 10 ∷ t) ≡ label2target_of label s
  unfolding free is_stop
  label2target-lf label =
      sym (target_is label (s ++ 10 ∷ t))
      ∙ ap (λ (x : BlockText). target_in label x (block_of strokes (s ++ 10 ∷ t))) (block-lf dots s t refl h b)
      ∙ ap (target_in label (block_of dots s)) (block-lf strokes s t refl h b)
      ∙ target_is label s

  pub label2dest-lf : label2dest_of (s ++ 10 ∷ t) ≡ label2dest_of s
  unfolding label2dest_of
  label2dest-lf = label2target-lf false

  pub label2label-lf : label2label_of (s ++ 10 ∷ t) ≡ label2label_of s
  unfolding label2label_of
  label2label-lf = label2target-lf true

-- Where no target starts there is none: the text of a `.. ` block begins with what stands behind that header, or with the space before
-- its second line.
first-other : (v w : List ℕ) (n : ℕ) → starts_with (0x5F ∷ []) v ≡ false → starts_with (0x5F ∷ []) w ≡ false → starts_with (0x5F ∷ []) (take n v ++ w) ≡ false
unfolding starts_with
first-other v w zero e f = f
first-other [] w (suc n) e f = f
first-other (b ∷ v) w (suc n) e f = e

lines_other : (indent s : List ℕ) → starts_with (0x5F ∷ []) (lines_of indent 0 s).text ≡ false
unfolding starts_with
lines_other indent s = go (further_of indent s) refl
  where
    go : (x : Option (ℕ × ℕ)) → further_of indent s ≡ x → starts_with (0x5F ∷ []) (lines_of indent 0 s).text ≡ false
    go (Some (a, n)) e = rw (lines-further indent s a n e) refl
    go None e = rw (lines_end indent s e) refl

-- a text that does not begin with '_' has no name
other_none : (label : Bool) (text : List ℕ) (n : ℕ) → starts_with (0x5F ∷ []) text ≡ false → named_of label text n ≡ none
other_none label text n e =
    named_none label text n
    (parse-none label text
    (name-plain text (delimited-none _ 0x60 0x60 _ text (starts-append (0x5F ∷ []) (0x60 ∷ []) text ∙ ap (λ (b : Bool). b && starts_with (0x60 ∷ []) (drop 1 text)) e))
    ∙ plain-none text (delimited-none _ 0x3A 0x3A _ text e)))

module _ (label : Bool) (s : List ℕ) (e : starts_target s ≡ false) where
  start : List ℕ
  start = drop (space0_of s) s

  no-strokes : block_of strokes s ≡ no_block
  unfolding starts_target start_of
  no-strokes =
      let f = (neither (starts_with (0x2E ∷ 0x2E ∷ 0x20 ∷ 0x5F ∷ []) (drop (space0_of s) s)) (starts_with strokes (drop (space0_of s) s)) e).1 in
      block_none strokes s (simp (f, start_of))

  no_name : starts_with dots start ≡ true → starts_with (0x5F ∷ []) (drop 3 start) ≡ false
  unfolding starts_target start
  no_name f = sym (ap (λ (b : Bool). b && starts_with (0x5F ∷ []) (drop 3 start)) f) ∙ sym (starts-append dots (0x5F ∷ []) start) ∙ (neither (starts_with (0x2E ∷ 0x2E ∷ 0x20 ∷ 0x5F ∷ []) (drop (space0_of s) s)) (starts_with strokes (drop (space0_of s) s)) e).0

  no-dots : target_in label (block_of dots s) no_block ≡ none
  unfolding start
  no-dots = go (start_of dots s) refl
    where
      go : (x : Option ℕ) → start_of dots s ≡ x → target_in label (block_of dots s) no_block ≡ none
      go (Some a) f = line (not_line_ending_of (drop a s)) refl
        where
          behind : starts_with (0x5F ∷ []) (drop a s) ≡ false
          behind = ap (λ (n : ℕ). starts_with (0x5F ∷ []) (drop n s)) (start_is dots s a f) ∙ ap (starts_with (0x5F ∷ [])) (sym (drop-drop 3 (space0_of s) s)) ∙ no_name (start-begins dots s a f)

          line : (y : Option ℕ) → not_line_ending_of (drop a s) ≡ y → target_in label (block_of dots s) no_block ≡ none
          line (Some n) g =
              rw (block-taken dots s a f n g)
              (other_none label _ _ (first-other (drop a s) _ n behind (lines_other (take (space0_of s) s) (drop n (drop a s)))))
          line None g = rw (block-no-line dots s a f g) refl
      go None f = rw (block_none dots s f) refl

  pub no_target : label2target_of label s ≡ none
  no_target = sym (target_is label s) ∙ ap (target_in label (block_of dots s)) no-strokes ∙ no-dots

-- and so neither of them
module _ (s : List ℕ) (e : starts_target s ≡ false) where
  pub no-label : label2label_of s ≡ none
  unfolding label2label_of
  no-label = no_target true s e

  pub no-destination : label2dest_of s ≡ none
  unfolding label2dest_of
  no-destination = no_target false s e

  -- with a scratch that is long enough
  pub undefined : (d : List ℕ) → length s ≤ length d → Defines (lent s d (label2label_of s)) (lent s d (label2dest_of s)) d (Err NotFound)
  undefined d h =
      record {
        alias = sym no-label ∙ strings-enough s d (label2label_of s) h;
        destination = sym no-destination ∙ strings-enough s d (label2dest_of s) h;
        ends = (tt, tt);
      }
