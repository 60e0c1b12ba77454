-- The laws of records: the strings of a link's row, how long they are, the bytes of a record and of all records, and the output after each
-- record that is written.
-- Assumes nothing.
use Rattle.std.proofs.Common.{ℕ, zero, suc, ◌≡◌, ◌+◌, ◌-◌, ◌*◌, ◌/◌, ◌%◌, ◌^◌, ◌<◌, ◌≤◌, refl, sym, ap, ◌∙◌, arith, eqb, List, [], ◌∷◌, ◌++◌, map, append_assoc, append-nil, length, take, drop, length-append, length-drop, drop_of_length-le, bit_or, w64}
use mathlib.Core.Path.{ap₂}
use lib.Seq.{length-take-le, take_all, take-length, take_at, drop_at, drop-drop, take-add}
use borrow.Rule.Slice.PartMut.{mid_of, put_mid}
use Rattle.std.specs.Int.{to_be_bytes}
use Rattle.std.proofs.Math.Nat.{mod-eq_of_lt}
use Rattle.std.proofs.lemmas.Nat.{or_shifted, shl_below, shl_whole}
use Rattle.rst_bytes.proofs.TestLaws.{by-test}
use Rattle.restructured_text.specs.Strings.{part}
use Rattle.restructured_text.proofs.PartLaws.{part_length}
use Rattle.iterator.specs.declared.rows.LinkRow.{LinkRow}
use Rattle.iterator.specs.declared.rows.LinkKind.{LinkKind}
use Rattle.iterator.specs.declared.rows.LinkKind.TheVariants.{Direct, Reference, Rendered}
use Rattle.iterator.specs.Resolve.{Hyperlink, shown_of}
use Rattle.iterator.specs.Records.{word_of, bytes8, record_of, records_from, records_of}
use Rattle.iterator.specs.Rows.{
  link_at,
  link_rows,
  text_of,
  hyperlink_of,
  hyperlinks_in,
  room,
  TextWithin,
  LinkWithin,
  LinksWithin,
}
use Rattle.iterator.specs.Inner.{Fields, size_of, InOrder}
use Rattle.iterator.proofs.RowsLaws.{links-next}

-- The four fields as one number, put together by shifts
word-by-shifts :
    (s c t d : ℕ) → Fields s c t d
    → bit_or (bit_or (bit_or (s * 2 ^ 49 % 2 ^ 64) (c * 2 ^ 34 % 2 ^ 64)) (t * 2 ^ 19 % 2 ^ 64)) (d * 2 ^ 4 % 2 ^ 64)
    ≡ word_of s c t d
word-by-shifts s c t d h =
    let e1 : s * 2 ^ 49 + c * 2 ^ 34 ≡ (s * 2 ^ 15 + c) * 2 ^ 34 = omega arith in
    let e2 : (s * 2 ^ 15 + c) * 2 ^ 34 + t * 2 ^ 19 ≡ ((s * 2 ^ 15 + c) * 2 ^ 15 + t) * 2 ^ 19 = omega arith in
    rw (
      shl_whole s 15 49 64 (omega arith) (omega arith),
      shl_whole c 15 34 64 (omega arith) (omega arith),
      shl_whole t 15 19 64 (omega arith) (omega arith),
      shl_whole d 15 4 64 (omega arith) (omega arith),
      or_shifted s 49 (c * 2 ^ 34) (shl_below c 15 34 (omega arith)),
      e1,
      or_shifted (s * 2 ^ 15 + c) 34 (t * 2 ^ 19) (shl_below t 15 19 (omega arith)),
      e2,
      or_shifted ((s * 2 ^ 15 + c) * 2 ^ 15 + t) 19 (d * 2 ^ 4) (shl_below d 15 4 (omega arith)),
    ) (omega arith)

-- its bytes, the highest first
word-bytes : (v : ℕ) → v < 2 ^ 64 → to_be_bytes w64 v ≡ bytes8 v
word-bytes v h = rw (mod-eq_of_lt {n = v / 2 ^ 56} {m = 256} (omega arith))

-- and they are at the front of the output
pub head-written :
    (s c t d : ℕ) (b o o' : List ℕ) → Fields s c t d
    → b ≡ to_be_bytes w64 (bit_or (bit_or (bit_or (s * 2 ^ 49 % 2 ^ 64) (c * 2 ^ 34 % 2 ^ 64)) (t * 2 ^ 19 % 2 ^ 64)) (d * 2 ^ 4 % 2 ^ 64))
    → o' ≡ b ++ drop (length b) o → o' ≡ bytes8 (word_of s c t d) ++ drop 8 o
head-written s c t d b o o' h e f =
    let g : b ≡ bytes8 (word_of s c t d) = e ∙ ap (to_be_bytes w64) (word-by-shifts s c t d h) ∙ word-bytes (word_of s c t d) (omega arith) in
    rw g at f

-- A reference's shown text is the text or the destination
pub shown-le : (text dest : List ℕ) (n : ℕ) → length text ≤ n → length dest ≤ n → length (shown_of text dest) ≤ n
shown-le text dest n h k = by-test (λ (l : List ℕ). length l ≤ n) (eqb (length text) 0) dest text (λ _. k) (λ _. h)

-- a row whose goal is a destination can be written: its strings stand in the document and in the work bytes
abbrev pub Writable : List ℕ → List ℕ → LinkRow → Type 0
Writable s w x = record { short : length s ≤ 16384; roomy : room ≤ length w; within : LinkWithin (length s) room x }

-- The strings of a row that can be written
module _ (s w : List ℕ) (x : LinkRow) (h : Writable s w x) where
  goal-length : length (part x.goal w) ≡ x.goal.len
  goal-length = part_length x.goal.start x.goal.len w (omega arith)

  pub text-le : length (text_of s w x) ≤ 16384
  text-le = go x.kind h.within.1.0
    where
      at-most : (d : List ℕ) → x.text.start + x.text.len ≤ length d → x.text.len ≤ 16384 → length (part x.text d) ≤ 16384
      at-most d f g = omega (arith, part_length x.text.start x.text.len d f)

      go : (k : LinkKind) → TextWithin (length s) room (record x { kind = k }) → length (text_of s w (record x { kind = k })) ≤ 16384
      go Direct t = at-most w (omega arith) (omega arith)
      go Reference t = shown-le (part x.text w) (part x.goal w) 16384 (at-most w (omega arith) (omega arith)) (omega (arith, goal-length))
      go Rendered t = at-most s (omega arith) (omega arith)

-- How long records are
pub record-length : (n : ℕ) (x : Hyperlink) → length (record_of n x) ≡ 8 + length x.text + length x.dest
record-length n x = simp length-append (omega arith)

pub records-size : (n : ℕ) (links : List Hyperlink) → length (records_from n links) ≡ size_of links
unfolding records_from size_of
records-size n [] = refl
records-size n (x ∷ rest) =
    let l : length (record_of n x ++ records_from (x.place + x.consumed) rest) ≡ length (record_of n x) + length (records_from (x.place + x.consumed) rest) = length-append (record_of n x) _ in
    omega (arith, l, record-length n x, records-size (x.place + x.consumed) rest)

-- at most 8 bytes and twice a document's length for each row
pub size_few :
    (n a : ℕ) (s t w : List ℕ) → length s ≤ 16384 → room ≤ length w → LinksWithin (length s) room (link_rows n a t)
    → size_of (map (hyperlink_of s w) (link_rows n a t)) ≤ 32776 * n
unfolding link_rows size_of LinksWithin
size_few zero a s t w short roomy h = omega arith
size_few (suc n) a s t w short roomy h =
    let x = link_at t a in
    let p : Writable s w x = record { short = short; roomy = roomy; within = h.0 } in
    omega (arith, text-le s w x p, goal-length s w x p, h.0.1.1.1, size_few n (a + 7) s t w short roomy h.1)

-- One more string is written behind those that are written: p are the first n bytes of the output, and the others are as they were.
module _ (n : ℕ) (p x o out y : List ℕ) where
  appended :
      length p ≡ n → n + length x ≤ length o → out ≡ p ++ drop n o → y ≡ x ++ drop (length x) (mid_of n (length out - n) out)
      → put_mid n (length out - n) out y ≡ p ++ x ++ drop (n + length x) o
  appended l fits e f =
      let d : drop n out ≡ drop n o = ap (drop n) e ∙ drop_at p (drop n o) n l in
      let t : take n out ≡ p = ap (take n) e ∙ take_at p (drop n o) n l in
      let k : length (drop n out) ≤ length out - n = omega (arith, length-drop n out) in
      let m : mid_of n (length out - n) out ≡ drop n o = take_all (length out - n) (drop n out) k ∙ d in
      let z : drop (length out - n) (drop n out) ≡ [] = drop_of_length-le (drop n out) k in
      let g : y ≡ x ++ drop (n + length x) o = f ∙ ap (λ (r : List ℕ). x ++ drop (length x) r) m ∙ ap (λ (r : List ℕ). x ++ r) (drop-drop (length x) n o) in
      ap₂ (λ (a b : List ℕ). a ++ (y ++ b)) t z ∙ ap (λ (r : List ℕ). p ++ r) (append-nil y ∙ g) ∙ sym (append_assoc p x (drop (n + length x) o))

-- The record of a row x is written to output o, where the link before ended at place n: its head, then the text, which leaves y in the part
-- that it was lent, then the destination.
pub record-written :
    (s w : List ℕ) (x : LinkRow) (n : ℕ) (text dest o h y z : List ℕ) → text ≡ text_of s w x → dest ≡ part x.goal w
    → length (record_of n (hyperlink_of s w x)) ≤ length o
    → h ≡ bytes8 (word_of (x.place - n) x.consumed (length text) (length dest)) ++ drop 8 o
    → y ≡ text ++ drop (length text) (mid_of 8 (length h - 8) h)
    → z ≡ dest ++ drop (length dest) (mid_of (8 + length text) (length (put_mid 8 (length h - 8) h y) - (8 + length text)) (put_mid 8 (length h - 8) h y))
    → put_mid (8 + length text) (length (put_mid 8 (length h - 8) h y) - (8 + length text)) (put_mid 8 (length h - 8) h y) z
    ≡ record_of n (hyperlink_of s w x) ++ drop (8 + length text + length dest) o
record-written s w x n text dest o h y z et ed fits eh ey ez =
    let b = bytes8 (word_of (x.place - n) x.consumed (length text) (length dest)) in
    let long : 8 + length text + length dest ≤ length o = omega (arith, ap length et, ap length ed, record-length n (hyperlink_of s w x)) in
    let u : put_mid 8 (length h - 8) h y ≡ b ++ text ++ drop (8 + length text) o = appended 8 b text o h y refl (omega arith) eh ey in
    let l : length (b ++ text) ≡ 8 + length text = length-append b text in
    appended (8 + length text) (b ++ text) dest o (put_mid 8 (length h - 8) h y) z l (omega arith) u ez
    ∙ ap (λ (r : List ℕ). r ++ drop (8 + length text + length dest) o) (append_assoc b text dest)
    ∙ ap₂ (λ (t d : List ℕ). bytes8 (word_of (x.place - n) x.consumed (length t) (length d)) ++ (t ++ d) ++ drop (8 + length text + length dest) o) et ed

-- the records of n links
abbrev pub records_in : ℕ → List ℕ → List ℕ → List ℕ → List ℕ
records_in n s t w = records_of (hyperlinks_in n s t w)

-- The records of the first i of n links are written, at bytes of the output o₀; the last of these links ended at place end.
pub record Emitted (n : ℕ) (s t w o₀ o : List ℕ) (i end at : ℕ) : Type 0 where
  pub before : i ≤ n
  pub fits : length (records_in n s t w) ≤ length o₀
  pub inside : at ≤ length (records_in n s t w)
  pub ahead : drop at (records_in n s t w) ≡ records_from end (map (hyperlink_of s w) (link_rows (n - i) (7 * i) t))
  pub output : o ≡ take at (records_in n s t w) ++ drop at o₀
  pub order : InOrder end (map (hyperlink_of s w) (link_rows (n - i) (7 * i) t))
  pub within : LinksWithin (length s) room (link_rows (n - i) (7 * i) t)

module _ (n : ℕ) (s t w o₀ o : List ℕ) (i end at : ℕ) (v : Emitted n s t w o₀ o i end at) where
  front_length : length (take at (records_in n s t w)) ≡ at
  front_length = length-take-le at (records_in n s t w) v.inside

  -- the output is as long as it was
  emit-length : length o ≡ length o₀
  emit-length =
      omega (
        arith,
        ap length v.output,
        length-append (take at (records_in n s t w)) (drop at o₀),
        front_length,
        length-drop at o₀,
        v.fits,
        v.inside,
      )

  -- all are written
  pub emit-done : n ≤ i → o ≡ records_in n s t w ++ drop (length (records_in n s t w)) o₀
  unfolding link_rows records_from
  emit-done h =
      let e : n - i ≡ 0 = omega arith in
      let d : drop at (records_in n s t w) ≡ [] = rw e at v.ahead in
      let l : at ≡ length (records_in n s t w) = omega (arith, ap length d, length-drop at (records_in n s t w), v.inside) in
      rw l at v.output ∙ ap (λ (r : List ℕ). r ++ drop (length (records_in n s t w)) o₀) (take-length (records_in n s t w))

  -- The next link, of row x
  module _ (x : LinkRow) (ex : x ≡ link_at t (7 * i)) (more : i < n) where
    next :
        drop at (records_in n s t w)
        ≡ record_of end (hyperlink_of s w x) ++ records_from (x.place + x.consumed) (map (hyperlink_of s w) (link_rows (n - (i + 1)) (7 * (i + 1)) t))
    unfolding records_from
    next = v.ahead ∙ ap (λ (r : List LinkRow). records_from end (map (hyperlink_of s w) r)) (links-next n i t x ex more)

    emit-within : LinkWithin (length s) room x × LinksWithin (length s) room (link_rows (n - (i + 1)) (7 * (i + 1)) t)
    unfolding LinksWithin
    emit-within = rw (links-next n i t x ex more) at v.within

    emit-order : (end ≤ x.place) × InOrder (x.place + x.consumed) (map (hyperlink_of s w) (link_rows (n - (i + 1)) (7 * (i + 1)) t))
    unfolding InOrder
    emit-order = rw (links-next n i t x ex more) at v.order

    -- there is room for its record
    room-left : at + length (record_of end (hyperlink_of s w x)) ≤ length (records_in n s t w)
    room-left =
        omega (
          arith,
          ap length next,
          length-append (record_of end (hyperlink_of s w x)) (records_from (x.place + x.consumed) (map (hyperlink_of s w) (link_rows (n - (i + 1)) (7 * (i + 1)) t))),
          length-drop at (records_in n s t w),
          v.inside,
        )

    -- so that it can be written
    pub can-emit :
        record {
          within : LinkWithin (length s) room x;
          order : end ≤ x.place;
          room : length (record_of end (hyperlink_of s w x)) ≤ length (mid_of at (length o - at) o);
        }
    can-emit =
        let g : at ≤ length o = omega (arith, emit-length, v.fits, v.inside) in
        let l : length (mid_of at (length o - at) o) ≡ length o - at = part_length at (length o - at) o (omega arith) in
        record {
          within = emit-within.0;
          order = emit-order.0;
          room = omega (arith, room-left, v.fits, emit-length);
        }

    -- it is written
    pub emit-turn :
        (r : ℕ) (y : List ℕ) → y ≡ record_of end (hyperlink_of s w x) ++ drop r (mid_of at (length o - at) o)
        → r ≡ length (record_of end (hyperlink_of s w x))
        → Emitted n s t w o₀ (put_mid at (length o - at) o y) (i + 1) (x.place + x.consumed) (at + r)
    emit-turn r y f l =
        let a : take r (drop at (records_in n s t w)) ≡ record_of end (hyperlink_of s w x) = ap (take r) next ∙ take_at (record_of end (hyperlink_of s w x)) _ r (sym l) in
        let k : take (at + r) (records_in n s t w) ≡ take at (records_in n s t w) ++ record_of end (hyperlink_of s w x) = take-add at r (records_in n s t w) ∙ ap (λ (z : List ℕ). take at (records_in n s t w) ++ z) a in
        record {
          before = omega arith;
          fits = v.fits;
          inside = omega (arith, room-left);
          ahead = sym (drop-drop r at (records_in n s t w)) ∙ ap (drop r) next ∙ drop_at (record_of end (hyperlink_of s w x)) _ r (sym l);
          output = rw (k, l) (appended at (take at (records_in n s t w)) (record_of end (hyperlink_of s w x)) o₀ o y front_length (omega (arith, room-left, v.fits)) v.output (rw l at f));
          order = emit-order.1;
          within = emit-within.1;
        }
