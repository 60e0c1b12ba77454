-- The laws of specs/ReadBack.antt: what was written reads back as the four fields, and as the links of all records.
-- Assumes nothing.
use Prim.Native.Nat.{ℕ, zero, suc, ◌+◌, ◌-◌, ◌%◌, ◌<◌, ◌≤◌}
use mathlib.Core.Path.{◌≡◌, refl, sym, ap, ◌∙◌}
use mathlib.Core.List.{List, [], ◌∷◌, ◌++◌, append_assoc}
use native.Mathlib.Omega.{arith}
use native.Mathlib.Nat.{div-div-eq-div-mul}
use lib.ListN.{length, take, drop, length-append}
use lib.Seq.{take_at, drop_at, drop-drop}
use Rattle.iterator.specs.Resolve.{Hyperlink}
use Rattle.iterator.specs.Records.{word_of, bytes8, record_of, records_from, records_of}
use Rattle.iterator.specs.Inner.{Fields}
use Rattle.iterator.specs.ReadBack.{
  word_at,
  skipped_of,
  consumed_of,
  text_len_of,
  dest_len_of,
  link_at_front,
  after_front,
  links_read,
  links_held_in,
}
use Rattle.iterator.specs.Laws.{Standing}
use Rattle.iterator.proofs.RecordLaws.{record-length}

-- the number of eight bytes is the one that was written
word_back : (v : ℕ) (rest : List ℕ) → word_at (bytes8 v ++ rest) ≡ v
word_back v rest =
    omega (
      arith,
      div-div-eq-div-mul v 256 256,
      div-div-eq-div-mul v 65536 256,
      div-div-eq-div-mul v 16777216 256,
      div-div-eq-div-mul v 4294967296 256,
      div-div-eq-div-mul v 1099511627776 256,
      div-div-eq-div-mul v 281474976710656 256,
    )

-- its fields are those that were written, and the four bits after them are zero
module _ (a b c d : ℕ) (h : Fields a b c d) where
  skipped-back : skipped_of (word_of a b c d) ≡ a
  skipped-back = omega arith

  consumed-back : consumed_of (word_of a b c d) ≡ b
  consumed-back = omega arith

  text-len-back : text_len_of (word_of a b c d) ≡ c
  text-len-back = omega arith

  dest-len-back : dest_len_of (word_of a b c d) ≡ d
  dest-len-back = omega arith

  pub spare-bits : word_of a b c d % 16 ≡ 0
  spare-bits = omega arith

module _ (n : ℕ) (x : Hyperlink) (rest : List ℕ) (order : n ≤ x.place)
    (h : Fields (x.place - n) x.consumed (length x.text) (length x.dest)) where
  word : word_at (record_of n x ++ rest) ≡ word_of (x.place - n) x.consumed (length x.text) (length x.dest)
  word = word_back (word_of (x.place - n) x.consumed (length x.text) (length x.dest)) (x.text ++ x.dest ++ rest)

  text-len : text_len_of (word_at (record_of n x ++ rest)) ≡ length x.text
  text-len = ap text_len_of word ∙ text-len-back _ _ _ _ h

  dest-len : dest_len_of (word_at (record_of n x ++ rest)) ≡ length x.dest
  dest-len = ap dest_len_of word ∙ dest-len-back _ _ _ _ h

  place-back : n + skipped_of (word_at (record_of n x ++ rest)) ≡ x.place
  place-back = omega (arith, ap skipped_of word, skipped-back _ _ _ _ h)

  -- its strings stand behind the head
  dest-front : (k : ℕ) → k ≡ length x.text → drop (8 + k) (record_of n x ++ rest) ≡ x.dest ++ rest
  dest-front k e =
      sym (drop-drop k 8 (record_of n x ++ rest))
      ∙ ap (drop k) (append_assoc x.text x.dest rest)
      ∙ drop_at x.text (x.dest ++ rest) k (sym e)

  -- the record of link x reads as x
  link-back : link_at_front n (record_of n x ++ rest) ≡ x
  link-back =
      λ j. record {
        place = place-back j;
        consumed = (ap consumed_of word ∙ consumed-back _ _ _ _ h) j;
        text =
            (ap (take (text_len_of (word_at (record_of n x ++ rest)))) (append_assoc x.text x.dest rest)
            ∙ take_at x.text (x.dest ++ rest) _ (sym text-len)) j;
        dest = (ap (take (dest_len_of (word_at (record_of n x ++ rest)))) (dest-front _ text-len) ∙ take_at x.dest rest _ (sym dest-len)) j;
      }

  -- and what follows it is left
  after-back : after_front (record_of n x ++ rest) ≡ rest
  after-back =
      sym (drop-drop (dest_len_of (word_at (record_of n x ++ rest))) (8 + text_len_of (word_at (record_of n x ++ rest))) (record_of n x ++ rest))
      ∙ ap (drop (dest_len_of (word_at (record_of n x ++ rest)))) (dest-front _ text-len)
      ∙ drop_at x.dest rest _ (sym dest-len)

-- there are at least as many bytes as links
records-many : (links : List Hyperlink) (n : ℕ) → length links ≤ length (records_from n links)
unfolding records_from
records-many [] n = omega arith
records-many (x ∷ links) n =
    let e = length-append (record_of n x) (records_from (x.place + x.consumed) links) in
    omega (arith, e, record-length n x, records-many links (x.place + x.consumed))

pub standing-end : (links : List Hyperlink) (n m : ℕ) → Standing n m links → n ≤ m
unfolding Standing
standing-end [] n m w = w
standing-end (x ∷ links) n m w = omega (arith, w.0, standing-end links (x.place + x.consumed) m w.3)

-- the records of links read as those links, where the places and lengths have 15 bits
links-back :
    (links : List Hyperlink) (k n m : ℕ) → m < 32768 → length links ≤ k → Standing n m links
    → links_read k n (records_from n links) ≡ links
unfolding links_read records_from Standing
links-back [] zero n m h l w = refl
links-back [] (suc k) n m h l w = refl
links-back (x ∷ links) zero n m h l w = absurd (omega arith)
links-back (x ∷ links) (suc k) n m h l w =
    let more = records_from (x.place + x.consumed) links in
    let e = standing-end links (x.place + x.consumed) m w.3 in
    let f : Fields (x.place - n) x.consumed (length x.text) (length x.dest) = (
      omega (arith, w.0, e),
      (omega (arith, w.0, e), (omega (arith, w.1), omega (arith, w.2))),
    ) in
    (λ j. link-back n x more w.0 f j
    ∷ links_read k ((link-back n x more w.0 f j).place + (link-back n x more w.0 f j).consumed) (after-back n x more w.0 f j))
    ∙ ap (λ (l : List Hyperlink). x ∷ l) (links-back links k (x.place + x.consumed) m h (omega arith) w.3)

pub links-held : (links : List Hyperlink) (m : ℕ) → m < 32768 → Standing 0 m links → links_held_in (records_of links) ≡ links
links-held links m h w = links-back links (length (records_of links)) 0 m h (records-many links 0) w
