-- Records read back: the four fields of the eight bytes, the link of a record, and the links that records hold.
-- Assumes nothing.
use Rattle.std.specs.Prelude.{ℕ, zero, suc, ◌+◌, ◌*◌, ◌/◌, ◌%◌, List, [], ◌∷◌, length, get_or, take, drop}
use Rattle.iterator.specs.Resolve.{Hyperlink}

-- the number of the first eight bytes: the factors are 2^56, 2^48, .., 2^8
abbrev pub word_at : List ℕ → ℕ
word_at s =
    get_or s 0 0 * 72057594037927936
    + get_or s 1 0 * 281474976710656
    + get_or s 2 0 * 1099511627776
    + get_or s 3 0 * 4294967296
    + get_or s 4 0 * 16777216
    + get_or s 5 0 * 65536
    + get_or s 6 0 * 256
    + get_or s 7 0

-- the fields of a number, most significant bit first: it is divided by 2^49, 2^34, 2^19 and 2^4, and a field is below 2^15
abbrev pub skipped_of : ℕ → ℕ
skipped_of v = v / 562949953421312

abbrev pub consumed_of : ℕ → ℕ
consumed_of v = v / 17179869184 % 32768

abbrev pub text_len_of : ℕ → ℕ
text_len_of v = v / 524288 % 32768

abbrev pub dest_len_of : ℕ → ℕ
dest_len_of v = v / 16 % 32768

-- the link of the record at the front of s; the link before ended at place n
abbrev pub link_at_front : ℕ → List ℕ → Hyperlink
link_at_front n s =
    record {
      place = n + skipped_of (word_at s);
      consumed = consumed_of (word_at s);
      text = take (text_len_of (word_at s)) (drop 8 s);
      dest = take (dest_len_of (word_at s)) (drop (8 + text_len_of (word_at s)) s);
    }

-- what follows that record
abbrev pub after_front : List ℕ → List ℕ
after_front s = drop (8 + text_len_of (word_at s) + dest_len_of (word_at s)) s

-- the links of records, at most k of them; the link before the first ended at place n
unfoldable pub links_read : ℕ → ℕ → List ℕ → List Hyperlink
links_read zero n s = []
links_read (suc k) n [] = []
links_read (suc k) n (b ∷ s) =
    link_at_front n (b ∷ s) ∷ links_read k ((link_at_front n (b ∷ s)).place + (link_at_front n (b ∷ s)).consumed) (after_front (b ∷ s))

-- the links that records hold: all of them, since a record has eight bytes or more
abbrev pub links_held_in : List ℕ → List Hyperlink
links_held_in s = links_read (length s) 0 s
