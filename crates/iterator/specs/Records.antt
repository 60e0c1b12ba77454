-- Records: "Each: four 15-bit fields, most significant bit first: skipped (bytes since the previous record's consumed part), consumed,
-- text length, destination length; four zero bits; text; destination. .. No header."
-- Assumes nothing.
use Rattle.std.specs.Prelude.{ℕ, ◌+◌, ◌-◌, ◌*◌, ◌/◌, ◌%◌, List, [], ◌∷◌, ◌++◌, length}
use Rattle.iterator.specs.Resolve.{Hyperlink}

-- "four 15-bit fields, most significant bit first .. four zero bits", as one number of 64 bits: the factors are 2^49, 2^34, 2^19 and 2^4
abbrev pub word_of : ℕ → ℕ → ℕ → ℕ → ℕ
word_of skipped consumed text dest = skipped * 562949953421312 + consumed * 17179869184 + text * 524288 + dest * 16

-- the eight bytes of a number, the highest first: it is divided by 2^56, 2^48, .., 2^8
abbrev pub bytes8 : ℕ → List ℕ
bytes8 v =
    v / 72057594037927936 ∷ v / 281474976710656 % 256 ∷ v / 1099511627776 % 256 ∷ v / 4294967296 % 256 ∷ v / 16777216 % 256 ∷ v / 65536 % 256 ∷ v / 256 % 256 ∷ v % 256 ∷ []

-- the record of a link; the consumed part of the one before ended at place n, which is at most the link's (OrderLaws collected-in-order)
abbrev pub record_of : ℕ → Hyperlink → List ℕ
record_of n x = bytes8 (word_of (x.place - n) x.consumed (length x.text) (length x.dest)) ++ (x.text ++ x.dest)

unfoldable pub records_from : ℕ → List Hyperlink → List ℕ
records_from n [] = []
records_from n (x ∷ rest) = record_of n x ++ records_from (x.place + x.consumed) rest

abbrev pub records_of : List Hyperlink → List ℕ
records_of links = records_from 0 links
