-- The first eight bytes of a record: "four 15-bit fields, most significant bit first: skipped .., consumed, text length, destination
-- length; four zero bits", as `iterator` reads them back.
-- Assumes nothing.
use Rattle.std.specs.Prelude.{ℕ, ◌<◌, List}
use Rattle.iterator.specs.ReadBack.{word_at, skipped_of, consumed_of, text_len_of, dest_len_of}
use Rattle.rstlinks.specs.declared.head.Head.{Head}

-- the four fields of a number
abbrev pub fields_of : ℕ → Head
fields_of v = record { skipped = skipped_of v; consumed = consumed_of v; text = text_len_of v; dest = dest_len_of v }

abbrev pub head_of : List ℕ → Head
head_of s = fields_of (word_at s)

-- a field of 15 bits each
abbrev pub Small : Head → Type 0
Small h = (h.skipped < 32768) × ((h.consumed < 32768) × ((h.text < 32768) × (h.dest < 32768)))
