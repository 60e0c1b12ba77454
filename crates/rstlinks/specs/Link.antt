-- A link of a record: as `iterator` reads it back, and as it is printed.
-- Assumes nothing.
use Rattle.std.specs.Prelude.{◌≡◌, ℕ, ◌+◌, List, ◌∷◌, ◌++◌}
use Rattle.std.specs.Fmt.{decimal}
use Rattle.iterator.specs.Resolve.{Hyperlink}
use Rattle.iterator.specs.ReadBack.{link_at_front, after_front}
use Rattle.rstlinks.specs.Quote.{quoted}
use Rattle.rstlinks.specs.declared.links.Link.{Link}

abbrev pub hyperlink_of : Link → Hyperlink
hyperlink_of l = record { place = l.place; consumed = l.consumed; text = l.text.now; dest = l.dest.now }

-- place, bytes consumed, text and destination
abbrev pub line_of : Hyperlink → List ℕ
line_of h = decimal h.place ++ 0x20 ∷ (decimal h.consumed ++ 0x20 ∷ (quoted h.text ++ 0x20 ∷ quoted h.dest))

-- the link is that of the record at the front, behind a link that ends at `end`; what is left afterwards is what follows
pub record ReadsFront (end : ℕ) (records : List ℕ) (end' : ℕ) (records' : List ℕ) (l : Link) : Type 0 where
  pub front : hyperlink_of l ≡ link_at_front end records
  pub ends : end' ≡ l.place + l.consumed
  pub rest : records' ≡ after_front records
