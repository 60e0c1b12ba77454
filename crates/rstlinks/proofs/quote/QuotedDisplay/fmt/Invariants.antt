-- What stands behind the first quotation mark: the parts passed so far, as they stand in quotes.
use Rattle.std.proofs.Common.{◌≡◌, ◌++◌, List, ℕ}
use Rattle.std.specs.Fmt.{HasWritten, IsPlainFormatter}
use Rattle.std.specs.Slice.Iter.{chunks_rest, chunks_size}
use Rattle.rstlinks.specs.Quote.{shown_bytes}
use Rattle.rstlinks.proofs.quote.QuotedDisplay.fmt.Given as goal

abbrev pub invariant-loop-part : goal.invariant-loop-part
invariant-loop-part g l =
    (chunks_size l.part-iterator ≡ 256)
    × (IsPlainFormatter l.initial.f → (done : List ℕ) × HasWritten g.W.Write.write_str_gives l.initial.f done l.f
    × (done ++ shown_bytes (chunks_rest l.part-iterator) ≡ shown_bytes l.fn.self.0.now))
