-- What stands before the place: the bytes passed so far, as they stand in quotes.
use Rattle.std.proofs.Common.{◌≡◌, ◌*◌, ◌≤◌, length, take}
use Rattle.rstlinks.specs.Quote.{shown_bytes}
use Rattle.rstlinks.proofs.quote.shown.Given as goal

abbrev pub invariant-loop-b : goal.invariant-loop-b
invariant-loop-b l =
    (l.at ≤ 3 * l.b-index) × (length l.line ≡ length l.initial.line) × (take l.at l.line ≡ shown_bytes (take l.b-index l.part))
