-- One byte more stands in quotes; what stands there at the end is ASCII.
use Rattle.std.proofs.Common.{ℕ, ◌<◌, rules, arith, get_or}
use Rattle.rstlinks.specs.Quote.{shown_bytes}
use Rattle.rstlinks.proofs.QuoteLaws.{shown-utf8, shown-more}
use Rattle.rstlinks.proofs.quote.shown.Goals as goal

pub loop-b-init : goal.loop-b-init
unfolding shown_bytes
loop-b-init c = search rules

pub loop-b-preserved : goal.loop-b-preserved
loop-b-preserved c =
    let more = shown-more c.args.part.now c.loop-b.b-index (omega arith) in (omega arith, search rules, cc)

pub unwrap-requires : goal.unwrap-requires
unwrap-requires c =
    let small : (i : ℕ) → get_or c.args.part.now i 0 < 256 = λ (i : ℕ). let fits = c.type_inv.part i in omega arith in
    let text = shown-utf8 c.args.part.now _ c.loop-b.b-index small (omega arith) c.loop-b.invariant.2 in
    search rules
