-- `areas::is_zero` meets its contract: the fold asks each byte.
-- Assumes nothing.
use Rattle.std.proofs.Common.{sym, ◌∙◌, true, rules, tests}
use Rattle.std.proofs.lemmas.Iterator.{YieldsList-from_slice}
use Rattle.std.proofs.lemmas.Iterator.Consumers.{fold_from_yields_List}
use Rattle.iterator.proofs.AreaLaws.{and_zero, zero-fold, fold-zero}
use Rattle.iterator.proofs.areas.is_zero.Goals as goal

pub returns : goal.returns
returns c =
    let s = c.args.part.now in
    let folded = fold_from_yields_List _ and_zero true c.fold.result c.fold.ensures.ran (YieldsList-from_slice s (cc)) (λ is x r q k. search (rules, tests)) in
    (λ e. (zero-fold s true (sym folded ∙ e)).1, λ e. folded ∙ fold-zero s e)
