-- `names::bucket` meets its contract: the fold goes by the bytes as the definition does.
-- Assumes nothing.
use Rattle.std.proofs.Common.{◌+◌, ◌*◌, ◌%◌, ◌∙◌, rules, tests}
use Rattle.std.proofs.lemmas.Iterator.{YieldsList-from_slice}
use Rattle.std.proofs.lemmas.Iterator.Consumers.{fold_from_yields_List}
use Rattle.iterator.proofs.NamesLaws.{bucket-fold}
use Rattle.iterator.proofs.names.bucket.Goals as goal

pub returns : goal.returns
returns c =
    let s = c.args.name.now in
    fold_from_yields_List _ (λ h b. (h * 9 % 256 + b) % 256) 0 _ c.fold.ensures.ran (YieldsList-from_slice s (cc)) (λ h x r q k. search (rules, tests))
    ∙ bucket-fold s 0
