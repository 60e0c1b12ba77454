-- An indent that is listed has a bit.
use Rattle.std.proofs.Common.{sym, ◌∙◌, arith}
use Rattle.targetless.proofs.IndentsLaws.{listed}
use Rattle.targetless.proofs.verdict.Verdict.judged.Goals as goal

pub bit-requires : goal.bit-requires
bit-requires c =
    let w = listed _ _ (sym c.lists.ensures ∙ c.if-lists.true) in
    omega (arith, w.0, c.rank.ensures)
