-- `append_keeps` meets its contract: each answer is the call's own, and by these two equations the theorem is about them.
-- Assumes nothing.
use mathlib.Core.Path.{ap}
use Rattle.appending.proofs.Theorem.{verdict_in, calls-keep}
use Rattle.appending.proofs.append_keeps.Goals as goal

pub returns : goal.returns
returns c =
    let e = c.document-a.ensures in
    let f = c.document-b.ensures in
    record {
      first_call = e;
      second_call = f;
      keeps = calls-keep _ _ _ _ _ _ _ _ _ _ _ (ap verdict_in e) (ap verdict_in f);
    }
