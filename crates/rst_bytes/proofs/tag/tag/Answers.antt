-- `tag::tag` meets its contract: a text shorter than t does not begin with it, and the fold compares each byte of t with the one of s.
-- Assumes nothing.
use Rattle.std.proofs.Common.{◌∙◌, true, ◌&&◌, nat_eq, length, take, sym, rules, tests}
use Rattle.std.proofs.lemmas.Iterator.{YieldsList-from_slice, YieldsList-from_zip}
use Rattle.std.proofs.lemmas.Iterator.Consumers.{fold_from_yields_List}
use Rattle.rst_bytes.proofs.TagLaws.{starts-fold, starts-shorter}
use Rattle.rst_bytes.proofs.tag.tag.Goals as goal

pub returns-then-s-t : goal.returns-then-s-t
returns-then-s-t c = sym (starts-shorter c.args.t.now c.args.s.now c.if-s-t.true)

pub returns : goal.returns
returns c =
    let s = c.args.s.now in
    let t = c.args.t.now in
    fold_from_yields_List _ (λ same p. same && nat_eq p.0 p.1) true c.fold.result c.fold.ensures.ran (YieldsList-from_zip (YieldsList-from_slice (take (length t) s) (cc)) (YieldsList-from_slice t (cc))) (λ same x r q k. search (rules, tests))
    ∙ starts-fold t s true c.if-s-t.false
