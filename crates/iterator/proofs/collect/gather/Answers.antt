-- `collect::gather` meets its contract: each link that is found is added, and the document is read to its end (ReadingLaws).
-- Assumes nothing.
use Rattle.std.proofs.Common.{◌≡◌, arith, ap, rules}
use Rattle.parse.specs.Inner.{nothing_known}
use Rattle.std.proofs.lemmas.Result.{err_from_is_err_and}
use Rattle.iterator.specs.declared.collect.MarkupLinkCollection.{MarkupLinkCollection}
use Rattle.iterator.proofs.ReadingLaws.{nothing_yet, starts, reading-starts, known-starts, reading-ends, reading-missed, inside, scannable, next_known, reading-next, reading-refused}
use Rattle.iterator.proofs.collect.gather.Goals as goal

pub loop-c-init : goal.loop-c-init
loop-c-init c =
    let e : c.default-c.result ≡ nothing_yet = starts _ c.default-c.ensures in
    let k : c.default-known.result ≡ nothing_known = search rules in
    record {
      reading = reading-starts _ _ _ _ _ c.requires.0 c.requires.1.0 e;
      known = known-starts _ _ _ _ (ap (λ (z : MarkupLinkCollection). z.at) e) k c.requires.1.1;
      marked = c.requires.1.1.0;
    }

pub add-requires : goal.add-requires
add-requires c =
    let v = c.loop-c.invariant.reading in
    scannable _ _ _ _ _ v _ _ c.next_link.ensures.scan _ c.in-Ok.is (omega (arith, c.next_link.auto.scratch)) c.next_link.ensures.ends

pub returns-in_err-add : goal.returns-in_err-add
returns-in_err-add c =
    let v = c.loop-c.invariant.reading in
    let p = err_from_is_err_and c.from_residual.result c.from_residual.ensures.1 in
    rw (p.1, p.2) (reading-refused _ _ _ _ _ v _ _ c.next_link.ensures.scan _ c.in-Ok.is _ _ _ c.in_err-add.ensures)

pub returns-in_default : goal.returns-in_default
returns-in_default c =
    let v = c.loop-c.invariant.reading in
    reading-missed _ _ _ _ _ v _ _ c.next_link.ensures.scan _ c.in_default.is

pub loop-c-smaller : goal.loop-c-smaller
loop-c-smaller c =
    let v = c.loop-c.invariant.reading in
    let i = inside _ _ _ _ _ v _ _ c.next_link.ensures.scan _ c.in-Ok.is in
    let u = reading-next _ _ _ _ _ v _ _ c.next_link.ensures.scan _ c.in-Ok.is _ _ _ (omega (arith, v.roomy, c.add.auto.numbers), omega (arith, v.roomy, c.add.auto.bytes, c.next_link.auto.scratch)) c.in_ok-add.ensures in
    omega (arith, i.0, i.1, u.1)

pub loop-c-preserved : goal.loop-c-preserved
loop-c-preserved c =
    let v = c.loop-c.invariant.reading in
    let u = reading-next _ _ _ _ _ v _ _ c.next_link.ensures.scan _ c.in-Ok.is _ _ _ (omega (arith, v.roomy, c.add.auto.numbers), omega (arith, v.roomy, c.add.auto.bytes, c.next_link.auto.scratch)) c.in_ok-add.ensures in
    record {
      reading = u.0;
      known = next_known _ _ _ _ _ v _ _ c.next_link.ensures.scan _ c.in-Ok.is c.next_link.new.known _ _ c.loop-c.invariant.marked c.next_link.ensures.known _ u.1;
      marked = omega (arith, c.loop-c.invariant.marked, c.next_link.auto.marks);
    }

pub returns : goal.returns
returns c = reading-ends _ _ _ _ _ c.loop-c.invariant.reading (omega arith)
