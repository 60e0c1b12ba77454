-- The link is that of the record at the front.
use Rattle.std.proofs.Common.{refl}
use Rattle.rstlinks.proofs.LinkLaws.{link-front, rest-front}
use Rattle.rstlinks.proofs.links.LinksIterator.next.Goals as goal

pub returns-clause-steps : goal.returns-clause-steps
returns-clause-steps c =
    let s = c.args.self.now in
    let h = c.read_head-head.ensures.fields in
    let r = c.in_ok-rest.ensures.cases in
    let t = c.in_ok-text.ensures.cases in
    let d = c.in_ok-dest.ensures.cases in
    record {
      front = link-front s.end s.records.now _ _ _ _ _ _ h r.2 t.1 t.2 d.1 d.2;
      ends = refl;
      rest = rest-front s.end s.records.now _ _ _ _ _ _ h r.2 t.1 t.2 d.1 d.2;
    }
