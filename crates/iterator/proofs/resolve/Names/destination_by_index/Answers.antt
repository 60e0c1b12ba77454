-- `resolve::Names::destination_by_index` meets its contract. The loop's invariant, `Seeking`: the name has in all rows what it has in those up to
-- the next, since none of the others has it; the next is of the name's bucket. The measure is the next row, counted from 1: the row before it
-- in its bucket is an earlier one.
-- Assumes nothing.
use Rattle.std.proofs.Common.{ap, arith, rules}
use Rattle.iterator.proofs.LookupLaws.{row-inside, row-found}
use Rattle.iterator.proofs.IndexLaws.{counted, seeking-start, seeking-more, seeking-end}
use Rattle.iterator.proofs.resolve.Names.destination_by_index.Goals as goal

pub loop-next-init : goal.loop-next-init
loop-next-init c =
    seeking-start _ _ _ _ c.requires _ c.bucket.ensures (omega arith) _ c.checked_sub-next.ensures

pub of-requires : goal.of-requires
of-requires c =
    let i = ap counted c.in-Some.is in
    row-inside _ _ _ _ _ c.row-row.ensures i _ c.args.self.held c.loop-next.invariant.inside

pub returns-then-same_name : goal.returns-then-same_name
returns-then-same_name c =
    let i = ap counted c.in-Some.is in
    row-found _ _ _ _ _ c.row-row.ensures i _ c.args.self.held c.loop-next.invariant.inside _ (search rules) c.loop-next.invariant.rest

pub loop-next-preserved : goal.loop-next-preserved
loop-next-preserved c =
    let i = ap counted c.in-Some.is in
    seeking-more _ _ _ _ c.requires _ _ i c.loop-next.invariant _ c.row-row.ensures (λ e. search rules) _ c.checked_sub-next-in-Some.ensures

pub returns-clause-found : goal.returns-clause-found
returns-clause-found c = seeking-end _ _ _ _ _ c.loop-next.invariant (ap counted c.in_default.is)
