-- `resolve::Names::destination_of` meets its contract. The loop's invariant: the name has in all rows what it has in the first `i`, since none of
-- the others has it. At the end these are rows in which it has nothing.
-- Assumes nothing.
use Rattle.std.proofs.Common.{◌-◌, ◌∙◌, sym, arith, rules}
use Rattle.iterator.proofs.LookupLaws.{row-inside, row-found, row_other, none-fewer}
use Rattle.iterator.proofs.resolve.Names.destination_of.Goals as goal

pub of-requires : goal.of-requires
of-requires c = row-inside _ _ c.loop-i.i _ _ c.row-row.ensures (omega arith) _ c.args.self.held (omega arith)

pub returns-then-same_name : goal.returns-then-same_name
returns-then-same_name c =
    row-found _ _ c.loop-i.i _ _ c.row-row.ensures (omega arith) _ c.args.self.held (omega arith) _ (search rules) c.loop-i.invariant

pub loop-i-preserved : goal.loop-i-preserved
loop-i-preserved c =
    c.loop-i.invariant ∙ row_other _ _ c.loop-i.i _ _ c.row-row.ensures (omega arith) _ (λ e. search rules)

pub returns-clause-found : goal.returns-clause-found
returns-clause-found c =
    let a = c.args in
    sym (c.loop-i.invariant ∙ none-fewer a.self.numbers.now a.self.bytes.now a.name.now c.loop-i.i (a.from - c.loop-i.i) a.from (omega arith) c.requires.others)
