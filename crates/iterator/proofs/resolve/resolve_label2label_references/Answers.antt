-- `resolve::resolve_label2label_references` meets its contract. The loop's invariant: the walk from here on gives what the whole walk
-- gives, and the table of the links is as it was. The measure is how much of the walk is left.
-- Assumes nothing.
use Rattle.iterator.proofs.WalkLaws.{begun, can-try, walked_on, ended}
use Rattle.iterator.proofs.resolve.resolve_label2label_references.Goals as goal

pub loop-walk-init : goal.loop-walk-init
loop-walk-init c = begun _ _ _ _ c.requires

pub try_alias-requires : goal.try_alias-requires
try_alias-requires c = can-try _ _ _ _ _ _ c.loop-walk.invariant c.loop-walk-test.true _ c.wrap.ensures

pub loop-walk-preserved : goal.loop-walk-preserved
loop-walk-preserved c =
    walked_on _ _ _ _ _ _ c.loop-walk.invariant c.loop-walk-test.true _ c.wrap.ensures _ _ c.try_alias.ensures

pub returns : goal.returns
returns c = ended _ _ _ _ _ _ c.loop-walk.invariant c.loop-walk-test.false
