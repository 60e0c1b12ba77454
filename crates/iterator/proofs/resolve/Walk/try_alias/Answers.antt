-- `resolve::Walk::try_alias` meets its contract: a hit and a miss are the laws `stored` and `passed`, of the row that was put.
-- Assumes nothing.
use Rattle.iterator.proofs.TriedLaws.{tried-inside, tried-small, tried-others, stored-small, passed, stored}
use Rattle.iterator.proofs.resolve.Walk.try_alias.Goals as goal

pub of-requires : goal.of-requires
of-requires c = tried-inside _ _ _ c.requires _ c.row-x.ensures

pub destination_of-requires-clause-others : goal.destination_of-requires-clause-others
destination_of-requires-clause-others c = tried-others _ _ _ c.requires _ c.row-x.ensures _ c.of.ensures

pub put-requires-clause-small : goal.put-requires-clause-small
put-requires-clause-small c = stored-small _ _ _ c.requires _ c.row-x.ensures _ c.in-Some.ensures.within

pub put-requires-in-None-clause-small : goal.put-requires-in-None-clause-small
put-requires-in-None-clause-small c = tried-small _ _ _ c.requires _ c.row-x.ensures

pub returns-in-Some : goal.returns-in-Some
returns-in-Some c =
    stored _ _ _ c.requires _ c.row-x.ensures _ c.in-Some.ensures.within _ c.of.ensures c.in-Some.ensures.found _ c.put.ensures

pub returns-in-None : goal.returns-in-None
returns-in-None c =
    passed _ _ _ c.requires _ c.row-x.ensures _ c.of.ensures c.in-None.ensures.found _ c.put-in-None.ensures
