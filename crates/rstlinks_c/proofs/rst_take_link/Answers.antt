-- `rst_take_link` meets its contract: it is that of `single_link`, whose lengths 32 bits hold.
-- Assumes nothing.
use Rattle.rstlinks_c.proofs.TakenLaws.{link-short, link-answered, refused-short, refused-answered}
use Rattle.rstlinks_c.proofs.rst_take_link.Goals as goal

pub link-requires : goal.link-requires
link-requires c = link-short _ _ _ _ _ _ _ _ c.single_link.ensures.outcome c.in-Ok.is

pub refused-requires : goal.refused-requires
refused-requires c = refused-short _ _ _ _ _ _ _ _ c.single_link.ensures.outcome c.in-Err.is

pub returns-in-Ok : goal.returns-in-Ok
returns-in-Ok c = link-answered _ _ _ _ _ _ _ _ c.single_link.ensures.outcome c.in-Ok.is _ c.link.ensures

pub returns-in-Err : goal.returns-in-Err
returns-in-Err c = refused-answered _ _ _ _ _ _ _ _ c.single_link.ensures.outcome c.in-Err.is _ c.refused.ensures
