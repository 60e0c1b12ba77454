-- `names::write_numbered` meets its contract: by the number of digits.
-- Assumes nothing.
use Rattle.std.proofs.Common.{arith}
use Rattle.iterator.proofs.NamesLaws.{front-one, front-two, front-three}
use Rattle.iterator.proofs.names.write_numbered.Goals as goal

pub returns-in-0-to-9 : goal.returns-in-0-to-9
returns-in-0-to-9 c = front-one _ _ c.requires.room _ (omega arith) c.digit.ensures

pub returns-in-10-to-99 : goal.returns-in-10-to-99
returns-in-10-to-99 c =
    front-two _ _ c.requires.room _ _ (omega arith) (omega arith) c.digit-in-10-to-99.ensures c.digit-in-10-to-99-2.ensures

pub returns-in_default : goal.returns-in_default
returns-in_default c =
    front-three _ _ c.requires.room _ _ _ (omega arith) c.digit-in_default.ensures c.digit-in_default-2.ensures c.digit-in_default-3.ensures
