-- What is kept at the text's end is true of it.
use Rattle.targetless.proofs.WalkLaws.{walked_end}
use Rattle.targetless.proofs.walk.Walk.end.Goals as goal

pub returns : goal.returns
returns c = walked_end c.args.indents c.requires
