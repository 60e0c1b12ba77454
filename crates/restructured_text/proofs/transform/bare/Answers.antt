-- `transform::bare` meets its contract: of the bytes before a backslash, a space or a tab those before CR or LF.
-- Assumes nothing.
use Rattle.restructured_text.proofs.TransformLaws.{bare-by}
use Rattle.restructured_text.proofs.transform.bare.Goals as goal

pub returns : goal.returns
returns c = bare-by c.args.d.now c.free_front-n.result c.free_front.result c.free_front-n.ensures.front c.free_front.ensures.front
