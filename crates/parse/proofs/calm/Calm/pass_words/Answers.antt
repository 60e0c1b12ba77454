-- `calm::Calm::pass_words` meets its contract: from the start of a line on, or from i on, no `_`, no backtick and no LF stands up to the next one, and
-- a word ends where it goes on.
-- Assumes nothing.
use Rattle.std.proofs.Common.{◌+◌}
use Rattle.rst_bytes.proofs.Lists.{part-from}
use Rattle.parse.proofs.CalmLaws.{line-started, calm-lfs, line-first, words-pass}
use Rattle.parse.proofs.calm.Calm.pass_words.Goals as goal

pub returns : goal.returns
returns c =
    let s = c.args.s.now in
    let i = c.args.i in
    let n = c.in_ok-a.field-0 in
    let m = c.free_front in
    let b = line-started s _ i n c.requires (part-from s i) (c.in_ok-a.ensures) in
    let f = line-first s _ (i + n) m.result b.0 (part-from s (i + n)) m.ensures.front in
    words-pass s i (i + n + m.result) f.0 (calm-lfs s i (i + n) (i + n + m.result) c.requires b.1 f.1) (i + n) b.1 b.2 f.2 _ c.last_word.ensures
